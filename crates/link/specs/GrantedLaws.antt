-- An accept that opens: the session has the stamp and the key of a request of its node, which the server accepted.
use Rattle.std.specs.Prelude.{ℕ, ◌<◌, true, ◌≡◌, refl, length, nat_lt, slice_index, Ok}
use Rattle.std.proofs.Common.{sym, ap, subst, ◌∙◌, ⊎_elim, arith, ltb-true}
use mathlib.Core.List.{List, Memᴰ}
use Rattle.octets.proofs.ChoiceLaws.{both_left}
use Rattle.held.specs.Held.{held_bytes}
use Rattle.misp.specs.Request.{RequestValues}
use Rattle.misauth.specs.AccessRequest.{AccessRequestValues}
use Rattle.misauth.specs.Accept.{AcceptValues, read_accept, accept_told}
use Rattle.icv.specs.Icv.{session_key, masked}
use Rattle.book.specs.Search.{password_of, secret_of}
use Rattle.places.specs.declared.place.Place.{Place}
use Rattle.places.specs.declared.state.Router.{Router}
use Rattle.turn.specs.Outcome.{place_of}
use Rattle.settling.specs.Reply.{opened_by}
use Rattle.node.specs.declared.Node.{Node}
use Rattle.server.specs.Login.{accepts_under, own_accept}
use Rattle.message.proofs.ToldLaws.{got_same}
use Rattle.link.specs.World.{Packet, from_server, World, Event, node_of}
use Rattle.link.specs.Premises.{SentRequest, Differ, Premises}
use Rattle.link.specs.Can.{Granted, Lawful}
use Rattle.link.specs.Inv.{Log, Ask, Own, Source, BehindAccept, Under, AttemptFine, Inv}
use Rattle.link.specs.GoodLaws.{clash, own_named, accept_back, own_of}

-- an account that the server accepts has a password
accepts_known : (password : List ℕ) (a : AccessRequestValues) → accepts_under password a ≡ true → 0 < length password
unfolding accepts_under
accepts_known password a e = ltb-true 0 (length password) (both_left (nat_lt 0 (length password)) _ e)

-- a session that an accept opened is live
pub opened_live : (q : Router) (p : Place) (now : ℕ) (v : AcceptValues) → (opened_by q p now v).live ≡ true
unfolding opened_by
opened_live q p now v = refl

-- it has the attempt's stamp
pub opened_stamp : (q : Router) (p : Place) (now : ℕ) (v : AcceptValues) → (opened_by q p now v).stamp ≡ p.attempt.stamp
unfolding opened_by
opened_stamp q p now v = refl

-- it runs from the clock of the accept
pub opened_since : (q : Router) (p : Place) (now : ℕ) (v : AcceptValues) → (opened_by q p now v).since ≡ now
unfolding opened_by
opened_since q p now v = refl

-- its key is the accept's with the mask taken off
opened_key : (q : Router) (p : Place) (now : ℕ) (v : AcceptValues)
    → (opened_by q p now v).key ≡ masked (held_bytes q.settings.secret) p.attempt.check v.key
unfolding opened_by
opened_key q p now v = refl

module _ {count : ℕ} (w : World) where
  -- why a session is opened: a request of its node, which the server accepted, with a stamp above those of all sessions that were opened
  -- for its address
  pub record Reason (L : Log count) (M : List Packet) (a : List ℕ) (s : ℕ) (k : List ℕ) : Type 0 where
    pub source : Source count w M a s k
    pub access : List ℕ
    pub accepted : L.accepted source.node source.asking.m source.asking.v access
    pub under : Under L a s

-- a request that was sent, as the premises name it
abbrev request_of : {w : World} {M : List Packet} {i : ℕ} {m : List ℕ} {v : RequestValues} → Ask w M i m v → SentRequest M
request_of {w = w} {i = i} {m} {v} a =
    record { node = i; router = w.router.settings.address; m = m; fields = v; was = a.was; reads = a.reads }

-- the premises of any run from the same start: of its fields only those are used that speak of the start
module _ (law : Lawful) {count : ℕ} {mill visitors : List ℕ} {w : World} {all : List (Event count)}
    (premises : Premises count mill visitors w all) where
  -- an accept opened the session of place j
  module _ {L : Log count} {N : ℕ → Node} {q r' : Router} {M ps : List Packet} (h : Inv mill visitors w L N q M) {j now : ℕ}
      {v : AcceptValues} (y : List ℕ) (reads : accept_told y (read_accept y) ≡ Ok v) (granted : Granted q r' now j v ps) where
    -- its place
    abbrev p : Place
    p = place_of j q

    -- what the session that it opens rests on
    abbrev ItsReason : Type 0
    ItsReason = Reason w L M p.address p.attempt.stamp (opened_by q p now v).key

    module _ (behind_accept : BehindAccept mill visitors w L M y) where
      -- the fields of the access request that it answers
      abbrev a : AccessRequestValues
      a = behind_accept.a

      -- the password that the books give its account
      abbrev password : List ℕ
      password = password_of mill visitors a.account

      -- the secret that the mill's book gives the router
      abbrev secret : List ℕ
      secret = secret_of mill w.router.settings.ipv4

      -- the request is its node's own
      own : Own w behind_accept.node.number behind_accept.m behind_accept.v
      own = own_of h behind_accept.ask

      -- the accept's fields are those that the server wrote
      fields : v ≡ own_accept secret password a
      fields = got_same (rw behind_accept.is at reads) (accept_back law secret password own behind_accept.carries)

      -- the account is the node's
      account : a.account ≡ held_bytes (node_of w behind_accept.node).settings.account
      account = behind_accept.carries.account ∙ own_named own

      -- and so is the password
      its_password : password ≡ held_bytes (node_of w behind_accept.node).settings.password
      its_password =
          rw account (premises.passwords_matching behind_accept.node (rw account at (accepts_known password a behind_accept.accepts)))

      -- the key of the session is the one that the node's password and seed give
      key : session_key (held_bytes (node_of w behind_accept.node).settings.password) behind_accept.v.seed ≡ (opened_by q p now v).key
      key =
          let c : p.attempt.check ≡ a.check = sym granted.check ∙ ap (λ (u : AcceptValues). u.check) fields in
          let its_secret = held_bytes w.router.settings.secret in
          let k : v.key ≡ masked its_secret a.check (session_key password a.seed) =
          ap (λ (u : AcceptValues). u.key) fields ∙ rw premises.secret_matching in
          let same = law.unmasked its_secret a.check password a.seed in
          sym (opened_key q p now v ∙ rw (c, k, h.router_settings, same, its_password, behind_accept.carries.seed))

      -- why the session is opened: by the check value, the attempt's request is the one that the server accepted
      reason_of_law : Differ M → ItsReason
      reason_of_law differ =
          record {
            source = record {
              node = behind_accept.node;
              its = subst (λ (n : ℕ). (w.nodes n).settings.address ≡ p.address) (sym same.0) source.its;
              asking = record {
                m = behind_accept.m;
                v = behind_accept.v;
                ask = behind_accept.ask;
                stamped = ap (λ (u : RequestValues). u.stamp) v_same ∙ source.asking.stamped;
                keyed = key;
              };
            };
            access = behind_accept.access;
            accepted = behind_accept.accepted;
            under = attempt_fine.under;
          }
        where
          attempt_fine : AttemptFine w L M p
          attempt_fine = (h.places j granted.taken).waits granted.waiting

          source : Source count w M p.address p.attempt.stamp attempt_fine.tried.key
          source = attempt_fine.tried.source

          check_same : behind_accept.v.check ≡ source.asking.v.check
          check_same =
              sym behind_accept.carries.check ∙ sym (ap (λ (u : AcceptValues). u.check) fields) ∙ granted.check ∙ sym attempt_fine.tried.checked

          same : (behind_accept.node.number ≡ source.node.number) × (behind_accept.m ≡ source.asking.m)
          same = differ (request_of behind_accept.ask) (request_of source.asking.ask) check_same

          v_same : behind_accept.v ≡ source.asking.v
          v_same = got_same (rw same.1 at behind_accept.ask.reads) source.asking.ask.reads

    -- why the accept opens its session
    pub granted_reason : Differ M → Memᴰ (from_server y) M → ItsReason
    granted_reason differ came =
        ⊎_elim (λ (e : slice_index y 0 ≡ 3). clash y 2 3 (law.accept_code y v reads) e (omega arith))
        (λ (a : BehindAccept mill visitors w L M y). reason_of_law a differ) (h.msgs _ came)
