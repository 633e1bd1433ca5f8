-- The steps do what they must with the four messages of an acceptable request.
use Rattle.std.specs.Prelude.{ℕ, ◌≤◌, ◌<◌, ◌^◌, Bool, false, ◌≡◌, take, nat_le, slice_index, ◌==◌, Option, Ok, Some, None}
use Rattle.std.proofs.Math.Bool.{true}
use Rattle.std.proofs.Math.Path.{refl, subst}
use Rattle.std.proofs.Common.{sym, ap, subst₂, ◌∙◌, ⊎_elim, arith, lit≤}
use mathlib.Core.List.{List, [], ◌∷◌, ◌++◌, append-nil}
use Rattle.std.proofs.Math.ListN.{length}
use borrow.Author.Tests.{le-ltb, lt-ltb, lt-leb, eq-eqb, ne_eqb}
use Rattle.refusal.specs.Step.{done, sends, silent}
use Rattle.octets.specs.Choice.{both}
use Rattle.octets.specs.Numbers.{number_of}
use Rattle.octets.proofs.NumberLaws.{number_back}
use Rattle.octets.proofs.ChoiceLaws.{not_both, pick_all}
use Rattle.octets.proofs.SameLaws.{true_same}
use Rattle.refusal.specs.declared.To.TheVariants.{Server, Address}
use Rattle.position.specs.Position.{in_range}
use Rattle.object.specs.declared.family.Family.TheVariants.{Misp, Misauth}
use Rattle.object.specs.Family.{limit_of}
use Rattle.terms.proofs.TypeLaws.{takes_small}
use Rattle.held.specs.Held.{held_bytes}
use Rattle.message.proofs.CarriedLaws.{Form, Carries, carried_value}
use Rattle.message.proofs.ToldLaws.{got_same}
use Rattle.message.specs.Reading.{length_of, headed}
use Rattle.message.specs.Writing.{is_name}
use Rattle.misp.specs.Request.{RequestValues}
use Rattle.misp.specs.Success.{SuccessValues, read_success, success_told}
use Rattle.misauth.specs.AccessRequest.{AccessRequestValues, access_request_bytes, read_access_request, access_request_told}
use Rattle.misauth.proofs.AccessRequestLaws.{access_request_runs, access_request_form, access_request_in}
use Rattle.misauth.proofs.RoundTrip.{access_carries, access_told}
use Rattle.misauth.proofs.AlikeLaws.{access_request_alike}
use Rattle.misauth.specs.Accept.{AcceptValues, accept_bytes, read_accept, accept_told}
use Rattle.misauth.proofs.AcceptLaws.{accept_runs, accept_form, accept_fits}
use Rattle.authenticator.specs.Authenticator.{sealed, is_authentic}
use Rattle.icv.specs.Icv.{check_value}
use Rattle.book.specs.Whole.{whole_book}
use Rattle.book.specs.Search.{password_of, secret_of}
use Rattle.checked.specs.Checked.{authentication_data, check_for, success_by}
use Rattle.checked.proofs.RequestLaws.{request_read}
use Rattle.places.specs.declared.place.Place.{Place}
use Rattle.places.specs.declared.place.Session.{Session}
use Rattle.places.specs.declared.state.Settings.{Settings}
use Rattle.places.specs.declared.state.Router.{Router}
use Rattle.places.specs.State.{lapsed_at as lapsed, find_of, lowest_free}
use Rattle.places.proofs.LapseLaws.{lapsed_settings}
use Rattle.turn.specs.Outcome.{Step as RouterStep, place_of, with_place}
use Rattle.turn.specs.Writes.{asked_values, asked_of, success_for}
use Rattle.turn.proofs.WritesLaws.{asked_fits}
use Rattle.entering.specs.Request.{asking, repeats_attempt, repeats_session, attempted, placed, known, unknown, by_place, requested}
use Rattle.settling.specs.Reply.{settled, opened_by, awaits, answered, replied}
use Rattle.node.specs.declared.Node.{Node}
use Rattle.node.specs.State.{lapsed_at, with_waiting, with_session}
use Rattle.hearing.specs.Hear.{request_for}
use Rattle.node.specs.Answers.{awaits_answer, opened_node, succeeded}
use Rattle.server.specs.Login.{sends as server_step, accepts_under, own_accept, accept_of, judged_login, logged_in}
use Rattle.link.specs.World.{Seed, to_node, to_server, from_server, wrote_router}
use Rattle.link.specs.Premises.{RouterMade}
use Rattle.link.specs.OwnLaws.{own_account, own_security, own_sixteen}
use Rattle.link.specs.SealedLaws.{sealed_alike, sealed_ends, sealed_authentic, sealed_code, sealed_second}
use Rattle.link.specs.ReadLaws.{own_check, request_reads, success_back, authentication_data_length, asked_reads, accept_reads}
use Rattle.theorems.specs.Alike.{written_is}
use Rattle.theorems.specs.RouterPlaceLaws.{Found, found}
use Rattle.theorems.specs.RouterArrivedLaws.{arrived, repeats_opened}
use Rattle.theorems.specs.RouterDone.{forwarded}
use Rattle.link.specs.Acceptable.{HasRoom}
use Rattle.link.specs.Can.{Granted, own_fields, OfRequest}
use Rattle.link.specs.Must.{Forwards, Unrefused, Accepts, MayLogIn, NowOpen, Expects, Must}

-- A SUCCESS opens the node that waits for it
success_opens : (n : Node) (now : ℕ) (z : List ℕ) (v : SuccessValues) → n.clock ≤ now → success_told z (read_success z) ≡ Ok v → v.s ≡ false
    → n.waiting.live ≡ true → v.stamp ≡ n.waiting.stamp → v.check ≡ check_for n.waiting.key n.settings.router n.settings.address z
    → succeeded n now z ≡ silent done (opened_node (lapsed_at now n) v.lifetime) []
unfolding succeeded awaits_answer lapsed_at
success_opens n now z v clock reads s live stamp check =
    rw (
      le-ltb now n.clock clock,
      reads,
      s,
      live,
      eq-eqb v.stamp n.waiting.stamp stamp,
      true_same v.check (check_for n.waiting.key n.settings.router n.settings.address z) check,
    )

-- it is open then, with the stamp and the key that it waited with
is_open_law : (n : Node) (now : ℕ) (v : SuccessValues) → NowOpen n.waiting.stamp v.lifetime n.waiting.key (opened_node (lapsed_at now n) v.lifetime)
unfolding opened_node with_session with_waiting lapsed_at
is_open_law n now v = record { live = refl; stamped = refl; keyed = refl; lasts = refl }

-- so the success of the session that a node expects opens it
must_success : (r : Router) → RouterMade r → (n : Node) (now : ℕ) (session : Session) → session.stamp < 2 ^ 64
    → Expects n now r.settings.address session
    → NowOpen session.stamp r.settings.lifetime session.key
    (succeeded n now (success_for r.settings n.settings.address session)).outcome.state
must_success r made n now session small e =
    let z = success_for r.settings n.settings.address session in
    let v = success_by session.stamp r.settings.lifetime r.settings.network (check_for session.key r.settings.address n.settings.address z) in
    let opens = success_opens n now z v e.clock (success_back r made n.settings.address session small) refl e.waits e.stamped
    (rw (e.keyed, ← e.its_router) refl) in
    rw opens
    (subst₂ (λ (s : ℕ) (k : List ℕ). NowOpen s r.settings.lifetime k (opened_node (lapsed_at now n) v.lifetime)) (sym e.stamped) (sym e.keyed)
    (is_open_law n now v))

-- A REQUEST at a router that cannot refuse it: it is done, and goes to the server
abbrev GoesOn : RouterStep → Type 0
GoesOn s = (s.outcome.answer ≡ done) × (s.outcome.to ≡ Server)

module _ (r : Router) (now : ℕ) (from m out : List ℕ) (v : RequestValues) (t : Unrefused r now from m out v) where
  -- the router with what has lapsed gone
  abbrev q : Router
  q = lapsed now r

  -- the access request can be written
  asking_goes : (r' : Router) (j : ℕ) → GoesOn (asking q r' j from m v out)
  unfolding asking
  asking_goes r' j =
      let said : in_range q.settings.position ≡ true = rw (lapsed_settings now r) t.arrives.position in
      rw said (refl, refl)

  -- its node has the place i
  module _ (i : ℕ) (at_i : Found q from i) (room : HasRoom (Some i) q v) where
    -- that place
    abbrev p : Place
    p = place_of i q

    -- where it does not repeat the attempt that waits there, its stamp is above the last one
    above : repeats_attempt v p ≡ false → p.last < v.stamp
    above other = ⊎_elim (λ last. last) (λ same. not_both same other) room

    -- it goes on: one whose stamp is above the last repeats no open session's request
    known_goes : GoesOn (known q i from m v out)
    unfolding known
    known_goes =
        pick_all GoesOn (repeats_attempt v p) _ _ (λ _. asking_goes q i) λ other.
        pick_all GoesOn (repeats_session v p) _ _
        (λ e.
        let o = repeats_opened q from v i at_i e in
        absurd (t.unopened i at_i (above other) o.live (sym o.stamp))) λ _.
        pick_all GoesOn (nat_le v.stamp p.last) _ _ (λ e. not_both e (lt-leb v.stamp p.last (above other))) λ _.
        asking_goes (with_place i (attempted v p) q) i

  -- where its node has no place, and one is free, it goes on too
  unknown_goes : lowest_free q.places < 64 → GoesOn (unknown q from m v out)
  unfolding unknown
  unknown_goes free =
      let i = lowest_free q.places in
      rw (lt-ltb i 64 free) (asking_goes (with_place i (placed from v) q) i)

  -- so it goes on in every case
  goes_on : GoesOn (requested r now from m out)
  goes_on = rw (arrived r now from m out v t.arrives) (go (find_of q.places from) refl)
    where
      go : (at : Option ℕ) → find_of q.places from ≡ at → GoesOn (by_place at q from m v out)
      go (Some i) e = known_goes i (found q from i e) (rw e at t.room)
      go None e = unknown_goes (rw e at t.room)

  -- so it waits in its place, and its access request went out
  must_request : Forwards r now from m v (requested r now from m out)
  must_request =
      let f = forwarded r t.size now from m out v t.arrives.reads goes_on.0 goes_on.1 in
      rw f.wrote
      (record {
        place = f.place;
        waits = f.waits;
        clock = f.clock;
        sends = ap (λ (x : List ℕ). to_server x ∷ []) (written_is (asked_of r.settings f.place from m v) out);
      })

-- A REPLY that accepts the attempt of the place that the access request named (k)
module _ (r : Router) (now : ℕ) (out password : List ℕ) (a : AccessRequestValues) (sixteen : length a.check ≡ 16) (below : a.identifier < 64)
    (output : limit_of Misp ≤ length out) (clock : r.clock ≤ now)
    (taken : (place_of a.identifier (lapsed now r)).taken ≡ true) (waiting : (place_of a.identifier (lapsed now r)).attempt.waiting ≡ true)
    (check : a.check ≡ (place_of a.identifier (lapsed now r)).attempt.check) where
  -- the router with what has lapsed gone
  abbrev b : Router
  b = lapsed now r

  -- the place that the accept names
  abbrev k : ℕ
  k = a.identifier

  -- the router's secret
  abbrev secret : List ℕ
  secret = held_bytes r.settings.secret

  -- the accept's fields
  abbrev fields : AcceptValues
  fields = own_accept secret password a

  -- the accept
  abbrev y : List ℕ
  y = accept_of secret password a

  -- the accept as it was written
  form : Form Misauth 2 k (accept_runs fields) (accept_bytes fields)
  form = accept_form fields (accept_fits k fields.key fields.check)

  -- and sealed
  y_is : y ≡ sealed secret (accept_bytes fields)
  unfolding accept_of
  y_is = refl

  -- the place waits for a reply
  awaited : awaits b k ≡ true
  unfolding awaits
  awaited = rw (lt-ltb k 64 below, taken, waiting)

  -- its Authenticator is right under the router's secret
  authentic : is_authentic (held_bytes b.settings.secret) (take (length (sealed secret (accept_bytes fields))) (sealed secret (accept_bytes fields))) ≡ true
  authentic =
      subst (λ (t : List ℕ). is_authentic t (take (length (sealed secret (accept_bytes fields))) (sealed secret (accept_bytes fields))) ≡ true)
      (ap (λ s. held_bytes s.secret) (sym (lapsed_settings now r))) (sealed_authentic secret form)

  -- it is read as the fields that the server wrote
  reads : accept_told (sealed secret (accept_bytes fields)) (read_accept (sealed secret (accept_bytes fields))) ≡ Ok fields
  reads = rw y_is at (accept_reads secret password a sixteen)

  -- so it passes every test
  opened_step : replied r now y out
      ≡ sends done (with_place k (settled (place_of k b) (opened_by b (place_of k b) now fields)) b) (Address (place_of k b).address)
      (success_for b.settings (place_of k b).address (opened_by b (place_of k b) now fields)) out
  unfolding replied answered accept_of
  opened_step =
      rw (
        le-ltb (length out) (limit_of Misp) output,
        le-ltb now r.clock clock,
        sealed_ends secret form,
        sealed_code secret form,
        sealed_second secret form,
        awaited,
        authentic,
        reads,
        true_same a.check (place_of k b).attempt.check check,
      )

  -- the accept opens the attempt, and the success goes out
  must_reply : Granted b (replied r now y out).outcome.state now k fields (wrote_router (replied r now y out))
  must_reply =
      rw opened_step
      (record {
        taken = taken;
        waiting = waiting;
        check = check;
        is = refl;
        sends = ap (λ (x : List ℕ). to_node (place_of k b).address x ∷ []) (written_is (success_for b.settings (place_of k b).address (opened_by b (place_of k b) now fields)) out);
      })

-- the check value of a node's request is right
own_right : (n : Node) (seed : Seed) (stamp : ℕ) → stamp < 2 ^ 64 → is_name (held_bytes n.settings.account) ≡ true →
    (own_fields n seed.bytes stamp).check ≡ check_for (held_bytes n.settings.password) n.settings.address n.settings.router (request_for n seed.bytes stamp)
unfolding request_for
own_right n seed stamp small named =
    let s = n.settings in
    let a = request_reads n seed stamp small named in
    let b = rw append-nil at (request_read stamp s.kind (held_bytes s.account) seed.bytes s.network named seed.sixteen (held_bytes s.password) s.address s.router [] small) in
    ap (λ (v : RequestValues). v.check) (got_same a b)

-- AN ACCESS REQUEST: what the server reads of it
module _ (s : Settings) (j : ℕ) (from m : List ℕ) (v : RequestValues) where
  -- the fields that the router writes into it
  abbrev asked : AccessRequestValues
  asked = asked_values s j from m v

  -- its bytes before it is sealed
  abbrev bytes : List ℕ
  bytes = access_request_bytes asked

  -- the access request as it was written
  asked_form : Form Misauth 1 j (access_request_runs asked) bytes
  asked_form = access_request_form asked (asked_fits s j from m v)

  -- the server reads the access request as the request's own fields
  record ReadBack : Type 0 where
    a : AccessRequestValues
    told : access_request_told (asked_of s j from m v) (read_access_request (asked_of s j from m v)) ≡ Ok a
    carries : OfRequest j v a
    authentication : a.authentication ≡ authentication_data from s.address m
    security : a.security ≡ number_of v.security

  module _ (named : is_name v.account ≡ true) (sixteen : length v.check ≡ 16) (seeded : length v.seed ≡ 16)
      (small : number_of v.security < 2 ^ 16) where
    -- its objects stand in it
    carried : Carries Misauth 1 j (access_request_runs asked) (bytes ++ [])
    carried = access_carries asked named (authentication_data_length from s.address m) sixteen seeded tt tt refl (asked_fits s j from m v) []

    -- it is read so
    asked_told : ReadBack
    unfolding asked_of access_request_in
    asked_told =
        let a : AccessRequestValues = access_request_in (length_of (bytes ++ [])) (bytes ++ []) in
        let told : access_request_told (asked_of s j from m v) (read_access_request (asked_of s j from m v)) ≡ Ok a =
        access_request_alike (sealed_alike (held_bytes s.secret) bytes)
        ∙ subst (λ (l : List ℕ). access_request_told l (read_access_request l) ≡ Ok a) (append-nil bytes)
        (access_told asked named (authentication_data_length from s.address m) sixteen seeded tt tt refl (asked_fits s j from m v) []) in
        record {
          a = a;
          told = told;
          carries = asked_reads s j from m v named sixteen seeded a told;
          authentication = carried_value carried 200;
          security = rw (carried_value carried 205) (number_back 2 2 (number_of v.security) small (lit≤ tt));
        }

-- A LOGIN that the server accepts. Where a name has a password both books are whole
books_whole : (mill visitors name : List ℕ) → 0 < length (password_of mill visitors name) → both (whole_book mill) (whole_book visitors) ≡ true
unfolding password_of
books_whole mill visitors name h = go (both (whole_book mill) (whole_book visitors)) refl
  where
    go : (t : Bool) → both (whole_book mill) (whole_book visitors) ≡ t → both (whole_book mill) (whole_book visitors) ≡ true
    go true e = e
    go false e = let z : 0 < 0 = rw e at h in absurd (omega arith)

-- bytes that are there are not none
there_not_none : (l : List ℕ) → 0 < length l → (length l == 0) ≡ false
there_not_none l h = ne_eqb (length l) 0 (omega arith)

module _ (mill visitors : List ℕ) (s : Settings) (j : ℕ) (n : Node) (seed : Seed) (stamp : ℕ) (out : List ℕ) (small : stamp < 2 ^ 64) (may : MayLogIn mill visitors s n out) where
  -- the node's request
  abbrev request : List ℕ
  request = request_for n seed.bytes stamp

  -- its fields
  abbrev mine : RequestValues
  mine = own_fields n seed.bytes stamp

  -- the node's address
  abbrev address : List ℕ
  address = n.settings.address

  -- the secret that the mill's book gives the router
  abbrev book_secret : List ℕ
  book_secret = secret_of mill s.ipv4

  -- the access request
  abbrev x : List ℕ
  x = asked_of s j address request mine

  -- the request's account is the node's
  its_account : mine.account ≡ held_bytes n.settings.account
  its_account = own_account n seed.bytes stamp

  -- which is a name
  its_name : is_name mine.account ≡ true
  its_name = rw its_account may.named

  -- its security type is the node's
  its_kind : number_of mine.security ≡ n.settings.kind
  its_kind = own_security n seed.bytes stamp may.kind

  -- which fits 16 bits
  short_kind : number_of mine.security < 2 ^ 16
  short_kind = rw its_kind (takes_small n.settings.kind may.kind)

  -- so the server reads it
  t : ReadBack s j address request mine
  t = asked_told s j address request mine its_name (own_check n seed.bytes stamp) (own_sixteen n seed stamp) short_kind

  -- the access request as it was written
  form_asked : Form Misauth 1 j (access_request_runs (asked_values s j address request mine)) (access_request_bytes (asked_values s j address request mine))
  form_asked = asked_form s j address request mine

  -- the password that the books give is the node's
  its_password : password_of mill visitors t.a.account ≡ held_bytes n.settings.password
  its_password = rw (t.carries.account, its_account) may.password

  -- the check value is right under the password that the books give
  right : t.a.check ≡ check_value (password_of mill visitors t.a.account) t.a.authentication
  unfolding check_for
  right = t.carries.check ∙ own_right n seed stamp small may.named ∙ rw (its_password, t.authentication, ← may.its_router)

  -- the server's rule accepts it
  accepted : accepts_under (password_of mill visitors t.a.account) t.a ≡ true
  unfolding accepts_under
  accepted =
      let there : 0 < length (password_of mill visitors t.a.account) = rw (t.carries.account, its_account) may.password_there in
      rw (
        lt-ltb 0 (length (password_of mill visitors t.a.account)) there,
        true_same t.a.check (check_value (password_of mill visitors t.a.account) t.a.authentication) right,
        t.security,
        its_kind,
      ) may.kind

  -- its Authenticator is right under the secret that the books give
  authentic_x : is_authentic book_secret (take (length x) x) ≡ true
  unfolding asked_of
  authentic_x = rw may.secret (sealed_authentic (held_bytes s.secret) form_asked)

  -- its header passes
  ends_x : headed Misauth x ≡ Ok (length x)
  unfolding asked_of
  ends_x = sealed_ends (held_bytes s.secret) form_asked

  -- it has the Code of an access request
  code_x : slice_index x 0 ≡ 1
  unfolding asked_of
  code_x = sealed_code (held_bytes s.secret) form_asked

  -- so it passes every test, and the answer is the accept
  login_step : logged_in mill visitors s.ipv4 x out ≡ server_step (accept_of book_secret (password_of mill visitors t.a.account) t.a) out
  unfolding logged_in judged_login
  login_step =
      let there : 0 < length book_secret = rw may.secret may.secret_there in
      rw (
        le-ltb (length out) (limit_of Misauth) may.output,
        books_whole mill visitors (held_bytes n.settings.account) may.password_there,
        ends_x,
        code_x,
        there_not_none book_secret there,
        authentic_x,
        t.told,
        accepted,
      )

  -- the server accepts the access request
  must_login : Accepts mill visitors s.ipv4 j mine x out
  must_login =
      record {
        a = t.a;
        carries = t.carries;
        sends = rw login_step (ap (λ (y : List ℕ). from_server y ∷ []) (written_is (accept_of book_secret (password_of mill visitors t.a.account) t.a) out));
      }

-- all four, of the definitions
pub must : Must
must =
    record { must_request = must_request; must_login = must_login; must_reply = must_reply; must_success = must_success }
