-- What a login can do at the server keeps the invariant.
use Rattle.std.specs.Prelude.{ℕ, true, ◌≡◌, refl, Ok}
use Rattle.std.proofs.Common.{ap, subst, ◌∙◌, inl, inr}
use mathlib.Core.List.{List, [], ◌∷◌, ◌++◌, Memᴰ}
use Rattle.misp.specs.Request.{RequestValues}
use Rattle.misauth.specs.AccessRequest.{AccessRequestValues, read_access_request, access_request_told}
use Rattle.book.specs.Search.{password_of, secret_of}
use Rattle.turn.specs.Writes.{asked_of}
use Rattle.server.specs.Login.{accepts_under, accept_of}
use Rattle.link.specs.World.{Packet, to_server, from_server, World, Event, to_logged_in, address_of, run}
use Rattle.link.specs.Opened.{Accepted}
use Rattle.link.specs.Can.{ServerCan, refuses, rejects, grants, OfRequest, Lawful}
use Rattle.link.specs.Inv.{one_more, Own, BehindAccess, Inv, ask_more}
use Rattle.link.specs.Keeps.{not_asked, inv_sent}
use Rattle.link.specs.Past.{past_of}
use Rattle.link.specs.GoodLaws.{accept_back, GoodAt, NotedAt, same_router, own_of}

module _ (law : Lawful) {count : ℕ} {mill visitors : List ℕ} {w : World} where
  module _ (es : List (Event count)) (h : GoodAt mill visitors w es) (m out : List ℕ) (ps : List Packet)
      (router : (run w (to_logged_in mill visitors m out ∷ es)).router ≡ (run w es).router)
      (sent : (run w (to_logged_in mill visitors m out ∷ es)).sent ≡ ps ++ (run w es).sent) (came : Memᴰ (to_server m) (run w es).sent) where
    -- the login
    abbrev login : Event count
    login = to_logged_in mill visitors m out

    -- the invariant, with the login in the past
    noted : NotedAt mill visitors w es login
    noted = same_router es h login router

    module _ (a : AccessRequestValues) (reads : access_request_told m (read_access_request m) ≡ Ok a)
        (accepts : accepts_under (password_of mill visitors a.account) a ≡ true) where
      -- the secret that the mill's book gives the router
      abbrev secret : List ℕ
      secret = secret_of mill (run w es).router.settings.ipv4

      -- the password that the books give the account
      abbrev password : List ℕ
      password = password_of mill visitors a.account

      -- the accept
      abbrev y : List ℕ
      y = accept_of secret password a

      -- what stands behind the access request: a request that arrived
      behind_access : BehindAccess w (past_of w es) (run w es).sent m
      behind_access = h.msgs _ came

      -- which is its node's own
      own_request : Own w behind_access.node.number behind_access.m behind_access.v
      own_request = own_of h behind_access.ask

      -- the access request carries what it carried
      carries : OfRequest behind_access.place behind_access.v a
      carries =
          let o = own_request in
          let s = w.router.settings in
          let j = behind_access.place in
          let from = address_of w behind_access.node in
          rw o.fields
          (law.access_reads s j from behind_access.m (w.nodes behind_access.node.number) o.seed o.stamp o.named a
          (subst (λ (x : List ℕ). access_request_told x (read_access_request x) ≡ Ok a)
          (behind_access.is ∙ ap (λ (v : RequestValues). asked_of s j from behind_access.m v) o.fields) reads))

      -- the server accepted it
      accepted : ps ≡ from_server y ∷ [] → Accepted w m behind_access.v.check es login
      accepted sends =
          record {
            mill = mill;
            visitors = visitors;
            out = out;
            is = refl;
            answer = y;
            answered = sent ∙ rw sends;
            fields = _;
            reads = accept_back law secret password own_request carries;
            its_check = carries.check;
          }

      -- the accept keeps the invariant
      good_grants : ps ≡ from_server y ∷ []
          → Inv mill visitors w (past_of w (login ∷ es)) (run w es).nodes (run w es).router (from_server y ∷ (run w es).sent)
      good_grants sends =
          inv_sent noted (from_server y) (not_asked (λ n. n))
          (inr (record {
            node = behind_access.node;
            m = behind_access.m;
            v = behind_access.v;
            place = behind_access.place;
            access = m;
            a = a;
            ask = ask_more (one_more (from_server y)) behind_access.ask;
            carries = carries;
            accepts = accepts;
            is = rw h.router_settings;
            accepted = inl (accepted sends, behind_access.arrived);
          }))

    -- whatever a login can do keeps the invariant
    pub good_server : ServerCan mill visitors (run w es).router.settings.ipv4 m ps
        → Inv mill visitors w (past_of w (login ∷ es)) (run w es).nodes (run w es).router (ps ++ (run w es).sent)
    good_server (refuses sends) = rw sends noted
    good_server (rejects answer code sends) =
        rw sends (inv_sent noted (from_server answer) (not_asked (λ n. n)) (inl code))
    good_server (grants a reads accepts sends) = rw sends (good_grants a reads accepts sends)
