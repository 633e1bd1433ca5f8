-- The last sentence of demand 3: four messages in order, in time and with nothing between open both ends.
use Rattle.std.specs.Prelude.{ℕ, ◌-◌, ◌*◌, ◌≤◌, ◌<◌, ◌^◌, true, ◌≡◌, length}
use Rattle.std.proofs.Math.Path.{refl, sym, ap, ap₂, subst}
use Rattle.std.proofs.Common.{subst₂, ◌∙◌, arith, eq-eqb}
use mathlib.Core.List.{List, [], ◌∷◌, ◌++◌, Memᴰ}
use Rattle.held.specs.Held.{held_bytes}
use Rattle.message.specs.Writing.{is_name}
use Rattle.misp.specs.Request.{RequestValues}
use Rattle.misauth.specs.AccessRequest.{AccessRequestValues}
use Rattle.misauth.specs.Accept.{AcceptValues}
use Rattle.book.specs.Search.{password_of, secret_of}
use Rattle.places.specs.declared.place.Place.{Place}
use Rattle.places.specs.declared.place.Session.{Session}
use Rattle.places.specs.declared.state.Router.{Router}
use Rattle.places.specs.State.{lapsed_at}
use Rattle.places.proofs.LapseLaws.{lapsed_settings, lapsed_clock, lapsed_length}
use Rattle.turn.specs.Outcome.{place_of, with_place}
use Rattle.turn.specs.Writes.{asked_of, success_for}
use Rattle.entering.specs.Request.{requested}
use Rattle.settling.specs.Reply.{settled, opened_by, replied}
use Rattle.node.specs.declared.Node.{Node}
use Rattle.hearing.specs.Hear.{request_for}
use Rattle.node.specs.Answers.{succeeded}
use Rattle.server.specs.Login.{own_accept, accept_of}
use Rattle.link.specs.World.{Seed, Member, Packet, to_node, to_server, from_server, World, Event, to_requested, to_logged_in, to_replied, wrote_router, after_node, after_router, after_server, node_of, address_of, step, run}
use Rattle.link.specs.Premises.{Premises}
use Rattle.link.specs.Opened.{Holds}
use Rattle.link.specs.Acceptable.{Calls, Acceptable, InTime, after_request, after_login, after_reply, after_success, BothOpen}
use Rattle.link.specs.Can.{Granted, own_fields, Lawful}
use Rattle.theorems.specs.RouterPlaceLaws.{lapsed_lives, taken_within, with_here, with_clock}
use Rattle.theorems.specs.RouterArrivals.{Waits, waits_still}
use Rattle.link.specs.Inv.{on_its_way, Inv}
use Rattle.link.specs.Keeps.{inv_lapse}
use Rattle.link.specs.OwnLaws.{own_plain, own_stamp, own_account, own_type}
use Rattle.link.specs.MadeLaws.{NodeFresh, node_fresh, router_fresh}
use Rattle.link.specs.Past.{past_of}
use Rattle.link.specs.GoodLaws.{GoodAt, node_fine, its_address, own_of}
use Rattle.link.specs.NodeGoodLaws.{waiting_key}
use Rattle.link.specs.PlaceGoodLaws.{lapsed_fresh, fresh_under}
use Rattle.link.specs.GrantedLaws.{opened_live, opened_stamp, opened_since}
use Rattle.link.specs.Theorems.{sends_one, good}
use Rattle.link.specs.Must.{Forwards, Accepts, NowOpen, Must}

module _ (law : Lawful) (must : Must) {count : ℕ} (mill visitors : List ℕ) (w : World) (es : List (Event count)) (p : Premises count mill visitors w es)
    (i : Member count) (seed : Seed) (stamp : ℕ) (c : Calls) where
  -- the invariant after a run
  abbrev Now : List (Event count) → Type 0
  Now = GoodAt mill visitors w

  -- the node as setup made it
  abbrev node : Node
  node = w.nodes i.number

  -- its request
  abbrev request : List ℕ
  request = request_for node seed.bytes stamp

  -- the request's fields
  abbrev v : RequestValues
  v = own_fields node seed.bytes stamp

  -- the router as setup made it
  abbrev r₀ : Router
  r₀ = w.router

  module _ (small : stamp < 2 ^ 64) (named : is_name (held_bytes node.settings.account) ≡ true)
      (ok : Acceptable mill visitors (run w es) i request v c) (time : InTime (run w es) v c) where
    -- the invariant holds
    h : Now es
    h = good law mill visitors w es p

    -- the node was made by setup
    fresh : NodeFresh node
    fresh = node_fresh node (p.none_restarted.nodes i)

    -- its address is the one that setup gave it
    from_same : address_of (run w es) i ≡ node.settings.address
    from_same = its_address h i

    -- the router with what has lapsed gone
    abbrev b : Router
    b = lapsed_at c.request_now.ticks (run w es).router

    -- the invariant holds of that router
    at_b : Inv mill visitors w (past_of w es) (run w es).nodes b (run w es).sent
    at_b = inv_lapse h c.request_now.ticks ok.request_clock

    -- a place whose last stamp is below this one holds no session with it
    unopened : (j : ℕ) → (place_of j b).taken ≡ true → (place_of j b).last < v.stamp → (place_of j b).session.live ≡ true → (place_of j b).session.stamp ≡ v.stamp → ⊥
    unopened j taken last live same =
        let young = lapsed_fresh c.request_now.ticks v.stamp (run w es).router time.request in
        let under = fresh_under at_b v.stamp young (place_of j b).address (λ a f. rw (at_b.apart a j f.taken taken f.its) last) in
        let below : (place_of j b).session.stamp < v.stamp = under _ _ ((at_b.places j taken).held live) in
        omega arith

    -- 1. the request reaches the router: it waits in its place, and its access request goes out
    forwards : Forwards (run w es).router c.request_now.ticks (address_of (run w es) i) request v
        (requested (run w es).router c.request_now.ticks (address_of (run w es) i) request c.request_out)
    forwards =
        must.must_request (run w es).router c.request_now.ticks (address_of (run w es) i) request c.request_out v
        (record {
          size = h.size;
          arrives = record {
            output = ok.request_output;
            clock = ok.request_clock;
            reads = ok.reads;
            s_is_zero = own_plain node seed.bytes stamp;
            one_type = own_type node seed.bytes stamp fresh.kind;
            our_network = ok.listed;
            not_ahead = ok.not_ahead;
            not_old = time.request;
            position = rw h.router_settings (router_fresh r₀ p.none_restarted.router).position;
          };
          room = ok.room;
          unopened = λ j f. unopened j f.taken;
        })

    -- the place in which the request waits
    abbrev j : ℕ
    j = forwards.place

    -- the access request
    x : List ℕ
    x = asked_of r₀.settings j node.settings.address request v

    -- the run with the request
    abbrev es₁ : List (Event count)
    es₁ = after_request i request c es

    -- the access request was sent
    asked : (run w es₁).sent ≡ to_server x ∷ (run w es).sent
    unfolding run step after_router x
    asked = rw (forwards.sends, h.router_settings, from_same)

    -- the premises hold of the longer run, so the invariant does
    p₁ : Premises count mill visitors w es₁
    p₁ = sends_one p (to_requested i c.request_now request c.request_out) tt ok.own (to_server x) (λ n. n) asked

    -- the invariant holds still
    h₁ : Now es₁
    h₁ = good law mill visitors w es₁ p₁

    -- its attempt waits
    waiting : Waits (run w es₁).router node.settings.address v j
    unfolding run step after_router
    waiting = subst (λ (address : List ℕ). Waits (run w es₁).router address v j) from_same forwards.waits

    -- the router stored its clock
    clock_then : (run w es₁).router.clock ≡ c.request_now.ticks
    unfolding run step after_router
    clock_then = forwards.clock

    -- 2. the access request reaches the server: the request's account is its node's
    account : v.account ≡ held_bytes node.settings.account
    account = own_account node seed.bytes stamp

    -- which is in a book
    known : 0 < length (password_of mill visitors (held_bytes node.settings.account))
    known = rw account at ok.known

    -- so the server accepts
    accepts : Accepts mill visitors r₀.settings.ipv4 j v x c.login_out
    unfolding x
    accepts =
        must.must_login mill visitors r₀.settings j node seed stamp c.login_out small
        (record {
          named = named;
          kind = fresh.kind;
          its_router = p.its_nodes i;
          secret = p.secret_matching;
          secret_there = (router_fresh r₀ p.none_restarted.router).secret;
          password = p.passwords_matching i known;
          password_there = known;
          output = ok.login_output;
        })

    -- what the server read
    abbrev a : AccessRequestValues
    a = accepts.a

    -- the password that the books give
    password : List ℕ
    password = password_of mill visitors a.account

    -- the accept
    y : List ℕ
    y = accept_of (secret_of mill r₀.settings.ipv4) password a

    -- the run with the login
    abbrev es₂ : List (Event count)
    es₂ = after_login i request c es mill visitors x

    -- the accept goes out
    answered : (run w es₂).sent ≡ from_server y ∷ (run w es₁).sent
    unfolding run step after_server y password
    answered = rw h₁.router_settings (ap (λ (ps : List Packet). ps ++ (run w es₁).sent) accepts.sends)

    -- the router is as it was
    router_same : (run w es₂).router ≡ (run w es₁).router
    unfolding run step after_server
    router_same = refl

    -- the premises hold still
    p₂ : Premises count mill visitors w es₂
    p₂ =
        sends_one p₁ (to_logged_in mill visitors x c.login_out) (refl, refl) (rw asked (mathlib.Core.List.Memᴰ.head refl)) (from_server y) (λ n. n)
        answered

    -- and the invariant
    h₂ : Now es₂
    h₂ = good law mill visitors w es₂ p₂

    -- 3. the accept reaches the router. The router before it
    abbrev r₂ : Router
    r₂ = (run w es₂).router

    -- the same with what has lapsed gone
    abbrev q : Router
    q = lapsed_at c.reply_now.ticks r₂

    -- the place that the accept names
    abbrev k : ℕ
    k = a.identifier

    -- its attempt waited before the accept
    still : Waits r₂ node.settings.address v j
    still = rw router_same waiting

    -- its window is the one that `InTime` speaks of
    window_same : r₂.settings.window ≡ (run w es).router.settings.window
    window_same = ap (λ s. s.window) (h₂.router_settings ∙ sym h.router_settings)

    -- its attempt waits still, at the place that the accept names
    ready : Waits q node.settings.address v k
    ready =
        rw accepts.carries.identifier
        (waits_still r₂ c.reply_now.ticks node.settings.address v j still ((h₂.places j still.place.taken).waits still.waiting).last
        (rw window_same time.accept))

    -- the books give the router's secret
    secret_same : secret_of mill r₀.settings.ipv4 ≡ held_bytes r₂.settings.secret
    secret_same = p.secret_matching ∙ ap (λ s. held_bytes s.secret) (sym h₂.router_settings)

    -- the accept's fields
    va : AcceptValues
    va = own_accept (held_bytes r₂.settings.secret) password a

    -- its check value has 16 bytes
    sixteen : length a.check ≡ 16
    sixteen = rw accepts.carries.check (law.own_check node seed.bytes stamp)

    -- the place that it names is one of the 64
    below : k < 64
    below = rw (lapsed_length c.reply_now.ticks r₂ ∙ h₂.size) at (taken_within q k ready.place.taken)

    -- the router's clock does not run back
    clock : r₂.clock ≤ c.reply_now.ticks
    clock = rw (router_same, clock_then) ok.reply_clock

    -- the accept opens
    granted : Granted q (replied r₂ c.reply_now.ticks y c.reply_out).outcome.state c.reply_now.ticks k va (wrote_router (replied r₂ c.reply_now.ticks y c.reply_out))
    unfolding y va
    granted =
        rw secret_same
        (must.must_reply r₂ c.reply_now.ticks c.reply_out password a sixteen below ok.reply_output clock ready.place.taken
        ready.waiting (accepts.carries.check ∙ ready.check))

    -- the attempt's place
    abbrev place : Place
    place = place_of k q

    -- the session that it opens
    session : Session
    session = opened_by q place c.reply_now.ticks va

    -- its success
    z : List ℕ
    z = success_for r₀.settings node.settings.address session

    -- the run with the reply
    abbrev es₃ : List (Event count)
    es₃ = after_reply i request c es mill visitors x y

    -- the router's settings are those of setup
    settings_same : q.settings ≡ r₀.settings
    settings_same = lapsed_settings c.reply_now.ticks r₂ ∙ h₂.router_settings

    -- the reply's step writes that success
    success_wrote : wrote_router (replied r₂ c.reply_now.ticks y c.reply_out) ≡ to_node node.settings.address z ∷ []
    unfolding session z
    success_wrote = granted.sends ∙ same
      where
        same : to_node place.address (success_for q.settings place.address (opened_by q place c.reply_now.ticks va)) ∷ []
            ≡ to_node node.settings.address (success_for r₀.settings node.settings.address (opened_by q place c.reply_now.ticks va)) ∷ []
        same = ap₂ (λ (b : List ℕ) s. to_node b (success_for s b (opened_by q place c.reply_now.ticks va)) ∷ []) ready.place.its settings_same

    -- the success goes out
    success_sent : (run w es₃).sent ≡ to_node node.settings.address z ∷ (run w es₂).sent
    unfolding run step after_router
    success_sent = ap (λ (ps : List Packet). ps ++ (run w es₂).sent) success_wrote

    -- and leaves the session in its place
    is_router : (run w es₃).router ≡ with_place k (settled place session) q
    unfolding run step after_router session
    is_router = granted.is

    -- the premises hold still
    p₃ : Premises count mill visitors w es₃
    p₃ =
        sends_one p₂ (to_replied c.reply_now y c.reply_out) tt (rw answered (mathlib.Core.List.Memᴰ.head refl))
        (to_node node.settings.address z) (λ n. n) success_sent

    -- and the invariant
    h₃ : Now es₃
    h₃ = good law mill visitors w es₃ p₃

    -- the router's place is open
    here : place_of k (run w es₃).router ≡ settled place session
    here = rw is_router (with_here k (settled place session) q (taken_within q k ready.place.taken))

    -- it is live
    live : session.live ≡ true
    unfolding session
    live = opened_live q place c.reply_now.ticks va

    -- with the request's stamp
    stamped : session.stamp ≡ v.stamp
    unfolding session
    stamped = opened_stamp q place c.reply_now.ticks va ∙ sym ready.stamp

    -- since the accept
    since : session.since ≡ c.reply_now.ticks
    unfolding session
    since = opened_since q place c.reply_now.ticks va

    -- and that is in the past
    opened : (past_of w es₃).opened (address_of w i) session.stamp session.key
    opened =
        let o = (h₃.places k (rw here refl)).held (rw here live) in
        subst (λ (b : List ℕ). (past_of w es₃).opened b session.stamp session.key) ready.place.its
        (subst (λ (b : Place). (past_of w es₃).opened b.address b.session.stamp b.session.key) here o)

    -- 4. the success reaches the node, which is as it was
    nodes_same : (run w es₃).nodes ≡ (run w es).nodes
    unfolding run step after_router after_server
    nodes_same = refl

    -- the node then
    abbrev me : Node
    me = node_of (run w es₃) i

    -- the node is as it was when the request arrived
    me_same : me ≡ node_of (run w es) i
    me_same = ap (λ (n : ℕ → Node). n i.number) nodes_same

    -- so it waits
    me_waits : me.waiting.live ≡ true
    me_waits = rw me_same ok.waits

    -- on the request's stamp
    me_stamp : me.waiting.stamp ≡ v.stamp
    me_stamp = rw me_same ok.stamped

    -- the key is the one that the node waits with
    key_same : session.key ≡ me.waiting.key
    key_same =
        waiting_key law p h₃ i me_waits
        session.key (subst (λ (s : ℕ). (past_of w es₃).opened (address_of w i) s session.key) (stamped ∙ sym me_stamp) opened)

    -- so the success opens the node
    open_node : NowOpen session.stamp r₀.settings.lifetime session.key (succeeded me c.success_now.ticks z).outcome.state
    unfolding z
    open_node =
        rw (sym (its_address h₃ i))
        (must.must_success r₀ p.none_restarted.router me c.success_now.ticks session (rw (stamped, own_stamp node seed.bytes stamp) small)
        (record {
          clock = rw me_same ok.success_clock;
          waits = me_waits;
          stamped = stamped ∙ sym me_stamp;
          keyed = key_same;
          its_router = ap (λ s. s.router) (node_fine h₃ i).settings ∙ p.its_nodes i;
        }))

    -- the run with the success
    abbrev es₄ : List (Event count)
    es₄ = after_success i request c es mill visitors x y z

    -- the node is as that step left it
    node_is : node_of (run w es₄) i ≡ (succeeded me c.success_now.ticks z).outcome.state
    unfolding run step after_node
    node_is = rw (eq-eqb i.number i.number refl)

    -- and the router as it was
    router_is : (run w es₄).router ≡ (run w es₃).router
    unfolding run step after_node
    router_is = refl

    -- with the settings that it had
    settings_stay : (run w es₃).router.settings ≡ (run w es).router.settings
    settings_stay = h₃.router_settings ∙ sym h.router_settings

    -- and the clock at which it took the accept
    clock_is : (run w es₃).router.clock ≡ c.reply_now.ticks
    clock_is = rw is_router (with_clock k (settled place session) q ∙ lapsed_clock c.reply_now.ticks r₂)

    -- the router holds its session still, by its clock then
    held_still : Holds (lapsed_at c.router_now.ticks (run w es₃).router) (address_of w i) v.stamp session.key
    held_still =
        let s = (run w es₃).router in
        let young : c.router_now.ticks - (place_of k s).session.since ≤ s.settings.lifetime * s.settings.unit = rw (here, since, settings_stay) time.success in
        let kept = lapsed_lives c.router_now.ticks s k (rw here refl) (rw here live) young in
        record {
          place = k;
          held = rw (kept, here) (record { taken = refl; its = ready.place.its; live = live; stamped = stamped; keyed = refl });
        }

    -- after the four messages both ends are open
    both_open : BothOpen i request c es mill visitors w v.stamp
    both_open =
        record {
          access = x;
          answer = y;
          success = z;
          key = session.key;
          asked = asked;
          answered = answered;
          granted = success_sent;
          node_live = rw node_is open_node.live;
          node_stamp = rw node_is (open_node.stamped ∙ stamped);
          node_key = rw node_is open_node.keyed;
          node_lifetime = rw node_is open_node.lasts;
          router_clock = rw router_is clock_is;
          router_holds = rw router_is held_still;
        }

module _ (law : Lawful) (must : Must) {count : ℕ} (mill visitors : List ℕ) (w : World) where
  -- D: the request is its node's own, so its fields are those that the node wrote
  pub theorem_d : (es : List (Event count)) → Premises count mill visitors w es → (i : Member count) (request : List ℕ) (v : RequestValues) (c : Calls)
      → Acceptable mill visitors (run w es) i request v c → InTime (run w es) v c → BothOpen i request c es mill visitors w v.stamp
  theorem_d es p i request v c ok time =
      let h = good law mill visitors w es p in
      let was : Memᴰ (on_its_way w i.number request) (run w es).sent = rw h.router_settings at ok.own in
      let own = own_of h (record { was = was; reads = ok.reads }) in
      subst₂ (λ (m : List ℕ) (u : RequestValues). BothOpen i m c es mill visitors w u.stamp) (sym own.is) (sym own.fields)
      (both_open law must mill visitors w es p i own.seed own.stamp c own.small own.named
      (subst₂ (λ (m : List ℕ) (u : RequestValues). Acceptable mill visitors (run w es) i m u c) own.is own.fields ok)
      (subst (λ (u : RequestValues). InTime (run w es) u c) own.fields time))
