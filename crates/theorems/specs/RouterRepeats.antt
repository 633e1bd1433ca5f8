-- A request that the router has had before and that is not too old (the paper, 'Steps', on repeats). While its attempt waits, the access request goes out
-- again, byte for byte as the first time; while the session that it opened is open, the success does, byte for byte as the reply's; else it is 13.
use Rattle.std.specs.Prelude.{ℕ, ◌-◌, ◌*◌, ◌<◌, ◌≤◌, Bool, true, false, ◌≡◌, refl, List, length, take, replicate, slice_index, Some, Ok}
use Rattle.std.proofs.Math.Path.{sym, ap}
use Rattle.std.proofs.Common.{subst, ◌∙◌, arith, le-leb}
use Rattle.refusal.specs.Step.{done, refused_with, sends}
use Rattle.octets.proofs.ChoiceLaws.{not_both, pick_all, pick_true}
use Rattle.refusal.specs.declared.Refusal.TheVariants.{StampUsed}
use Rattle.refusal.specs.declared.To.{To}
use Rattle.refusal.specs.declared.To.TheVariants.{Server, Address}
use Rattle.object.specs.declared.family.Family.TheVariants.{Misauth}
use Rattle.object.specs.Family.{limit_of}
use Rattle.terms.specs.Terms.{lists}
use Rattle.position.specs.Position.{in_range}
use Rattle.misp.specs.Request.{RequestValues, read_request, request_told}
use Rattle.places.specs.declared.place.Attempt.{Attempt}
use Rattle.places.specs.declared.place.Session.{Session}
use Rattle.places.specs.declared.place.Place.{Place}
use Rattle.places.specs.declared.state.Settings.{Settings}
use Rattle.places.specs.declared.state.Router.{Router}
use Rattle.places.specs.State.{lapsed_at, find_of}
use Rattle.places.proofs.LapseLaws.{lapsed_settings}
use Rattle.turn.specs.Outcome.{Step, place_of, with_place}
use Rattle.turn.specs.Writes.{asked_of, success_for}
use Rattle.entering.specs.Request.{asking, repeats_attempt, repeats_session, known, requested}
use Rattle.settling.specs.Reply.{settled, opened_by, replied}
use Rattle.theorems.specs.Alike.{written_is}
use Rattle.theorems.specs.RouterPlaceLaws.{taken_within, awaits_taken, awaits_waiting, with_settings, with_here, lapsed_left, Found, found, found_is}
use Rattle.theorems.specs.RouterArrivals.{Arrives, Waits, Opened, waits_still, opened_still}
use Rattle.theorems.specs.RouterArrivedLaws.{arrived, repeats_waits, waits_repeats, repeats_opened, opened_repeats}
use Rattle.theorems.specs.RouterDone.{forwarded, new_session, AcceptDone, accept_done}
use Rattle.theorems.specs.RouterEffects.{request_from, reply}
use Rattle.theorems.specs.RouterReached.{RouterHolds, lapsed_holds, after_holds}

-- THE SENTENCE, of every state. q is the state in which what has lapsed is gone, i the place of the address in it; the stamp is not above the last one.
-- The state stays q; the access request goes out, or the success of the session that is open, or 13 is handed back and nothing is written.
pub data Repeated (q : Router) (s : Settings) (from m : List ℕ) (v : RequestValues) (i : ℕ) (out : List ℕ) (x : Step) : Type 0 where
  while_waiting : Waits q from v i → x ≡ sends done q Server (asked_of s i from m v) out → Repeated q s from m v i out x
  while_open : (Waits q from v i → ⊥) → Opened q from v i → x ≡ sends done q (Address from) (success_for s from (place_of i q).session) out
      → Repeated q s from m v i out x
  else_13 : (Waits q from v i → ⊥) → (Opened q from v i → ⊥) → x ≡ refused_with StampUsed q out → Repeated q s from m v i out x

-- what makes a test pass is not so where it does not pass
not_so : {A : Type 0} {b : Bool} → (A → b ≡ true) → b ≡ false → A → ⊥
not_so f e x = not_both (f x) e

module _ (r : Router) (now : ℕ) (from m out : List ℕ) (v : RequestValues) (a : Arrives r now m out v) (i : ℕ)
    (at : find_of (lapsed_at now r).places from ≡ Some i) where
  -- the router with what has lapsed gone
  abbrev q' : Router
  q' = lapsed_at now r

  -- the step is one of those of the sentence
  abbrev R : Step → Type 0
  R = Repeated q' r.settings from m v i out

  -- place i is taken, by the request's sender
  abbrev f : Found q' from i
  f = found q' from i at

  -- its place decides so
  knows : v.stamp ≤ (place_of i q').last → R (known q' i from m v out)
  unfolding known asking
  knows l =
      let settings : q'.settings ≡ r.settings = lapsed_settings now r in
      pick_all R (repeats_attempt v (place_of i q')) _ _
      (λ t. while_waiting (repeats_waits q' from v i f t)
      (pick_true (in_range q'.settings.position) _ _ (ap (λ (s : Settings). in_range s.position) settings ∙ a.position)
      ∙ ap (λ (s : Settings). sends done q' Server (asked_of s i from m v) out) settings)) λ n.
      pick_all R (repeats_session v (place_of i q')) _ _
      (λ t. while_open (not_so (waits_repeats q' from v i) n) (repeats_opened q' from v i f t)
      (ap (λ (s : Settings). sends done q' (Address from) (success_for s from (place_of i q').session) out) settings)) λ o.
      rw (le-leb v.stamp (place_of i q').last l)
      (else_13 (not_so (waits_repeats q' from v i) n) (not_so (opened_repeats q' from v i) o) refl)

  -- a request that arrives in time, whose stamp is not above the last, gets what the sentence says
  pub repeated : v.stamp ≤ (place_of i (lapsed_at now r)).last → Repeated (lapsed_at now r) r.settings from m v i out (requested r now from m out)
  repeated l = rw (arrived r now from m out v a, at) (knows l)

-- IN A STATE REACHED (`RouterHolds`: see RouterReached). An address that has a place after lapsing is found at it.
found_lapsed : (s : Settings) (r : Router) → RouterHolds s r → (now : ℕ) → r.clock ≤ now → (from : List ℕ) (i : ℕ) → Found (lapsed_at now r) from i
    → find_of (lapsed_at now r).places from ≡ Some i
found_lapsed s r h now c from i f = found_is (lapsed_at now r) from (lapsed_holds s r h now c).apart i f

-- what goes out once more: the access request, or the success
module _ (s : Settings) (r : Router) (h : RouterHolds s r) (now : ℕ) (from m out : List ℕ) (v : RequestValues) (a : Arrives r now m out v) (i : ℕ) where
  -- while its attempt waits a request gets the access request, and the state stays
  pub waiting_again : Waits r from v i → requested r now from m out ≡ sends done (lapsed_at now r) Server (asked_of r.settings i from m v) out
  waiting_again w =
      let same : (place_of i r).attempt.stamp ≡ (place_of i r).last = (h.taken i w.place.taken).attempt w.waiting in
      let u = waits_still r now from v i w (omega arith) a.not_old in
      let k = (lapsed_holds s r h now a.clock).taken i u.place.taken in
      let last : v.stamp ≡ (place_of i (lapsed_at now r)).last = u.stamp ∙ k.attempt u.waiting in
      go u (repeated r now from m out v a i (found_lapsed s r h now a.clock from i u.place) (omega arith))
    where
      go : Waits (lapsed_at now r) from v i → Repeated (lapsed_at now r) r.settings from m v i out (requested r now from m out)
          → requested r now from m out ≡ sends done (lapsed_at now r) Server (asked_of r.settings i from m v) out
      go u (while_waiting x e) = e
      go u (while_open n x e) = absurd (n u)
      go u (else_13 n x e) = absurd (n u)

  -- while the session that it opened is open a request gets the success of that session, and the state stays
  pub open_again : Opened r from v i → now - (place_of i r).session.since ≤ r.settings.lifetime * r.settings.unit
      → requested r now from m out ≡ sends done (lapsed_at now r) (Address from) (success_for r.settings from (place_of i r).session) out
  open_again w l =
      let b = opened_still r now from v i w l in
      let u = b.0 in
      let k = (lapsed_holds s r h now a.clock).taken i u.place.taken in
      let up : (place_of i (lapsed_at now r)).session.stamp ≤ (place_of i (lapsed_at now r)).last = k.session u.live in
      let e : v.stamp ≡ (place_of i (lapsed_at now r)).session.stamp = u.stamp in
      go u
      (λ x.
      let d : (place_of i (lapsed_at now r)).session.stamp < (place_of i (lapsed_at now r)).attempt.stamp = k.below x.waiting u.live in
      let g : v.stamp ≡ (place_of i (lapsed_at now r)).attempt.stamp = x.stamp in
      omega arith)
      (repeated r now from m out v a i (found_lapsed s r h now a.clock from i u.place) (omega arith))
      ∙ ap (λ (y : Session). sends done (lapsed_at now r) (Address from) (success_for r.settings from y) out) b.1
    where
      go : Opened (lapsed_at now r) from v i → (Waits (lapsed_at now r) from v i → ⊥)
          → Repeated (lapsed_at now r) r.settings from m v i out (requested r now from m out)
          → requested r now from m out ≡ sends done (lapsed_at now r) (Address from) (success_for r.settings from (place_of i (lapsed_at now r)).session) out
      go u n (while_waiting x e) = absurd (n x)
      go u n (while_open x y e) = e
      go u n (else_13 x y e) = absurd (y u)

-- TWO CALLS. The second is done like the first: the same bytes, as many, to the same; and its state is the one after the first, with what lapsed since gone.
pub record Again (first again : Step) (now : ℕ) : Type 0 where
  pub answer : again.outcome.answer ≡ done
  pub to : again.outcome.to ≡ first.outcome.to
  pub written : again.outcome.written ≡ first.outcome.written
  pub bytes : take again.outcome.written again.out ≡ take first.outcome.written first.out
  pub state : again.outcome.state ≡ lapsed_at now first.outcome.state

-- two steps that send one message, the second with what lapsed gone
again_sent : (q : Router) (now : ℕ) (to : To) (message out out' : List ℕ)
    → Again (sends done q to message out) (sends done (lapsed_at now q) to message out') now
again_sent q now to message out out' =
    record {
      answer = refl;
      to = refl;
      written = refl;
      bytes = written_is message out' ∙ sym (written_is message out);
      state = refl;
    }

-- THE SAME ACCESS REQUEST. A request that went on to the server, and then again, at a clock at which its stamp is at most W old.
pub request_again : (s : Settings) (r : Router) → RouterHolds s r → (now : ℕ) (from m out : List ℕ) (v : RequestValues) → request_told m (read_request m) ≡ Ok v →
    let first = requested r now from m out in
    first.outcome.answer ≡ done → first.outcome.to ≡ Server →
    (now' : ℕ) (out' : List ℕ) → now ≤ now' → now' - v.stamp ≤ r.settings.window → limit_of Misauth ≤ length out'
    → Again first (requested first.outcome.state now' from m out') now'
request_again s r h now from m out v reads d t now' out' c l output =
    let f = forwarded r h.size now from m out v reads d t in
    let h₁ = subst (λ (x : Step). RouterHolds s x.outcome.state) f.wrote (after_holds s r h (request_from now from m out)) in
    let a : Arrives f.state now' m out' v =
    record {
      output = output;
      clock = rw f.clock c;
      reads = reads;
      s_is_zero = f.arrives.s_is_zero;
      one_type = f.arrives.one_type;
      our_network = ap (λ (y : Settings). lists y.network v.layers) f.settings ∙ f.arrives.our_network;
      not_ahead = (let k : v.stamp ≤ now = f.arrives.not_ahead in omega arith);
      not_old = subst (λ (y : Settings). now' - v.stamp ≤ y.window) (sym f.settings) l;
      position = ap (λ (y : Settings). in_range y.position) f.settings ∙ f.arrives.position;
    } in
    let is = waiting_again s f.state h₁ now' from m out' v a f.place f.waits
    ∙ ap (λ (y : Settings). sends done (lapsed_at now' f.state) Server (asked_of y f.place from m v) out') f.settings in
    subst (λ (x : Step). Again x (requested x.outcome.state now' from m out') now') (sym f.wrote)
    (subst (λ (x : Step). Again (sends done f.state Server (asked_of r.settings f.place from m v) out) x now') (sym is)
    (again_sent f.state now' Server (asked_of r.settings f.place from m v) out out'))

-- the place that an accept was done for holds the session that the request opened
module _ (r : Router) (now : ℕ) (out from : List ℕ) (v : RequestValues) (i : ℕ) (w : Waits r from v i) (x : Step) (g : AcceptDone r now out i x) where
  -- the router before the accept, with what has lapsed gone
  abbrev q'' : Router
  q'' = lapsed_at now r

  -- the session that the accept opens
  abbrev opened : Session
  opened = new_session r now i g.accept

  -- the router after it
  abbrev r₁ : Router
  r₁ = with_place i (settled (place_of i q'') opened) q''

  -- the place is taken
  taken : (place_of i q'').taken ≡ true
  taken = awaits_taken q'' i g.awaited

  -- by the request's sender
  its_address : (place_of i q'').address ≡ from
  its_address = (lapsed_left now r i taken).address ∙ w.place.its

  -- it holds the session after the accept
  here : place_of i r₁ ≡ settled (place_of i q'') opened
  here = with_here i (settled (place_of i q'') opened) q'' (taken_within q'' i taken)

  -- which this request opened
  opens_it : Opened r₁ from v i
  unfolding opened_by
  opens_it =
      let same : (place_of i q'').attempt ≡ (place_of i r).attempt = (lapsed_left now r i taken).attempt (awaits_waiting q'' i g.awaited) in
      record {
        place = record { taken = ap (λ (p : Place). p.taken) here; its = ap (λ (p : Place). p.address) here ∙ its_address };
        live = ap (λ (p : Place). p.session.live) here;
        stamp = w.stamp ∙ ap (λ (y : Attempt). y.stamp) (sym same) ∙ sym (ap (λ (p : Place). p.session.stamp) here);
        check = w.check ∙ ap (λ (y : Attempt). y.check) (sym same) ∙ sym (ap (λ (p : Place). p.session.check) here);
      }

  -- at the accept's clock
  since : (place_of i r₁).session.since ≡ now
  unfolding opened_by
  since = ap (λ (p : Place). p.session.since) here

  -- the settings stay
  same_settings : r₁.settings ≡ r.settings
  same_settings = with_settings i (settled (place_of i q'') opened) q'' ∙ lapsed_settings now r

  -- so the request, once more, gets the success that the accept wrote
  same_success : (s : Settings) → RouterHolds s r₁ → (now' : ℕ) (m' out' : List ℕ) → now' - now ≤ r.settings.lifetime * r.settings.unit → Arrives r₁ now' m' out' v
      → requested r₁ now' from m' out'
      ≡ sends done (lapsed_at now' r₁) (Address (place_of i q'').address) (success_for r.settings (place_of i q'').address opened) out'
  same_success s h now' m' out' l a =
      let k : now' - (place_of i r₁).session.since ≤ r₁.settings.lifetime * r₁.settings.unit =
      subst (λ (n : ℕ). now' - n ≤ r₁.settings.lifetime * r₁.settings.unit) (sym since)
      (subst (λ (y : Settings). now' - now ≤ y.lifetime * y.unit) (sym same_settings) l) in
      open_again s r₁ h now' from m' out' v a i opens_it k
      ∙ ap (λ (y : Settings). sends done (lapsed_at now' r₁) (Address from) (success_for y from (place_of i r₁).session) out') same_settings
      ∙ ap (λ (p : Place). sends done (lapsed_at now' r₁) (Address from) (success_for r.settings from p.session) out') here
      ∙ ap (λ (address : List ℕ). sends done (lapsed_at now' r₁) (Address address) (success_for r.settings address opened) out') (sym its_address)

  -- the same of the step that the accept made
  success_same : (s : Settings) → RouterHolds s x.outcome.state → (now' : ℕ) (m' out' : List ℕ) → now' - now ≤ r.settings.lifetime * r.settings.unit
      → Arrives x.outcome.state now' m' out' v → Again x (requested x.outcome.state now' from m' out') now'
  success_same s h now' m' out' l a =
      let h₁ = subst (λ (y : Step). RouterHolds s y.outcome.state) g.wrote h in
      let a₁ = subst (λ (y : Step). Arrives y.outcome.state now' m' out' v) g.wrote a in
      let message = success_for r.settings (place_of i q'').address opened in
      subst (λ (y : Step). Again y (requested y.outcome.state now' from m' out') now') (sym g.wrote)
      (subst (λ (y : Step). Again (sends done r₁ (Address (place_of i q'').address) message out) y now') (sym (same_success s h₁ now' m' out' l a₁))
      (again_sent r₁ now' (Address (place_of i q'').address) message out out'))

-- THE SAME SUCCESS. The place waits on a request with the fields v; an accept for it is taken at `now`; then that request once more, at a clock at which its
-- stamp is at most W old (`Arrives`) and the session has not lapsed.
pub success_again : (s : Settings) (r : Router) → RouterHolds s r → (now : ℕ) (accept out from : List ℕ) (v : RequestValues) →
    let first = replied r now accept out in
    Waits r from v (slice_index accept 1) → slice_index accept 0 ≡ 2 → first.outcome.answer ≡ done →
    (now' : ℕ) (m out' : List ℕ) → now' - now ≤ r.settings.lifetime * r.settings.unit → Arrives first.outcome.state now' m out' v
    → Again first (requested first.outcome.state now' from m out') now'
success_again s r h now accept out from v w two d now' m out' l a =
    success_same r now out from v (slice_index accept 1) w (replied r now accept out) (accept_done r now accept out two d) s
    (after_holds s r h (reply now accept out)) now' m out' l a
