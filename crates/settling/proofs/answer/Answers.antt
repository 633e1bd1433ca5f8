-- `answer` meets its contract: one law for each way.
use Rattle.std.specs.Prelude.{ℕ, ◌≡◌, Bool, List, slice_index, take}
use mathlib.Core.Path.{sym, ap, ◌∙◌}
use borrow.Author.Tests.{eq-eqb, ne_eqb}
use Rattle.held.specs.Held.{held_bytes}
use Rattle.authenticator.specs.Authenticator.{is_authentic}
use Rattle.places.specs.declared.place.Place.{Place}
use Rattle.places.specs.declared.state.Router.{Router}
use Rattle.places.specs.declared.state.Settings.{Settings}
use Rattle.turn.specs.Outcome.{place_of}
use Rattle.turn.proofs.TurnLaws.{turned_still}
use Rattle.settling.specs.Reply.{awaits, is_reply}
use Rattle.settling.proofs.ReplyLaws.{answer_code, answer_none, answer_wrong, answer_accept, answer_reject}
use Rattle.settling.proofs.answer.Goals as goal

-- what the calls say of the message's bytes
by_code : (m : List ℕ) (code : ℕ) {r b : Bool} → code ≡ slice_index m 0 → r ≡ is_reply code → r ≡ b → is_reply (slice_index m 0) ≡ b
by_code m code is told e = ap is_reply (sym is) ∙ sym told ∙ e

-- whether the place waits, of a router that has the place
by_place : (m : List ℕ) (p : Place) (i : ℕ) {r b : Bool} → i ≡ slice_index m 1 → ((q : Router) → place_of i q ≡ p → r ≡ awaits q i) → r ≡ b
    → (q : Router) → place_of (slice_index m 1) q ≡ p → awaits q (slice_index m 1) ≡ b
by_place m p i is told e q k = ap (awaits q) (sym is) ∙ sym (told q (ap (λ (n : ℕ). place_of n q) is ∙ k)) ∙ e

-- whether the Authenticator is right, of a router with these settings
by_secret : (settings : Settings) (m part : List ℕ) (end : ℕ) {r b : Bool} → part ≡ take end m → r ≡ is_authentic (held_bytes settings.secret) part → r ≡ b
    → (q : Router) → q.settings ≡ settings → is_authentic (held_bytes q.settings.secret) (take end m) ≡ b
by_secret settings m part end is told t q e =
    ap (λ (s : Settings). is_authentic (held_bytes s.secret) (take end m)) e
    ∙ ap (is_authentic (held_bytes settings.secret)) (sym is) ∙ sym told ∙ t

pub returns-then-not-is_reply : goal.returns-then-not-is_reply
returns-then-not-is_reply c =
    let code = by_code c.args.m.now _ c.byte_at-code.ensures c.is_reply.ensures c.if-not-is_reply.true in
    record { leaves = λ q e k. answer_code q _ _ _ _ code (turned_still q _ k c.refused.ensures) }

pub returns-then-not-awaits : goal.returns-then-not-awaits
returns-then-not-awaits c =
    let code = by_code c.args.m.now _ c.byte_at-code.ensures c.is_reply.ensures c.if-not-is_reply.false in
    let waits = by_place c.args.m.now c.args.p _ c.byte_at-i.ensures c.awaits.ensures c.if-not-awaits.true in
    record { leaves = λ q e k. answer_none q _ _ _ _ code (waits q k) (turned_still q _ k c.refused-then-not-awaits.ensures) }

pub returns-then-not-is_authentic : goal.returns-then-not-is_authentic
returns-then-not-is_authentic c =
    let a = c.args in
    let code = by_code a.m.now _ c.byte_at-code.ensures c.is_reply.ensures c.if-not-is_reply.false in
    let waits = by_place a.m.now a.p _ c.byte_at-i.ensures c.awaits.ensures c.if-not-awaits.false in
    let right = by_secret a.settings a.m.now _ a.end c.part.ensures (rw c.as_slice.ensures at c.is_authentic.ensures) c.if-not-is_authentic.true in
    record { leaves = λ q e k. answer_wrong q _ _ _ _ code (waits q k) (right q e) (turned_still q _ k c.refused-then-not-is_authentic.ensures) }

pub returns-then-code-eq2 : goal.returns-then-code-eq2
returns-then-code-eq2 c =
    let a = c.args in
    let code = by_code a.m.now _ c.byte_at-code.ensures c.is_reply.ensures c.if-not-is_reply.false in
    let waits = by_place a.m.now a.p _ c.byte_at-i.ensures c.awaits.ensures c.if-not-awaits.false in
    let right = by_secret a.settings a.m.now _ a.end c.part.ensures (rw c.as_slice.ensures at c.is_authentic.ensures) c.if-not-is_authentic.false in
    record {
      leaves =
          λ q e k.
          answer_accept q _ _ _ _ code (waits q k) (right q e) k
          (eq-eqb _ 2 (sym c.byte_at-code.ensures ∙ c.if-code-eq2.true)) (c.accept.ensures.leaves q e k);
    }

pub returns-else-code-eq2 : goal.returns-else-code-eq2
returns-else-code-eq2 c =
    let a = c.args in
    let code = by_code a.m.now _ c.byte_at-code.ensures c.is_reply.ensures c.if-not-is_reply.false in
    let waits = by_place a.m.now a.p _ c.byte_at-i.ensures c.awaits.ensures c.if-not-awaits.false in
    let right = by_secret a.settings a.m.now _ a.end c.part.ensures (rw c.as_slice.ensures at c.is_authentic.ensures) c.if-not-is_authentic.false in
    record {
      leaves =
          λ q e k.
          answer_reject q _ _ _ _ code (waits q k) (right q e) k
          (ne_eqb _ 2 (λ n. c.if-code-eq2.false (c.byte_at-code.ensures ∙ n)))
          ((c.reject.ensures a.settings).leaves q e k);
    }
