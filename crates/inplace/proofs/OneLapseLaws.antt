-- A lapse of one place, step by step: its 89 bytes are altered, and no other.
use Prim.Native.Nat.{ℕ, ◌+◌, ◌≤◌}
use mathlib.Core.Bool.{Bool, true, false}
use mathlib.Core.List.{List}
use mathlib.Core.Path.{◌≡◌, sym, ap, subst, ◌∙◌}
use native.Mathlib.Nat.{add-zero}
use lib.Dec.{lit<, lit≤}
use lib.ListN.{length, get_or, take, drop, replicate, length-replicate}
use Rattle.octets.specs.Numbers.{number_of}
use Rattle.octets.specs.Put.{put_in}
use Rattle.clock.specs.Clock.{is_stale, is_over}
use Rattle.laid.specs.Field.{flag_of, number_at}
use Rattle.inplace.specs.Change.{blanked, attempt_gone, session_gone, lapsed_bytes}
use Rattle.inplace.proofs.AlterLaws.{Alters, alters_none, alters_put, alters_more, alters_part, alters_byte}

module _ {s : List ℕ} {at : ℕ} {after b : List ℕ} (w : Alters s at after b) where
  -- zeros among these bytes, by tests that agree
  alters_blank : (o n : ℕ) (g goes : Bool) {next : List ℕ} → o + n ≤ 89 → g ≡ goes → next ≡ blanked g (at + o) n after → Alters s at next (blanked goes o n b)
  unfolding blanked
  alters_blank o n g true {next} h e q =
      let fits : o + length {A = ℕ} (replicate n 0) ≤ 89 = simp length-replicate h in
      subst (λ (x : List ℕ). Alters s at x (put_in b o (replicate n 0))) (sym (rw e at q)) (alters_more w o (replicate n 0) fits)
  alters_blank o n g false {next} h e q = subst (λ (x : List ℕ). Alters s at x b) (sym (rw e at q)) w

  -- a number among them
  alters_number : (o : ℕ) {n : ℕ} → o + 8 ≤ 89 → n ≡ number_at 8 (at + o) after → n ≡ number_at 8 o b
  alters_number o h q = q ∙ ap number_of (alters_part w 8 o h)

module _ (now window lifetime unit : ℕ) where
  module _ {s : List ℕ} {at : ℕ} {after b : List ℕ} (w : Alters s at after b) {n : ℕ} {g : Bool} {next : List ℕ} where
    -- a stale attempt goes
    pub attempt_goes : n ≡ number_at 8 (at + 16) after → g ≡ is_stale now n window → next ≡ blanked g (at + 15) 25 after
        → Alters s at next (attempt_gone now window b)
    unfolding attempt_gone
    attempt_goes e q r =
        alters_blank w 15 25 g (is_stale now (number_at 8 16 b) window) (lit≤ tt)
        (q ∙ ap (λ (m : ℕ). is_stale now m window) (alters_number w 16 (lit≤ tt) e)) r

    -- a session that is over goes
    pub session_goes : n ≡ number_at 8 (at + 81) after → g ≡ is_over now n lifetime unit → next ≡ blanked g (at + 40) 49 after
        → Alters s at next (session_gone now lifetime unit b)
    unfolding session_gone
    session_goes e q r =
        alters_blank w 40 49 g (is_over now (number_at 8 81 b) lifetime unit) (lit≤ tt)
        (q ∙ ap (λ (m : ℕ). is_over now m lifetime unit) (alters_number w 81 (lit≤ tt) e)) r

    -- a place whose last stamp is stale goes
    place_goes : n ≡ number_at 8 (at + 7) after → g ≡ is_stale now n window → next ≡ blanked g at 89 after
        → Alters s at next (blanked (is_stale now (number_at 8 7 b) window) 0 89 b)
    place_goes e q r =
        alters_blank w 0 89 g (is_stale now (number_at 8 7 b) window) (lit≤ tt)
        (q ∙ ap (λ (m : ℕ). is_stale now m window) (alters_number w 7 (lit≤ tt) e))
        (r ∙ ap (λ (k : ℕ). blanked g k 89 after) (sym (add-zero at)))

  module _ (s : List ℕ) (at : ℕ) (room : at + 89 ≤ length s) where
    -- the bytes of the place
    abbrev b : List ℕ
    b = take 89 (drop at s)

    -- the bytes with no attempt and no session that has lapsed
    abbrev left : List ℕ
    left = session_gone now lifetime unit (attempt_gone now window b)

    -- the flag of the place
    is_taken : {f t : Bool} → f ≡ flag_of (get_or s at 0) → f ≡ t → flag_of (get_or b 0 0) ≡ t
    is_taken e q =
        ap flag_of (sym (alters_byte (alters_none s at room) 0 (lit< tt)) ∙ ap (λ (k : ℕ). get_or s k 0) (add-zero at)) ∙ sym e ∙ q

    -- a place that is not taken stays
    pub free_stays : {f : Bool} → f ≡ flag_of (get_or s at 0) → f ≡ false → s ≡ put_in s at (lapsed_bytes now window lifetime unit b)
    unfolding lapsed_bytes
    free_stays e q = rw (is_taken e q) (alters_put (alters_none s at room))

    module _ {f : Bool} (e : f ≡ flag_of (get_or s at 0)) (q : f ≡ true) {after : List ℕ} (w : Alters s at after left) {live : Bool}
        (l : live ≡ flag_of (get_or after (at + 40) 0)) where
      -- the flag of its session
      is_live : {t : Bool} → live ≡ t → flag_of (get_or left 40 0) ≡ t
      is_live r = ap flag_of (sym (alters_byte w 40 (lit< tt))) ∙ sym l ∙ r

      -- one with a session that is left stays otherwise
      pub open_stays : live ≡ true → after ≡ put_in s at (lapsed_bytes now window lifetime unit b)
      unfolding lapsed_bytes
      open_stays r = rw (is_taken e q, is_live r) (alters_put w)

      -- one without goes where its last stamp is stale
      pub closed_goes : {n : ℕ} {g : Bool} {next : List ℕ} → live ≡ false → n ≡ number_at 8 (at + 7) after → g ≡ is_stale now n window
          → next ≡ blanked g at 89 after → next ≡ put_in s at (lapsed_bytes now window lifetime unit b)
      unfolding lapsed_bytes
      closed_goes r k h z = rw (is_taken e q, is_live r) (alters_put (place_goes w k h z))
