-- One object: its bytes, how many they are, and putting them.
use Prim.Native.Nat.{ℕ, ◌+◌, ◌≤◌, ◌<◌}
use mathlib.Core.Bool.{Bool, true, false}
use mathlib.Core.List.{List, [], ◌∷◌, ◌++◌, append-nil}
use mathlib.Core.Path.{◌≡◌, refl, sym, ap, ◌∙◌}
use native.Mathlib.Omega.{arith}
use lib.Dec.{leb}
use lib.ListN.{length, set}
use borrow.Author.Tests.{le-leb, lt-leb, leb-true, leb-false}
use Rattle.octets.specs.Put.{put, put_in}
use Rattle.octets.proofs.ChoiceLaws.{pick_all, pick_true, pick_false}
use Rattle.octets.proofs.PutLaws.{set_two, put_put, put_length, put_in_fits, put_in_none, put_in_nothing, put_in_length}
use Rattle.message.specs.Writing.{object_bytes, Object, object, encoded, Starts, Placed}

-- the bytes of an object
pub object_bytes_law : (t : ℕ) (v : List ℕ) → length v ≤ 253 → object_bytes t v ≡ t ∷ (2 + length v) ∷ v
unfolding object_bytes
object_bytes_law t v h = rw (le-leb (length v) 253 h)

-- a value of more than 253 bytes has no object
pub object_none : (t : ℕ) (v : List ℕ) → 253 < length v → object_bytes t v ≡ []
unfolding object_bytes
object_none t v h = rw (lt-leb (length v) 253 h)

-- how many they are, and how many at most
pub object_size : (t : ℕ) (v : List ℕ) → length v ≤ 253 → length (object_bytes t v) ≡ 2 + length v
object_size t v h = ap length (object_bytes_law t v h) ∙ omega arith

pub object_length : (t : ℕ) (v : List ℕ) → length (object_bytes t v) ≤ 255
unfolding object_bytes
object_length t v =
    pick_all (λ (l : List ℕ). length l ≤ 255) (leb (length v) 253) (t ∷ (2 + length v) ∷ v) []
    (λ e. omega (arith, leb-true (length v) 253 e)) (λ _. omega arith)

-- for a value of at most k bytes
pub object_most : (k t : ℕ) (v : List ℕ) → length v ≤ k → length (object_bytes t v) ≤ 2 + k
unfolding object_bytes
object_most k t v h =
    pick_all (λ (l : List ℕ). length l ≤ 2 + k) (leb (length v) 253) (t ∷ (2 + length v) ∷ v) [] (λ _. omega arith) (λ _. omega arith)

-- one object alone
pub encoded_one : (t : ℕ) (v : List ℕ) → encoded (object t v ∷ []) ≡ object_bytes t v
unfolding encoded
encoded_one t v = append-nil (object_bytes t v)

-- `start_object`: the whole object has room, or has none
pub starts_two : (l : List ℕ) (at t n : ℕ) → at + (2 + n) ≤ length l → Starts l at t n (set (set l at t) (at + 1) (n + 2)) true
starts_two l at t n h =
    let e : n + 2 ≡ 2 + n = omega arith in
    record { room = sym (le-leb (at + (2 + n)) (length l) h); left = rw e (set_two l at t (2 + n) (omega arith)) }

pub starts_none : (l : List ℕ) (at t n : ℕ) → length l < at + (2 + n) → Starts l at t n l false
starts_none l at t n h = record { room = sym (lt-leb (at + (2 + n)) (length l) h); left = refl }

-- the start of an object and its value are the object
module _ {before middle : List ℕ} {at t n : ℕ} {r : Bool} (s : Starts before at t n middle r) (v : List ℕ) (size : length v ≡ n) (few : n ≤ 253) where
  object_is : object_bytes t v ≡ (t ∷ (2 + n) ∷ []) ++ v
  object_is = rw (← size) (object_bytes_law t v (omega arith))

  pub start_room : r ≡ true → at + (2 + n) ≤ length before
  start_room e = leb-true (at + (2 + n)) (length before) (sym s.room ∙ e)

  placed : {after : List ℕ} → after ≡ put_in before at (object_bytes t v) → Placed before at (object t v ∷ []) after (n + 2)
  placed e = record { size = rw encoded_one (sym (object_size t v (omega arith) ∙ omega arith)); few = omega arith; left = rw encoded_one e }

  pub start_then : {after : List ℕ} → r ≡ true → after ≡ put_in middle (at + 2) v → Placed before at (object t v ∷ []) after (n + 2)
  start_then {after} e p =
      let h = start_room e in
      let m : middle ≡ put before at (t ∷ (2 + n) ∷ []) = s.left ∙ pick_true r (put before at (t ∷ (2 + n) ∷ [])) before e in
      let same : length (put before at (t ∷ (2 + n) ∷ [])) ≡ length before = put_length before at (t ∷ (2 + n) ∷ []) (omega arith) in
      placed
      (p ∙ rw (m, object_is)
      (put_in_fits (put before at (t ∷ (2 + n) ∷ [])) (at + 2) v (omega arith)
      ∙ put_put before at (t ∷ (2 + n) ∷ []) v (omega arith)
      ∙ sym (put_in_fits before at ((t ∷ (2 + n) ∷ []) ++ v) (omega arith))))

  pub start_none : {after : List ℕ} → r ≡ false → after ≡ middle → Placed before at (object t v ∷ []) after (n + 2)
  start_none e p =
      let h : length before < at + (2 + n) = leb-false (at + (2 + n)) (length before) (sym s.room ∙ e) in
      placed
      (p ∙ s.left ∙ pick_false r (put before at (t ∷ (2 + n) ∷ [])) before e
      ∙ rw object_is (sym (put_in_none before at ((t ∷ (2 + n) ∷ []) ++ v) (omega arith))))

-- where there is nothing to put
pub placed_nothing : (before : List ℕ) (at : ℕ) (os : List Object) → encoded os ≡ [] → Placed before at os before 0
placed_nothing before at os e = record { size = rw e; few = omega arith; left = rw e (sym (put_in_nothing before at)) }

pub placed_none : (before : List ℕ) (at t : ℕ) (v : List ℕ) → 253 < length v → Placed before at (object t v ∷ []) before 0
placed_none before at t v h = placed_nothing before at (object t v ∷ []) (encoded_one t v ∙ object_none t v h)

-- the buffer keeps its length
pub placed_length : {before after : List ℕ} {at r : ℕ} {os : List Object} → Placed before at os after r → length after ≡ length before
placed_length {before} {after} {at} {r} {os} p = ap length p.left ∙ put_in_length before at (encoded os)
