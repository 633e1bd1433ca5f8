-- Reading a byte string from hex, a byte for two digits.
use Prim.Native.Nat.{ℕ, zero, suc, ◌+◌, ◌*◌, ◌/◌, ◌%◌, ◌≤◌, ◌<◌}
use mathlib.Core.Path.{◌≡◌, refl, sym, ap, ◌∙◌}
use mathlib.Core.Bool.{Bool, true, false}
use mathlib.Core.List.{List, [], ◌∷◌}
use Rattle.std.proofs.Common.{Option, Some, None}
use Rattle.std.specs.Bool.{then_some}
use native.Mathlib.Omega.{arith}
use native.Mathlib.Nat.{zero-add}
use lib.Dec.{leb, ltb, eqb}
use lib.Pointwise.{pointwise}
use lib.ListN.{length, get_or, take, set}
use lib.Seq.{take_all, length-take-le}
use borrow.Author.Tests.{lt-ltb, le-ltb, eq-eqb, ne_eqb, eqb-true, le-leb, lt-leb}
use Rattle.octets.specs.Choice.{both}
use Rattle.octets.specs.Same.{same_bytes}
use Rattle.octets.specs.Put.{put}
use Rattle.octets.proofs.ChoiceLaws.{never, both_left, both_right, both_none}
use Rattle.octets.proofs.PutLaws.{put_none, put_next, put_length, put_in_fits}
use Rattle.script.specs.Digits.{digit_of, are_digits}
use Rattle.script.specs.Hex.{dash, unhexed, is_hex, hex_of, size_of, fitting, held_in, ReadInto}
use Rattle.script.proofs.DigitLaws.{digits_each}

-- half as many bytes as digits
pub unhexed_length : (w : List ℕ) → length (unhexed w) ≡ length w / 2
unfolding unhexed
unhexed_length [] = refl
unhexed_length (a ∷ []) = refl
unhexed_length (a ∷ b ∷ w) = let rest = unhexed_length w in omega arith

-- the byte i is made of the digits 2 * i and 2 * i + 1
unhexed_at : (w : List ℕ) (i : ℕ) → 2 * i + 1 < length w
    → get_or (unhexed w) i 0 ≡ digit_of (get_or w (2 * i) 0) * 16 + digit_of (get_or w (2 * i + 1) 0)
unfolding unhexed
unhexed_at [] i h = absurd (omega arith)
unhexed_at (a ∷ []) i h = absurd (omega arith)
unhexed_at (a ∷ b ∷ w) zero h = refl
unhexed_at (a ∷ b ∷ w) (suc i) h =
    let high : 2 * suc i ≡ suc (suc (2 * i)) = omega arith in
    let low : 2 * suc i + 1 ≡ suc (suc (2 * i + 1)) = omega arith in
    rw (low, high) (unhexed_at w i (omega arith))

-- whether a word is hex, test by test; and its size
module _ (w : List ℕ) where
  pub hex_empty : length w ≡ 0 → is_hex w ≡ false
  unfolding is_hex
  hex_empty h = rw (le-ltb 0 (length w) (omega arith))

  pub hex_odd : (length w % 2 ≡ 0 → ⊥) → is_hex w ≡ false
  unfolding is_hex
  hex_odd h = rw (ne_eqb (length w % 2) 0 h, both_none)

  pub hex_even : (length w ≡ 0 → ⊥) → length w % 2 ≡ 0 → is_hex w ≡ are_digits 16 w
  unfolding is_hex
  hex_even p q = rw (lt-ltb 0 (length w) (omega arith), eq-eqb (length w % 2) 0 q)

  pub size_dash : same_bytes w dash ≡ true → size_of (hex_of w) ≡ Some 0
  unfolding hex_of size_of
  size_dash e = rw e

  not_hex : same_bytes w dash ≡ false → is_hex w ≡ false → size_of (hex_of w) ≡ None
  unfolding hex_of size_of
  not_hex e h = rw (e, h)

  pub size_hex : same_bytes w dash ≡ false → is_hex w ≡ true → size_of (hex_of w) ≡ Some (length w / 2)
  unfolding hex_of size_of
  size_hex e h = rw (e, h) (ap Some (unhexed_length w))

  pub size_other : same_bytes w dash ≡ false → then_some (is_hex w) (length w / 2) ≡ size_of (hex_of w)
  size_other e = go (is_hex w) refl
    where
      go : (t : Bool) → is_hex w ≡ t → then_some t (length w / 2) ≡ size_of (hex_of w)
      go true h = sym (size_hex e h)
      go false h = sym (not_hex e h)

-- a word that says n bytes: they, and the digits of each
pub record Says (word : List ℕ) (n : ℕ) : Type 0 where
  pub bytes : List ℕ
  pub is : hex_of word ≡ Some bytes
  pub long : length bytes ≡ n
  pub even : (i : ℕ) → i < n → 2 * i + 1 < length word
  pub digits : (i : ℕ) → i < n → (k : ℕ) → k < length word → digit_of (get_or word k 0) < 16
  pub each : (i : ℕ) → i < n → get_or bytes i 0 ≡ digit_of (get_or word (2 * i) 0) * 16 + digit_of (get_or word (2 * i + 1) 0)

-- of no byte, and of digits in pairs
says_none : (word : List ℕ) (n : ℕ) → hex_of word ≡ Some [] → 0 ≡ n → Says word n
says_none word n e z =
    record {
      bytes = [];
      is = e;
      long = z;
      even = λ i h. absurd (omega arith);
      digits = λ i h. absurd (omega arith);
      each = λ i h. absurd (omega arith);
    }

says_hex : (word : List ℕ) (n : ℕ) → is_hex word ≡ true → hex_of word ≡ Some (unhexed word) → length (unhexed word) ≡ n → Says word n
unfolding is_hex
says_hex word n h e k =
    let rest = both_right (ltb 0 (length word)) (both (eqb (length word % 2) 0) (are_digits 16 word)) h in
    let even = eqb-true (length word % 2) 0 (both_left (eqb (length word % 2) 0) (are_digits 16 word) rest) in
    let all = both_right (eqb (length word % 2) 0) (are_digits 16 word) rest in
    let long = unhexed_length word in
    record {
      bytes = unhexed word;
      is = e;
      long = k;
      even = λ i lt. omega arith;
      digits = λ i lt j at. digits_each 16 word all j at;
      each = λ i lt. unhexed_at word i (omega arith);
    }

-- the size of what a word says; where it is bad, the word says nothing
size_some : (l : List ℕ) → size_of (Some l) ≡ Some (length l)
unfolding size_of
size_some l = refl

size_none : (o : Option (List ℕ)) → size_of o ≡ None → o ≡ None
unfolding size_of
size_none None e = refl
size_none (Some l) e = never cc

-- a dash says no byte, and digits in pairs say bytes
pub hex_dash : (w : List ℕ) → same_bytes w dash ≡ true → hex_of w ≡ Some []
unfolding hex_of
hex_dash w e = rw e

pub hex_some : (w : List ℕ) → same_bytes w dash ≡ false → is_hex w ≡ true → hex_of w ≡ Some (unhexed w)
unfolding hex_of
hex_some w e h = rw (e, h)

-- a word of which the size is known says that many
says_by : (word : List ℕ) (n : ℕ) (s h : Bool) → same_bytes word dash ≡ s → is_hex word ≡ h → size_of (hex_of word) ≡ Some n → Says word n
says_by word n true h e k q =
    let is = hex_dash word e in
    let long : 0 ≡ n = cc (size_some []) in
    says_none word n is long
says_by word n false true e k q =
    let is = hex_some word e k in
    let long : length (unhexed word) ≡ n = cc (size_some (unhexed word)) in
    says_hex word n k is long
says_by word n false false e k q =
    let bad = not_hex word e k in
    never cc

pub says : (word : List ℕ) (n : ℕ) → size_of (hex_of word) ≡ Some n → Says word n
says word n q = says_by word n (same_bytes word dash) (is_hex word) refl refl q

-- the first i bytes are read
pub record Reading (word l : List ℕ) (n : ℕ) (out : List ℕ) (i : ℕ) : Type 0 where
  pub said : Says word n
  pub room : n ≤ length l
  pub low : i ≤ n
  pub is : out ≡ put l 0 (take i said.bytes)

-- nothing read yet
pub reading_starts : (word l : List ℕ) (n : ℕ) → size_of (hex_of word) ≡ Some n → n ≤ length l → Reading word l n l 0
reading_starts word l n e h = record { said = says word n e; room = h; low = omega arith; is = sym (put_none l 0) }

module _ {word l : List ℕ} {n : ℕ} {out : List ℕ} {i : ℕ} (r : Reading word l n out i) where
  first : length (take i r.said.bytes) ≡ i
  first = length-take-le i r.said.bytes (omega (arith, r.said.long, r.low))

  -- the buffer keeps its length
  pub reading_length : length out ≡ length l
  reading_length = ap length r.is ∙ put_length l 0 (take i r.said.bytes) (omega (arith, first, r.room, r.low))

  -- the digits of the next byte; that byte; all read
  pub reading_there : i < n → 2 * i + 1 < length word
  reading_there h = r.said.even i h

  pub reading_digit : i < n → (k : ℕ) → k < length word → digit_of (get_or word k 0) < 16
  reading_digit h = r.said.digits i h

  pub reading_next : (b : ℕ) → i < n → b ≡ digit_of (get_or word (2 * i) 0) * 16 + digit_of (get_or word (2 * i + 1) 0) → Reading word l n (set out i b) (i + 1)
  reading_next b h e =
      let v = r.said.bytes in
      let next = put_next l 0 v i (omega (arith, r.said.long)) (omega (arith, r.room)) in
      record {
        said = r.said;
        room = r.room;
        low = omega arith;
        is = rw (r.is, e, ← r.said.each i h) (rw zero-add at next);
      }

  pub reading_ends : n ≤ i → ReadInto word l out (Some n)
  unfolding fitting size_of held_in
  reading_ends h =
      let v = r.said.bytes in
      let all : take i v ≡ v = take_all i v (omega (arith, r.said.long)) in
      let fits : length v ≤ length l = omega (arith, r.said.long, r.room) in
      record {
        answer = rw (r.said.is, le-leb (length v) (length l) fits) (ap Some (sym r.said.long));
        bytes = rw (r.said.is, le-leb (length v) (length l) fits)
            (r.is ∙ ap (put l 0) all ∙ sym (put_in_fits l 0 v (rw zero-add fits)));
      }

-- what is refused leaves the buffer
pub unhex_bad : (word l : List ℕ) → size_of (hex_of word) ≡ None → ReadInto word l l None
unfolding fitting size_of held_in
unhex_bad word l e = let is = size_none (hex_of word) e in record { answer = rw is; bytes = rw is }

pub unhex_long : (word l : List ℕ) (n : ℕ) → size_of (hex_of word) ≡ Some n → length l < n → ReadInto word l l None
unfolding fitting size_of held_in
unhex_long word l n e h =
    let s = says word n e in
    let long : leb (length s.bytes) (length l) ≡ false = lt-leb (length s.bytes) (length l) (omega (arith, s.long)) in
    record { answer = rw (s.is, long); bytes = rw (s.is, long) }
