-- Printing a text, a byte string byte by byte, and a number from its last digit to its first.
use Prim.Native.Nat.{ℕ, zero, suc, ◌+◌, ◌-◌, ◌*◌, ◌/◌, ◌%◌, ◌^◌, ◌≤◌, ◌<◌}
use mathlib.Core.Path.{◌≡◌, refl, sym, ap, ap₂, ◌∙◌}
use mathlib.Core.Bool.{true, false}
use mathlib.Core.List.{List, [], ◌∷◌, ◌++◌}
use native.Mathlib.Omega.{arith}
use native.Mathlib.Nat.{pow-suc}
use native.Mathlib.Numerals.{add-one}
use lib.Dec.{leb}
use lib.ListN.{length, get_or, take, drop, set, length-drop, length-set, drop_of_length-le}
use lib.Seq.{take_all, take-suc, length-take-le, drop-cons, get_or-set_same, drop-set-lt}
use borrow.Author.Tests.{le-leb, leb-false, lt-ltb, le-ltb}
use Rattle.std.proofs.lemmas.List.{append-nil}
use Rattle.std.specs.Fmt.{decimal}
use Rattle.std.proofs.lemmas.Fmt.{decimal_from_prepends, PrependsLastDigit, length-decimal-le}
use Rattle.octets.specs.Put.{put, put_in}
use Rattle.octets.proofs.PutLaws.{put_none, put_two, put_length, put_in_fits, put_in_none, put_in_length}
use Rattle.script.specs.Digits.{glyph_of}
use Rattle.script.specs.Decimal.{decimal_before, decimal_text}
use Rattle.script.specs.Hex.{dash, digit_pairs, hexed}
use Rattle.script.specs.Print.{Printed}

-- digits below 10, and from 10 on
pub glyph_low : (d : ℕ) → d < 10 → glyph_of d ≡ 48 + d
unfolding glyph_of
glyph_low d h = rw (lt-ltb d 10 h)

pub glyph_high : (d : ℕ) → 10 ≤ d → glyph_of d ≡ 87 + d
unfolding glyph_of
glyph_high d h = rw (le-ltb d 10 h)

-- the test of room
pub room_kept : (text l : List ℕ) (at : ℕ) (held : List ℕ) → held ≡ put_in l at text → leb (at + length text) (length held) ≡ leb (at + length text) (length l)
room_kept text l at held e = ap (leb (at + length text)) (ap length e ∙ put_in_length l at text)

-- a text that was put, and one without room
module _ (text l : List ℕ) (at : ℕ) where
  pub printed_put : (held : List ℕ) (r : ℕ) → held ≡ put_in l at text → r ≡ length text → leb (at + length text) (length l) ≡ true → Printed text l at held r
  printed_put held r e n h = record { bytes = e; count = rw (h, n) }

  pub printed_none : (held : List ℕ) → held ≡ put_in l at text → leb (at + length text) (length l) ≡ false → Printed text l at held 0
  printed_none held e h = record { bytes = e; count = rw h }

module _ {text l : List ℕ} {at : ℕ} {held : List ℕ} {r : ℕ} (p : Printed text l at held r) where
  -- the buffer keeps its length
  pub printed_length : length held ≡ length l
  printed_length = ap length p.bytes ∙ put_in_length l at text

-- two digits for a byte
pub pairs_length : (l : List ℕ) → length (digit_pairs l) ≡ 2 * length l
unfolding digit_pairs
pairs_length [] = refl
pairs_length (b ∷ l) = let rest = pairs_length l in omega arith

pairs_append : (a b : List ℕ) → digit_pairs (a ++ b) ≡ digit_pairs a ++ digit_pairs b
unfolding digit_pairs
pairs_append [] b = refl
pairs_append (x ∷ a) b = rw (pairs_append a b)

pairs_next : (l : List ℕ) (i : ℕ) → i < length l
    → digit_pairs (take (i + 1) l) ≡ digit_pairs (take i l) ++ (glyph_of (get_or l i 0 / 16) ∷ glyph_of (get_or l i 0 % 16) ∷ [])
unfolding digit_pairs
pairs_next l i h = rw (add-one, take-suc l i 0 h) (pairs_append (take i l) (get_or l i 0 ∷ []))

-- some bytes, or none
pub hexed_some : (l : List ℕ) → (length l ≡ 0 → ⊥) → hexed l ≡ digit_pairs l
unfolding hexed
hexed_some [] h = absurd (h refl)
hexed_some (b ∷ l) h = refl

pub hexed_none : (l : List ℕ) → length l ≡ 0 → hexed l ≡ dash
unfolding hexed
hexed_none [] e = refl
hexed_none (b ∷ l) e = absurd (omega arith)

-- a byte string without room
pub hexed_long : (value l : List ℕ) (at : ℕ) → (length value ≡ 0 → ⊥) → leb (at + 2 * length value) (length l) ≡ false → Printed (hexed value) l at l 0
hexed_long value l at h e =
    let long : leb (at + length (digit_pairs value)) (length l) ≡ false = rw pairs_length e in
    rw (hexed_some value h)
    (printed_none (digit_pairs value) l at l (sym (put_in_none l at (digit_pairs value) (leb-false (at + length (digit_pairs value)) (length l) long))) long)

-- the first i bytes are printed
pub record Printing (value l : List ℕ) (at : ℕ) (out : List ℕ) (i : ℕ) : Type 0 where
  pub some : length value ≡ 0 → ⊥
  pub room : at + 2 * length value ≤ length l
  pub low : i ≤ length value
  pub is : out ≡ put l at (digit_pairs (take i value))

-- nothing printed yet
pub printing_starts : (value l : List ℕ) (at : ℕ) → (length value ≡ 0 → ⊥) → at + 2 * length value ≤ length l → Printing value l at l 0
unfolding digit_pairs
printing_starts value l at h k = record { some = h; room = k; low = omega arith; is = sym (put_none l at) }

module _ {value l : List ℕ} {at : ℕ} {out : List ℕ} {i : ℕ} (p : Printing value l at out i) where
  -- two digits for each byte; the buffer keeps its length
  so_far : length (digit_pairs (take i value)) ≡ 2 * i
  so_far = pairs_length (take i value) ∙ ap (λ (k : ℕ). 2 * k) (length-take-le i value p.low)

  pub printing_length : length out ≡ length l
  printing_length = ap length p.is ∙ put_length l at (digit_pairs (take i value)) (omega (arith, so_far, p.room, p.low))

  -- a byte more; all printed
  pub printing_next : (high low : ℕ) → i < length value → high ≡ glyph_of (get_or value i 0 / 16) → low ≡ glyph_of (get_or value i 0 % 16)
      → Printing value l at (set (set out (at + 2 * i) high) (at + 2 * i + 1) low) (i + 1)
  printing_next high low h e₁ e₂ =
      let k : 2 * i ≡ length (digit_pairs (take i value)) = sym so_far in
      record {
        some = p.some;
        room = p.room;
        low = omega arith;
        is = rw (p.is, k, e₁, e₂, pairs_next value i h)
            (put_two l at (digit_pairs (take i value)) (glyph_of (get_or value i 0 / 16)) (glyph_of (get_or value i 0 % 16)) (omega (arith, p.room)));
      }

  pub printing_ends : length value ≤ i → Printed (hexed value) l at out (2 * length value)
  printing_ends h =
      let all : take i value ≡ value = take_all i value h in
      let text : hexed value ≡ digit_pairs value = hexed_some value p.some in
      let long = pairs_length value in
      let fits : at + length (digit_pairs value) ≤ length l = omega (arith, p.room) in
      rw text
      (printed_put (digit_pairs value) l at out (2 * length value)
      (p.is ∙ ap (λ (v : List ℕ). put l at (digit_pairs v)) all ∙ sym (put_in_fits l at (digit_pairs value) fits))
      (sym long) (le-leb (at + length (digit_pairs value)) (length l) fits))

-- a number's digits, from the last to the first: they stand from `first` on, and `left` is what they leave of it
pub record Spelling (n : ℕ) (text : List ℕ) (first left : ℕ) : Type 0 where
  pub long : length text ≡ 20
  pub low : 0 < first
  pub high : first ≤ 20
  pub small : left < 10 ^ first
  pub is : decimal_text n ≡ decimal_before first left (drop first text)

-- no digit yet
pub spelling_starts : (n : ℕ) (text : List ℕ) → length text ≡ 20 → n < 2 ^ 64 → Spelling n text 20 n
unfolding decimal_text
spelling_starts n text e h =
    record {
      long = e;
      low = omega arith;
      high = omega arith;
      small = omega arith;
      is = rw (drop_of_length-le text {i = 20} (omega arith));
    }

-- a number of two digits or more needs room for two
two_digits : (n k : ℕ) → n < 10 ^ k → 10 ≤ n → 1 < k
two_digits n zero h t = absurd (omega arith)
two_digits n (suc zero) h t = absurd (omega arith)
two_digits n (suc (suc k)) h t = omega arith

-- from a byte that was stored on
drop_set : (l : List ℕ) (i b : ℕ) → i < length l → drop i (set l i b) ≡ b ∷ drop (suc i) l
drop_set l i b h =
    drop-cons (set l i b) i 0 (rw length-set h) ∙ ap₂ ◌∷◌ (get_or-set_same l i b 0 h) (drop-set-lt (suc i) l i b (omega arith))

-- of two digits or more, and of one
pub before_more : (f n : ℕ) (text : List ℕ) → 10 ≤ n → decimal_before (suc f) n text ≡ decimal_before f (n / 10) (glyph_of (n % 10) ∷ text)
unfolding decimal_before
before_more f n text h = rw (le-ltb n 10 h)

pub before_last : (f n : ℕ) (text : List ℕ) → n < 10 → decimal_before (suc f) n text ≡ glyph_of n ∷ text
unfolding decimal_before
before_last f n text h = rw (lt-ltb n 10 h)

module _ {n : ℕ} {text : List ℕ} {first left : ℕ} (s : Spelling n text first left) where
  one_less : first ≡ suc (first - 1)
  one_less = omega (arith, s.low)

  put_first : (b : ℕ) → drop (first - 1) (set text (first - 1) b) ≡ b ∷ drop (suc (first - 1)) text
  put_first b = drop_set text (first - 1) b (omega (arith, s.low, s.high, s.long))

  -- room for a digit more; that digit; the first digit
  pub spelling_more : 10 ≤ left → 1 < first
  spelling_more h = two_digits left first s.small h

  pub spelling_next : (b : ℕ) → 10 ≤ left → b ≡ glyph_of (left % 10) → Spelling n (set text (first - 1) b) (first - 1) (left / 10)
  spelling_next b h e =
      let more = spelling_more h in
      let small : left < 10 ^ suc (first - 1) = rw one_less at s.small in
      record {
        long = length-set text (first - 1) b ∙ s.long;
        low = omega arith;
        high = omega (arith, s.high);
        small = let p : left < 10 ^ (first - 1) * 10 = rw pow-suc at small in omega arith;
        is = (rw one_less at s.is)
            ∙ before_more (first - 1) left (drop (suc (first - 1)) text) h
            ∙ ap (decimal_before (first - 1) (left / 10)) (ap (λ (g : ℕ). g ∷ drop (suc (first - 1)) text) (sym e) ∙ sym (put_first b));
      }

  pub spelling_ends : (b : ℕ) → left < 10 → b ≡ glyph_of left → decimal_text n ≡ take (20 - (first - 1)) (drop (first - 1) (set text (first - 1) b))
  spelling_ends b h e =
      let short : length (drop (first - 1) (set text (first - 1) b)) ≤ 20 - (first - 1) = rw (length-drop, length-set) (omega (arith, s.long)) in
      (rw one_less at s.is)
      ∙ before_last (first - 1) left (drop (suc (first - 1)) text) h
      ∙ ap (λ (g : ℕ). g ∷ drop (suc (first - 1)) text) (sym e)
      ∙ sym (put_first b)
      ∙ sym (take_all (20 - (first - 1)) (drop (first - 1) (set text (first - 1) b)) short)

-- std's digits of a number, put before a text
decimal_prepends : PrependsLastDigit decimal_before
decimal_prepends = record {
  one = λ k n acc h. before_last k n acc h ∙ rw (glyph_low n h) refl;
  more = λ k n acc h. before_more k n acc h ∙ rw (glyph_low (n % 10) (omega arith)) refl;
}

-- what std writes for a number, which has 64 bits at most
pub decimal_text_is : (n : ℕ) → n < 2 ^ 64 → decimal_text n ≡ decimal n
unfolding decimal_text
decimal_text_is n h = decimal_from_prepends decimal_before decimal_prepends 20 n [] h (length-decimal-le 20 n (omega arith) (omega arith) h) ∙ append-nil (decimal n)
