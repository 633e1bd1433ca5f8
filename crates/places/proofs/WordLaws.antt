-- The occupancy word, bit by bit: what it says of each place, how many it counts, and which is the lowest free.
use Prim.Native.Nat.{ℕ, zero, suc, ◌+◌, ◌-◌, ◌*◌, ◌/◌, ◌%◌, ◌^◌, ◌<◌, ◌≤◌}
use native.Mathlib.Omega.{arith}
use native.Mathlib.Numerals.{add-one}
use native.Mathlib.Nat.{pow-suc, pow-succ', mod-eq_of_lt, lt_of_lt_of_le, div-one, div-div-eq-div-mul, not-suc-le-zero, le_of_suc-le-suc, le_antisymm, lt_of_not-le}
use mathlib.Core.Path.{◌≡◌, refl, sym, ap, ◌∙◌}
use mathlib.Core.List.{List, [], ◌∷◌}
use mathlib.Core.Bool.{Bool, true, false}
use lib.Arith.{digits_div, digits_mod}
use lib.Bits.{bit_or, or_shifted}
use lib.Count.{ones, ones_step, count_trailing_zeros, under}
use lib.Dec.{lit<}
use lib.ListN.{length, drop, get_or, length-drop, drop_of_length-le}
use lib.Pow.{pow_mono}
use lib.Seq.{drop-cons}
use Rattle.octets.specs.Choice.{pick, bit_of}
use Rattle.octets.proofs.ChoiceLaws.{not_both}
use Rattle.places.specs.declared.place.Place.{Place}
use Rattle.places.specs.Place.{fresh_place, no_place}
use Rattle.places.specs.State.{word_of, count_of, lowest_free}

-- a bit is 0 or 1
bit_small : (b : Bool) → bit_of b < 2
bit_small true = lit< tt
bit_small false = lit< tt

-- the word has a bit for each place and no more
pub word_small : (ps : List Place) → word_of ps < 2 ^ length ps
unfolding word_of
word_small [] = lit< tt
word_small (p ∷ ps) = rw (pow-suc 2 (length ps)) (omega (arith, word_small ps, bit_small p.taken))

-- the word without its lowest bit, and that bit
half : (p : Place) (ps : List Place) → word_of (p ∷ ps) / 2 ≡ word_of ps
unfolding word_of
half p ps = digits_div (word_of ps) (bit_small p.taken)

low : (p : Place) (ps : List Place) → word_of (p ∷ ps) % 2 ≡ bit_of p.taken
unfolding word_of
low p ps = digits_mod (word_of ps) (bit_small p.taken)

-- bit i is set exactly where place i is taken
pub word_bit : (ps : List Place) (i : ℕ) → i < length ps → word_of ps / 2 ^ i % 2 ≡ bit_of (get_or ps i fresh_place).taken
word_bit [] i h = absurd (not-suc-le-zero h)
word_bit (p ∷ ps) zero h = ap (λ (n : ℕ). n % 2) (div-one (word_of (p ∷ ps))) ∙ low p ps
word_bit (p ∷ ps) (suc i) h =
    ap (λ (n : ℕ). n % 2)
    (ap (λ (n : ℕ). word_of (p ∷ ps) / n) (pow-succ' 2 i)
    ∙ sym (div-div-eq-div-mul (word_of (p ∷ ps)) 2 (2 ^ i))
    ∙ ap (λ (n : ℕ). n / 2 ^ i) (half p ps))
    ∙ word_bit ps i (le_of_suc-le-suc h)

-- the taken places themselves
abbrev pub taken_among : List Place → List Place
taken_among [] = []
taken_among (p ∷ ps) = pick p.taken (p ∷ taken_among ps) (taken_among ps)

-- the count is the number of taken places
pub count_is : (ps : List Place) → count_of ps ≡ length (taken_among ps)
unfolding count_of
count_is [] = refl
count_is (p ∷ ps) = rw (count_is ps) (go p.taken)
  where
    go : (b : Bool) → bit_of b + length (taken_among ps) ≡ length (pick b (p ∷ taken_among ps) (taken_among ps))
    go true = omega arith
    go false = omega arith

-- and no more than there are places
pub count_small : (ps : List Place) → count_of ps ≤ length ps
unfolding count_of
count_small [] = omega arith
count_small (p ∷ ps) = omega (arith, count_small ps, bit_small p.taken)

ones_none : ones (word_of []) ≡ 0
unfolding ones word_of
ones_none = refl

-- and the number of ones of the word
pub count_ones : (ps : List Place) → ones (word_of ps) ≡ count_of ps
unfolding count_of
count_ones [] = ones_none
count_ones (p ∷ ps) = ones_step (word_of (p ∷ ps)) ∙ rw (low p ps, half p ps, count_ones ps)

-- the inverted word of one place more: its lowest bit and the rest
inverted : (p : Place) (ps : List Place) (m : ℕ) → word_of ps < m
    → (m * 2 - 1) - word_of (p ∷ ps) ≡ ((m - 1) - word_of ps) * 2 + (1 - bit_of p.taken)
unfolding word_of
inverted p ps m h = omega (arith, bit_small p.taken)

-- the trailing zeros of the inverted word are the number of the lowest free place
pub trailing_zeros : (ps : List Place) → count_trailing_zeros (length ps) ((2 ^ length ps - 1) - word_of ps) ≡ lowest_free ps
unfolding lowest_free count_trailing_zeros
trailing_zeros [] = refl
trailing_zeros (p ∷ ps) =
    rw (pow-suc 2 (length ps), inverted p ps (2 ^ length ps) (word_small ps))
    (rw (digits_div ((2 ^ length ps - 1) - word_of ps) (lo p.taken), digits_mod ((2 ^ length ps - 1) - word_of ps) (lo p.taken), trailing_zeros ps)
    (choose p.taken (lowest_free ps)))
  where
    lo : (b : Bool) → 1 - bit_of b < 2
    lo true = lit< tt
    lo false = lit< tt

    choose : (b : Bool) (t : ℕ) → under (1 - bit_of b) t ≡ pick b (suc t) 0
    choose true t = refl
    choose false t = refl

-- What the lowest free place is; the number of places where all are taken.
pub record LowestFree (ps : List Place) (n : ℕ) : Type 0 where
  pub within : n ≤ length ps
  pub free : n < length ps → (get_or ps n fresh_place).taken ≡ false
  pub below : (i : ℕ) → i < n → (get_or ps i fresh_place).taken ≡ true

-- the definition gives it
pub lowest_free_law : (ps : List Place) → LowestFree ps (lowest_free ps)
unfolding lowest_free
lowest_free_law [] = record { within = omega arith; free = λ h. absurd (omega arith); below = λ i h. absurd (omega arith) }
lowest_free_law (p ∷ ps) = go p.taken refl (lowest_free_law ps)
  where
    go : (b : Bool) → p.taken ≡ b → LowestFree ps (lowest_free ps) → LowestFree (p ∷ ps) (pick b (suc (lowest_free ps)) 0)
    go true e h = record { within = omega (arith, h.within); free = λ k. h.free (le_of_suc-le-suc k); below = at }
      where
        at : (i : ℕ) → i < suc (lowest_free ps) → (get_or (p ∷ ps) i fresh_place).taken ≡ true
        at zero k = e
        at (suc i) k = h.below i (le_of_suc-le-suc k)
    go false e h = record { within = omega arith; free = λ k. e; below = λ i k. absurd (omega arith) }

not_below : (ps : List Place) (m n : ℕ) → LowestFree ps m → LowestFree ps n → m < n → ⊥
not_below ps m n p q lt = not_both (q.below m lt) (p.free (omega (arith, q.within)))

-- no other place is
pub lowest_only : (ps : List Place) (n : ℕ) → LowestFree ps n → n ≡ lowest_free ps
lowest_only ps n h =
    le_antisymm
    (le_of_suc-le-suc (lt_of_not-le (not_below ps (lowest_free ps) n (lowest_free_law ps) h)))
    (le_of_suc-le-suc (lt_of_not-le (not_below ps n (lowest_free ps) h (lowest_free_law ps))))

-- one place more, from the last down
step : (ps : List Place) (i : ℕ) → i < length ps → word_of (drop i ps) ≡ word_of (drop (i + 1) ps) * 2 + bit_of (get_or ps i no_place).taken
unfolding word_of
step ps i h = rw (add-one i, drop-cons ps i no_place h)

-- a turn of the loop that builds the word of 64 places
pub word_turn : (ps : List Place) (i word b : ℕ) → 1 ≤ i → i ≤ 64 → length ps ≡ 64 → word ≡ word_of (drop i ps)
    → b ≡ bit_of (get_or ps (i - 1) no_place).taken → bit_or (word * 2 % 2 ^ 64) b ≡ word_of (drop (i - 1) ps)
word_turn ps i word b h k e ew eb =
    let back : i - 1 + 1 ≡ i = omega arith in
    let b_small : b < 2 = rw eb (bit_small (get_or ps (i - 1) no_place).taken) in
    let short : length (drop i ps) ≤ 63 = simp length-drop (omega arith) in
    let w_small : word < 2 ^ 63 = rw ew (lt_of_lt_of_le (word_small (drop i ps)) (pow_mono short)) in
    let fits : word * 2 % 2 ^ 64 ≡ word * 2 = mod-eq_of_lt (omega arith) in
    let next : word_of (drop (i - 1) ps) ≡ word_of (drop i ps) * 2 + bit_of (get_or ps (i - 1) no_place).taken =
    rw back at (step ps (i - 1) (omega arith)) in
    ap (λ (x : ℕ). bit_or x b) fits ∙ or_shifted word 1 b b_small ∙ rw (ew, eb) (sym next)

-- no place left: 0
pub word_none : (ps : List Place) (i : ℕ) → length ps ≤ i → 0 ≡ word_of (drop i ps)
unfolding word_of
word_none ps i h = rw (drop_of_length-le ps h)
