-- The words of a line are the only byte strings without a space that give the line where they are joined by one space.
use Prim.Native.Nat.{ℕ}
use mathlib.Core.Path.{◌≡◌, refl, ap, ◌∙◌}
use mathlib.Core.Bool.{Bool, true, false}
use mathlib.Core.List.{List, [], ◌∷◌, ◌++◌}
use lib.Dec.{eqb}
use Rattle.std.specs.List.{join_with_byte}
use Rattle.std.proofs.lemmas.List.Splits.{join_with_byte-slice_split}
use Rattle.octets.specs.Choice.{pick}
use Rattle.octets.proofs.ChoiceLaws.{never, pick_all}
use Rattle.script.specs.Words.{space, before, up_to, words_of, joined}
use Rattle.script.proofs.WordLaws.{words_split}

-- a byte string without a space is all of what stands before the first one
abbrev pub Whole : List ℕ → Type 0
Whole w = up_to space w ≡ w

-- the same of several
abbrev pub AllWhole : List (List ℕ) → Type 0
AllWhole [] = Prim.Unit
AllWhole (w ∷ ws) = Whole w × AllWhole ws

-- as std joins
joined_is : (ws : List (List ℕ)) → joined ws ≡ join_with_byte space ws
unfolding joined
joined_is [] = refl
joined_is (w ∷ []) = refl
joined_is (w ∷ v ∷ ws) = rw (joined_is (v ∷ ws)) refl

-- the words of a line, joined, are the line
pub joined_words : (l : List ℕ) → joined (words_of l) ≡ l
joined_words l = joined_is (words_of l) ∙ ap (join_with_byte space) (words_split l) ∙ join_with_byte-slice_split space l

-- no word holds a space
whole_cons : (b : ℕ) (w : List ℕ) → eqb b space ≡ false → Whole w → Whole (b ∷ w)
unfolding up_to
whole_cons b w e h = rw (e, h)

whole_before : (b : ℕ) (ws : List (List ℕ)) → eqb b space ≡ false → AllWhole ws → AllWhole (before b ws)
unfolding up_to
whole_before b [] e h = (whole_cons b [] e refl, tt)
whole_before b (w ∷ ws) e h = (whole_cons b w e h.0, h.1)

-- so of all the words of a line
pub whole_words : (l : List ℕ) → AllWhole (words_of l)
unfolding up_to words_of
whole_words [] = (refl, tt)
whole_words (b ∷ l) =
    pick_all AllWhole (eqb b space) ([] ∷ words_of l) (before b (words_of l)) (λ e. (refl, whole_words l)) (λ e. whole_before b (words_of l) e (whole_words l))

-- the first byte of such a string is no space, and the rest is such a string
parted : (t : Bool) (b : ℕ) (u w : List ℕ) → pick t [] (b ∷ u) ≡ b ∷ w → (t ≡ false) × (u ≡ w)
parted true b u w e = never cc
parted false b u w e = (refl, cc)

whole_head : (b : ℕ) (w : List ℕ) → Whole (b ∷ w) → (eqb b space ≡ false) × Whole w
unfolding up_to
whole_head b w h = parted (eqb b space) b (up_to space w) w h

-- a word before others, and one alone
word_then : (w l : List ℕ) → Whole w → words_of (w ++ (space ∷ l)) ≡ w ∷ words_of l
unfolding words_of
word_then [] l h = refl
word_then (b ∷ w) l h = let p = whole_head b w h in rw (p.0, word_then w l p.1)

word_alone : (w : List ℕ) → Whole w → words_of w ≡ w ∷ []
unfolding words_of
word_alone [] h = refl
word_alone (b ∷ w) h = let p = whole_head b w h in rw (p.0, word_alone w p.1)

-- what is printed with one space between the words is read as those words
pub words_joined : (w : List ℕ) (ws : List (List ℕ)) → AllWhole (w ∷ ws) → words_of (joined (w ∷ ws)) ≡ w ∷ ws
unfolding joined
words_joined w [] h = word_alone w h.0
words_joined w (v ∷ ws) h = word_then w (joined (v ∷ ws)) h.0 ∙ ap (λ (vs : List (List ℕ)). w ∷ vs) (words_joined v ws h.1)
