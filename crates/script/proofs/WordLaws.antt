-- The words of a line: what std's `split` gives at each space, and what stands before a mark: as much as std's `position` passes.
use Prim.Native.Nat.{ℕ, zero, suc, ◌+◌, ◌≤◌}
use mathlib.Core.Path.{◌≡◌, refl, ◌∙◌}
use mathlib.Core.Bool.{Bool, true, false, cond}
use mathlib.Core.List.{List, [], ◌∷◌}
use native.Mathlib.Omega.{arith}
use lib.Dec.{eqb, ltb}
use Rattle.std.proofs.Common.{Option, Some, None}
use Rattle.std.specs.Option.{option_map, unwrap_or}
use Rattle.std.proofs.lemmas.Bool.Decides.{nat_tests}
use lib.ListN.{length, get_or}
use Rattle.std.specs.List.{slice_get, slice_split, onto_first, position_or_len}
use Rattle.std.proofs.lemmas.List.Recursion.{is_position_or_len}
use Rattle.octets.specs.Choice.{pick}
use Rattle.octets.proofs.ChoiceLaws.{never, pick_all}
use Rattle.script.specs.Words.{space, before, up_to, words_of}

-- std's choice
pick_cond : {A : Type 0} (t : Bool) (a b : A) → pick t a b ≡ cond t a b
pick_cond true a b = refl
pick_cond false a b = refl

-- what stands before a mark is no longer than all, and as long as the first mark's place
pub up_length : (mark : ℕ) (l : List ℕ) → length (up_to mark l) ≤ length l
unfolding up_to
up_length mark [] = omega arith
up_length mark (b ∷ l) =
    pick_all (λ (w : List ℕ). length w ≤ length (b ∷ l)) (eqb b mark) [] (b ∷ up_to mark l) (λ _. omega arith) (λ _. let rest = up_length mark l in omega arith)

pub up_position : (mark : ℕ) (l : List ℕ) → length (up_to mark l) ≡ position_or_len (λ b. eqb b mark) l
unfolding up_to
up_position mark l =
    is_position_or_len (λ (w : List ℕ). length (up_to mark w)) (λ b. eqb b mark) refl
    (λ x xs. pick_all (λ (w : List ℕ). length w ≡ cond (eqb x mark) 0 (1 + length (up_to mark xs))) (eqb x mark) [] (x ∷ up_to mark xs) (λ e. rw e refl) (λ e. rw e (omega arith))) l

-- a byte before the first word
before_is : (b : ℕ) (ws : List (List ℕ)) → before b ws ≡ onto_first b ws
before_is b [] = refl
before_is b (w ∷ ws) = refl

-- the words are the parts that the spaces cut
pub words_split : (l : List ℕ) → words_of l ≡ slice_split (λ b. eqb b space) l
unfolding words_of
words_split [] = refl
words_split (b ∷ l) = pick_cond (eqb b space) ([] ∷ words_of l) (before b (words_of l)) ∙ rw (before_is b (words_of l), words_split l) refl

-- what `nth` answers of some parts
pub nth_read : {X Y : Type 0} (v : X → Y) (r : Option X) (d : X) (ys : List Y) (n : ℕ) → option_map v r ≡ slice_get ys n → v (unwrap_or r d) ≡ get_or ys n (v d)
nth_read v None d [] n e = refl
nth_read v (Some x) d [] n e = never cc
nth_read v None d (y ∷ ys) zero e = never cc
nth_read v (Some x) d (y ∷ ys) zero e = cc
nth_read v r d (y ∷ ys) (suc n) e = nth_read v r d ys n e

-- what `position` answers of a mark
pub place_read : (p n d : ℕ) (r : Option ℕ) → r ≡ cond (ltb p n) (Some p) None → p ≤ n → d ≡ n → unwrap_or r d ≡ p
place_read p n d r e h k = grind (arith, nat_tests)
