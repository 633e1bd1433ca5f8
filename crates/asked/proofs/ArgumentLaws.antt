-- Numbers that are held to a width, and byte strings of a fixed length.
use Prim.Native.Nat.{ℕ, ◌≤◌}
use mathlib.Core.Path.{◌≡◌, refl, sym, ap, ◌∙◌}
use mathlib.Core.Bool.{Bool, true, false}
use mathlib.Core.List.{List, ◌++◌}
use native.Mathlib.Omega.{arith}
use lib.ListN.{length, replicate, length-replicate, drop_of_length-le}
use lib.Dec.{leb, eqb}
use Rattle.std.specs.Bool.{then_some}
use borrow.Author.Tests.{leb-true, leb-false, eqb-true, ne_eqb}
use Rattle.std.proofs.Common.{Option, Some, None}
use Rattle.std.proofs.lemmas.List.{append-nil}
use Rattle.octets.specs.Choice.{pick}
use Rattle.octets.specs.Put.{put_in}
use Rattle.octets.proofs.PutLaws.{put_in_fits, put_start}
use Rattle.octets.proofs.ChoiceLaws.{never, pick_all}
use Rattle.script.specs.Hex.{ReadInto, hex_of, size_of, fitting, held_in}
use Rattle.asked.specs.Arguments.{up_to_most, of_size, fixed_of}

-- a number that was let through is no greater than the most
pub up_to_most_law : (most n : ℕ) (x : Option ℕ) → up_to_most most x ≡ Some n → n ≤ most
unfolding up_to_most
up_to_most_law most n None e = never cc
up_to_most_law most n (Some m) e =
    pick_all (λ (y : Option ℕ). y ≡ Some n → n ≤ most) (leb m most) (Some m) None
    (λ t d. let l = leb-true m most t in let same : m ≡ n = cc d in omega arith)
    (λ f d. never (cc d))
    e

-- a byte string that was read to an array of its length, by what the word says
none_of : (n : ℕ) (o : Option (List ℕ)) → None ≡ size_of (fitting n o) → None ≡ of_size n o
unfolding size_of fitting of_size
none_of n None e = refl
none_of n (Some l) e =
    pick_all (λ (t : Option (List ℕ)). None ≡ size_of t → None ≡ of_size n (Some l)) (leb (length l) n) (Some l) None
    (λ _ e. never cc)
    (λ far _. let long = leb-false (length l) n far in rw (ne_eqb (length l) n (λ q. omega arith)) refl)
    e

-- one of that length is the whole array
whole : (n : ℕ) (l held : List ℕ) (t : Bool) → eqb (length l) n ≡ t → held ≡ put_in (replicate n 0) 0 l → then_some t held ≡ pick t (Some l) None
whole n l held false q h = refl
whole n l held true q h =
    let zeros : List ℕ = replicate n 0 in
    let long : length zeros ≡ n = length-replicate n 0 in
    let same = eqb-true (length l) n q in
    ap Some (h ∙ put_in_fits zeros 0 l (omega arith) ∙ put_start zeros l ∙ ap (λ (r : List ℕ). l ++ r) (drop_of_length-le zeros {i = length l} (omega arith)) ∙ append-nil l)

some_of : (n k : ℕ) (held : List ℕ) (o : Option (List ℕ)) → Some k ≡ size_of (fitting n o) → held ≡ held_in (replicate n 0) (fitting n o)
    → then_some (eqb k n) held ≡ of_size n o
unfolding size_of fitting of_size held_in
some_of n k held None e h = never cc
some_of n k held (Some l) e h =
    pick_all (λ (t : Option (List ℕ)). Some k ≡ size_of t → held ≡ held_in (replicate n 0) t → then_some (eqb k n) held ≡ of_size n (Some l)) (leb (length l) n) (Some l) None
    (λ _ p q. let same : k ≡ length l = cc in rw same (whole n l held (eqb (length l) n) refl q))
    (λ _ p q. never cc)
    e h

-- so nothing, or that byte string
pub fixed_none : (n : ℕ) (word : List ℕ) {held : List ℕ} → ReadInto word (replicate n 0) held None → fixed_of n word ≡ None
unfolding fixed_of
fixed_none n word r = sym (none_of n (hex_of word) (r.answer ∙ rw length-replicate refl))

pub fixed_some : (n : ℕ) (word : List ℕ) {held : List ℕ} {k : ℕ} → ReadInto word (replicate n 0) held (Some k) → then_some (eqb k n) held ≡ fixed_of n word
unfolding fixed_of
fixed_some n word r = some_of n _ _ (hex_of word) (rw length-replicate at r.answer) (rw length-replicate at r.bytes)
