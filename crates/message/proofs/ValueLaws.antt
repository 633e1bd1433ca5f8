-- Fields as values of objects: numbers, lists, names and numbers that may be missing are proper values, and are read back.
use Rattle.std.specs.Prelude.{Option, Some, None}
use Prim.Native.Nat.{ℕ, ◌+◌, ◌/◌, ◌%◌, ◌^◌, ◌≤◌}
use mathlib.Core.Path.{◌≡◌, refl, ap, ◌∙◌}
use mathlib.Core.Bool.{Bool, true, false}
use mathlib.Core.List.{List, [], ◌∷◌, ◌++◌}
use native.Mathlib.Omega.{arith}
use lib.ListN.{length}
use lib.Dec.{ltb, leb, eqb, lit≤}
use borrow.Author.Tests.{ltb-true, lt-ltb, leb-true, le-leb, eq-eqb}
use Rattle.octets.specs.Choice.{both}
use Rattle.octets.specs.Numbers.{bytes_of}
use Rattle.octets.proofs.ChoiceLaws.{pick_same, both_true, both_left, both_right, in_turn}
use Rattle.octets.proofs.NumberLaws.{bytes_length, number_back}
use Rattle.object.specs.declared.family.Family.{Family}
use Rattle.object.specs.declared.rule.Rule.TheVariants.{Fixed, Any, List as ListOf, Flag}
use Rattle.object.specs.Rule.{rule_of, counts_for}
use Rattle.message.specs.Field.{optional_of}
use Rattle.message.specs.Writing.{object, repeats, perhaps, optional_value, optional_object, encoded, is_below, is_list, is_name, flag_byte}
use Rattle.message.proofs.EncodedLaws.{Proper, chosen}
use Rattle.message.proofs.RunLaws.{RunProper, size_of, repeats_size}

-- S is read back
pub flag_back : (s : Bool) → leb 128 (flag_byte s) ≡ s
flag_back true = refl
flag_back false = refl

-- what the rules of the three sorts ask
pub proper_any : {f : Family} {t : ℕ} {v : List ℕ} → rule_of f t ≡ Any → length v ≤ 253 → Proper f (object t v)
unfolding counts_for
proper_any {f} {t} {v} e h = record { short = h; counts = ap (λ r. counts_for r v) e }

pub proper_fixed : {f : Family} {t : ℕ} {v : List ℕ} (size : ℕ) → rule_of f t ≡ Fixed (2 + size) → length v ≡ size → size ≤ 253
    → Proper f (object t v)
unfolding counts_for
proper_fixed {f} {t} {v} size e l h = record {
  short = omega arith;
  counts = ap (λ r. counts_for r v) e ∙ eq-eqb (2 + length v) (2 + size) (ap (2 +◌) l);
}

pub proper_number : {f : Family} {t : ℕ} (size n : ℕ) → rule_of f t ≡ Fixed (2 + size) → size ≤ 253 → Proper f (object t (bytes_of size n))
proper_number size n e h = proper_fixed size e (bytes_length size n) h

module _ (unit : ℕ) (v : List ℕ) (l : is_list unit v ≡ true) where
  -- what the test of a list says
  list_parts : (ltb 0 unit ≡ true) × (leb (length v) 253 ≡ true) × (eqb (length v % unit) 0 ≡ true)
  unfolding is_list
  list_parts =
      let (unit_some, rest) = in_turn (ltb 0 unit) (both (leb (length v) 253) (eqb (length v % unit) 0)) l in
      let (short, whole) = in_turn (leb (length v) 253) (eqb (length v % unit) 0) rest in
      (unit_some, short, whole)

  -- a list that passes it is not too long, and its object is one that a message can hold
  pub list_short : length v ≤ 253
  list_short = leb-true (length v) 253 list_parts.1

  pub proper_list : {f : Family} {t : ℕ} → rule_of f t ≡ ListOf unit → Proper f (object t v)
  unfolding counts_for
  proper_list {f} {t} e = record {
    short = list_short;
    counts = ap (λ r. counts_for r v) e ∙ both_true (ltb 0 unit) (eqb (length v % unit) 0) list_parts.0 list_parts.2;
  }

-- a list of one 16-bit number
pub one_list : (x : ℕ) → is_list 2 (bytes_of 2 x) ≡ true
unfolding is_list bytes_of
one_list x = refl

module _ (v : List ℕ) (l : is_name v ≡ true) where
  -- a name that passes its test is not empty, and not too long
  pub name_there : ltb 0 (length v) ≡ true
  unfolding is_name
  name_there = both_left (ltb 0 (length v)) (leb (length v) 253) l

  pub name_short : length v ≤ 253
  unfolding is_name
  name_short = leb-true (length v) 253 (both_right (ltb 0 (length v)) (leb (length v) 253) l)

-- values that repeat: each fits an object
abbrev pub EachFits : List (List ℕ) → Type 0
EachFits [] = Unit
EachFits (v ∷ vs) = (length v ≤ 253) × EachFits vs

-- or each has so many bytes
abbrev pub EachOf : ℕ → List (List ℕ) → Type 0
EachOf size [] = Unit
EachOf size (v ∷ vs) = (length v ≡ size) × EachOf size vs

-- such values are those of objects that a message can hold, of a type of any length
pub each_any : (f : Family) (t : ℕ) (vs : List (List ℕ)) → rule_of f t ≡ Any → EachFits vs → RunProper f t vs
each_any f t [] e h = tt
each_any f t (v ∷ vs) e h = (proper_any e h.0, each_any f t vs e h.1)

-- and of one of a fixed length
pub each_fixed : (f : Family) (t size : ℕ) (vs : List (List ℕ)) → rule_of f t ≡ Fixed (2 + size) → size ≤ 253 → EachOf size vs → RunProper f t vs
each_fixed f t size [] e le h = tt
each_fixed f t size (v ∷ vs) e le h = (proper_fixed size e h.0 le, each_fixed f t size vs e le h.1)

-- a value that may be missing, of `size` bytes where it is there: how many its object takes at most
pub perhaps_size : (size : ℕ) (o : Option (List ℕ)) → EachOf size (perhaps o) → size_of (perhaps o) ≤ 2 + size
perhaps_size size None h = omega arith
perhaps_size size (Some v) h = omega (arith, h.0)

-- the same of the bytes of its object
pub perhaps_most : (t size : ℕ) (o : Option (List ℕ)) → EachOf size (perhaps o) → length (encoded (repeats t (perhaps o))) ≤ 2 + size
perhaps_most t size o h = omega (arith, repeats_size t (perhaps o), perhaps_size size o h)

-- where it is all that there is of its type, it is the value that counts
pub perhaps_back : (last : Bool) (o : Option (List ℕ)) → chosen last (perhaps o ++ []) ≡ o
perhaps_back last None = refl
perhaps_back last (Some v) = ap Some (pick_same last v)

-- a number that may be missing has that many bytes
optional_each : (size : ℕ) (o : Option ℕ) → EachOf size (perhaps (optional_value size o))
optional_each size None = tt
optional_each size (Some n) = (bytes_length size n, tt)

-- how many its object takes at most
pub optional_size : (size : ℕ) (o : Option ℕ) → size_of (perhaps (optional_value size o)) ≤ 2 + size
optional_size size o = perhaps_size size (optional_value size o) (optional_each size o)

-- the same of the bytes of its object
pub optional_most : (t size : ℕ) (o : Option ℕ) → length (encoded (optional_object t size o)) ≤ 2 + size
optional_most t size o = perhaps_most t size (optional_value size o) (optional_each size o)

-- its object is one that a message can hold
pub proper_optional : (f : Family) (t size : ℕ) (o : Option ℕ) → rule_of f t ≡ Fixed (2 + size) → size ≤ 253
    → RunProper f t (perhaps (optional_value size o))
proper_optional f t size o e h = each_fixed f t size (perhaps (optional_value size o)) e h (optional_each size o)

-- so is that of a flag, which is 0 or 1
pub proper_flag : (f : Family) (t : ℕ) (o : Option ℕ) → rule_of f t ≡ Flag → is_below o 2 ≡ true → RunProper f t (perhaps (optional_value 1 o))
unfolding counts_for is_below bytes_of
proper_flag f t None e h = tt
proper_flag f t (Some n) e h =
    let small : n / 1 % 256 ≤ 1 = omega (arith, ltb-true n 2 h) in
    (record { short = lit≤ tt; counts = ap (λ r. counts_for r (bytes_of 1 n)) e ∙ le-leb (n / 1 % 256) 1 small }, tt)

-- below a bound it is below a greater one
pub below_more : (o : Option ℕ) (a b : ℕ) → is_below o a ≡ true → a ≤ b → is_below o b ≡ true
unfolding is_below
below_more None a b h le = refl
below_more (Some n) a b h le = lt-ltb n b (omega (arith, ltb-true n a h))

-- it is read back from its value
pub optional_back : (size : ℕ) (o : Option ℕ) → is_below o (256 ^ size) ≡ true → size ≤ 8 → optional_of (optional_value size o) ≡ o
unfolding is_below
optional_back size None h le = refl
optional_back size (Some n) h le = ap Some (number_back 8 size n (ltb-true n (256 ^ size) h) le)
