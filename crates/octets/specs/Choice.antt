-- Glue for definitions that list their tests in order (the paper, 'Numbers a call can hand back': a number is given where its condition holds and none earlier
-- in the order does). The kit has the first four as `cond`, `◌&&◌`, `◌||◌` and `not`; they stand here, by names in words, so that one who holds
-- definitions to the documents needs no file of the kit for them.
use Rattle.std.specs.Prelude.{ℕ, Bool, true, false, List, [], ◌∷◌}

-- the first where the test holds, else the second
abbrev pub pick : {A : Type 0} → Bool → A → A → A
pick true a b = a
pick false a b = b

-- both tests hold; the second is not asked where the first fails
abbrev pub both : Bool → Bool → Bool
both true b = b
both false b = false

-- one of two tests holds
abbrev pub either : Bool → Bool → Bool
either true b = true
either false b = b

-- a test does not hold
abbrev pub flip : Bool → Bool
flip true = false
flip false = true

-- a test as a number: 1 where it holds, else 0
abbrev pub bit_of : Bool → ℕ
bit_of true = 1
bit_of false = 0

-- a test holds of each element of a list
unfoldable pub every : {A : Type 0} → (A → Bool) → List A → Bool
every test [] = true
every test (x ∷ xs) = both (test x) (every test xs)
