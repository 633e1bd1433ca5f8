-- Rows of four operations, each from the registers that the ones before it left, and rounds as four rows.
use Rattle.std.proofs.Common.{◌≡◌, ℕ, ◌+◌, List, get_or, refl}
use Rattle.md5_digest.specs.declared.State.{State}
use Rattle.md5_digest.specs.declared.Auxiliary.{Auxiliary}
use Rattle.md5_digest.specs.declared.Auxiliary.TheVariants.{F, G, H, I}
use Rattle.md5_digest.specs.Md5.{operation_of, operations_f, operations_g, operations_h, operations_i, operate, sine_of, round_of, on_abcd, on_dabc, on_cdab, on_bcda}
use Rattle.md5_digest.specs.Parts.{place_of, shifts_of, sines_of, operations_of, row_of}

-- a, d, c and b are what the operations make
pub row_law : (f : Auxiliary) (x : List ℕ) (i : ℕ) (r : State) (s t : List ℕ) (a b c d : ℕ) → s ≡ shifts_of f → t ≡ sines_of f
    → a ≡ operation_of f r.a r.b r.c r.d (get_or x (place_of f i) 0) (get_or s 0 0) (get_or t i 0)
    → d ≡ operation_of f r.d a r.b r.c (get_or x (place_of f (i + 1)) 0) (get_or s 1 0) (get_or t (i + 1) 0)
    → c ≡ operation_of f r.c d a r.b (get_or x (place_of f (i + 2)) 0) (get_or s 2 0) (get_or t (i + 2) 0)
    → b ≡ operation_of f r.b c d a (get_or x (place_of f (i + 3)) 0) (get_or s 3 0) (get_or t (i + 3) 0)
    → ◌≡◌ {A = State} (record { a = a; b = b; c = c; d = d }) (row_of f x i r)
unfolding row_of on_abcd on_dabc on_cdab on_bcda
row_law f x i r s t a b c d es et e₀ e₁ e₂ e₃ = cc

-- four rows are a round
pub round_law : (f : Auxiliary) (x : List ℕ) (r s t u v : State) → s ≡ row_of f x 0 r → t ≡ row_of f x 4 s → u ≡ row_of f x 8 t → v ≡ row_of f x 12 u
    → v ≡ round_of f (operations_of f) x r
unfolding place_of shifts_of sines_of operations_of operations_f operations_g operations_h operations_i operate sine_of round_of row_of
round_law F x r s t u v e₀ e₁ e₂ e₃ = rw (e₃, e₂, e₁, e₀) refl
round_law G x r s t u v e₀ e₁ e₂ e₃ = rw (e₃, e₂, e₁, e₀) refl
round_law H x r s t u v e₀ e₁ e₂ e₃ = rw (e₃, e₂, e₁, e₀) refl
round_law I x r s t u v e₀ e₁ e₂ e₃ = rw (e₃, e₂, e₁, e₀) refl
