-- A byte string at a fixed length.
use Prim.Native.Nat.{ℕ, zero, suc, ◌+◌, ◌≤◌, ◌<◌}
use mathlib.Core.Path.{◌≡◌, refl, sym, ap, ◌∙◌}
use mathlib.Core.List.{List, [], ◌∷◌, ◌++◌}
use native.Mathlib.Omega.{arith}
use lib.ListN.{length, get_or, take, drop, replicate, length-take, length-append, length-replicate}
use lib.Seq.{take-append-le, take_all, take-take, take_at, length-take-le}
use Rattle.octets.specs.Put.{put_in, fitted}
use Rattle.octets.proofs.PutLaws.{put_start, put_in_fits}

-- it has that length
pub fitted_length : (n : ℕ) (l : List ℕ) → length (fitted n l) ≡ n
unfolding fitted
fitted_length n l = length-take-le n (l ++ replicate n 0) (simp (length-append, length-replicate) (omega arith))

-- cut off
pub fitted_long : (n : ℕ) (l : List ℕ) → n ≤ length l → fitted n l ≡ take n l
unfolding fitted
fitted_long n l h = take-append-le n l (replicate n 0) h

-- one of that length stays
pub fitted_is : (n : ℕ) (l : List ℕ) → length l ≡ n → fitted n l ≡ l
fitted_is n l e = fitted_long n l (omega arith) ∙ take_all n l (omega arith)

-- what was fitted, read again
pub fitted_start : (n : ℕ) (l : List ℕ) → length l ≤ n → take (length l) (fitted n l) ≡ l
unfolding fitted
fitted_start n l h = take-take (length l) n (l ++ replicate n 0) h ∙ take_at l (replicate n 0) (length l) refl

-- the first of zeros, and of a string with zeros behind it
take_replicate : (n m : ℕ) → n ≤ m → take {A = ℕ} n (replicate m 0) ≡ replicate n 0
take_replicate zero m h = refl
take_replicate (suc n) zero h = absurd (omega arith)
take_replicate (suc n) (suc m) h = ap (λ (l : List ℕ). 0 ∷ l) (take_replicate n m (omega arith))

filled : (n m : ℕ) (l : List ℕ) → n ≤ m → take n (l ++ replicate m 0) ≡ take n l ++ drop (length (take n l)) (replicate n 0)
filled zero m l h = refl
filled (suc n) m [] h = take_replicate (suc n) m h
filled (suc n) m (x ∷ l) h = ap (λ (r : List ℕ). x ∷ r) (filled n m l (omega arith))

-- an array of zeros into which the first n bytes are put
pub fitted_put : (n : ℕ) (l : List ℕ) → put_in (replicate n 0) 0 (take n l) ≡ fitted n l
unfolding fitted
fitted_put n l =
    let fits : 0 + length (take n l) ≤ length {A = ℕ} (replicate n 0) = simp (length-take, length-replicate) (omega arith) in
    put_in_fits (replicate n 0) 0 (take n l) fits
    ∙ put_start (replicate n 0) (take n l)
    ∙ sym (filled n n l (omega arith))

-- the same where there are fewer
pub fitted_short : (n : ℕ) (l : List ℕ) → length l < n → put_in (replicate n 0) 0 l ≡ fitted n l
fitted_short n l h = ap (put_in (replicate n 0) 0) (sym (take_all n l (omega arith))) ∙ fitted_put n l

-- what is cut off first is fitted the same
pub fitted_take : (n : ℕ) (l : List ℕ) → fitted n (take n l) ≡ fitted n l
fitted_take n l = sym (fitted_put n (take n l)) ∙ ap (put_in (replicate n 0) 0) (take-take n n l (omega arith)) ∙ fitted_put n l

-- zeros behind a list change no byte
pub zeros_behind : (l : List ℕ) (n j : ℕ) → get_or (l ++ replicate n 0) j 0 ≡ get_or l j 0
zeros_behind [] zero j = refl
zeros_behind [] (suc n) zero = refl
zeros_behind [] (suc n) (suc j) = zeros_behind [] n j
zeros_behind (x ∷ l) n zero = refl
zeros_behind (x ∷ l) n (suc j) = zeros_behind l n j
