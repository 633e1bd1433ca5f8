-- Fields one after the other: each is read where it was put, and they are put one after the other.
use Prim.Native.Nat.{ℕ, ◌+◌, ◌^◌, ◌≤◌, ◌<◌}
use mathlib.Core.Bool.{Bool, true, false}
use mathlib.Core.List.{List, [], ◌∷◌, ◌++◌, append_assoc, append-nil}
use mathlib.Core.Path.{◌≡◌, refl, sym, ap, ◌∙◌}
use native.Mathlib.Nat.{add-zero}
use native.Mathlib.Omega.{arith}
use lib.ListN.{length, get_or, take, drop, replicate, length-append, length-replicate}
use lib.Dec.{T, leb, leb→le}
use lib.Seq.{take_at, drop_at, drop-drop, get_or-take, get_or-drop}
use Rattle.octets.specs.Choice.{bit_of}
use Rattle.octets.specs.Numbers.{Bytes, number_of, bytes_of}
use Rattle.octets.specs.Put.{put_in, fitted}
use Rattle.octets.proofs.NumberLaws.{bytes_length, number_bytes, number_part_small}
use Rattle.octets.proofs.PutLaws.{Written, written_none, written_at, written_all}
use Rattle.octets.proofs.PatchLaws.{put_in_middle}
use Rattle.octets.proofs.FittedLaws.{fitted_is, fitted_put, fitted_length, fitted_take, zeros_behind}
use Rattle.laid.specs.Around.{StringHeld}
use Rattle.laid.specs.Field.{joined, flag_bytes, flag_of, number_at, array_at, held_from}

-- two runs of fields
pub joined_append : (fs gs : List (List ℕ)) → joined (fs ++ gs) ≡ joined fs ++ joined gs
joined_append [] gs = refl
joined_append (f ∷ fs) gs = ap (λ (l : List ℕ). f ++ l) (joined_append fs gs) ∙ sym (append_assoc f (joined fs) (joined gs))

-- HOW LONG
pub record Long (fs : List (List ℕ)) (n : ℕ) : Type 0 where
  pub is : length (joined fs) ≡ n

pub long_none : Long [] 0
long_none = record { is = refl }

pub long_more : (f : List ℕ) {fs : List (List ℕ)} (k : ℕ) {n : ℕ} → length f ≡ k → Long fs n → Long (f ∷ fs) (k + n)
long_more f k e q =
    let h = q.is in
    record { is = simp length-append (omega arith) }

pub long_flag : (b : Bool) {fs : List (List ℕ)} {n : ℕ} → Long fs n → Long (flag_bytes b ∷ fs) (1 + n)
long_flag b q = long_more (flag_bytes b) 1 refl q

pub long_number : (k m : ℕ) {fs : List (List ℕ)} {n : ℕ} → Long fs n → Long (bytes_of k m ∷ fs) (k + n)
long_number k m q = long_more (bytes_of k m) k (bytes_length k m) q

-- READING: from an offset on these fields stand, and perhaps more
pub record Stand (s : List ℕ) (at : ℕ) (fs : List (List ℕ)) : Type 0 where
  pub rest : List ℕ
  pub is : drop at s ≡ joined fs ++ rest

-- a record stands at its own start
pub stand_all : (fs : List (List ℕ)) → Stand (joined fs) 0 fs
stand_all fs = record { rest = []; is = sym (append-nil (joined fs)) }

module _ {s : List ℕ} {at : ℕ} {f : List ℕ} {fs : List (List ℕ)} (w : Stand s at (f ∷ fs)) where
  first : drop at s ≡ f ++ (joined fs ++ w.rest)
  first = w.is ∙ append_assoc f (joined fs) w.rest

  -- the next fields, past one of k bytes
  pub stand_next : (k : ℕ) → length f ≡ k → Stand s (at + k) fs
  stand_next k e = record { rest = w.rest; is = sym (drop-drop k at s) ∙ ap (drop k) first ∙ drop_at f (joined fs ++ w.rest) k e }

  -- the first field, whole
  pub stand_part : (k : ℕ) → length f ≡ k → take k (drop at s) ≡ f
  stand_part k e = ap (take k) first ∙ take_at f (joined fs ++ w.rest) k e

  -- as an array
  pub stand_array : (k : ℕ) → length f ≡ k → array_at k at s ≡ f
  unfolding array_at
  stand_array k e = sym (fitted_take k (drop at s)) ∙ ap (fitted k) (stand_part k e) ∙ fitted_is k f e

-- a number
pub stand_number : {s : List ℕ} {at : ℕ} {fs : List (List ℕ)} (k n : ℕ) → Stand s at (bytes_of k n ∷ fs) → n < 256 ^ k → number_at k at s ≡ n
stand_number k n w h = ap number_of (stand_part w k (bytes_length k n)) ∙ number_bytes k n h

-- the next fields, past a number
pub stand_past : {s : List ℕ} {at : ℕ} {fs : List (List ℕ)} (k n : ℕ) → Stand s at (bytes_of k n ∷ fs) → Stand s (at + k) fs
stand_past k n w = stand_next w k (bytes_length k n)

flag_bit : (b : Bool) → flag_of (bit_of b) ≡ b
flag_bit true = refl
flag_bit false = refl

-- a flag
pub stand_flag : {s : List ℕ} {at : ℕ} {fs : List (List ℕ)} (b : Bool) → Stand s at (flag_bytes b ∷ fs) → flag_of (get_or s at 0) ≡ b
stand_flag {s} {at} b w =
    ap flag_of (ap (λ (i : ℕ). get_or s i 0) (sym (add-zero at)) ∙ sym (get_or-drop at s 0 0) ∙ ap (λ (l : List ℕ). get_or l 0 0) w.is) ∙ flag_bit b

-- WRITING: these fields were put from the start on, as far as `at`, into a buffer of at least n bytes
pub record Filled (l₀ : List ℕ) (n : ℕ) (fs : List (List ℕ)) (at : ℕ) (out : List ℕ) : Type 0 where
  pub is : Written l₀ (joined fs) out
  pub reached : length (joined fs) ≡ at
  pub room : n ≤ length l₀

-- an array of zeros, nothing put yet
pub filled_zeros : (n : ℕ) → Filled (replicate n 0) n [] 0 (replicate n 0)
filled_zeros n = record { is = written_none (replicate n 0); reached = refl; room = rw length-replicate (omega arith) }

module _ {l₀ : List ℕ} {n : ℕ} {fs : List (List ℕ)} {at : ℕ} {out : List ℕ} (w : Filled l₀ n fs at out) where
  one_more : (f : List ℕ) (k : ℕ) {out' : List ℕ} → length f ≡ k → Written l₀ (joined fs ++ f) out' → Filled l₀ n (fs ++ (f ∷ [])) (at + k) out'
  one_more f k {out'} e q =
      let j : joined (fs ++ (f ∷ [])) ≡ joined fs ++ f = joined_append fs (f ∷ []) ∙ ap (λ (l : List ℕ). joined fs ++ l) (append-nil f) in
      let r = w.reached in
      record { is = rw j q; reached = rw (j, length-append) (omega arith); room = w.room }

  -- one field more, of k bytes
  pub filled_more : (f : List ℕ) (k : ℕ) {v out' : List ℕ} → v ≡ f → length v ≡ k → at + k ≤ n → out' ≡ put_in out at v
      → Filled l₀ n (fs ++ (f ∷ [])) (at + k) out'
  filled_more f k {v} e h fits q =
      let long : length f ≡ k = rw e at h in
      let room = w.room in
      one_more f k long (written_at w.is f at w.reached (omega arith) (rw e at q))

  -- the same with an end that computes
  pub filled_next : (f : List ℕ) (k : ℕ) {v out' : List ℕ} → v ≡ f → length v ≡ k → T (leb (at + k) n) → out' ≡ put_in out at v
      → Filled l₀ n (fs ++ (f ∷ [])) (at + k) out'
  filled_next f k e h t q = filled_more f k e h (leb→le (at + k) n t) q

  -- an array as it is
  pub filled_array : (f : List ℕ) (k : ℕ) {out' : List ℕ} → length f ≡ k → T (leb (at + k) n) → out' ≡ put_in out at f
      → Filled l₀ n (fs ++ (f ∷ [])) (at + k) out'
  filled_array f k e t q = filled_next f k refl e t q

  pub filled_number : (k m : ℕ) {out' : List ℕ} → T (leb (at + k) n) → out' ≡ put_in out at (bytes_of k m)
      → Filled l₀ n (fs ++ (bytes_of k m ∷ [])) (at + k) out'
  filled_number k m t q = filled_array (bytes_of k m) k (bytes_length k m) t q

  -- a number that is the same as m
  pub filled_same : (k m : ℕ) {m' : ℕ} {out' : List ℕ} → m' ≡ m → T (leb (at + k) n) → out' ≡ put_in out at (bytes_of k m')
      → Filled l₀ n (fs ++ (bytes_of k m ∷ [])) (at + k) out'
  filled_same k m {m'} e t q = filled_next (bytes_of k m) k (ap (bytes_of k) e) (bytes_length k m') t q

  -- a flag
  pub filled_flag : (b : Bool) {out' : List ℕ} → T (leb (at + 1) n) → out' ≡ put_in out at (flag_bytes b)
      → Filled l₀ n (fs ++ (flag_bytes b ∷ [])) (at + 1) out'
  filled_flag b t q = filled_array (flag_bytes b) 1 refl t q

-- an array that was filled to its end
pub filled_all : {n : ℕ} {fs : List (List ℕ)} {out : List ℕ} → Filled (replicate n 0) n fs n out → out ≡ joined fs
filled_all {n} w = written_all w.is (w.reached ∙ sym (length-replicate n 0))

-- one field put in the place of another of its length
pub field_put : (fs : List (List ℕ)) (a z : List ℕ) (gs : List (List ℕ)) (at : ℕ) → length (joined fs) ≡ at → length a ≡ length z
    → put_in (joined (fs ++ (a ∷ gs))) at z ≡ joined (fs ++ (z ∷ gs))
field_put fs a z gs at e h =
    ap (λ (x : List ℕ). put_in x at z) (joined_append fs (a ∷ gs))
    ∙ put_in_middle (joined fs) a (joined gs) z at e h
    ∙ sym (joined_append fs (z ∷ gs))

-- an array of zeros into which the bytes at an offset are put
pub array_put : (k at : ℕ) (s : List ℕ) {part out : List ℕ} → part ≡ take k (drop at s) → out ≡ put_in (replicate k 0) 0 part → out ≡ array_at k at s
unfolding array_at
array_put k at s e q = q ∙ ap (put_in (replicate k 0) 0) e ∙ fitted_put k (drop at s)

-- an array of the part at an offset
pub array_part : (k at : ℕ) (s : List ℕ) {part out : List ℕ} → part ≡ take k (drop at s) → out ≡ fitted k part → out ≡ array_at k at s
unfolding array_at
array_part k at s e q = q ∙ ap (fitted k) e ∙ fitted_take k (drop at s)

-- a byte of the array at an offset
pub array_byte : (k at j : ℕ) (l : List ℕ) → j < k → get_or (array_at k at l) j 0 ≡ get_or l (at + j) 0
unfolding array_at fitted
array_byte k at j l h = get_or-take k (drop at l ++ replicate k 0) j 0 h ∙ zeros_behind (drop at l) k j ∙ get_or-drop at l j 0

-- the same part is read as the same array
pub array_same : (k at : ℕ) (l after : List ℕ) → take k (drop at after) ≡ take k (drop at l) → array_at k at after ≡ array_at k at l
array_same k at l after e = array_part k at l e (sym (array_part k at after refl refl))

-- WHAT IS LOADED from any bytes: its arrays are whole, and a held byte string is within its type
pub array_long : (k at : ℕ) (s : List ℕ) → length (array_at k at s) ≡ k
unfolding array_at
array_long k at s = fitted_length k (drop at s)

pub held_loaded : (s : List ℕ) → Bytes s → StringHeld (held_from s)
unfolding held_from
held_loaded s b = record { bytes = array_long 253 0 s; size = number_part_small 8 253 s b }

-- a flag, a number of eight bytes and an array of sixteen at the start of a record, and what stands past them
pub record Stamped (s : List ℕ) (b : Bool) (n : ℕ) (a : List ℕ) (fs : List (List ℕ)) : Type 0 where
  pub flag : flag_of (get_or s 0 0) ≡ b
  pub number : number_at 8 1 s ≡ n
  pub array : array_at 16 9 s ≡ a
  pub next : Stand s 25 fs

-- where these fields stand, they are read so
pub stand_stamped : {s a : List ℕ} {fs : List (List ℕ)} (b : Bool) (n : ℕ) → Stand s 0 (flag_bytes b ∷ bytes_of 8 n ∷ a ∷ fs) → n < 2 ^ 64 → length a ≡ 16
    → Stamped s b n a fs
stand_stamped b n s₀ h e =
    let s₁ = stand_next s₀ 1 refl in
    let s₂ = stand_past 8 n s₁ in
    record { flag = stand_flag b s₀; number = stand_number 8 n s₁ h; array = stand_array s₂ 16 e; next = stand_next s₂ 16 e }
