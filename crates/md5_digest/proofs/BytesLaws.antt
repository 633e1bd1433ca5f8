-- The bytes of a word or a count, as std has them.
use Rattle.std.proofs.Common.{◌≡◌, ℕ, ◌∷◌, ◌++◌, ap₂, refl, arith}
use Rattle.std.specs.Int.{to_le_bytes, w32, w64}
use Rattle.md5_digest.specs.declared.State.{State}
use Rattle.md5_digest.specs.Md5.{low_first, digest_of}

-- eight bytes
pub low_eight : (x : ℕ) → to_le_bytes w64 x ≡ low_first 8 x
unfolding low_first
low_eight x =
    ap₂ ◌∷◌ (omega arith) (ap₂ ◌∷◌ (omega arith) (ap₂ ◌∷◌ (omega arith) (ap₂ ◌∷◌ (omega arith)
    (ap₂ ◌∷◌ (omega arith) (ap₂ ◌∷◌ (omega arith) (ap₂ ◌∷◌ (omega arith) (ap₂ ◌∷◌ (omega arith) refl)))))))

-- four bytes
low_four : (x : ℕ) → to_le_bytes w32 x ≡ low_first 4 x
unfolding low_first
low_four x = ap₂ ◌∷◌ (omega arith) (ap₂ ◌∷◌ (omega arith) (ap₂ ◌∷◌ (omega arith) (ap₂ ◌∷◌ (omega arith) refl)))

-- four of each register
pub digest_law : (r : State) → to_le_bytes w32 r.a ++ (to_le_bytes w32 r.b ++ (to_le_bytes w32 r.c ++ to_le_bytes w32 r.d)) ≡ digest_of r
unfolding digest_of
digest_law r = ap₂ ◌++◌ (low_four r.a) (ap₂ ◌++◌ (low_four r.b) (ap₂ ◌++◌ (low_four r.c) (low_four r.d)))
