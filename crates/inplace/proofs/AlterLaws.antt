-- Of a buffer 89 bytes are altered, and no byte beside them.
use Prim.Native.Nat.{ℕ, ◌+◌, ◌≤◌, ◌<◌}
use mathlib.Core.List.{List, ◌++◌, append_assoc}
use mathlib.Core.Path.{◌≡◌, sym, ap, ap₂, ◌∙◌}
use native.Mathlib.Omega.{arith}
use lib.ListN.{length, get_or, take, drop, length-drop, take-append-drop, get_or-append}
use lib.Seq.{drop-append-add, get_or-append-add, length-take-le}
use Rattle.octets.specs.Put.{put, put_in}
use Rattle.octets.proofs.ListLaws.{part_first, part_join}
use Rattle.octets.proofs.PutLaws.{put_in_fits, put_in_length}
use Rattle.octets.proofs.PatchLaws.{put_in_inner}

-- Of a buffer the 89 bytes at an offset are now b; all others are as they were.
pub record Alters (s : List ℕ) (at : ℕ) (after b : List ℕ) : Type 0 where
  pub is : after ≡ take at s ++ (b ++ drop (at + 89) s)
  pub long : length b ≡ 89
  pub room : at + 89 ≤ length s

-- nothing is altered yet
pub alters_none : (s : List ℕ) (at : ℕ) → at + 89 ≤ length s → Alters s at s (take 89 (drop at s))
alters_none s at h =
    record {
      is = sym (ap (λ (x : List ℕ). take at s ++ x) (part_join 89 at s) ∙ take-append-drop at s);
      long = length-take-le 89 (drop at s) (simp length-drop (omega arith));
      room = h;
    }

module _ {s : List ℕ} {at : ℕ} {after b : List ℕ} (w : Alters s at after b) where
  -- what stands before them is whole
  front : length (take at s) ≡ at
  front =
      let h = w.room in
      length-take-le at s (omega arith)

  -- as one put
  pub alters_put : after ≡ put_in s at b
  unfolding put
  alters_put =
      let h = w.room in
      let k = w.long in
      w.is
      ∙ sym (append_assoc (take at s) b (drop (at + 89) s))
      ∙ ap (λ (n : ℕ). (take at s ++ b) ++ drop (at + n) s) (sym k)
      ∙ sym (put_in_fits s at b (omega arith))

  -- something is put into these bytes
  pub alters_more : (o : ℕ) (z : List ℕ) → o + length z ≤ 89 → Alters s at (put_in after (at + o) z) (put_in b o z)
  alters_more o z h =
      let k = w.long in
      let y = drop (at + 89) s in
      let whole : put_in after (at + o) z ≡ take at s ++ (put_in b o z ++ y) =
      ap₂ (λ (x : List ℕ) (n : ℕ). put_in x (n + o) z) w.is (sym front) ∙ put_in_inner (take at s) b y o z (omega arith) in
      record { is = whole; long = put_in_length b o z ∙ k; room = w.room }

  -- what is read of them
  pub alters_part : (k o : ℕ) → o + k ≤ 89 → take k (drop (at + o) after) ≡ take k (drop o b)
  alters_part k o h =
      let y = drop (at + 89) s in
      ap (take k)
      (ap (drop (at + o)) w.is
      ∙ ap (λ (n : ℕ). drop (n + o) (take at s ++ (b ++ y))) (sym front)
      ∙ drop-append-add (take at s) (b ++ y) o)
      ∙ part_first o k b y (rw w.long h)

  -- a byte of them
  pub alters_byte : (o : ℕ) → o < 89 → get_or after (at + o) 0 ≡ get_or b o 0
  alters_byte o h =
      let y = drop (at + 89) s in
      let k = w.long in
      ap (λ (x : List ℕ). get_or x (at + o) 0) w.is
      ∙ ap (λ (n : ℕ). get_or (take at s ++ (b ++ y)) (n + o) 0) (sym front)
      ∙ get_or-append-add (take at s) (b ++ y) o 0
      ∙ get_or-append b y 0 o (omega arith)
