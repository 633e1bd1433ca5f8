-- What a writer's answer says: where it wrote, the fields were in range, the whole was not too long, and the buffer starts with the message; where it
-- refused though there was room and the whole was not too long, a field was out of range and the buffer stays.
use Rattle.std.specs.Prelude.{Result, Ok, Err}
use Prim.Native.Nat.{ℕ, ◌≤◌}
use mathlib.Core.Path.{◌≡◌, refl, sym, ap, ◌∙◌}
use mathlib.Core.Bool.{Bool, true, false}
use mathlib.Core.List.{List, ◌++◌}
use lib.ListN.{length, drop}
use lib.Dec.{ltb, leb}
use borrow.Author.Tests.{leb-true, le-ltb, le-leb}
use Rattle.octets.specs.Choice.{pick, both}
use Rattle.octets.proofs.ChoiceLaws.{never, both_left, both_right}
use Rattle.refusal.specs.declared.Refusal.{Refusal}
use Rattle.refusal.specs.declared.Refusal.TheVariants.{OutOfRange}
use Rattle.object.specs.declared.family.Family.{Family}
use Rattle.object.specs.Family.{limit_of}
use Rattle.message.specs.Writing.{wrote_of, by_wrote, left_of, Writes}

-- what is known where a writer wrote n bytes
pub record Left (f : Family) (in_range : Bool) (message before after : List ℕ) (n : ℕ) : Type 0 where
  pub range : in_range ≡ true
  pub fits : length message ≤ limit_of f
  pub size : n ≡ length message
  pub starts : after ≡ message ++ drop (length message) before

-- an answer that is no refusal comes from the one way that gives none
passed : (small passes : Bool) (n k : ℕ) (one other : Refusal) → Ok n ≡ pick small (Err one) (pick passes (Ok k) (Err other))
    → (small ≡ false) × (passes ≡ true)
passed true passes n k one other e = never cc
passed false true n k one other e = (refl, refl)
passed false false n k one other e = never cc

pub wrote_left : {f : Family} {in_range : Bool} {message before after : List ℕ} {n : ℕ} → Writes f in_range message before after (Ok n)
    → Left f in_range message before after n
unfolding wrote_of left_of
wrote_left {f} {in_range} {message} {before} {after} {n} w =
    let small : Bool = ltb (length before) (limit_of f) in
    let short : Bool = leb (length message) (limit_of f) in
    let (room, good) = passed small (both in_range short) n (length message) _ _ w.told in
    let told : Ok n ≡ Ok (length message) = rw (room, good) at w.told in
    record {
      range = both_left in_range short good;
      fits = leb-true (length message) (limit_of f) (both_right in_range short good);
      size = cc;
      starts = w.left ∙ rw (room, good);
    }

-- a message of the same length gets the same answer
pub wrote_same : (f : Family) (in_range : Bool) (message message' before : List ℕ) → length message ≡ length message'
    → wrote_of f in_range message before ≡ wrote_of f in_range message' before
unfolding wrote_of
wrote_same f in_range message message' before e = rw e

-- another message of the same length in its place
module _ {f : Family} {in_range : Bool} {message before middle : List ℕ} (message' : List ℕ) (same : length message' ≡ length message) where
  answer : {r : Result ℕ Refusal} → Writes f in_range message before middle r → r ≡ wrote_of f in_range message' before
  answer w = w.told ∙ sym (wrote_same f in_range message' message before same)

  -- a refusal is passed on
  pub refused_instead : {why : Refusal} → Writes f in_range message before middle (Err why) → Writes f in_range message' before middle (Err why)
  unfolding left_of
  refused_instead w = record {
    told = answer w;
    left = w.left
        ∙ ap (λ (r : Result ℕ Refusal). by_wrote r message before) (sym w.told)
        ∙ ap (λ (r : Result ℕ Refusal). by_wrote r message' before) (answer w);
  }

  pub bytes_instead : {n : ℕ} {after : List ℕ} → Writes f in_range message before middle (Ok n) → after ≡ message' ++ drop (length message) before
      → Writes f in_range message' before after (Ok n)
  unfolding left_of
  bytes_instead w e = record {
    told = answer w;
    left = e
        ∙ ap (λ (k : ℕ). message' ++ drop k before) (sym same)
        ∙ ap (λ (r : Result ℕ Refusal). by_wrote r message' before) (answer w);
  }

-- a message in range and not too long, into a buffer of the limit's size, is written
module _ {f : Family} {message before after : List ℕ} {r : Result ℕ Refusal} (w : Writes f true message before after r) (short : length message ≤ limit_of f)
    (room : limit_of f ≤ length before) where
  pub whole_told : r ≡ Ok (length message)
  unfolding wrote_of
  whole_told = w.told ∙ rw (le-ltb (length before) (limit_of f) room, le-leb (length message) (limit_of f) short)

  pub whole_left : after ≡ message ++ drop (length message) before
  unfolding wrote_of left_of
  whole_left = w.left ∙ rw (le-ltb (length before) (limit_of f) room, le-leb (length message) (limit_of f) short)

-- what is known after a refusal, where the output has room and the message is short enough
pub record Unwritten (in_range : Bool) (why : Refusal) (before after : List ℕ) : Type 0 where
  pub range : in_range ≡ false
  pub reason : why ≡ OutOfRange
  pub kept : after ≡ before

by_range : (in_range : Bool) (message : List ℕ) (k : ℕ) {why : Refusal} {before after : List ℕ} → Err why ≡ pick (both in_range true) (Ok k) (Err OutOfRange)
    → after ≡ by_wrote (pick (both in_range true) (Ok k) (Err OutOfRange)) message before → Unwritten in_range why before after
by_range true message k t l = never cc
by_range false message k t l = record { range = refl; reason = cc; kept = l }

pub unwritten : {f : Family} {in_range : Bool} {message before after : List ℕ} {why : Refusal} → Writes f in_range message before after (Err why)
    → length message ≤ limit_of f → limit_of f ≤ length before → Unwritten in_range why before after
unfolding wrote_of left_of
unwritten {f} {in_range} {message} {before} w short room =
    let large = le-ltb (length before) (limit_of f) room in
    let fits = le-leb (length message) (limit_of f) short in
    by_range in_range message (length message) (rw (large, fits) at w.told) (rw (large, fits) at w.left)
