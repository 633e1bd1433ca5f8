-- A writer puts its objects one after the other past the header, and then the header; what stands past the message stays.
use Rattle.std.specs.Prelude.{Result, Ok, Err}
use Prim.Native.Nat.{ℕ, ◌+◌, ◌-◌, ◌*◌, ◌≤◌, ◌<◌}
use mathlib.Core.Bool.{Bool, true, false}
use mathlib.Core.List.{List, [], ◌∷◌, ◌++◌, append_assoc}
use mathlib.Core.Path.{◌≡◌, refl, sym, ap, subst, ◌∙◌}
use native.Mathlib.Nat.{zero-add}
use native.Mathlib.Omega.{arith}
use lib.Dec.{ltb, lit≤, leb}
use lib.ListN.{length, drop, set, length-append, length-replicate, length-drop}
use borrow.Author.Tests.{le-leb, lt-leb, lt-ltb, le-ltb, leb-true, ltb-false}
use Rattle.refusal.specs.declared.Refusal.{Refusal}
use Rattle.octets.specs.Choice.{pick, both}
use Rattle.octets.specs.Numbers.{bytes_of}
use Rattle.octets.specs.Put.{put, put_in}
use Rattle.octets.proofs.ChoiceLaws.{both_none, pick_all, both_right}
use Rattle.octets.proofs.NumberLaws.{bytes_length, bytes_zero}
use Rattle.octets.proofs.PutLaws.{put_start, put_rest, put_put, put_length, put_in_fits, put_in_none, written_none, written_one, written_at}
use Rattle.refusal.specs.declared.Refusal.TheVariants.{OutOfRange, SmallOutput}
use Rattle.object.specs.Family.{header_of, limit_of}
use Rattle.object.specs.declared.family.Family.{Family}
use Rattle.object.specs.declared.family.Family.TheVariants.{Misp, Misauth}
use Rattle.message.specs.Writing.{head_bytes, object_bytes, Object, encoded, message_of, wrote_of, by_wrote, left_of, Writes, Placed}
use Rattle.message.proofs.ObjectLaws.{object_length, placed_length}

-- bounds on header and limit of both families
pub header_least : (f : Family) → 4 ≤ header_of f
header_least Misp = lit≤ tt
header_least Misauth = lit≤ tt

pub limit_most : (f : Family) → limit_of f ≤ 4096
limit_most Misp = lit≤ tt
limit_most Misauth = lit≤ tt

pub header_limit : (f : Family) → header_of f ≤ limit_of f
header_limit Misp = lit≤ tt
header_limit Misauth = lit≤ tt

-- a header has its family's length
pub head_length : (f : Family) (code second end : ℕ) → length (head_bytes f code second end) ≡ header_of f
unfolding head_bytes
head_length f code second end = simp (length-append, bytes_length, length-replicate) (omega (arith, header_least f))

-- `put_head`: two bytes, Length, and zeros up to the end of the header
pub head_put : (f : Family) (code second end header : ℕ) (l : List ℕ) {middle after : List ℕ} → header ≡ header_of f → header ≤ length l
    → middle ≡ put_in (set (set l 0 code) 1 second) 2 (bytes_of 2 end) → after ≡ put_in middle 4 (bytes_of (header - 4) 0)
    → after ≡ put_in l 0 (head_bytes f code second end)
unfolding head_bytes
head_put f code second end header l e h p q =
    let four = header_least f in
    let w₁ = written_one (written_none l) code 0 refl (omega arith) refl in
    let w₂ = written_one w₁ second 1 refl (omega arith) refl in
    let w₃ = written_at w₂ (bytes_of 2 end) 2 refl (simp bytes_length (omega arith)) p in
    let w₄ = written_at w₃ (bytes_of (header - 4) 0) 4 (simp bytes_length) (simp bytes_length (omega arith)) q in
    let is : code ∷ second ∷ (bytes_of 2 end ++ bytes_of (header - 4) 0) ≡ head_bytes f code second end = rw (bytes_zero, e) in
    w₄.is
    ∙ sym (put_start l (code ∷ second ∷ (bytes_of 2 end ++ bytes_of (header - 4) 0)))
    ∙ rw is (sym (put_in_fits l 0 (head_bytes f code second end) (rw head_length (omega arith))))

pub head_none : (f : Family) (code second end header : ℕ) (l : List ℕ) → header ≡ header_of f → length l < header
    → l ≡ put_in l 0 (head_bytes f code second end)
head_none f code second end header l e h = sym (put_in_none l 0 (head_bytes f code second end) (rw (head_length, zero-add, ← e) h))

-- how long a message is
pub message_length : (f : Family) (code second : ℕ) (objects : List ℕ) → length (message_of f code second objects) ≡ header_of f + length objects
unfolding message_of
message_length f code second objects = simp (length-append, head_length)

-- objects one after the other
pub encoded_append : (os os' : List Object) → encoded (os ++ os') ≡ encoded os ++ encoded os'
unfolding encoded
encoded_append [] os' = refl
encoded_append (o ∷ os) os' = rw (encoded_append os os') (sym (append_assoc (object_bytes o.kind o.value) (encoded os) (encoded os')))

-- no object has more than 255 bytes
encoded_most : (os : List Object) → length (encoded os) ≤ 255 * length os
unfolding encoded
encoded_most [] = omega arith
encoded_most (o ∷ os) = simp length-append (omega (arith, object_length o.kind o.value, encoded_most os))

-- so a message of few objects is short
pub message_most : (f : Family) (code second : ℕ) (os : List Object) → length (message_of f code second (encoded os)) ≤ header_of f + 255 * length os
message_most f code second os = omega (arith, message_length f code second (encoded os), encoded_most os)

-- one after the other, where both have room
pub placed_more : {before middle after : List ℕ} {at n n' : ℕ} {os os' : List Object}
    → Placed before at os middle n → Placed middle (at + n) os' after n'
    → at + (n + n') ≤ length before → n + n' ≤ 255
    → Placed before at (os ++ os') after (n + n')
placed_more {before} {middle} {after} {at} {n} {n'} {os} {os'} p q room few =
    let size = p.size in
    let size' = q.size in
    let first : middle ≡ put before at (encoded os) = p.left ∙ put_in_fits before at (encoded os) (omega arith) in
    let long : length middle ≡ length before = placed_length p in
    let both : put middle (at + n) (encoded os') ≡ put before at (encoded os ++ encoded os') =
    rw (first, size) (put_put before at (encoded os) (encoded os') (omega arith)) in
    record {
      size = rw (encoded_append, length-append) (omega arith);
      few = few;
      left = q.left
          ∙ put_in_fits middle (at + n) (encoded os') (omega arith)
          ∙ both
          ∙ rw encoded_append (sym (put_in_fits before at (encoded os ++ encoded os') (rw length-append (omega arith))));
    }

-- a message is written: the bytes of its objects put past where the header will stand, and then the header
module _ (f : Family) (l₀ bs : List ℕ) {out : List ℕ} {at : ℕ} (is : out ≡ put l₀ (header_of f) bs) (reached : at ≡ header_of f + length bs)
    (whole : header_of f + length bs ≤ limit_of f) (limit : limit_of f ≤ length l₀) where
  -- what stands past it stays
  message_put : (code second : ℕ) {out' : List ℕ} → out' ≡ put_in out 0 (head_bytes f code second at)
      → out' ≡ message_of f code second bs ++ drop (length (message_of f code second bs)) l₀
  unfolding message_of
  message_put code second p =
      let head = head_bytes f code second at in
      let long : length out ≡ length l₀ = ap length is ∙ put_length l₀ (header_of f) bs (omega arith) in
      let rest : drop (length head) out ≡ bs ++ drop (header_of f + length bs) l₀ =
      rw (head_length, is) (put_rest l₀ (header_of f) bs (omega arith)) in
      p
      ∙ put_in_fits out 0 head (rw head_length (omega arith))
      ∙ put_start out head
      ∙ rw (rest, reached, message_length)
      (sym (append_assoc (head_bytes f code second (header_of f + length bs)) bs (drop (header_of f + length bs) l₀)))

  -- the answer, and what is left
  pub writes_done : (code second : ℕ) {in_range : Bool} {out' : List ℕ} → in_range ≡ true → out' ≡ put_in out 0 (head_bytes f code second at)
      → Writes f in_range (message_of f code second bs) l₀ out' (Ok at)
  unfolding wrote_of left_of
  writes_done code second e p =
      let size = message_length f code second bs in
      let large = le-ltb (length l₀) (limit_of f) limit in
      let fits = le-leb (length (message_of f code second bs)) (limit_of f) (omega arith) in
      record { told = rw (large, e, fits, size) (ap Ok reached); left = rw (large, e, fits) (message_put code second p) }

-- the output is under the limit
pub writes_small : (f : Family) (in_range : Bool) (message l₀ : List ℕ) {limit : ℕ} → limit ≡ limit_of f → length l₀ < limit
    → Writes f in_range message l₀ l₀ (Err SmallOutput)
unfolding wrote_of left_of
writes_small f in_range message l₀ e h =
    let small = lt-ltb (length l₀) (limit_of f) (rw (← e) h) in
    record { told = rw small; left = rw small }

-- a field is out of its range
pub writes_range : (f : Family) {in_range : Bool} (message l₀ : List ℕ) {limit : ℕ} → limit ≡ limit_of f → limit ≤ length l₀ → in_range ≡ false
    → Writes f in_range message l₀ l₀ (Err OutOfRange)
unfolding wrote_of left_of
writes_range f message l₀ e h out =
    let large = le-ltb (length l₀) (limit_of f) (rw (← e) h) in
    record { told = rw (large, out); left = rw (large, out) }

-- the whole is too long
pub writes_long : (f : Family) (in_range : Bool) (message l₀ : List ℕ) {limit : ℕ} → limit ≡ limit_of f → limit ≤ length l₀ → limit < length message
    → Writes f in_range message l₀ l₀ (Err OutOfRange)
unfolding wrote_of left_of
writes_long f in_range message l₀ e h long =
    let large = le-ltb (length l₀) (limit_of f) (rw (← e) h) in
    let over = lt-leb (length message) (limit_of f) (rw (← e) long) in
    record { told = rw (large, over, both_none); left = rw (large, over, both_none) }

-- it is another message, but the same where it is in range
pub writes_same : (f : Family) (in_range : Bool) (message message' : List ℕ) {before after : List ℕ} {r : Result ℕ Refusal}
    → (in_range ≡ true → message ≡ message') → Writes f in_range message before after r → Writes f in_range message' before after r
unfolding left_of wrote_of
writes_same f true message message' {before} {after} {r} e w = subst (λ (m : List ℕ). Writes f true m before after r) (e refl) w
writes_same f false message message' {before} e w = record { told = w.told; left = w.left ∙ go (ltb (length before) (limit_of f)) }
  where
    go : (b : Bool) → by_wrote (pick b (Err SmallOutput) (Err OutOfRange)) message before ≡ by_wrote (pick b (Err SmallOutput) (Err OutOfRange)) message' before
    go true = refl
    go false = refl

-- what a writer leaves is as long as what it was lent
pub writes_length : {f : Family} {in_range : Bool} {message before after : List ℕ} {r : Result ℕ Refusal}
    → Writes f in_range message before after r → length after ≡ length before
unfolding left_of wrote_of
writes_length {f} {in_range} {message} {before} w =
    let P : Result ℕ Refusal → Type 0 = λ r. length (by_wrote r message before) ≡ length before in
    ap length w.left
    ∙ pick_all P (ltb (length before) (limit_of f)) (Err SmallOutput)
    (pick (both in_range (leb (length message) (limit_of f))) (Ok (length message)) (Err OutOfRange)) (λ _. refl)
    λ large. pick_all P (both in_range (leb (length message) (limit_of f))) (Ok (length message)) (Err OutOfRange)
    (λ fits. simp (length-append, length-drop)
    (omega (
      arith,
      ltb-false (length before) (limit_of f) large,
      leb-true (length message) (limit_of f) (both_right in_range (leb (length message) (limit_of f)) fits),
    )))
    (λ _. refl)
