-- The optional objects of a beacon: as they are read, as they are written, and how many bytes they are.
use Rattle.std.specs.Prelude.{⊤, Option, Some, None, MatchOption}
use Rattle.std.specs.Option.{option_map, is_some, UnwrapsOrElse}
use Prim.Native.Nat.{ℕ, ◌+◌, ◌≤◌}
use mathlib.Core.Path.{◌≡◌, refl, ap, ◌∙◌}
use mathlib.Core.List.{List, [], ◌++◌, append_assoc, append-nil}
use native.Mathlib.Omega.{arith}
use lib.Dec.{lit≤}
use lib.ListN.{length, replicate, length-append}
use Rattle.position.specs.declared.Position.{Position}
use Rattle.octets.specs.Numbers.{bytes_of}
use Rattle.octets.specs.Put.{put_in}
use Rattle.octets.proofs.NumberLaws.{bytes_length}
use Rattle.octets.proofs.PutLaws.{written_none, written_at, written_all}
use Rattle.octets.specs.Choice.{pick}
use Rattle.position.specs.Position.{position_of, position_bytes}
use Rattle.message.specs.Writing.{object_bytes, optional_object, encoded, Placed}
use Rattle.message.proofs.ValueLaws.{perhaps_most, optional_most}
use Rattle.message.proofs.WritingLaws.{encoded_append, placed_more}
use Rattle.beacons.specs.declared.beacon.Extras.{Extras}
use Rattle.beacons.specs.declared.beacon.Uplink.{Uplink}
use Rattle.beacons.specs.Beacon.{position_field_of, uplink_of, uplink_field_of, uplink_bytes, position_value, position_object, uplink_value, uplink_object, extra_objects}
use Rattle.beacons.proofs.BeaconLaws.{position_each, uplink_each}

-- an uplink's three numbers put one after the other
pub uplink_put : (u : Uplink) {t₁ t₂ t₃ : List ℕ} → t₁ ≡ put_in (replicate 6 0) 0 (bytes_of 2 u.line) → t₂ ≡ put_in t₁ 2 (bytes_of 2 u.up)
    → t₃ ≡ put_in t₂ 4 (bytes_of 2 u.down) → t₃ ≡ uplink_bytes u
unfolding uplink_bytes
uplink_put u p₁ p₂ p₃ =
    let w₁ = written_at (written_none (replicate 6 0)) (bytes_of 2 u.line) 0 refl (simp bytes_length (lit≤ tt)) p₁ in
    let w₂ = written_at w₁ (bytes_of 2 u.up) 2 (simp (length-append, bytes_length)) (simp bytes_length (lit≤ tt)) p₂ in
    let w₃ = written_at w₂ (bytes_of 2 u.down) 4 (simp (length-append, bytes_length)) (simp bytes_length (lit≤ tt)) p₃ in
    written_all w₃ (simp (length-append, bytes_length)) ∙ simp append_assoc

-- a position and an uplink that may be missing, in the library's words
pub position_map : (v : Option (List ℕ)) → option_map position_of v ≡ position_field_of v
position_map None = refl
position_map (Some v) = refl

pub uplink_map : (v : Option (List ℕ)) → option_map uplink_of v ≡ uplink_field_of v
uplink_map None = refl
uplink_map (Some v) = refl

-- the bytes that are put are those of one that is given; of one that is missing nothing is asked
pub bytes_given : {A : Type 0} (f : A → List ℕ) (P : A → Type 0) (o : Option A) (q : A) {v : List ℕ} → UnwrapsOrElse o P q → v ≡ f q
    → MatchOption o ⊤ (λ x. v ≡ f x)
bytes_given f P None q is h = tt
bytes_given f P (Some x) q is h = h ∙ ap f is

pub position_laid : (p : Option Position) (v : List ℕ) → MatchOption p ⊤ (λ x. v ≡ position_bytes x)
    → pick (is_some p) (object_bytes 9 v) [] ≡ encoded (position_object p)
unfolding encoded
position_laid None v h = refl
position_laid (Some p) v h = rw (h, append-nil)

pub uplink_laid : (u : Option Uplink) (v : List ℕ) → MatchOption u ⊤ (λ x. v ≡ uplink_bytes x)
    → pick (is_some u) (object_bytes 19 v) [] ≡ encoded (uplink_object u)
unfolding encoded
uplink_laid None v h = refl
uplink_laid (Some u) v h = rw (h, append-nil)

-- the bytes of all five, one after the other
pub extras_laid : (x : Extras) {a b c d e : List ℕ} → a ≡ encoded (position_object x.position) → b ≡ encoded (optional_object 10 1 x.left)
    → c ≡ encoded (optional_object 11 1 x.filter) → d ≡ encoded (uplink_object x.uplink) → e ≡ encoded (optional_object 20 1 x.channel)
    → encoded (extra_objects x) ≡ a ++ (b ++ (c ++ (d ++ (e ++ []))))
unfolding extra_objects
extras_laid x p q r s t = rw (p, q, r, s, t, append-nil) (simp encoded_append)

-- object 9: at most 14 bytes
position_most : (p : Option Position) → length (encoded (position_object p)) ≤ 14
position_most p = perhaps_most 9 12 (position_value p) (position_each p)

-- object 19: at most 8
uplink_most : (u : Option Uplink) → length (encoded (uplink_object u)) ≤ 8
uplink_most u = perhaps_most 19 6 (uplink_value u) (uplink_each u)

-- all optional objects: at most 31 bytes
pub extras_most : (e : Extras) → length (encoded (extra_objects e)) ≤ 31
unfolding extra_objects
extras_most e =
    simp (encoded_append, length-append)
    (omega (
      arith,
      position_most e.position,
      optional_most 10 1 e.left,
      optional_most 11 1 e.filter,
      uplink_most e.uplink,
      optional_most 20 1 e.channel,
    ))

-- put one after the other, the five are the optional objects of a beacon
pub extras_placed : (e : Extras) {l l₁ l₂ l₃ l₄ l₅ : List ℕ} {at n₁ n₂ n₃ n₄ n₅ : ℕ} → at + 31 ≤ length l
    → Placed l at (position_object e.position) l₁ n₁
    → Placed l₁ (at + n₁) (optional_object 10 1 e.left) l₂ n₂
    → Placed l₂ (at + (n₁ + n₂)) (optional_object 11 1 e.filter) l₃ n₃
    → Placed l₃ (at + (n₁ + n₂ + n₃)) (uplink_object e.uplink) l₄ n₄
    → Placed l₄ (at + (n₁ + n₂ + n₃ + n₄)) (optional_object 20 1 e.channel) l₅ n₅
    → Placed l at (extra_objects e) l₅ (n₁ + n₂ + n₃ + n₄ + n₅)
unfolding extra_objects
extras_placed e {n₁ = n₁} {n₂ = n₂} {n₃ = n₃} {n₄ = n₄} {n₅ = n₅} room p₁ p₂ p₃ p₄ p₅ =
    let k₁ : n₁ ≤ 14 = omega (arith, p₁.size, position_most e.position) in
    let k₂ : n₂ ≤ 3 = omega (arith, p₂.size, optional_most 10 1 e.left) in
    let k₃ : n₃ ≤ 3 = omega (arith, p₃.size, optional_most 11 1 e.filter) in
    let k₄ : n₄ ≤ 8 = omega (arith, p₄.size, uplink_most e.uplink) in
    let k₅ : n₅ ≤ 3 = omega (arith, p₅.size, optional_most 20 1 e.channel) in
    let w₂ = placed_more p₁ p₂ (omega arith) (omega arith) in
    let w₃ = placed_more w₂ p₃ (omega arith) (omega arith) in
    let w₄ = placed_more w₃ p₄ (omega arith) (omega arith) in
    simp append_assoc at (placed_more w₄ p₅ (omega arith) (omega arith))
