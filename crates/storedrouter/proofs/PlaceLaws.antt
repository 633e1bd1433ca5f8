-- A place that is stored and loaded again is the same place.
use Prim.Native.Nat.{◌^◌, ◌<◌}
use mathlib.Core.List.{List, [], ◌∷◌}
use mathlib.Core.Path.{◌≡◌, refl, ap, ◌∙◌}
use lib.ListN.{length}
use Rattle.places.specs.declared.place.Attempt.{Attempt}
use Rattle.places.specs.declared.place.Session.{Session}
use Rattle.places.specs.declared.place.Place.{Place}
use Rattle.laid.proofs.FieldLaws.{long_none, long_more, long_flag, long_number, stand_all, stand_next, stand_past, stand_part, stand_array, stand_number, stand_flag, stand_stamped}
use Rattle.storedrouter.specs.Place.{attempt_bytes, attempt_from, session_bytes, session_from, place_bytes, place_from}

-- what the code's types hold
pub record AttemptHeld (a : Attempt) : Type 0 where
  pub stamp : a.stamp < 2 ^ 64
  pub check : length a.check ≡ 16

pub record SessionHeld (v : Session) : Type 0 where
  pub stamp : v.stamp < 2 ^ 64
  pub check : length v.check ≡ 16
  pub key : length v.key ≡ 16
  pub since : v.since < 2 ^ 64

pub record PlaceHeld (p : Place) : Type 0 where
  pub address : length p.address ≡ 6
  pub last : p.last < 2 ^ 64
  pub attempt : AttemptHeld p.attempt
  pub session : SessionHeld p.session

-- of each place
abbrev pub EachHeld : List Place → Type 0
EachHeld [] = Unit
EachHeld (p ∷ ps) = PlaceHeld p × EachHeld ps

module _ (a : Attempt) (h : AttemptHeld a) where
  -- how many bytes it has
  pub attempt_length : length (attempt_bytes a) ≡ 25
  unfolding attempt_bytes
  attempt_length = (long_flag a.waiting (long_number 8 a.stamp (long_more a.check 16 h.check long_none))).is

  -- and it is loaded again
  attempt_undone : attempt_from (attempt_bytes a) ≡ a
  unfolding attempt_from attempt_bytes
  attempt_undone =
      let w = stand_stamped {fs = []} a.waiting a.stamp (stand_all _) h.stamp h.check in
      λ j. record { waiting = w.flag j; stamp = w.number j; check = w.array j }

module _ (v : Session) (h : SessionHeld v) where
  -- how many bytes it has
  pub session_length : length (session_bytes v) ≡ 49
  unfolding session_bytes
  session_length =
      (long_flag v.live
      (long_number 8 v.stamp
      (long_more v.check 16 h.check
      (long_more v.key 16 h.key
      (long_number 8 v.since long_none))))).is

  -- and it is loaded again
  session_undone : session_from (session_bytes v) ≡ v
  unfolding session_from session_bytes
  session_undone =
      let w = stand_stamped v.live v.stamp (stand_all _) h.stamp h.check in
      let key = stand_array w.next 16 h.key in
      let since = stand_number {fs = []} 8 v.since (stand_next w.next 16 h.key) h.since in
      λ j. record { live = w.flag j; stamp = w.number j; check = w.array j; key = key j; since = since j }

module _ (p : Place) (h : PlaceHeld p) where
  -- how many bytes it has
  pub place_length : length (place_bytes p) ≡ 89
  unfolding place_bytes
  place_length =
      (long_flag p.taken
      (long_more p.address 6 h.address
      (long_number 8 p.last
      (long_more (attempt_bytes p.attempt) 25 (attempt_length p.attempt h.attempt)
      (long_more (session_bytes p.session) 49 (session_length p.session h.session) long_none))))).is

  -- and it is loaded again
  pub place_undone : place_from (place_bytes p) ≡ p
  unfolding place_from place_bytes
  place_undone =
      let a = attempt_length p.attempt h.attempt in
      let v = session_length p.session h.session in
      let s₀ = stand_all _ in
      let taken = stand_flag p.taken s₀ in
      let s₁ = stand_next s₀ 1 refl in
      let address = stand_array s₁ 6 h.address in
      let s₂ = stand_next s₁ 6 h.address in
      let last = stand_number 8 p.last s₂ h.last in
      let s₃ = stand_past 8 p.last s₂ in
      let attempt = ap attempt_from (stand_part s₃ 25 a) ∙ attempt_undone p.attempt h.attempt in
      let s₄ = stand_next s₃ 25 a in
      let session = ap session_from (stand_part {fs = []} s₄ 49 v) ∙ session_undone p.session h.session in
      λ j. record { taken = taken j; address = address j; last = last j; attempt = attempt j; session = session j }
