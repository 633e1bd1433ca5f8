-- The bytes of a place, of which some are zeroed: what is read of them, and which bytes they are.
use Prim.Native.Nat.{ℕ, ◌+◌, ◌≤◌}
use mathlib.Core.List.{List, [], ◌∷◌, ◌++◌}
use mathlib.Core.Path.{◌≡◌, refl, sym, ap, ◌∙◌}
use native.Mathlib.Omega.{arith}
use lib.Dec.{lit<, lit≤}
use lib.ListN.{length, get_or, take, drop, replicate}
use lib.Seq.{drop-drop, get_or-take}
use Rattle.octets.specs.Numbers.{number_of, bytes_of}
use Rattle.octets.specs.Put.{put_in, fitted}
use Rattle.octets.proofs.ListLaws.{part_within, part_byte}
use Rattle.octets.proofs.PatchLaws.{put_in_whole, put_in_take, put_in_part, part_before, part_past}
use Rattle.places.specs.declared.place.Attempt.{Attempt}
use Rattle.places.specs.declared.place.Session.{Session}
use Rattle.places.specs.declared.place.Place.{Place}
use Rattle.places.specs.Place.{no_attempt, no_session, fresh_place}
use Rattle.laid.specs.Field.{joined, flag_bytes, flag_of, number_at, array_at}
use Rattle.laid.proofs.FieldLaws.{long_none, long_more, long_flag, long_number, field_put, array_same}
use Rattle.storedrouter.specs.Place.{attempt_bytes, attempt_from, session_bytes, session_from, place_bytes, place_from}
use Rattle.storedrouter.proofs.PlaceLaws.{PlaceHeld, attempt_length, session_length}

-- the place with another attempt
abbrev pub place_with_attempt : Place → Attempt → Place
place_with_attempt p a = record { taken = p.taken; address = p.address; last = p.last; attempt = a; session = p.session }

-- the place with another session
abbrev pub place_with_session : Place → Session → Place
place_with_session p v = record { taken = p.taken; address = p.address; last = p.last; attempt = p.attempt; session = v }

-- WHERE the numbers and flags stand that a lapse reads
pub stamp_at : (b : List ℕ) → number_at 8 16 b ≡ (place_from b).attempt.stamp
unfolding place_from attempt_from
stamp_at b = ap number_of (ap (take 8) (sym (drop-drop 1 15 b)) ∙ sym (part_within 25 1 8 (drop 15 b) (lit≤ tt)))

pub since_at : (b : List ℕ) → number_at 8 81 b ≡ (place_from b).session.since
unfolding place_from session_from
since_at b = ap number_of (ap (take 8) (sym (drop-drop 41 40 b)) ∙ sym (part_within 49 41 8 (drop 40 b) (lit≤ tt)))

pub live_at : (b : List ℕ) → flag_of (get_or b 40 0) ≡ (place_from b).session.live
unfolding place_from session_from
live_at b = ap flag_of (sym (part_byte 49 40 0 b (lit< tt)))

pub last_at : (b : List ℕ) → number_at 8 7 b ≡ (place_from b).last
unfolding place_from
last_at b = refl

pub taken_at : (b : List ℕ) → flag_of (get_or b 0 0) ≡ (place_from b).taken
unfolding place_from
taken_at b = refl

-- WHAT is read where zeros are put
module _ (b : List ℕ) (at : ℕ) (z : List ℕ) (h : 15 ≤ at) where
  -- past the first 15 bytes: flag, address and last stamp stay
  first_same : flag_of (get_or (put_in b at z) 0 0) ≡ flag_of (get_or b 0 0)
  first_same =
      let one : 1 ≤ at = omega arith in
      ap flag_of
      (sym (get_or-take 1 (put_in b at z) 0 0 (lit< tt)) ∙ ap (λ (x : List ℕ). get_or x 0 0) (put_in_take b at z 1 one) ∙ get_or-take 1 b 0 0 (lit< tt))

  address_same : array_at 6 1 (put_in b at z) ≡ array_at 6 1 b
  address_same = array_same 6 1 b (put_in b at z) (part_before b at z 6 1 (omega arith))

  last_same : number_at 8 7 (put_in b at z) ≡ number_at 8 7 b
  last_same = ap number_of (part_before b at z 8 7 (omega arith))

  -- so of a place only its attempt and its session are read anew
  from_first : {a : Attempt} {v : Session} → attempt_from (take 25 (drop 15 (put_in b at z))) ≡ a → session_from (take 49 (drop 40 (put_in b at z))) ≡ v
      → place_from (put_in b at z) ≡ place_with_session (place_with_attempt (place_from b) a) v
  unfolding place_from
  from_first attempt session = λ j. record { taken = first_same j; address = address_same j; last = last_same j; attempt = attempt j; session = session j }

-- zeros are read as no attempt, no session and the fresh place
attempt_zeros : attempt_from (replicate 25 0) ≡ no_attempt
unfolding attempt_from array_at fitted number_of
attempt_zeros = refl

session_zeros : session_from (replicate 49 0) ≡ no_session
unfolding session_from array_at fitted number_of
session_zeros = refl

pub place_zeros : place_from (replicate 89 0) ≡ fresh_place
unfolding place_from attempt_from session_from array_at fitted number_of
place_zeros = refl

module _ (b : List ℕ) (long : length b ≡ 89) where
  -- with zeros for its attempt
  pub from_attempt : place_from (put_in b 15 (replicate 25 0)) ≡ place_with_attempt (place_from b) no_attempt
  unfolding place_from
  from_attempt =
      let z : List ℕ = replicate 25 0 in
      let room : 15 + 25 ≤ length b = omega arith in
      from_first b 15 z (omega arith) (ap attempt_from (put_in_part b 15 z room) ∙ attempt_zeros) (ap session_from (part_past b 15 z 49 40 (lit≤ tt)))

  -- with zeros for its session
  pub from_session : place_from (put_in b 40 (replicate 49 0)) ≡ place_with_session (place_from b) no_session
  unfolding place_from
  from_session =
      let z : List ℕ = replicate 49 0 in
      let room : 40 + 49 ≤ length b = omega arith in
      from_first b 40 z (omega arith) (ap attempt_from (part_before b 40 z 25 15 (lit≤ tt))) (ap session_from (put_in_part b 40 z room) ∙ session_zeros)

  -- with zeros for all of it
  pub all_zeros : put_in b 0 (replicate 89 0) ≡ replicate 89 0
  all_zeros = put_in_whole b (replicate 89 0) long

-- WHICH bytes they are
-- no attempt, no session and the fresh place are stored as zeros
zeros_attempt : attempt_bytes no_attempt ≡ replicate 25 0
unfolding attempt_bytes bytes_of
zeros_attempt = refl

zeros_session : session_bytes no_session ≡ replicate 49 0
unfolding session_bytes bytes_of
zeros_session = refl

pub zeros_place : place_bytes fresh_place ≡ replicate 89 0
unfolding place_bytes attempt_bytes session_bytes bytes_of
zeros_place = refl

module _ (p : Place) (h : PlaceHeld p) where
  -- the fields before its attempt
  abbrev head : List (List ℕ)
  head = flag_bytes p.taken ∷ p.address ∷ bytes_of 8 p.last ∷ []

  -- with zeros for its attempt
  pub bytes_attempt : put_in (place_bytes p) 15 (replicate 25 0) ≡ place_bytes (place_with_attempt p no_attempt)
  unfolding place_bytes
  bytes_attempt =
      let long = (long_flag p.taken (long_more p.address 6 h.address (long_number 8 p.last long_none))).is in
      field_put head (attempt_bytes p.attempt) (replicate 25 0) (session_bytes p.session ∷ []) 15 long (attempt_length p.attempt h.attempt)
      ∙ ap (λ (x : List ℕ). joined (head ++ (x ∷ session_bytes p.session ∷ []))) (sym zeros_attempt)

  -- with zeros for its session
  pub bytes_session : put_in (place_bytes p) 40 (replicate 49 0) ≡ place_bytes (place_with_session p no_session)
  unfolding place_bytes
  bytes_session =
      let a = attempt_bytes p.attempt in
      let long = (long_flag p.taken
      (long_more p.address 6 h.address
      (long_number 8 p.last (long_more a 25 (attempt_length p.attempt h.attempt) long_none)))).is in
      field_put (head ++ (a ∷ [])) (session_bytes p.session) (replicate 49 0) [] 40 long (session_length p.session h.session)
      ∙ ap (λ (x : List ℕ). joined (head ++ (a ∷ x ∷ []))) (sym zeros_session)
