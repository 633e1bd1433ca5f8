-- The paper's 'Table of proved examples', one list and one statement. Examples 1 to 7 are readings of a failure message, 8 and 9 the
-- tests of freshness and lapse that router and node use, 10 is the latitude of a position.
use Rattle.std.specs.Prelude.{ℕ, ◌*◌, ◌≡◌, refl, Bool, true, false, List, [], ◌∷◌, ◌++◌, map, ℤ, pos, negsuc, Result, Ok, Err, Option, Some, None}
use Rattle.misp.specs.declared.failure.Failure.{Failure}
use Rattle.refusal.specs.declared.Refusal.{Refusal}
use Rattle.octets.specs.Choice.{pick, every, flip}
use Rattle.octets.specs.Numbers.{number_of, signed_of}
use Rattle.refusal.specs.Table as table
use Rattle.refusal.specs.declared.Refusal.TheVariants.{StampAhead, StampOld}
use Rattle.object.specs.Rule.{rule_of, rule_of_misp, counts_for}
use Rattle.object.specs.Walk.{piece_of, walk_from, walk_of, mine, one_of}
use Rattle.clock.specs.Clock.{is_ahead, is_stale, is_over}
use Rattle.position.specs.Position.{angle_of}
use Rattle.message.specs.Reading.{headed, body_of, has_one, has_all, fits_in, fits_one, all_fit, vetted_body, vetted}
use Rattle.message.specs.Field.{object_in, value_in}
use Rattle.misp.specs.Failure.{failure_at, read_failure}

-- what an example says: a failure's stamp and reason, a refusal's number, whether a session is still open, an angle
pub data Said : Type 0 where
  stamp_and_reason : ℕ → ℕ → Said
  number : ℕ → Said
  is_open : Bool → Said
  angle : Option ℤ → Said

-- a reading of a failure message
abbrev pub reading : Result Failure Refusal → Said
reading (Err why) = number (table.refusal_number why)
reading (Ok f) = stamp_and_reason f.stamp f.reason

-- refusals 11 and 12 of a stamp by the clock and W, and 0 where it passes
abbrev pub freshness : ℕ → ℕ → ℕ → Said
freshness window now stamp =
    number
    (pick (is_ahead now stamp) (table.refusal_number StampAhead) (pick (is_stale now stamp window) (table.refusal_number StampOld) 0))

-- whether a session is open: it has not lapsed
abbrev pub session : ℕ → ℕ → ℕ → ℕ → Said
session lifetime unit since now = is_open (flip (is_over now since lifetime unit))

-- F's first fourteen bytes, with another Length; F itself ends in its reason
abbrev pub up_to : ℕ → List ℕ
up_to n = 0x08 ∷ 0x00 ∷ 0x00 ∷ n ∷ 0x02 ∷ 0x0A ∷ 0x00 ∷ 0x00 ∷ 0x00 ∷ 0x00 ∷ 0x00 ∷ 0x00 ∷ 0x00 ∷ 0x05 ∷ []

-- object 13 with a reason
abbrev pub reason : ℕ → List ℕ
reason n = 0x0D ∷ 0x04 ∷ 0x00 ∷ n ∷ []

-- what the definitions say, and what the paper says
pub record Example : Type 0 where
  pub says : Said
  pub paper : Said

-- a definition's answer beside the paper's
abbrev beside : Said → Said → Example
beside s p = record { says = s; paper = p }

-- a failure, and what the paper says of reading it
abbrev failure : List ℕ → Said → Example
failure m p = beside (reading (read_failure m)) p

-- the paper's examples, by their numbers
abbrev pub examples : List Example
examples =
    -- 1
    failure (up_to 0x12 ++ reason 1) (stamp_and_reason 5 1)
    ∷ failure (up_to 0x12 ++ reason 1 ++ (0xAB ∷ 0xCD ∷ [])) (stamp_and_reason 5 1)
    -- 2
    ∷ failure (up_to 0x13 ++ reason 1) (number 2)
    -- 3
    ∷ failure [] (number 1)
    ∷ failure (0x08 ∷ 0x00 ∷ 0x00 ∷ []) (number 1)
    -- 4
    ∷ failure (0x08 ∷ 0x00 ∷ 0x00 ∷ 0x04 ∷ []) (number 5)
    ∷ failure (0x08 ∷ 0x00 ∷ 0x00 ∷ 0x05 ∷ 0x00 ∷ []) (number 5)
    -- 5
    ∷ failure (0x08 ∷ 0x00 ∷ 0x00 ∷ 0x05 ∷ 0x02 ∷ []) (number 4)
    ∷ failure (0x08 ∷ 0x00 ∷ 0x00 ∷ 0x06 ∷ 0x02 ∷ 0x01 ∷ []) (number 4)
    -- 6
    ∷ failure (up_to 0x16 ++ reason 1 ++ reason 2) (stamp_and_reason 5 1)
    -- 7
    ∷ failure (up_to 0x15 ++ (0x0D ∷ 0x03 ∷ 0x09 ∷ []) ++ reason 2) (stamp_and_reason 5 2)
    -- 8
    ∷ beside (freshness 100 1000 900) (number 0)
    ∷ beside (freshness 100 1000 1000) (number 0)
    ∷ beside (freshness 100 1000 899) (number 12)
    ∷ beside (freshness 100 1000 1001) (number 11)
    -- 9
    ∷ beside (session 2 10 50 70) (is_open true)
    ∷ beside (session 2 10 50 71) (is_open false)
    -- 10: in 1/65,536 degree
    ∷ beside (angle (angle_of 0x00230000)) (angle (Some (pos (35 * 65536))))
    ∷ beside (angle (angle_of 0xFFFF0000)) (angle (Some (negsuc 65535)))
    ∷ beside (angle (angle_of 0x80000000)) (angle None)
    ∷ []

-- all ten, as one statement over the list
pub as_the_paper_says : map (λ (e : Example). e.says) examples ≡ map (λ (e : Example). e.paper) examples
unfolding read_failure failure_at vetted vetted_body headed body_of every has_one has_all all_fit fits_one fits_in object_in value_in walk_of walk_from piece_of mine one_of rule_of rule_of_misp counts_for number_of signed_of angle_of is_over
as_the_paper_says = refl
