-- Words that are taken and words that are not, and what is printed (docs/REPLAY.md): one list and one statement.
use Rattle.std.specs.Prelude.{ℕ, ◌-◌, ◌^◌, ◌≡◌, refl, List, [], ◌∷◌, map, Option, Some, None}
use Prim.Native.String.{String}
use Rattle.octets.specs.Choice.{every}
use Rattle.octets.specs.Same.{same_bytes}
use Rattle.script.specs.Words.{ascii, up_to, words_of}
use Rattle.script.specs.Digits.{digit_of, glyph_of}
use Rattle.script.specs.Decimal.{decimal_from, decimal_of, decimal_before, decimal_text}
use Rattle.script.specs.Hex.{unhexed, is_hex, hex_of, digit_pairs, hexed}

-- what an example says: the words of a line, a number, a byte string, a printed text
pub data Said : Type 0 where
  words : List (List ℕ) → Said
  number : Option ℕ → Said
  bytes : Option (List ℕ) → Said
  text : List ℕ → Said

-- what the definitions say, and what the language says
pub record Example : Type 0 where
  pub says : Said
  pub right : Said

-- an example of each: two answers, a line, a number, a byte string, a printed text
abbrev eg : Said → Said → Example
eg s r = record { says = s; right = r }

abbrev line : String → List (List ℕ) → Example
line s ws = eg (words (words_of (ascii s))) (words ws)

abbrev decimal : String → Option ℕ → Example
decimal s n = eg (number (decimal_of (ascii s))) (number n)

abbrev hex : String → Option (List ℕ) → Example
hex s o = eg (bytes (hex_of (ascii s))) (bytes o)

abbrev printed : List ℕ → String → Example
printed l s = eg (text l) (text (ascii s))

-- words, numbers, byte strings, and what is printed
abbrev pub examples : List Example
examples =
    -- one space parts two words; one that is doubled, leading or trailing leaves an empty word
    line "room 12" (ascii "room" ∷ ascii "12" ∷ [])
    ∷ line "room  12" (ascii "room" ∷ [] ∷ ascii "12" ∷ [])
    ∷ line " taken" ([] ∷ ascii "taken" ∷ [])
    ∷ line "taken " (ascii "taken" ∷ [] ∷ [])
    ∷ line "" ([] ∷ [])
    -- numbers: leading zeros count for nothing, the value is below 2 ^ 64; no sign, no other byte
    ∷ decimal "0" (Some 0)
    ∷ decimal "007" (Some 7)
    ∷ decimal "0000000000000000000000000000000000000042" (Some 42)
    ∷ decimal "18446744073709551615" (Some (2 ^ 64 - 1))
    ∷ decimal "18446744073709551616" None
    ∷ decimal "18446744073709551620" None
    ∷ decimal "99999999999999999999999999" None
    ∷ decimal "" None
    ∷ decimal "+1" None
    ∷ decimal "-1" None
    ∷ decimal "1a" None
    ∷ decimal "1\r" None
    -- byte strings: lower or upper case, an even number of digits and some, or `-`
    ∷ hex "-" (Some [])
    ∷ hex "00" (Some (0 ∷ []))
    ∷ hex "0a" (Some (10 ∷ []))
    ∷ hex "0A" (Some (10 ∷ []))
    ∷ hex "aF09fA" (Some (175 ∷ 9 ∷ 250 ∷ []))
    ∷ hex "" None
    ∷ hex "a" None
    ∷ hex "0a1" None
    ∷ hex "0g" None
    ∷ hex "0G" None
    ∷ hex "@0" None
    ∷ hex "--" None
    ∷ hex "0a\r" None
    -- printed: no leading zero, lower case, `-` for none
    ∷ printed (decimal_text 0) "0"
    ∷ printed (decimal_text 10) "10"
    ∷ printed (decimal_text (2 ^ 64 - 1)) "18446744073709551615"
    ∷ printed (hexed []) "-"
    ∷ printed (hexed (0 ∷ 171 ∷ [])) "00ab"
    ∷ []

-- each is read and printed as it says
pub as_the_language_says : map (λ (e : Example). e.says) examples ≡ map (λ (e : Example). e.right) examples
unfolding same_bytes up_to words_of digit_of glyph_of every decimal_from decimal_of decimal_before decimal_text unhexed is_hex hex_of digit_pairs hexed
as_the_language_says = refl
