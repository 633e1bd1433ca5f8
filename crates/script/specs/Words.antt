-- The words of a line (docs/REPLAY.md, 'Lines': 'Words are parted by one space').
use Rattle.std.specs.Prelude.{ℕ, List, [], ◌∷◌, ◌++◌, slice_index_or, ◌==◌}
use Prim.Native.Char.{code}
use Prim.Native.String.{String, [] as empty, ◌∷◌ as ◌then◌}
use Rattle.octets.specs.Choice.{pick}

-- a text's bytes, in ASCII
abbrev pub ascii : String → List ℕ
ascii empty = []
ascii (c then s) = code c ∷ ascii s

-- 'parted by one space'
abbrev pub space : ℕ
space = 32

-- the bytes before the first mark; all where there is none
unfoldable pub up_to : ℕ → List ℕ → List ℕ
up_to mark [] = []
up_to mark (b ∷ l) = pick (b == mark) [] (b ∷ up_to mark l)

-- a byte before the first word
abbrev pub before : ℕ → List (List ℕ) → List (List ℕ)
before b [] = (b ∷ []) ∷ []
before b (w ∷ ws) = (b ∷ w) ∷ ws

-- one word more than there are spaces: one that is doubled, leading or trailing gives an empty word, which no reader of a word takes
unfoldable pub words_of : List ℕ → List (List ℕ)
words_of [] = [] ∷ []
words_of (b ∷ l) = pick (b == space) ([] ∷ words_of l) (before b (words_of l))

-- the word that n others precede
unfoldable pub word_of : List ℕ → ℕ → List ℕ
word_of line n = slice_index_or (words_of line) n []

-- words with one space between each and the next
unfoldable pub joined : List (List ℕ) → List ℕ
joined [] = []
joined (w ∷ []) = w
joined (w ∷ v ∷ ws) = w ++ (space ∷ joined (v ∷ ws))
