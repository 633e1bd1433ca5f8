-- What differs between the two families of messages (the paper, 'MISP messages' and 'MISAUTH messages').
use Rattle.std.specs.Prelude.{ℕ, Bool, true, false, List, length, nat_lt}
use Rattle.object.specs.declared.family.Family.{Family}
use Rattle.object.specs.declared.family.Family.TheVariants.{Misp, Misauth}

-- the paper, refusal 1: 'fewer bytes than a header (4, 20)'
abbrev pub header_of : Family → ℕ
header_of Misp = 4
header_of Misauth = 20

-- the paper: Length is 4 to 1,500; 'MISAUTH messages': 20 to 4,096 here
abbrev pub limit_of : Family → ℕ
limit_of Misp = 1500
limit_of Misauth = 4096

-- the paper: type 0 is a single byte of padding; 'MISAUTH messages': there is no padding type
abbrev pub padded_in : Family → Bool
padded_in Misp = true
padded_in Misauth = false

-- the paper: of several of one type the first counts; 'MISAUTH messages': here the last
abbrev pub last_in : Family → Bool
last_in Misp = false
last_in Misauth = true

-- the paper, refusal 20: output under 1,500 (MISP) or 4,096 (MISAUTH) bytes
abbrev pub is_small : Family → List ℕ → Bool
is_small f out = nat_lt (length out) (limit_of f)
