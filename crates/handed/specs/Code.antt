-- The one number that a call hands back (DECISIONS, 52): the number of the paper's table, to whom goes what was written, and how much it is.
use Rattle.std.specs.Prelude.{ℕ, ◌+◌, ◌*◌, ◌%◌, List, Result, Ok, Err, ⊤}
use Rattle.refusal.specs.Step.{done}
use Rattle.refusal.specs.declared.Refusal.{Refusal}
use Rattle.refusal.specs.declared.To.{To}
use Rattle.refusal.specs.declared.To.TheVariants.{Nobody, Everyone, Server, Address}
use Rattle.refusal.specs.Table.{answer_number}

-- to whom goes what a call wrote: nobody, everyone, an address, the server
abbrev pub to_number : To → ℕ
to_number Nobody = 0
to_number Everyone = 1
to_number (Address address) = 2
to_number Server = 3

-- byte 0 is the table's number (0 for none), byte 1 the destination, bytes 2 and 3 how many bytes were written
unfoldable pub coded : Result ⊤ Refusal → To → ℕ → ℕ
coded answer to written = answer_number answer + 256 * to_number to + 65536 * (written % 65536)

-- a writer's answer ('a bare writer 20 and 18', and the router's beacon): what it wrote goes to `to`; after a refusal nothing goes out
abbrev pub wrote_to : To → Result ℕ Refusal → ℕ
wrote_to to (Err why) = coded (Err why) Nobody 0
wrote_to to (Ok n) = coded done to n

-- no number of the table: the state buffer has not the size that the library tells
abbrev pub misuse : ℕ
misuse = 255

-- the address is handed out where what was written goes to an address
abbrev pub addressed : To → List ℕ → List ℕ
addressed Nobody before = before
addressed Everyone before = before
addressed Server before = before
addressed (Address address) before = address
