-- A node's call over a state that the caller lends as bytes (docs/BOUNDARY.md): the shell of every call, with what the node's definitions say.
use Rattle.std.specs.Prelude.{ℕ, List, Result}
use Rattle.refusal.specs.declared.Refusal.{Refusal}
use Rattle.shell.specs.Shell.{Party, LeavesLent, EndsLent, SetsUp}
use Rattle.node.specs.declared.Node.{Node}
use Rattle.node.specs.State as node_call
use Rattle.storednode.specs.Node.{node_bytes, node_from, node_size}

-- a node's state as bytes
abbrev pub node_party : Party Node
node_party = record { size = node_size; bytes = node_bytes; from = node_from }

-- a step of a node, whose state is stored anew: every byte is settled
abbrev pub NodeLeaves : List ℕ → List ℕ → List ℕ → node_call.Step → ℕ → List ℕ → List ℕ → List ℕ → Type 0
NodeLeaves state out to s = LeavesLent Unit node_party state out to s.outcome s.out

-- .. without an output
abbrev pub NodeEnds : List ℕ → node_call.Step → ℕ → List ℕ → Type 0
NodeEnds state s = EndsLent Unit node_party state s.outcome

-- setup leaves what the shell says
abbrev pub NodeSetsUp : List ℕ → Result Node Refusal → ℕ → List ℕ → Type 0
NodeSetsUp state made = SetsUp node_party state made
