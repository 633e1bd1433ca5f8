-- A node's call whose outcome was handed back.
use Prim.Native.Nat.{ℕ}
use mathlib.Core.Path.{◌≡◌, sym}
use mathlib.Core.List.{List}
use lib.ListN.{length}
use Rattle.node.specs.declared.Node.{Node}
use Rattle.refusal.specs.declared.Outcome.{Outcome}
use Rattle.shell.specs.Shell.{Hands}
use Rattle.shell.proofs.ShellLaws.{handed}
use Rattle.refusal.specs.Step.{Leaves}
use Rattle.node.specs.State.{Step}
use Rattle.storednode.specs.Node.{node_size}
use Rattle.lentnode.specs.Node.{node_party, NodeLeaves}

-- it leaves what the call's definition says
pub node_left : {s : Step} {o : Outcome Node} {state out to : List ℕ} {number : ℕ} {after wrote given : List ℕ}
    → length state ≡ node_size → Leaves s o wrote → Hands node_party o to number after given
    → NodeLeaves state out to s number after wrote given
node_left fits l h = rw (sym l.told) (handed fits h l.left)
