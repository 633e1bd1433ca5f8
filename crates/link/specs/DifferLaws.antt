-- Different requests keep different check values where messages go away, and where one more was sent that is no node's.
use Rattle.std.proofs.Common.{subst, ⊎_elim}
use mathlib.Core.List.Memᴰ
use mathlib.Core.List.{List, ◌∷◌, Memᴰ}
use Rattle.link.specs.World.{Packet, to_everyone, to_router, to_node, to_server, from_server}
use Rattle.link.specs.Premises.{SentRequest, Differ}
use Rattle.link.specs.Inv.{More}

-- a request that was sent, where it is among other messages too
abbrev request_in : {M M' : List Packet} (a : SentRequest M) → Memᴰ (to_router a.node a.router a.m) M' → SentRequest M'
request_in a was = record { node = a.node; router = a.router; m = a.m; fields = a.fields; was = was; reads = a.reads }

-- where requests of more messages differ, those of fewer do
pub differ_fewer : {M M' : List Packet} → More M M' → Differ M' → Differ M
differ_fewer more d a b e = d (request_in a (more _ a.was)) (request_in b (more _ b.was)) e

-- a message that a node sent
abbrev pub OfANode : Packet → Type 0
OfANode (to_everyone m) = ⊥
OfANode (to_router i address m) = Unit {0}
OfANode (to_node address m) = ⊥
OfANode (to_server m) = ⊥
OfANode (from_server m) = ⊥

-- of one message more that no node sent
module _ {M : List Packet} (p : Packet) (none : OfANode p → ⊥) where
  -- a request among all of them is among those before that message
  abbrev request_back : SentRequest (p ∷ M) → SentRequest M
  request_back a = request_in a (⊎_elim (λ e. absurd (none (subst OfANode e tt))) (λ x. x) (Memᴰ.cases_cons a.was))

  -- one more message that no node sent changes nothing
  pub differ_more : Differ M → Differ (p ∷ M)
  differ_more d a b e = d (request_back a) (request_back b) e
