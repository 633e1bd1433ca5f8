-- The auditor's first question: 'Show that a profile filed under one gauge's name came over a session which that gauge opened.'
-- What is shown here is the part of it that sessions carry: a session that the router holds open at a place was opened for one gauge alone, on that
-- gauge's own request under its own account, and its key is the one that the gauge's password and seed give. It rests on the premises (Premises)
-- and on nothing else. That a profile came over that session is for the data messages to show, which are not built yet (the paper, 'What is built').
use Rattle.std.specs.Prelude.{ℕ, ◌≡◌, List}
use Rattle.std.proofs.Common.{sym, ◌∙◌}
use Rattle.link.specs.World.{Member, World, Event, address_of, run}
use Rattle.link.specs.Premises.{Premises}
use Rattle.link.specs.Opened.{Holds, Earlier, OpenedAt, Rests}
use Rattle.link.specs.Laws.{lawful}
use Rattle.link.specs.Theorems.{theorem_held, theorem_alone}

module _ (count : ℕ) (mill visitors : List ℕ) (w : World) where
  -- the gauge that a session which the router holds open is of: `Rests` names the gauge, its account, its request and the server's acceptance
  pub gauge : (es : List (Event count)) → Premises count mill visitors w es → (address : List ℕ) (stamp : ℕ) (key : List ℕ)
      → Holds (run w es).router address stamp key
      → Earlier es (λ before e. OpenedAt w address stamp key before e × Rests w before address stamp key)
  gauge = theorem_held lawful mill visitors w

  -- the router holds no other session for that gauge's address
  pub session_alone : (es : List (Event count)) → Premises count mill visitors w es → (address : List ℕ) (stamp stamp' : ℕ) (key key' : List ℕ)
      → Holds (run w es).router address stamp key → Holds (run w es).router address stamp' key' → (stamp ≡ stamp') × (key ≡ key')
  session_alone = theorem_alone lawful mill visitors w

  -- no other gauge has this address
  pub gauge_alone : (es : List (Event count)) → Premises count mill visitors w es → (before : List (Event count)) (address : List ℕ) (stamp : ℕ) (key : List ℕ)
      → (rests : Rests w before address stamp key) → (i : Member count) → address_of w i ≡ address → i.number ≡ rests.node.number
  gauge_alone es p before address stamp key rests i e = p.addresses_distinct i rests.node (e ∙ sym rests.its)
