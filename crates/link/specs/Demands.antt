-- Demand 3. `count` nodes, one router, and one server with the books mill and visitors run from the world w on, through the events es (the newest
-- first), and meet the premises (Premises). 'Opened', 'rests' and 'earlier' are said in Opened, 'acceptable' and 'in time' in Acceptable.
-- Parties that open nothing would meet a, b and c. They do not meet d; and that nodes do ask, and log in, is shown by the run of Example.
use Rattle.std.specs.Prelude.{ℕ, ◌<◌, true, ◌≡◌, List, ◌∷◌, ◌++◌}
use Rattle.misp.specs.Request.{RequestValues}
use Rattle.link.specs.World.{Member, World, Event, node_of, address_of, run}
use Rattle.link.specs.Premises.{Premises}
use Rattle.link.specs.Opened.{Earlier, OpenedAt, Rests}
use Rattle.link.specs.Acceptable.{Calls, Acceptable, InTime, BothOpen}
use Rattle.link.specs.Laws.{lawful}
use Rattle.link.specs.MustLaws.{must}
use Rattle.link.specs.Theorems.{theorem_a, theorem_b, theorem_c, theorem_once}
use Rattle.link.specs.Live.{theorem_d}

module _ (count : ℕ) (mill visitors : List ℕ) (w : World) where
  -- 'Then each session a node holds open was opened earlier by the router with the same key and stamp,
  pub a : (es : List (Event count)) → Premises count mill visitors w es → (i : Member count) → let session = (node_of (run w es) i).session in
      session.live ≡ true → Earlier es (OpenedAt w (address_of w i) session.stamp session.key)
  a = theorem_a lawful mill visitors w

  -- and each one the router opened rests on the server's earlier acceptance of that node's own request, fresh on arrival.
  pub b : (later : List (Event count)) (e : Event count) (before : List (Event count)) → Premises count mill visitors w (later ++ e ∷ before)
      → (address : List ℕ) (stamp : ℕ) (key : List ℕ) → OpenedAt w address stamp key before e → Rests w before address stamp key
  b = theorem_b lawful mill visitors w

  -- For one node the stamps so opened only rise.
  pub c : (later : List (Event count)) (e : Event count) (between : List (Event count)) (e₀ : Event count) (before : List (Event count))
      → Premises count mill visitors w (later ++ e ∷ (between ++ e₀ ∷ before))
      → (address : List ℕ) (stamp₀ stamp : ℕ) (key₀ key : List ℕ)
      → OpenedAt w address stamp₀ key₀ before e₀ → OpenedAt w address stamp key (between ++ e₀ ∷ before) e → stamp₀ < stamp
  c = theorem_c lawful mill visitors w

  -- (and no event opens two for one node: c orders all that were opened)
  pub c_once : (later : List (Event count)) (e : Event count) (before : List (Event count)) → Premises count mill visitors w (later ++ e ∷ before)
      → (address : List ℕ) (stamp stamp' : ℕ) (key key' : List ℕ)
      → OpenedAt w address stamp key before e → OpenedAt w address stamp' key' before e → (stamp ≡ stamp') × (key ≡ key')
  c_once = theorem_once lawful mill visitors w

  -- An acceptable request whose four messages arrive in order, in time and with nothing between leaves both ends open.'
  pub d : (es : List (Event count)) → Premises count mill visitors w es → (i : Member count) (request : List ℕ) (v : RequestValues) (calls : Calls)
      → Acceptable mill visitors (run w es) i request v calls → InTime (run w es) v calls
      → BothOpen i request calls es mill visitors w v.stamp
  d = theorem_d lawful must mill visitors w
