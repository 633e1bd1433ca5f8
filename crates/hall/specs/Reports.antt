-- The reports of a hall (docs/REPLAY.md): 'a call on a party that is absent' prints `error`.
use Rattle.std.specs.Prelude.{ℕ, List}
use Rattle.octets.specs.Choice.{pick}
use Rattle.told.specs.Print.{error_text}
use Rattle.told.specs.Report.{taken_text, places_text, node_text}
use Rattle.hall.specs.declared.state.Hall.{Hall}
use Rattle.hall.specs.State.{router_of, is_present, node_of}

-- `taken`
unfoldable pub taken_answer : Hall → List ℕ
taken_answer h = pick h.installed (taken_text (router_of h)) error_text

-- `places`
unfoldable pub places_answer : Hall → List ℕ
places_answer h = pick h.installed (places_text 64 (router_of h)) error_text

-- `state I`
unfoldable pub state_answer : ℕ → Hall → List ℕ
state_answer i h = pick (is_present i h) (node_text (node_of i h)) error_text
