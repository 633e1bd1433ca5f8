-- A call on a party of the hall (docs/REPLAY.md): the party's own step, from its state in the hall and back into it; `error` where it is absent.
use Rattle.std.specs.Prelude.{ℕ, List, take, drop, Result, Ok, Err}
use Rattle.octets.specs.Choice.{pick}
use Rattle.refusal.specs.declared.To.TheVariants.{Nobody}
use Rattle.refusal.specs.Step.{StepOf, done}
use Rattle.refusal.specs.declared.Refusal.{Refusal}
use Rattle.places.specs.declared.state.Router.{Router}
use Rattle.refusal.specs.declared.Outcome.{Outcome}
use Rattle.turn.specs.Outcome.{Step as RouterStep}
use Rattle.node.specs.declared.Node.{Node}
use Rattle.node.specs.State.{Step as NodeStep}
use Rattle.server.specs.Login.{logged_in}
use Rattle.hall.specs.declared.state.Hall.{Hall}
use Rattle.hall.specs.declared.state.Stepped.{Stepped}
use Rattle.hall.specs.State.{Step, said_of, silently, no_call, router_of, with_router, with_node, is_present, node_of}

-- a line that calls a party: the hall and what is said, made of that call's outcome by `by`, and the output as that call left it
abbrev pub after_call : {O : Type 0} → (O → Stepped) → StepOf O → Step
after_call by s = record { outcome = by s.outcome; out = s.out }

-- the router as its call left it, and the answer of that call
abbrev pub by_router : Hall → Outcome Router → Stepped
by_router h o = record { hall = with_router o.state h; said = said_of o.answer o.written o.to }

-- a call on the router, where there is one
unfoldable pub at_router : Hall → (Router → RouterStep) → List ℕ → Step
at_router h call out = pick h.installed (after_call (by_router h) (call (router_of h))) (no_call h out)

-- a node as its call left it, and the answer of that call
abbrev pub by_node : ℕ → Hall → Outcome Node → Stepped
by_node i h o = record { hall = with_node i o.state h; said = said_of o.answer o.written o.to }

-- a call on node I, where there is one
unfoldable pub at_node : ℕ → Hall → (Node → NodeStep) → List ℕ → Step
at_node i h call out = pick (is_present i h) (after_call (by_node i h) (call (node_of i h))) (no_call h out)

-- the server keeps nothing; `-` for what goes 'to or from the server'
abbrev pub by_server : Hall → Result ℕ Refusal → Stepped
by_server h (Err why) = record { hall = h; said = silently (Err why) }
by_server h (Ok n) = record { hall = h; said = said_of done n Nobody }

-- the two books stand one after the other where they were lent, and the hall has their lengths: the mill's
abbrev pub mill_book : Hall → List ℕ → List ℕ
mill_book h books = take h.mill books

-- and the visitors'
abbrev pub visitors_book : Hall → List ℕ → List ℕ
visitors_book h books = take h.visitors (drop h.mill books)

-- `login IPV4 MESSAGE`, with these books
unfoldable pub at_server : Hall → List ℕ → List ℕ → List ℕ → List ℕ → Step
at_server h books source m out =
    pick h.lent (after_call (by_server h) (logged_in (mill_book h books) (visitors_book h books) source m out)) (no_call h out)
