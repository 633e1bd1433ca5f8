-- A party that is there answers by its own step; one that is absent leaves all as it was.
use Rattle.std.specs.Prelude.{Result}
use borrow.Author.Tests.{not-true, not-false}
use Prim.Native.Nat.{ℕ}
use mathlib.Core.Path.{◌≡◌, sym, ap, ◌∙◌}
use mathlib.Core.Bool.{Bool, true, false, not}
use mathlib.Core.List.{List, []}
use Rattle.octets.specs.Choice.{pick}
use Rattle.places.specs.declared.state.Router.{Router}
use Rattle.refusal.specs.declared.Outcome.{Outcome}
use Rattle.refusal.specs.declared.Refusal.{Refusal}
use Rattle.refusal.specs.Step.{StepOf, Leaves}
use Rattle.refusal.proofs.StepLaws.{leaves_same, leaves_told}
use Rattle.turn.specs.Outcome.{Step as RouterStep}
use Rattle.node.specs.declared.Node.{Node}
use Rattle.node.specs.State.{Step as NodeStep}
use Rattle.server.specs.Login.{logged_in}
use Rattle.hall.specs.declared.state.Hall.{Hall}
use Rattle.hall.specs.declared.state.Stepped.{Stepped}
use Rattle.hall.specs.State.{Step, unread, no_call, router_of, is_present, node_of}
use Rattle.hall.specs.Calls.{after_call, by_router, at_router, by_node, at_node, by_server, mill_book, visitors_book, at_server}

-- a party's call, where a test says that the party is there
module _ {O : Type 0} (b : Bool) (h : Hall) (by : O → Stepped) (step : StepOf O) (out : List ℕ) where
  -- what the line leaves, by that test
  abbrev line : Bool → Step
  line c = pick c (after_call by step) (no_call h out)

  -- absent: no call is made
  absent : {s : Stepped} → not b ≡ true → s ≡ unread h → Leaves (line b) s out
  absent e k = leaves_same (ap line (not-true b e)) (leaves_told k)

  -- there: the line leaves what its step left
  called : {s : Stepped} {o : O} {after : List ℕ} → not b ≡ false → Leaves step o after → s ≡ by o → Leaves (line b) s after
  called e l k = leaves_same (ap line (not-false b e)) (record { told = k ∙ ap by l.told; left = l.left })

-- the router
module _ (h : Hall) (call : Router → RouterStep) (out : List ℕ) {s : Stepped} where
  -- absent
  pub router_absent : not h.installed ≡ true → s ≡ unread h → Leaves (at_router h call out) s out
  unfolding at_router
  router_absent e k = absent h.installed h (by_router h) (call (router_of h)) out e k

  -- there: the line leaves what the router's call left
  pub router_called : {r : Router} {o : Outcome Router} {after : List ℕ} → not h.installed ≡ false → r ≡ router_of h
      → Leaves (call r) o after → s ≡ by_router h o → Leaves (at_router h call out) s after
  unfolding at_router
  router_called e same l k = called h.installed h (by_router h) (call (router_of h)) out e (leaves_same (ap call (sym same)) l) k

-- the server
module _ (h : Hall) (books source m out : List ℕ) {s : Stepped} where
  -- lent no books
  pub server_absent : not h.lent ≡ true → s ≡ unread h → Leaves (at_server h books source m out) s out
  unfolding at_server
  server_absent e k = absent h.lent h (by_server h) (logged_in (mill_book h books) (visitors_book h books) source m out) out e k

  -- lent both: the line leaves what the login left
  pub server_called : {a b : List ℕ} {o : Result ℕ Refusal} {after : List ℕ} → not h.lent ≡ false → a ≡ mill_book h books → b ≡ visitors_book h books
      → Leaves (logged_in a b source m out) o after → s ≡ by_server h o → Leaves (at_server h books source m out) s after
  unfolding at_server
  server_called e p q l k =
      called h.lent h (by_server h) (logged_in (mill_book h books) (visitors_book h books) source m out) out e (rw (p, q) at l) k

-- node i
module _ (i : ℕ) (h : Hall) (call : Node → NodeStep) (out : List ℕ) {b : Bool} (is : b ≡ is_present i h) {s : Stepped} where
  -- absent
  pub node_absent : not b ≡ true → s ≡ unread h → Leaves (at_node i h call out) s out
  unfolding at_node
  node_absent e k = absent (is_present i h) h (by_node i h) (call (node_of i h)) out (ap not (sym is) ∙ e) k

  -- there: the line leaves what the node's call left
  pub node_called : {n : Node} {o : Outcome Node} {after : List ℕ} → not b ≡ false → n ≡ node_of i h → Leaves (call n) o after
      → s ≡ by_node i h o → Leaves (at_node i h call out) s after
  unfolding at_node
  node_called e same l k =
      called (is_present i h) h (by_node i h) (call (node_of i h)) out (ap not (sym is) ∙ e) (leaves_same (ap call (sym same)) l) k

-- node i, by a call that writes nothing
module _ (i : ℕ) (h : Hall) (call : Node → NodeStep) {b : Bool} (is : b ≡ is_present i h) {s : Stepped} where
  -- absent
  pub quiet_absent : not b ≡ true → s ≡ unread h → s ≡ (at_node i h call []).outcome
  quiet_absent e k = (node_absent i h call [] is e k).told

  -- there: what the node's call handed back
  pub quiet_called : {n : Node} {o : Outcome Node} → not b ≡ false → n ≡ node_of i h → o ≡ (call n).outcome → s ≡ by_node i h o → s ≡ (at_node i h call []).outcome
  quiet_called e same l k = (node_called i h call [] is e same (leaves_told l) k).told
