-- A success (7, 1 to 6, 8, 21, 17) and a failure (7, 1 to 6, 21) at a node (the paper, 'Steps' and the orders).
use Rattle.message.specs.Reading.{by_result}
use Rattle.std.specs.Prelude.{ℕ, Bool, true, List, [], ◌==◌}
use Rattle.refusal.specs.Step.{done, refused_with, silent}
use Rattle.octets.specs.Choice.{pick, both}
use Rattle.octets.specs.Same.{same_bytes}
use Rattle.refusal.specs.declared.Refusal.{Refusal}
use Rattle.refusal.specs.declared.Refusal.TheVariants.{NotExpected}
use Rattle.refusal.specs.Table.{refusal_number}
use Rattle.refusal.specs.Step.{by_answer}
use Rattle.misp.specs.Success.{SuccessValues, read_success, success_told}
use Rattle.misp.specs.declared.failure.Failure.{Failure}
use Rattle.misp.specs.Failure.{read_failure}
use Rattle.checked.specs.Checked.{check_for, under_key}
use Rattle.node.specs.declared.Node.{Node}
use Rattle.node.specs.State.{Step, no_waiting, clocked, with_waiting, with_session}

-- an answer with this stamp is one to the request that the node waits on
unfoldable pub awaits_answer : Node → ℕ → Bool
awaits_answer n stamp = both n.waiting.live (stamp == n.waiting.stamp)

-- 'A success with the waiting stamp and a right check value opens', for the lifetime that object 15 says; since is the node's own clock
unfoldable pub opened_node : Node → ℕ → Node
opened_node n lifetime =
    with_session (record { live = true; stamp = n.waiting.stamp; key = n.waiting.key; since = n.clock; lifetime = lifetime })
    (with_waiting no_waiting n)

-- 'A success with refusal 5 also ends waiting' (DECISIONS, 6)
unfoldable pub after_refusal : Refusal → Node → Node
after_refusal why n = pick (refusal_number why == 5) (with_waiting no_waiting n) n

-- 8, 21, 17 (DECISIONS, 35), then it opens; nothing else is tested (DECISIONS, 14)
abbrev pub opening_by : Node → List ℕ → SuccessValues → Step
opening_by n m v =
    by_answer
    (under_key v.s (awaits_answer n v.stamp) (same_bytes v.check (check_for n.waiting.key n.settings.router n.settings.address m)))
    (λ why. refused_with why n []) (silent done (opened_node n v.lifetime) [])

-- a success at a node: 7, then 1 to 6 and the rest
unfoldable pub succeeded : Node → ℕ → List ℕ → Step
succeeded n now m =
    clocked n now [] λ q.
    by_result (success_told m (read_success m)) (λ why. refused_with why (after_refusal why q) []) (opening_by q m)

-- 'a failure with that stamp ends waiting'; any other is 21 (DECISIONS, 35)
abbrev pub ending_by : Node → Failure → Step
ending_by n v = pick (awaits_answer n v.stamp) (silent done (with_waiting no_waiting n) []) (refused_with NotExpected n [])

-- a failure at a node: 7, then 1 to 6 and the rest
unfoldable pub failed : Node → ℕ → List ℕ → Step
failed n now m = clocked n now [] λ q. by_result (read_failure m) (λ why. refused_with why q []) (ending_by q)
