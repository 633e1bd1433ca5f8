-- Terminating messages at a node: written (20, 7, 21) and arriving (7, 1 to 6, 8, 21, 17) (the paper, 'Steps' and the orders).
use Rattle.message.specs.Reading.{by_result}
use Rattle.std.specs.Prelude.{ℕ, Bool, List, [], ◌==◌}
use Rattle.refusal.specs.Step.{done, refused_with, silent}
use Rattle.octets.specs.Choice.{pick, both}
use Rattle.octets.specs.Same.{same_bytes}
use Rattle.refusal.specs.declared.Refusal.TheVariants.{NotExpected}
use Rattle.refusal.specs.Step.{by_answer}
use Rattle.misp.specs.Terminating.{TerminatingValues, read_terminating, terminating_told}
use Rattle.checked.specs.Checked.{check_for, under_key, terminating_of}
use Rattle.node.specs.declared.Node.{Node}
use Rattle.node.specs.State.{Step, sends, no_session, clocked, in_room, with_session}

-- 'Terminating messages carry the session's stamp; either end writing one .. closes'; no session is 21
unfoldable pub leaving_now : Node → List ℕ → Step
leaving_now n out =
    pick n.session.live
    (sends (with_session no_session n) (terminating_of n.session.key n.settings.address n.settings.router n.session.stamp) out)
    (refused_with NotExpected n out)

-- the node leaves: 20, 7, then its message
unfoldable pub leaving : Node → ℕ → List ℕ → Step
leaving n now out = in_room n now out λ q. leaving_now q out

-- 'another stamp, like no session, is 21': the node's session is open, and this is its stamp
abbrev pub in_session : Node → ℕ → Bool
in_session n stamp = both n.session.live (stamp == n.session.stamp)

-- 8, 21, 17 (DECISIONS, 35); 'a right one arriving, closes'
abbrev pub closed_by : Node → List ℕ → TerminatingValues → Step
closed_by n m v =
    by_answer
    (under_key v.s (in_session n v.stamp) (same_bytes v.check (check_for n.session.key n.settings.router n.settings.address m)))
    (λ why. refused_with why n []) (silent done (with_session no_session n) [])

-- a terminating message arrives: 7, then 1 to 6 and the rest
unfoldable pub left : Node → ℕ → List ℕ → Step
left n now m =
    clocked n now [] λ q.
    by_result (terminating_told m (read_terminating m)) (λ why. refused_with why q []) (closed_by q m)
