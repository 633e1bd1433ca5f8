-- What a call leaves that writes a message.
use Rattle.std.specs.Prelude.{Result, Err, ⊤}
use Prim.Native.Nat.{ℕ, ◌≤◌}
use mathlib.Core.Path.{◌≡◌, ap, ◌∙◌}
use mathlib.Core.Bool.{Bool, true, false}
use mathlib.Core.List.{List}
use lib.ListN.{length}
use borrow.Author.Tests.{le-ltb}
use Rattle.refusal.specs.declared.Outcome.{Outcome}
use Rattle.refusal.specs.declared.Refusal.{Refusal}
use Rattle.octets.specs.Choice.{pick}
use Rattle.refusal.specs.declared.Refusal.TheVariants.{OutOfRange}
use Rattle.refusal.specs.declared.To.{To}
use Rattle.object.specs.declared.family.Family.{Family}
use Rattle.object.specs.Family.{limit_of}
use Rattle.message.specs.Writing.{wrote_of, left_of, Writes}
use Rattle.message.proofs.WroteLaws.{whole_told, whole_left}
use Rattle.places.specs.declared.state.Router.{Router}
use Rattle.refusal.specs.Step.{Leaves, refused_with, sends, by_writer}

-- a message that is in range and not too long, into a buffer of the limit's size
pub sent_whole : {f : Family} {message before after : List ℕ} {w : Result ℕ Refusal} (a : Result ⊤ Refusal) (q q' : Router) (to : To)
    → Writes f true message before after w → length message ≤ limit_of f → limit_of f ≤ length before
    → Leaves (sends a q' to message before) (by_writer w a q q' to) after
sent_whole a q q' to x short large =
    record { told = ap (λ (w : Result ℕ Refusal). by_writer w a q q' to) (whole_told x short large); left = whole_left x short large }

-- a message that goes out where a test holds, and else is out of range
pub sent_where : (f : Family) (b : Bool) {message before after : List ℕ} {w : Result ℕ Refusal} {o : Outcome Router} (a : Result ⊤ Refusal) (q q' : Router) (to : To)
    → Writes f b message before after w → length message ≤ limit_of f → limit_of f ≤ length before → o ≡ by_writer w a q q' to
    → Leaves (pick b (sends a q' to message before) (refused_with OutOfRange q before)) o after
unfolding wrote_of left_of
sent_where f true a q q' to x short large e = rw e (sent_whole a q q' to x short large)
sent_where f false {message} {before} {after} {w} a q q' to x short large e =
    let room = le-ltb (length before) (limit_of f) large in
    let is : w ≡ Err OutOfRange = x.told ∙ rw room in
    record { told = e ∙ ap (λ (r : Result ℕ Refusal). by_writer r a q q' to) is; left = x.left ∙ rw room }
