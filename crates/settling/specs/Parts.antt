-- What functions below the call are held to: a reply at a router that stored the clock, and what stands before a session opens
-- (DECISIONS, 62).
use Rattle.std.specs.Prelude.{ℕ, ◌≤◌, ◌≡◌, List, length}
use Rattle.object.specs.declared.family.Family.TheVariants.{Misp}
use Rattle.object.specs.Family.{limit_of}
use Rattle.octets.specs.Part.{bytes_at}
use Rattle.misauth.specs.declared.accept.Accept.{Accept}
use Rattle.places.specs.declared.state.Router.{Router}
use Rattle.turn.specs.Outcome.{Step, room_first}
use Rattle.settling.specs.Reply.{judged_reply}

-- for `turn_at`: a reply at a router that stored the clock and let go of what has lapsed: 20, then the header and the rest.
-- Of its places this sees and changes the one whose number is the Identifier, and no other.
unfoldable pub replied_now : Router → ℕ → List ℕ → List ℕ → Step
replied_now q now m out = room_first Misp q out (judged_reply q now m out)

-- for `open`: what has been tested where an accept may open a session: room for what goes out, and an object 203 of 16 bytes
pub record Opens (m : List ℕ) (v : Accept) (out : List ℕ) : Type 0 where
  pub room : limit_of Misp ≤ length out
  pub key : length (bytes_at m v.key) ≡ 16
