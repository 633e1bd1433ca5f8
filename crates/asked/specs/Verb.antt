-- Which call a line makes (docs/REPLAY.md, 'Lines'): its first word, with the number of words that the call takes.
use Rattle.std.specs.Prelude.{ℕ, List, [], ◌∷◌, ◌++◌, Option, Some, None}
use Rattle.octets.specs.Choice.{pick}
use Rattle.script.specs.Words.{ascii}
use Rattle.asked.specs.Arguments.{is_call}
use Rattle.asked.specs.declared.verb.RouterCall.TheVariants as router
use Rattle.asked.specs.declared.verb.NodeCall.TheVariants as node
use Rattle.asked.specs.declared.verb.Verb.{Verb}
use Rattle.asked.specs.declared.verb.Verb.TheVariants.{Router, Node, Books, Room, AtRouter, AtNode, Login, Taken, Places, State, Read, ReadAuth}

-- a line of the language: its first word, how many words it has, and what it asks for
pub record Form : Type 0 where
  pub name : List ℕ
  pub words : ℕ
  pub asks : Verb

-- a form of these three
abbrev pub form : List ℕ → ℕ → Verb → Form
form name words asks = record { name = name; words = words; asks = asks }

-- 'setup', 'lends the two books', 'output buffers have N bytes', 'a message arrives at the server'
abbrev pub set_ups : List Form
set_ups =
    form (ascii "router") 11 Router
    ∷ form (ascii "node") 10 Node
    ∷ form (ascii "books") 3 Books
    ∷ form (ascii "room") 2 Room
    ∷ form (ascii "login") 3 Login
    ∷ []

-- 'the router writes', 'a message arrives at the router'
abbrev pub router_calls : List Form
router_calls =
    form (ascii "beacon") 3 (AtRouter router.Beacon)
    ∷ form (ascii "request") 4 (AtRouter router.Request)
    ∷ form (ascii "reply") 3 (AtRouter router.Reply)
    ∷ form (ascii "close") 3 (AtRouter router.Close)
    ∷ form (ascii "closed") 4 (AtRouter router.Closed)
    ∷ []

-- 'a message arrives at node I', 'node I writes'
abbrev pub node_calls : List Form
node_calls =
    form (ascii "hear") 5 (AtNode node.Hear)
    ∷ form (ascii "success") 4 (AtNode node.Success)
    ∷ form (ascii "failure") 4 (AtNode node.Failure)
    ∷ form (ascii "leave") 3 (AtNode node.Leave)
    ∷ form (ascii "left") 4 (AtNode node.Left)
    ∷ []

-- the reports and the bare readers: 'they change nothing'
abbrev pub looks : List Form
looks =
    form (ascii "taken") 1 Taken
    ∷ form (ascii "places") 1 Places
    ∷ form (ascii "state") 2 State
    ∷ form (ascii "read") 2 Read
    ∷ form (ascii "readauth") 2 ReadAuth
    ∷ []

-- the first of some forms that a line has; 'an unknown word, too few or too many' where it has none
unfoldable pub verb_in : List Form → List ℕ → Option Verb
verb_in [] line = None
verb_in (f ∷ fs) line = pick (is_call line f.name f.words) (Some f.asks) (verb_in fs line)

-- the lines of the language
abbrev pub forms : List Form
forms = set_ups ++ router_calls ++ node_calls ++ looks

-- what a line asks for
unfoldable pub verb_of : List ℕ → Option Verb
verb_of line = verb_in forms line
