-- The parties of a hall, and what a line leaves of them (docs/REPLAY.md).
use Rattle.std.specs.Prelude.{ℕ, ◌*◌, Bool, true, false, List, [], ◌∷◌, take, drop, replicate, nat_le, nat_lt, slice_index, Option, Some, None, Result, ⊤}
use Rattle.refusal.specs.Step.{done}
use Rattle.refusal.specs.declared.Refusal.{Refusal}
use Rattle.octets.specs.Choice.{pick}
use Rattle.octets.specs.Put.{put_in}
use Rattle.refusal.specs.declared.To.{To}
use Rattle.refusal.specs.declared.To.TheVariants.{Nobody}
use Rattle.refusal.specs.Step.{StepOf}
use Rattle.refusal.specs.SetUp.{answer_of, where_done}
use Rattle.places.specs.declared.state.Router.{Router}
use Rattle.node.specs.declared.Node.{Node}
use Rattle.laid.specs.Field.{flag_of}
use Rattle.storedrouter.specs.Router.{router_size, router_bytes, router_from}
use Rattle.storednode.specs.Node.{node_size, node_bytes, node_from}
use Rattle.told.specs.declared.printing.Said.{Said}
use Rattle.hall.specs.declared.state.Hall.{Hall}
use Rattle.hall.specs.declared.state.Stepped.{Stepped}

-- what a line leaves: the hall and what is said, and every byte of the lent output
abbrev pub Step : Type 0
Step = StepOf Stepped

-- an answer, the bytes written, and to whom they go
abbrev pub said_of : Result ⊤ Refusal → ℕ → To → Option Said
said_of a written to = Some (record { answer = a; written = written; to = to })

-- nothing is written
abbrev pub silently : Result ⊤ Refusal → Option Said
silently a = said_of a 0 Nobody

-- '`error` means that no call was made and nothing changed'
abbrev pub unread : Hall → Stepped
unread h = record { hall = h; said = None }

-- nothing is written either
abbrev pub no_call : Hall → List ℕ → Step
no_call h out = record { outcome = unread h; out = out }

-- 'Whoever is not of interest is left out': nobody is there at the start; `room` is 4,096
unfoldable pub empty_hall : Hall
empty_hall =
    record {
      installed = false;
      router = replicate router_size 0;
      present = replicate 8 0;
      nodes = replicate (8 * node_size) 0;
      lent = false;
      mill = 0;
      visitors = 0;
      room = 4096;
    }

-- the router, of its bytes
unfoldable pub router_of : Hall → Router
router_of h = router_from h.router

-- the same hall with this router
unfoldable pub with_router : Router → Hall → Hall
with_router r h =
    record {
      installed = true;
      router = router_bytes r;
      present = h.present;
      nodes = h.nodes;
      lent = h.lent;
      mill = h.mill;
      visitors = h.visitors;
      room = h.room;
    }

-- 'Nodes 0 to 7': whether there is a node with this number
unfoldable pub is_present : ℕ → Hall → Bool
is_present i h = flag_of (slice_index h.present i)

-- the node with this number, of its part of the nodes' bytes
unfoldable pub node_of : ℕ → Hall → Node
node_of i h = node_from (take node_size (drop (i * node_size) h.nodes))

-- the same hall with this node
unfoldable pub with_node : ℕ → Node → Hall → Hall
with_node i n h =
    record {
      installed = h.installed;
      router = h.router;
      present = put_in h.present i (1 ∷ []);
      nodes = put_in h.nodes (i * node_size) (node_bytes n);
      lent = h.lent;
      mill = h.mill;
      visitors = h.visitors;
      room = h.room;
    }

-- `router ..`; 'A setting out of its range is a refusal, 18, and leaves the party that was there'
unfoldable pub installs : Result Router Refusal → Hall → Stepped
installs made h = record { hall = where_done made (λ r. with_router r h) h; said = silently (answer_of made) }

-- `node I ..`; 'a node number over 7' is `error`
unfoldable pub sits : ℕ → Result Node Refusal → Hall → Stepped
sits i made h =
    pick (nat_lt i 8) (record { hall = where_done made (λ n. with_node i n h) h; said = silently (answer_of made) }) (unread h)

-- `books MILL VISITORS`: their lengths
unfoldable pub lends : ℕ → ℕ → Hall → Stepped
lends mill visitors h =
    record {
      hall = record {
        installed = h.installed;
        router = h.router;
        present = h.present;
        nodes = h.nodes;
        lent = true;
        mill = mill;
        visitors = visitors;
        room = h.room;
      };
      said = silently done;
    }

-- `room N`: 'output buffers have N bytes from here on', at most 4,096
unfoldable pub leaves_room : ℕ → Hall → Stepped
leaves_room n h =
    pick (nat_le n 4096)
    (record {
      hall = record {
        installed = h.installed;
        router = h.router;
        present = h.present;
        nodes = h.nodes;
        lent = h.lent;
        mill = h.mill;
        visitors = h.visitors;
        room = n;
      };
      said = silently done;
    })
    (unread h)
