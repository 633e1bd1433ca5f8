-- What is loaded, from any bytes, is a node that the code's types hold: so storing it and loading it again gives the same node.
use Rattle.std.specs.Prelude.{Some, None}
use Prim.Native.Nat.{ℕ}
use mathlib.Core.List.{List}
use mathlib.Core.Path.{◌≡◌}
use lib.ListN.{get_or, take, drop}
use Rattle.octets.specs.Numbers.{Bytes}
use Rattle.octets.proofs.BytesLaws.{part_bytes}
use Rattle.octets.proofs.ChoiceLaws.{pick_all}
use Rattle.octets.proofs.NumberLaws.{number_part_small}
use Rattle.laid.specs.Field.{flag_of, number_at}
use Rattle.laid.proofs.FieldLaws.{array_long, held_loaded}
use Rattle.storednode.specs.Node.{used_from, waiting_from, session_from, settings_from, node_bytes, node_from}
use Rattle.storednode.proofs.NodeLaws.{WaitingHeld, SessionHeld, SettingsHeld, UsedHeld, NodeHeld, node_undone}

-- what stands in a node
module _ (s : List ℕ) (b : Bytes s) where
  used_loaded : UsedHeld (used_from s)
  unfolding used_from
  used_loaded = pick_all UsedHeld (flag_of (get_or s 0 0)) (Some (number_at 8 1 s)) None (λ _. number_part_small 8 1 s b) (λ _. tt)

  waiting_loaded : WaitingHeld (waiting_from s)
  unfolding waiting_from
  waiting_loaded = record { stamp = number_part_small 8 1 s b; key = array_long 16 9 s }

  session_loaded : SessionHeld (session_from s)
  unfolding session_from
  session_loaded =
      record {
        stamp = number_part_small 8 1 s b;
        key = array_long 16 9 s;
        since = number_part_small 8 25 s b;
        lifetime = number_part_small 2 33 s b;
      }

  settings_loaded : SettingsHeld (settings_from s)
  unfolding settings_from
  settings_loaded =
      record {
        unit = number_part_small 4 0 s b;
        patience = number_part_small 4 4 s b;
        password = held_loaded (take 261 (drop 8 s)) (part_bytes 261 8 s b);
        account = held_loaded (take 261 (drop 269 s)) (part_bytes 261 269 s b);
        kind = number_part_small 2 530 s b;
        network = number_part_small 2 532 s b;
        address = array_long 6 534 s;
        router = array_long 6 540 s;
      }

module _ (s : List ℕ) (b : Bytes s) where
  -- a node
  node_loaded : NodeHeld (node_from s)
  unfolding node_from
  node_loaded =
      record {
        settings = settings_loaded (take 546 (drop 0 s)) (part_bytes 546 0 s b);
        clock = number_part_small 8 546 s b;
        used = used_loaded (take 9 (drop 554 s)) (part_bytes 9 554 s b);
        waiting = waiting_loaded (take 25 (drop 563 s)) (part_bytes 25 563 s b);
        session = session_loaded (take 35 (drop 588 s)) (part_bytes 35 588 s b);
      }

  -- whatever the buffer holds
  pub node_kept : node_from (node_bytes (node_from s)) ≡ node_from s
  node_kept = node_undone (node_from s) node_loaded
