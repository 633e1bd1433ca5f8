-- What a call left of a party is what the next call finds, and the other parties stay: the bytes of a state are read again as that state.
use Prim.Native.Nat.{ℕ, ◌+◌, ◌*◌, ◌≤◌, ◌<◌, min}
use mathlib.Core.Bool.{Bool, true, false}
use mathlib.Core.List.{List, [], ◌∷◌}
use mathlib.Core.Path.{◌≡◌, refl, sym, ap, ◌∙◌}
use native.Mathlib.Omega.{arith}
use lib.Dec.{ltb}
use lib.ListN.{length, get_or, take, drop, drop_of_length-le}
use borrow.Author.Tests.{ltb-true, ltb-false}
use Rattle.octets.specs.Put.{put_in}
use Rattle.octets.proofs.ListLaws.{part_byte}
use Rattle.octets.proofs.PutLaws.{put_in_none}
use Rattle.octets.proofs.PatchLaws.{put_in_take, put_in_drop, put_in_part}
use Rattle.places.specs.declared.state.Router.{Router}
use Rattle.node.specs.declared.Node.{Node}
use Rattle.laid.specs.Field.{flag_of}
use Rattle.storednode.specs.Node.{node_size, node_bytes, node_from}
use Rattle.storedrouter.proofs.RouterLaws.{RouterHeld, router_undone}
use Rattle.storednode.proofs.NodeLaws.{NodeHeld, node_length, node_undone}
use Rattle.hall.specs.declared.state.Hall.{Hall}
use Rattle.hall.specs.State.{router_of, with_router, is_present, node_of, with_node}

-- a function of a node's number, where all numbers from 8 on have one value
by_seat : {A : Type 0} (i : ℕ) (f : ℕ → A) → (8 ≤ i → f 8 ≡ f i) → f (min i 8) ≡ f i
by_seat i f past = go (ltb i 8) refl
  where
    go : (b : Bool) → ltb i 8 ≡ b → f (min i 8) ≡ f i
    go true e = ap f (omega (arith, ltb-true i 8 e))
    go false e = ap f (omega (arith, ltb-false i 8 e)) ∙ past (omega (arith, ltb-false i 8 e))

-- from node 8 on there are no bytes to read, and no room for any
module _ (i : ℕ) (l : List ℕ) (whole : length l ≡ 8 * node_size) where
  pub past_read : take node_size (drop (min i 8 * node_size) l) ≡ take node_size (drop (i * node_size) l)
  past_read =
      by_seat i (λ (k : ℕ). take node_size (drop (k * node_size) l))
      (λ h. ap (take node_size) (drop_of_length-le l {i = 8 * node_size} (omega arith) ∙ sym (drop_of_length-le l {i = i * node_size} (omega arith))))

  pub past_put : (t : List ℕ) → length t ≡ node_size → put_in l (min i 8 * node_size) t ≡ put_in l (i * node_size) t
  past_put t long =
      by_seat i (λ (k : ℕ). put_in l (k * node_size) t)
      (λ h. put_in_none l (8 * node_size) t (omega arith) ∙ sym (put_in_none l (i * node_size) t (omega arith)))

-- a byte is a part of one
one_byte : (l : List ℕ) (i : ℕ) → get_or l i 0 ≡ get_or (take 1 (drop i l)) 0 0
one_byte l i =
    let same : i + 0 ≡ i = omega arith in
    sym (part_byte 1 i 0 l (omega arith) ∙ ap (λ (k : ℕ). get_or l k 0) same)

-- the hall's arrays are whole, as the code's types say
pub record WholeHall (h : Hall) : Type 0 where
  pub present : length h.present ≡ 8
  pub nodes : length h.nodes ≡ 8 * node_size

-- the router that was left is found again
pub router_stays : (h : Hall) (r : Router) → RouterHeld r → router_of (with_router r h) ≡ r
unfolding router_of with_router
router_stays h r k = router_undone r k

module _ (h : Hall) (i : ℕ) (n : Node) where
  module _ (w : WholeHall h) (below : i < 8) where
    -- a node that takes a seat is there
    pub node_there : is_present i (with_node i n h) ≡ true
    unfolding is_present with_node
    node_there =
        let whole = w.present in
        ap flag_of (one_byte (put_in h.present i (1 ∷ [])) i ∙ ap (λ (l : List ℕ). get_or l 0 0) (put_in_part h.present i (1 ∷ []) (omega arith)))

    -- the node that was left is found again
    pub node_stays : NodeHeld n → node_of i (with_node i n h) ≡ n
    unfolding node_of with_node
    node_stays k =
        let whole = w.nodes in
        let long = node_length n k in
        ap node_from (rw long at (put_in_part h.nodes (i * node_size) (node_bytes n) (omega arith))) ∙ node_undone n k

  -- the router stays, and so do the nodes before and past this one
  pub router_beside : router_of (with_node i n h) ≡ router_of h
  unfolding router_of with_node
  router_beside = refl

  pub nodes_before : take (i * node_size) (with_node i n h).nodes ≡ take (i * node_size) h.nodes
  unfolding with_node
  nodes_before = put_in_take h.nodes (i * node_size) (node_bytes n) (i * node_size) (omega arith)

  pub nodes_past : NodeHeld n → drop (i * node_size + node_size) (with_node i n h).nodes ≡ drop (i * node_size + node_size) h.nodes
  unfolding with_node
  nodes_past k =
      ap (λ (m : ℕ). drop (i * node_size + m) (put_in h.nodes (i * node_size) (node_bytes n))) (sym (node_length n k))
      ∙ put_in_drop h.nodes (i * node_size) (node_bytes n)
      ∙ ap (λ (m : ℕ). drop (i * node_size + m) h.nodes) (node_length n k)

  pub present_before : take i (with_node i n h).present ≡ take i h.present
  unfolding with_node
  present_before = put_in_take h.present i (1 ∷ []) i (omega arith)

  pub present_past : drop (i + 1) (with_node i n h).present ≡ drop (i + 1) h.present
  unfolding with_node
  present_past = put_in_drop h.present i (1 ∷ [])
