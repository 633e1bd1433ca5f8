-- What setup makes: a fresh state, with settings in their ranges.
use Rattle.std.specs.Prelude.{ℕ, ◌%◌, ◌<◌, ◌≤◌, Bool, ◌≡◌, nat_lt, slice_index_or, Result, Ok}
use Rattle.std.proofs.Math.Bool.{true, false}
use Rattle.std.proofs.Math.Path.{refl, ap}
use Rattle.std.proofs.Common.{sym, ◌∙◌}
use Rattle.std.proofs.Math.ListN.{length, get_or-eq_default}
use borrow.Author.Tests.{ltb-true, ltb-false}
use Rattle.refusal.specs.declared.Refusal.{Refusal}
use Rattle.octets.proofs.ChoiceLaws.{never, pick_all}
use Rattle.terms.specs.Terms.{takes_type}
use Rattle.held.specs.Held.{held_bytes}
use Rattle.places.specs.Place.{fresh_place}
use Rattle.places.specs.declared.place.Place.{Place}
use Rattle.places.specs.declared.state.Router.{Router}
use Rattle.position.specs.Position.{in_range}
use Rattle.places.specs.State.{groups_of, settings_in_range}
use Rattle.places.proofs.SetUpLaws.{settings_in_range_law, Made, setup_router, setup_refused}
use Rattle.turn.specs.Outcome.{place_of}
use Rattle.node.specs.declared.Node.{Node}
use Rattle.node.specs.State.{set_up_node, settings_in_range as node_in_range}
use Rattle.node.proofs.SetUpLaws.{node_in_range_law}
use Rattle.refusal.proofs.StepLaws.{one_value}
use Rattle.theorems.specs.RefusedLaws.{not_done}
use Rattle.link.specs.Premises.{NodeMade, RouterMade}

-- a node that setup made
pub record NodeFresh (n : Node) : Type 0 where
  pub not_waiting : n.waiting.live ≡ false
  pub not_open : n.session.live ≡ false
  pub kind : takes_type n.settings.kind ≡ true

-- a node that setup made is fresh
pub node_fresh : (n : Node) → NodeMade n → NodeFresh n
unfolding set_up_node
node_fresh n m =
    pick_all (λ (s : Result Node Refusal). s ≡ Ok n → NodeFresh n)
    (node_in_range m.unit m.patience m.password m.account m.kind m.network) _ _
    (λ t e.
    let is = one_value e in
    let kind : m.kind ≡ n.settings.kind = ap (λ (x : Node). x.settings.kind) is in
    let range = node_in_range_law m.unit m.patience m.password m.account m.kind m.network t in
    record {
      not_waiting = sym (ap (λ (x : Node). x.waiting.live) is);
      not_open = sym (ap (λ (x : Node). x.session.live) is);
      kind = rw kind at range.kind;
    })
    (λ _ e. never cc)
    m.made

-- a router that setup made
pub record RouterFresh (r : Router) : Type 0 where
  pub size : length r.places ≡ 64
  pub none_taken : (j : ℕ) → (place_of j r).taken ≡ false
  pub lifetime : r.settings.lifetime ≤ 65535
  pub interval : r.settings.interval ≤ 65535
  pub groups : (length (groups_of r.settings) ≤ 64) × (length (groups_of r.settings) % 4 ≡ 0)
  pub secret : 0 < length (held_bytes r.settings.secret)
  pub position : in_range r.settings.position ≡ true

module _ (r : Router) (m : RouterMade r) where
  -- the test that setup makes of its arguments
  abbrev test : Bool
  test = settings_in_range m.window m.unit m.lifetime m.network m.secret m.position m.interval m.groups

  -- setup was done, so its arguments pass
  in_range_is : test ≡ true
  in_range_is = go test refl
    where
      go : (t : Bool) → test ≡ t → test ≡ true
      go true e = e
      go false e =
          let f = setup_refused m.window m.unit m.lifetime m.network m.address m.ipv4 m.secret m.position m.interval m.groups e in
          absurd (not_done (sym f ∙ m.made))

  -- a router that setup made is fresh
  pub router_fresh : RouterFresh r
  unfolding place_of
  router_fresh =
      let x = setup_router m.window m.unit m.lifetime m.network m.address m.ipv4 m.secret m.position m.interval m.groups in_range_is m.made in
      let y = settings_in_range_law m.window m.unit m.lifetime m.network m.secret m.position m.interval m.groups in_range_is in
      record {
        size = x.many;
        none_taken = λ j. free j x (nat_lt j 64) refl;
        lifetime = rw x.lifetime y.numbers.lifetime.1;
        interval = rw x.interval y.numbers.interval;
        groups = rw x.groups (y.strings.most, y.strings.fours);
        position = rw x.position y.position;
        secret = rw x.secret y.strings.secret.0;
      }
    where
      free : (j : ℕ) → Made m.window m.unit m.lifetime m.network m.address m.ipv4 m.secret m.position m.interval m.groups r
          → (t : Bool) → nat_lt j 64 ≡ t → (slice_index_or r.places j fresh_place).taken ≡ false
      free j x true e = ap (λ (p : Place). p.taken) (x.fresh j (ltb-true j 64 e))
      free j x false e = let l : 64 ≤ j = ltb-false j 64 e in let s : length r.places ≤ j = rw x.many l in ap (λ (p : Place). p.taken) (get_or-eq_default r.places fresh_place s)
