-- The premises can be met: a run on real bytes in which a gauge of the mill and a visitor both log in. The access request of the first reaches
-- the server twice, the second answer to it is lost, and the visitor's request comes 40 ticks late, after all of these.
use Rattle.std.specs.Prelude.{ℕ, zero, suc, ◌-◌, ◌*◌, ◌<◌, ◌≤◌, ◌^◌, true, ◌≡◌, refl, ◌⊎◌, length, replicate, slice_index, None, Ok}
use Rattle.std.proofs.Common.{sym, ap, subst, ◌∙◌, inl, inr, ⊎_elim, arith, lit≤, lit<}
use mathlib.Core.List.Memᴰ
use mathlib.Core.List.{List, [], ◌∷◌, ◌++◌, Memᴰ}
use Rattle.std.proofs.lemmas.List.{length-replicate}
use Rattle.refusal.specs.Step.{done, sends as router_sends}
use Rattle.octets.specs.Part.{bytes_at}
use Rattle.octets.specs.Same.{same_bytes}
use Rattle.octets.specs.Numbers.{bytes_of, number_of}
use Rattle.octets.specs.Put.{put, put_in, fitted, zeroed}
use Rattle.octets.proofs.ChoiceLaws.{never, not_both}
use Rattle.octets.specs.Choice.{every}
use Rattle.object.specs.Rule.{rule_of, rule_of_misp, counts_for}
use Rattle.object.specs.Walk.{piece_of, walk_from, walk_of, mine, one_of}
use Rattle.refusal.specs.declared.To.TheVariants.{Everyone}
use Rattle.held.specs.Held.{held_of, held_bytes}
use Rattle.position.specs.Position.{in_range, can_say}
use Rattle.terms.specs.Terms.{takes_type}
use Rattle.terms.proofs.TermsLaws.{listed_one}
use Rattle.message.specs.Reading.{body_of}
use Rattle.message.specs.Field.{object_in, part_in}
use Rattle.message.specs.Writing.{head_bytes, object_bytes, encoded, message_of, is_name}
use Rattle.misp.specs.Request.{RequestValues, request_bytes, read_request, request_told}
use Rattle.md5_digest.specs.Md5.{auxiliary_of, operation_of, on_abcd, on_dabc, on_cdab, on_bcda, operate, operations_f, operations_g, operations_h, operations_i, round_of, rounds_of, block_of, word_at, words_at, blocks_of, low_first, padding, padded, digest_of, sine_of, start, md5_from, md5_of, ◌⋘◌}
use Rattle.hmac.specs.Hmac.{actual_key, key_block, hmac_of}
use Rattle.icv.specs.Icv.{authentication_of, check_value}
use Rattle.checked.specs.Checked.{authentication_data, check_for, with_check, request_of}
use Rattle.book.specs.Entries.{entry_of, entry_at, entry_key, entry_value, entries_from, end_from, section_at, routers, accounts}
use Rattle.book.specs.Whole.{entry_fits, among, distinct, whole_section, whole_book}
use Rattle.book.specs.Search.{first_match, password_in, password_of, secret_in, secret_of}
use Rattle.places.specs.declared.state.Router.{Router}
use Rattle.places.specs.State.{lapsed_at, numbers_in_range, strings_in_range, settings_in_range as router_in_range, no_position, fresh_router, settings_of, set_up_router}
use Rattle.node.specs.declared.Node.{Node}
use Rattle.node.specs.State.{settings_in_range, fresh_node, settings_of as node_settings, set_up_node}
use Rattle.hearing.specs.Hear.{request_for, heard}
use Rattle.places.proofs.LapseLaws.{lapsed_clock}
use Rattle.turn.specs.Outcome.{place_of}
use Rattle.router.specs.Beacon.{beacon_of, beaconed}
use Rattle.link.specs.World.{Clock, Serial, Seed, Member, Packet, to_everyone, to_router, to_server, World, Event, beacon, to_heard, to_requested, to_logged_in, to_replied, wrote_router, after_node, after_router, after_server, node_of, address_of, step, run}
use Rattle.link.specs.Premises.{NodeMade, RouterMade, Begins, OfNode, SentRequest, Differ, Premises}
use Rattle.link.specs.Can.{own_fields}
use Rattle.link.specs.Acceptable.{Calls, after_request, after_login, after_reply, after_success, BothOpen}
use Rattle.message.proofs.ToldLaws.{got_same}
use Rattle.theorems.specs.Alike.{written_is}
use Rattle.theorems.specs.RouterPlaceLaws.{lapsed_left}
use Rattle.link.specs.OwnLaws.{own_stamp, own_account}
use Rattle.link.specs.Laws.{lawful}
use Rattle.link.specs.GoodLaws.{GoodAt, its_address}
use Rattle.link.specs.Theorems.{good}
use Rattle.link.specs.RoomLaws.{OnlyFor, only_lapsed, only_can, room}
use Rattle.link.specs.MadeLaws.{node_fresh, router_fresh}
use Rattle.link.specs.ReadLaws.{request_reads}
use Rattle.link.specs.Keeps.{inv_lapse}
use Rattle.link.specs.LongerLaws.{meets_again, meets_success}
use Rattle.link.specs.Past.{step_grows}
use Rattle.link.specs.Live.{theorem_d}
use Rattle.link.specs.MustLaws.{must}
use Rattle.link.specs.HearLaws.{beacon_sends, Hears, Heard, hear_asks}

-- THE BOOKS. The mill's: router 10.0.0.1 with the secret 7 8, account 65 66 with the password 1 2 3. The visitors': account 67 with the password 4
abbrev pub mill : List ℕ
mill = 0 ∷ 1 ∷ 10 ∷ 0 ∷ 0 ∷ 1 ∷ 2 ∷ 7 ∷ 8 ∷ 0 ∷ 1 ∷ 2 ∷ 65 ∷ 66 ∷ 3 ∷ 1 ∷ 2 ∷ 3 ∷ []

-- the visitors' book
abbrev pub visitors : List ℕ
visitors = 0 ∷ 0 ∷ 0 ∷ 1 ∷ 1 ∷ 67 ∷ 1 ∷ 4 ∷ []

-- THE PARTIES, as setup makes them: window 100, 10 ticks for a unit of lifetime, lifetime 100, network 4. The router's address
abbrev pub home : List ℕ
home = 2 ∷ 0 ∷ 0 ∷ 0 ∷ 0 ∷ 9 ∷ []

-- the gauge's address
abbrev pub address₀ : List ℕ
address₀ = 2 ∷ 0 ∷ 0 ∷ 0 ∷ 0 ∷ 1 ∷ []

-- the visitor's address
abbrev pub address₁ : List ℕ
address₁ = 2 ∷ 0 ∷ 0 ∷ 0 ∷ 0 ∷ 2 ∷ []

-- the router
unfoldable pub base : Router
base = fresh_router (settings_of 100 10 100 4 home (10 ∷ 0 ∷ 0 ∷ 1 ∷ []) (7 ∷ 8 ∷ []) no_position 50 [])

-- a gauge of the mill
unfoldable pub mill_gauge : Node
mill_gauge = fresh_node (node_settings 10 50 (1 ∷ 2 ∷ 3 ∷ []) (65 ∷ 66 ∷ []) 2 4 address₀ home)

-- a visitor's gauge
unfoldable pub visitor : Node
visitor = fresh_node (node_settings 10 50 (4 ∷ []) (67 ∷ []) 3 4 address₁ home)

-- node 0 is the gauge, node 1 the visitor
abbrev pub nodes : ℕ → Node
nodes zero = mill_gauge
nodes (suc n) = visitor

-- the world at the start: nothing was sent
abbrev pub world : World
world = record { nodes = nodes; router = base; sent = [] }

-- setup made the gauge
mill_gauge_made : NodeMade mill_gauge
unfolding mill_gauge set_up_node settings_in_range takes_type
mill_gauge_made =
    record {
      unit = 10;
      patience = 50;
      password = 1 ∷ 2 ∷ 3 ∷ [];
      account = 65 ∷ 66 ∷ [];
      kind = 2;
      network = 4;
      address = address₀;
      router = home;
      made = refl;
    }

-- setup made the visitor
visitor_made : NodeMade visitor
unfolding visitor set_up_node settings_in_range takes_type
visitor_made =
    record { unit = 10; patience = 50; password = 4 ∷ []; account = 67 ∷ []; kind = 3; network = 4; address = address₁; router = home; made = refl }

-- setup made the router
base_made : RouterMade base
unfolding base set_up_router router_in_range numbers_in_range strings_in_range in_range can_say
base_made =
    record {
      window = 100;
      unit = 10;
      lifetime = 100;
      network = 4;
      address = home;
      ipv4 = 10 ∷ 0 ∷ 0 ∷ 1 ∷ [];
      secret = 7 ∷ 8 ∷ [];
      position = no_position;
      interval = 50;
      groups = [];
      made = refl;
    }

-- so all are as setup made them, and nothing was sent
begins : Begins 2 world
begins = record { nodes = λ i. made i.number; router = base_made; sent = refl }
  where
    made : (n : ℕ) → NodeMade (nodes n)
    made zero = mill_gauge_made
    made (suc n) = visitor_made

-- the mill's book gives the router the router's secret
secret_matches : secret_of mill base.settings.ipv4 ≡ held_bytes base.settings.secret
unfolding base set_up_router router_in_range numbers_in_range strings_in_range in_range can_say settings_of fresh_router held_of held_bytes fitted secret_of secret_in first_match whole_book whole_section distinct among every entry_fits routers accounts section_at end_from entries_from entry_key entry_value bytes_at entry_at entry_of number_of same_bytes
secret_matches = refl

-- the books give the gauge's account the gauge's password
mill_gauge_password : password_of mill visitors (held_bytes mill_gauge.settings.account) ≡ held_bytes mill_gauge.settings.password
unfolding mill_gauge set_up_node settings_in_range takes_type held_of held_bytes fitted password_of password_in first_match whole_book whole_section distinct among every entry_fits routers accounts section_at end_from entries_from entry_key entry_value bytes_at entry_at entry_of number_of same_bytes
mill_gauge_password = refl

-- the books give the visitor's account the visitor's password
visitor_password : password_of mill visitors (held_bytes visitor.settings.account) ≡ held_bytes visitor.settings.password
unfolding visitor set_up_node settings_in_range takes_type held_of held_bytes fitted password_of password_in first_match whole_book whole_section distinct among every entry_fits routers accounts section_at end_from entries_from entry_key entry_value bytes_at entry_at entry_of number_of same_bytes
visitor_password = refl

-- THE REQUESTS, of the beacon with the stamp 1000: their check values differ, by computation. The fields of the gauge's
abbrev pub fields₀ : RequestValues
fields₀ = own_fields mill_gauge (replicate 16 17) 1000

-- the fields of the visitor's
abbrev pub fields₁ : RequestValues
fields₁ = own_fields visitor (replicate 16 34) 1000

-- the bytes of the gauge's request
pub bytes₀ : request_for mill_gauge (replicate 16 17) 1000
    ≡ 3 ∷ 0 ∷ 0 ∷ 62 ∷ 2 ∷ 10 ∷ 0 ∷ 0 ∷ 0 ∷ 0 ∷ 0 ∷ 0 ∷ 3 ∷ 232 ∷ 18 ∷ 4 ∷ 0 ∷ 2 ∷ 5 ∷ 18 ∷ 27 ∷ 158 ∷ 230 ∷ 158 ∷ 249 ∷ 156 ∷ 211 ∷ 218 ∷ 84 ∷ 189 ∷ 159 ∷ 150 ∷ 193 ∷ 163 ∷ 140 ∷ 129 ∷ 6 ∷ 4 ∷ 65 ∷ 66 ∷ 8 ∷ 18 ∷ 17 ∷ 17 ∷ 17 ∷ 17 ∷ 17 ∷ 17 ∷ 17 ∷ 17 ∷ 17 ∷ 17 ∷ 17 ∷ 17 ∷ 17 ∷ 17 ∷ 17 ∷ 17 ∷ 21 ∷ 4 ∷ 0 ∷ 4 ∷ []
unfolding mill_gauge request_for request_of with_check set_up_node settings_in_range takes_type held_of held_bytes fitted request_bytes message_of head_bytes encoded object_bytes bytes_of number_of check_for check_value authentication_data authentication_of zeroed put put_in part_in object_in body_of walk_of walk_from piece_of one_of mine rule_of rule_of_misp counts_for actual_key key_block hmac_of auxiliary_of operation_of on_abcd on_dabc on_cdab on_bcda operate operations_f operations_g operations_h operations_i round_of rounds_of block_of word_at words_at blocks_of low_first padding padded digest_of sine_of start md5_from md5_of ◌⋘◌
bytes₀ = refl

-- the check value of the gauge's request starts with 27
check₀ : slice_index fields₀.check 0 ≡ 27
unfolding mill_gauge set_up_node settings_in_range takes_type own_fields held_of held_bytes fitted request_bytes message_of head_bytes encoded object_bytes bytes_of number_of check_for check_value authentication_data authentication_of zeroed put put_in part_in object_in body_of walk_of walk_from piece_of one_of mine rule_of rule_of_misp counts_for actual_key key_block hmac_of auxiliary_of operation_of on_abcd on_dabc on_cdab on_bcda operate operations_f operations_g operations_h operations_i round_of rounds_of block_of word_at words_at blocks_of low_first padding padded digest_of sine_of start md5_from md5_of ◌⋘◌
check₀ = refl

-- that of the visitor's request starts with 16
check₁ : slice_index fields₁.check 0 ≡ 16
unfolding visitor set_up_node settings_in_range takes_type own_fields held_of held_bytes fitted request_bytes message_of head_bytes encoded object_bytes bytes_of number_of check_for check_value authentication_data authentication_of zeroed put put_in part_in object_in body_of walk_of walk_from piece_of one_of mine rule_of rule_of_misp counts_for actual_key key_block hmac_of auxiliary_of operation_of on_abcd on_dabc on_cdab on_bcda operate operations_f operations_g operations_h operations_i round_of rounds_of block_of word_at words_at blocks_of low_first padding padded digest_of sine_of start md5_from md5_of ◌⋘◌
check₁ = refl

-- so they differ
checks_differ : fields₀.check ≡ fields₁.check → ⊥
checks_differ e =
    let z : ◌≡◌ {A = ℕ} 27 16 = sym check₀ ∙ ap (λ (l : List ℕ). slice_index l 0) e ∙ check₁ in
    omega arith

-- THE RUN UP TO THE REQUESTS: a beacon, and each node hears it. The gauge
abbrev pub member₀ : Member 2
member₀ = record { number = 0; there = lit< tt }

-- the visitor
abbrev pub member₁ : Member 2
member₁ = record { number = 1; there = lit< tt }

-- a clock
abbrev pub ticks : (t : ℕ) → t < 2 ^ 64 → Clock
ticks t h = record { ticks = t; fits = h }

-- the beacon's stamp
abbrev pub stamp : Clock
stamp = ticks 1000 (lit< tt)

-- the beacon's serial
abbrev pub serial : Serial
serial = record { number = 1; fits = lit< tt }

-- the gauge's seed
abbrev pub seed₀ : Seed
seed₀ = record { bytes = replicate 16 17; sixteen = refl }

-- the visitor's seed
abbrev pub seed₁ : Seed
seed₁ = record { bytes = replicate 16 34; sixteen = refl }

-- the output that every call is lent
unfoldable pub out : List ℕ
out = replicate 4096 0

-- it is long enough for every MISAUTH message
output₀ : 4096 ≤ length out
unfolding out
output₀ = rw (length-replicate {A = ℕ} 4096 0) (omega arith)

-- and for every MISP message
output₁ : 1500 ≤ length out
output₁ = let l : 4096 ≤ length out = output₀ in omega arith

-- the beacon that both hear
abbrev pub heard_beacon : List ℕ
heard_beacon = beacon_of base.settings 1000 1

-- the gauge's request
abbrev pub request₀ : List ℕ
request₀ = request_for mill_gauge seed₀.bytes 1000

-- the visitor's request
abbrev pub request₁ : List ℕ
request₁ = request_for visitor seed₁.bytes 1000

-- the beacon goes out
abbrev pub es₁ : List (Event 2)
es₁ = beacon stamp serial out ∷ []

-- the gauge hears it
abbrev pub es₂ : List (Event 2)
es₂ = to_heard member₀ (ticks 1 (lit< tt)) seed₀ heard_beacon out ∷ es₁

-- the visitor hears it
abbrev pub es₃ : List (Event 2)
es₃ = to_heard member₁ (ticks 1 (lit< tt)) seed₁ heard_beacon out ∷ es₂

-- what setup makes of the router
record Settings₀ : Type 0 where
  clock : base.clock ≡ 0
  window : base.settings.window ≡ 100
  lifetime : base.settings.lifetime ≡ 100
  unit : base.settings.unit ≡ 10
  network : base.settings.network ≡ 4
  address : base.settings.address ≡ home

-- setup made this of it
base_is : Settings₀
unfolding base set_up_router router_in_range numbers_in_range strings_in_range settings_of fresh_router in_range can_say
base_is = record { clock = refl; window = refl; lifetime = refl; unit = refl; network = refl; address = refl }

-- what setup makes of a node with this address
record NodeIs (n : Node) (address : List ℕ) : Type 0 where
  clock : n.clock ≡ 0
  used : n.used ≡ None
  network : n.settings.network ≡ 4
  its_address : n.settings.address ≡ address
  its_router : n.settings.router ≡ home
  named : is_name (held_bytes n.settings.account) ≡ true
  layers : (seed : List ℕ) → (own_fields n seed 1000).layers ≡ bytes_of 2 4
  password : 0 < length (held_bytes n.settings.password)

-- setup made this of the gauge
mill_gauge_is : NodeIs mill_gauge address₀
unfolding mill_gauge set_up_node settings_in_range takes_type held_of held_bytes fitted is_name own_fields
mill_gauge_is =
    record { clock = refl; used = refl; network = refl; its_address = refl; its_router = refl; named = refl; layers = λ seed. refl; password = lit< tt }

-- and of the visitor
visitor_is : NodeIs visitor address₁
unfolding visitor set_up_node settings_in_range takes_type held_of held_bytes fitted is_name own_fields
visitor_is =
    record { clock = refl; used = refl; network = refl; its_address = refl; its_router = refl; named = refl; layers = λ seed. refl; password = lit< tt }

-- each of them asks
asks : (i : ℕ) (n : Node) (address : List ℕ) (seed : Seed) → NodeMade n → NodeIs n address
    → (h : Hears base n 1 out) × Heard base base_made n (ticks 1 (lit< tt)) stamp serial seed out h i (heard n 1 seed.bytes heard_beacon out)
asks i n address seed made is =
    let fresh = node_fresh n made in
    let h : Hears base n 1 out = record {
      output = output₁;
      clock = rw is.clock (lit≤ tt);
      not_open = fresh.not_open;
      not_waiting = fresh.not_waiting;
      used_nothing = is.used;
      kind = fresh.kind;
      network = is.network ∙ sym base_is.network;
      small = rw is.network (lit< tt);
      named = is.named;
    } in
    (h, hear_asks base base_made n (ticks 1 (lit< tt)) stamp serial seed out h i)

-- the gauge asks when it hears the beacon
heard₀ : Heard base base_made mill_gauge (ticks 1 (lit< tt)) stamp serial seed₀ out (asks 0 mill_gauge address₀ seed₀ mill_gauge_made mill_gauge_is).0 0 (heard mill_gauge 1 seed₀.bytes heard_beacon out)
heard₀ = (asks 0 mill_gauge address₀ seed₀ mill_gauge_made mill_gauge_is).1

-- the visitor asks when it hears the beacon
heard₁ : Heard base base_made visitor (ticks 1 (lit< tt)) stamp serial seed₁ out (asks 1 visitor address₁ seed₁ visitor_made visitor_is).0 1 (heard visitor 1 seed₁.bytes heard_beacon out)
heard₁ = (asks 1 visitor address₁ seed₁ visitor_made visitor_is).1

-- the router's step sends the beacon to everyone
beacon_out : beaconed base 1000 1 out ≡ router_sends done (lapsed_at 1000 base) Everyone heard_beacon out
beacon_out = beacon_sends base 1000 1 out output₁ (rw base_is.clock (lit≤ tt))

-- the router after these three events: its clock is stored, and what has lapsed is gone
router₃ : (run world es₃).router ≡ lapsed_at 1000 base
unfolding run step after_node after_router
router₃ = rw beacon_out

-- what its step wrote is the beacon
beacon_wrote : wrote_router (beaconed base 1000 1 out) ≡ to_everyone heard_beacon ∷ []
beacon_wrote = rw beacon_out (ap (λ (m : List ℕ). to_everyone m ∷ []) (written_is heard_beacon out))

-- sent after the first event: the beacon
sent₁ : (run world es₁).sent ≡ to_everyone heard_beacon ∷ []
unfolding run step after_router
sent₁ = ap (λ (ps : List Packet). ps ++ []) beacon_wrote

-- after the second: the gauge's request too
sent₂ : (run world es₂).sent ≡ to_router 0 home request₀ ∷ to_everyone heard_beacon ∷ []
unfolding run step after_node after_router
sent₂ = rw (heard₀.sends, mill_gauge_is.its_router, sent₁)

-- after the third: both requests and the beacon
sent₃ : (run world es₃).sent ≡ to_router 1 home request₁ ∷ to_router 0 home request₀ ∷ to_everyone heard_beacon ∷ []
unfolding run step after_node after_router
sent₃ = rw (heard₁.sends, visitor_is.its_router, sent₂)

-- the gauge's request is read as its fields
reads₀ : request_told request₀ (read_request request₀) ≡ Ok fields₀
reads₀ = request_reads mill_gauge seed₀ 1000 (lit< tt) mill_gauge_is.named

-- the visitor's request is read as its fields
reads₁ : request_told request₁ (read_request request₁) ≡ Ok fields₁
reads₁ = request_reads visitor seed₁ 1000 (lit< tt) visitor_is.named

-- a request is the gauge's or the visitor's, with its fields
abbrev Which : {M : List Packet} → SentRequest M → Type 0
Which a = ((a.node ≡ 0) × (a.m ≡ request₀) × (a.fields ≡ fields₀)) ⊎ ((a.node ≡ 1) × (a.m ≡ request₁) × (a.fields ≡ fields₁))

module _ (a : SentRequest (to_router 1 home request₁ ∷ to_router 0 home request₀ ∷ to_everyone heard_beacon ∷ [])) where
  -- a request with these bytes has the fields that they are read as
  its_fields : (m : List ℕ) (v : RequestValues) → a.m ≡ m → request_told m (read_request m) ≡ Ok v → a.fields ≡ v
  its_fields m v e reads = got_same (rw e at a.reads) reads

  -- the beacon is no request
  third : Memᴰ (to_router a.node a.router a.m) (to_everyone heard_beacon ∷ []) → Which a
  third m =
      ⊎_elim (λ (e : to_router a.node a.router a.m ≡ to_everyone heard_beacon). never cc)
      (λ n. absurd (Memᴰ.not-nil n)) (Memᴰ.cases_cons m)

  -- of the beacon and the gauge's request the latter alone is one
  second : Memᴰ (to_router a.node a.router a.m) (to_router 0 home request₀ ∷ to_everyone heard_beacon ∷ []) → Which a
  second m =
      ⊎_elim
      (λ (e : to_router a.node a.router a.m ≡ to_router 0 home request₀).
      let n : a.node ≡ 0 = cc in
      let b : a.m ≡ request₀ = cc in
      inl (n, b, its_fields request₀ fields₀ b reads₀))
      third (Memᴰ.cases_cons m)

  -- so a request among all that was sent is the gauge's or the visitor's
  which : Which a
  which =
      ⊎_elim
      (λ (e : to_router a.node a.router a.m ≡ to_router 1 home request₁).
      let n : a.node ≡ 1 = cc in
      let b : a.m ≡ request₁ = cc in
      inr (n, b, its_fields request₁ fields₁ b reads₁))
      second (Memᴰ.cases_cons a.was)

-- no two different requests carry the same check value: there are two, and theirs differ
differ₃ : Differ (to_router 1 home request₁ ∷ to_router 0 home request₀ ∷ to_everyone heard_beacon ∷ [])
differ₃ a b e = go (which a) (which b)
  where
    go : Which a → Which b → (a.node ≡ b.node) × (a.m ≡ b.m)
    go (inl x) (inl y) = (x.0 ∙ sym y.0, x.1 ∙ sym y.1)
    go (inl x) (inr y) = absurd (checks_differ (sym (ap (λ (v : RequestValues). v.check) x.2) ∙ e ∙ ap (λ (v : RequestValues). v.check) y.2))
    go (inr x) (inl y) = absurd (checks_differ (sym (ap (λ (v : RequestValues). v.check) y.2) ∙ sym e ∙ ap (λ (v : RequestValues). v.check) x.2))
    go (inr x) (inr y) = (x.0 ∙ sym y.0, x.1 ∙ sym y.1)

-- what holds of 0 and of 1 holds of each member's number
of_two : (P : ℕ → Type 0) → P 0 → P 1 → (i : Member 2) → P i.number
of_two P p q i = go i.number i.there
  where
    go : (n : ℕ) → n < 2 → P n
    go zero l = p
    go (suc zero) l = q
    go (suc (suc n)) l = absurd (omega arith)

-- the addresses of the gauge and the visitor differ
addresses_differ : address₀ ≡ address₁ → ⊥
addresses_differ e = let z : ◌≡◌ {A = ℕ} 1 2 = ap (λ (l : List ℕ). slice_index l 5) e in omega arith

-- nodes with one address are one node
distinct_addresses : (i j : Member 2) → address_of world i ≡ address_of world j → i.number ≡ j.number
distinct_addresses i j =
    of_two (λ n. (nodes n).settings.address ≡ (nodes j.number).settings.address → n ≡ j.number)
    (of_two (λ m. mill_gauge.settings.address ≡ (nodes m).settings.address → 0 ≡ m) (λ _. refl)
    (λ e. absurd (addresses_differ (sym mill_gauge_is.its_address ∙ e ∙ visitor_is.its_address))) j)
    (of_two (λ m. visitor.settings.address ≡ (nodes m).settings.address → 1 ≡ m)
    (λ e. absurd (addresses_differ (sym mill_gauge_is.its_address ∙ sym e ∙ visitor_is.its_address))) (λ _. refl) j)
    i

-- the run up to here meets the premises
p₃ : Premises 2 mill visitors world es₃
p₃ =
    record {
      its_nodes = of_two (λ n. (nodes n).settings.router ≡ base.settings.address) (mill_gauge_is.its_router ∙ sym base_is.address) (visitor_is.its_router ∙ sym base_is.address);
      none_restarted = begins;
      addresses_distinct = distinct_addresses;
      secret_matching = secret_matches;
      passwords_matching = of_two
          (λ n. 0 < length (password_of mill visitors (held_bytes (nodes n).settings.account)) → password_of mill visitors (held_bytes (nodes n).settings.account) ≡ held_bytes (nodes n).settings.password)
          (λ _. mill_gauge_password) (λ _. visitor_password);
      books_unchanged = (tt, (tt, (tt, tt)));
      only_sent = (inl (rw sent₂ (Memᴰ.tail (Memᴰ.head refl))), (inl (rw sent₁ (Memᴰ.head refl)), (tt, tt)));
      checks_differ = rw sent₃ differ₃;
    }

-- A LOGIN. The clocks and outputs of its calls: the router's clock at the request, at the accept and when the success reaches the node
abbrev pub calls_at : Clock → Clock → Clock → Calls
calls_at asked granted told =
    record { request_now = asked; request_out = out; login_out = out; reply_now = granted; reply_out = out; success_now = ticks 5 (lit< tt); router_now = told }

-- these clocks do not run back, and are in time for the beacon's stamp
record Timely (es : List (Event 2)) (asked granted told : Clock) : Type 0 where
  clock : (run world es).router.clock ≤ asked.ticks
  not_ahead : 1000 ≤ asked.ticks
  order : asked.ticks ≤ granted.ticks
  request : asked.ticks - 1000 ≤ 100
  accept : granted.ticks - 1000 ≤ 100
  success : told.ticks - granted.ticks ≤ 100 * 10

-- node i has this address and an account in the books, it heard the beacon with this seed and waits on its request; places are taken for another address alone
record Ready (i : Member 2) (address other : List ℕ) (seed : Seed) (es : List (Event 2)) : Type 0 where
  made : NodeMade (node_of world i)
  is : NodeIs (node_of world i) address
  password : password_of mill visitors (held_bytes (node_of world i).settings.account) ≡ held_bytes (node_of world i).settings.password
  own : OfNode (run world es) i (request_for (node_of world i) seed.bytes 1000)
  node : node_of (run world es) i ≡ (heard (node_of world i) 1 seed.bytes heard_beacon out).outcome.state
  apart : other ≡ address → ⊥
  only : OnlyFor other (run world es).router

module _ (es : List (Event 2)) (p : Premises 2 mill visitors world es) where
  -- the invariant holds
  fine : GoodAt mill visitors world es
  fine = good lawful mill visitors world es p

  -- the router's settings are those of setup
  settings_at : (run world es).router.settings ≡ base.settings
  settings_at = fine.router_settings

  -- by theorem d such a node and the router are open after its four messages
  logs_in : (i : Member 2) (address other : List ℕ) (seed : Seed) (asked granted told : Clock) → Ready i address other seed es → Timely es asked granted told
      → BothOpen i (request_for (node_of world i) seed.bytes 1000) (calls_at asked granted told) es mill visitors world (own_fields (node_of world i) seed.bytes 1000).stamp
  logs_in i address other seed asked granted told h t =
      let n = node_of world i in
      let v = own_fields n seed.bytes 1000 in
      let stamped : v.stamp ≡ 1000 = own_stamp n seed.bytes 1000 in
      let waits = (asks i.number n address seed h.made h.is).1 in
      let q = lapsed_at asked.ticks (run world es).router in
      let g = inv_lapse fine asked.ticks t.clock in
      theorem_d lawful must mill visitors world es p i (request_for n seed.bytes 1000) v (calls_at asked granted told)
      (record {
        own = h.own;
        reads = request_reads n seed 1000 (lit< tt) h.is.named;
        waits = rw h.node waits.waits;
        stamped = rw h.node (waits.stamped ∙ sym stamped);
        listed = rw (settings_at, h.is.layers seed.bytes, base_is.network) (listed_one 4 (lit< tt));
        not_ahead = rw stamped t.not_ahead;
        room = rw (its_address fine i, h.is.its_address)
            (room other address h.apart q g.size (only_lapsed other asked.ticks (run world es).router h.only) g.apart v);
        known = rw (own_account n seed.bytes 1000, h.password) h.is.password;
        request_clock = t.clock;
        reply_clock = t.order;
        success_clock = rw (h.node, waits.clock) (lit≤ tt);
        request_output = output₀;
        login_output = output₀;
        reply_output = output₁;
      })
      (record {
        request = rw (stamped, settings_at, base_is.window) t.request;
        accept = rw (stamped, settings_at, base_is.window) t.accept;
        success = rw (settings_at, base_is.lifetime, base_is.unit) t.success;
      })

-- THE GAUGE LOGS IN: its request at 1010, the accept at 1020
abbrev pub calls₀ : Calls
calls₀ = calls_at (ticks 1010 (lit< tt)) (ticks 1020 (lit< tt)) (ticks 1025 (lit< tt))

-- no place is taken yet
none_taken₃ : (h : ℕ) → (place_of h (run world es₃).router).taken ≡ true → ⊥
none_taken₃ h t =
    let l = lapsed_left 1000 base h (rw router₃ at t) in
    not_both l.was ((router_fresh base base_made).none_taken h)

-- the gauge's request is among what was sent to the router
own₀ : OfNode (run world es₃) member₀ request₀
own₀ = rw (sent₃, settings_at es₃ p₃, base_is.address) (Memᴰ.tail (Memᴰ.head refl))

-- the gauge is as hearing the beacon left it
node₀ : node_of (run world es₃) member₀ ≡ (heard mill_gauge 1 seed₀.bytes heard_beacon out).outcome.state
unfolding run step after_node after_router
node₀ = refl

-- so it logs in
pub open₀ : BothOpen member₀ request₀ calls₀ es₃ mill visitors world fields₀.stamp
open₀ =
    let clock : (run world es₃).router.clock ≡ 1000 = ap (λ (r : Router). r.clock) router₃ ∙ lapsed_clock 1000 base in
    logs_in es₃ p₃ member₀ address₀ address₁ seed₀ (ticks 1010 (lit< tt)) (ticks 1020 (lit< tt)) (ticks 1025 (lit< tt))
    (record {
      made = mill_gauge_made;
      is = mill_gauge_is;
      password = mill_gauge_password;
      own = own₀;
      node = node₀;
      apart = λ e. addresses_differ (sym e);
      only = λ h t. absurd (none_taken₃ h t);
    })
    (record { clock = rw clock (lit≤ tt); not_ahead = lit≤ tt; order = lit≤ tt; request = lit≤ tt; accept = lit≤ tt; success = lit≤ tt })

-- the run up to there
abbrev pub es₇ : List (Event 2)
es₇ = after_success member₀ request₀ calls₀ es₃ mill visitors open₀.access open₀.answer open₀.success

-- it meets the premises
p₇ : Premises 2 mill visitors world es₇
p₇ = meets_success mill visitors world p₃ member₀ request₀ calls₀ fields₀.stamp own₀ open₀

-- ITS ACCESS REQUEST REACHES THE SERVER ONCE MORE, and what the server answers to it is never delivered
abbrev pub es₈ : List (Event 2)
es₈ = to_logged_in mill visitors open₀.access out ∷ es₇

-- the access request was sent
access_sent : Memᴰ (to_server open₀.access) (run world es₇).sent
unfolding run
access_sent =
    step_grows _ _ _ (step_grows _ _ _ (step_grows _ _ _ (rw open₀.asked (Memᴰ.head refl))))

-- the run with it meets the premises
p₈ : Premises 2 mill visitors world es₈
p₈ = meets_again mill visitors world p₇ open₀.access out access_sent

-- THE VISITOR LOGS IN, late: its request at 1040, the accept at 1050. Till then the router has a place for the gauge alone
only₄ : OnlyFor address₀ (run world (after_request member₀ request₀ calls₀ es₃)).router
unfolding run step after_router
only₄ =
    only_can address₀ (address_of (run world es₃)) (run world es₃).router _ _ _
    (lawful.router_requested (address_of (run world es₃)) (run world es₃).router calls₀.request_now member₀ request₀ calls₀.request_out)
    (λ i now m o e. let same : i ≡ member₀ = cc in rw same (its_address (fine es₃ p₃) member₀ ∙ mill_gauge_is.its_address)) (λ h t. absurd (none_taken₃ h t))

-- so it is after the server's answer to the gauge's access request
only₅ : OnlyFor address₀ (run world (after_login member₀ request₀ calls₀ es₃ mill visitors open₀.access)).router
unfolding run step after_server
only₅ = only₄

-- and after the reply
only₆ : OnlyFor address₀ (run world (after_reply member₀ request₀ calls₀ es₃ mill visitors open₀.access open₀.answer)).router
unfolding run step after_router
only₆ =
    let es = after_login member₀ request₀ calls₀ es₃ mill visitors open₀.access in
    only_can address₀ (address_of (run world es)) (run world es).router _ _ _
    (lawful.router_replied (address_of (run world es)) (run world es).router calls₀.reply_now open₀.answer calls₀.reply_out)
    (λ (i : Member 2) (now : Clock) (m o : List ℕ) (e : to_replied calls₀.reply_now open₀.answer calls₀.reply_out ≡ to_requested i now m o).
    never cc)
    only₅

-- and after the success and the second login
only₈ : OnlyFor address₀ (run world es₈).router
unfolding run step after_node after_server
only₈ = only₆

-- the visitor's request is among what was sent still
request_stays : Memᴰ (to_router 1 home request₁) (run world es₈).sent
unfolding run
request_stays =
    step_grows _ _ _ (step_grows _ _ _ (step_grows _ _ _ (step_grows _ _ _ (step_grows _ _ _ (rw sent₃ (Memᴰ.head refl))))))

-- so it is one that the visitor sent to the router
own₁ : OfNode (run world es₈) member₁ request₁
own₁ =
    subst (λ (a : List ℕ). Memᴰ (to_router 1 a request₁) (run world es₈).sent)
    (sym (ap (λ s. s.address) (settings_at es₈ p₈) ∙ base_is.address)) request_stays

-- the visitor is as hearing the beacon left it
node₁ : node_of (run world es₈) member₁ ≡ (heard visitor 1 seed₁.bytes heard_beacon out).outcome.state
unfolding run step after_node after_router after_server
node₁ = refl

-- the router's clock is that of the accept: the success and the second login leave the router as it was
clock₈ : (run world es₈).router.clock ≡ 1020
unfolding run step after_server
clock₈ = open₀.router_clock

-- the clocks and outputs of the visitor's calls
abbrev pub calls₁ : Calls
calls₁ = calls_at (ticks 1040 (lit< tt)) (ticks 1050 (lit< tt)) (ticks 1060 (lit< tt))

-- so it logs in
pub open₁ : BothOpen member₁ request₁ calls₁ es₈ mill visitors world fields₁.stamp
open₁ =
    logs_in es₈ p₈ member₁ address₁ address₀ seed₁ (ticks 1040 (lit< tt)) (ticks 1050 (lit< tt)) (ticks 1060 (lit< tt))
    (record { made = visitor_made; is = visitor_is; password = visitor_password; own = own₁; node = node₁; apart = addresses_differ; only = only₈ })
    (record { clock = rw clock₈ (lit≤ tt); not_ahead = lit≤ tt; order = lit≤ tt; request = lit≤ tt; accept = lit≤ tt; success = lit≤ tt })

-- THE WHOLE RUN meets the premises, and at its end both nodes are open
abbrev pub events : List (Event 2)
events = after_success member₁ request₁ calls₁ es₈ mill visitors open₁.access open₁.answer open₁.success

-- the premises can be met
pub met : Premises 2 mill visitors world events
met = meets_success mill visitors world p₈ member₁ request₁ calls₁ fields₁.stamp own₁ open₁

-- the visitor's login leaves the gauge as it was
mill_gauge_same : node_of (run world events) member₀ ≡ node_of (run world es₇) member₀
unfolding run step after_node after_router after_server
mill_gauge_same = refl

-- both nodes are open at the end of the run
pub both_open : ((node_of (run world events) member₀).session.live ≡ true) × ((node_of (run world events) member₁).session.live ≡ true)
both_open = (rw mill_gauge_same open₀.node_live, open₁.node_live)
