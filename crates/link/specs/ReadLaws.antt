-- What is read has its Code, and what a step wrote is read as the fields that it was made of.
use Rattle.std.specs.Prelude.{ℕ, ◌^◌, ◌%◌, ◌<◌, ◌≤◌, ◌≡◌, refl, true, List, [], length, slice_index, Ok}
use Rattle.std.proofs.Common.{arith, sym, ap, ◌∙◌, append-nil, le-leb, eq-eqb}
use Rattle.object.specs.declared.family.Family.TheVariants.{Misp, Misauth}
use Rattle.held.specs.Held.{held_bytes}
use Rattle.message.specs.Writing.{is_list, is_name}
use Rattle.message.proofs.ToldLaws.{got_same, told_from}
use Rattle.beacons.specs.Beacon.{BeaconValues, beacon_types, beacon_told, read_beacon}
use Rattle.misp.specs.Request.{RequestValues, request_types, request_told, read_request, request_bytes, request_in_range}
use Rattle.misp.specs.Success.{SuccessValues, success_types, success_told, read_success}
use Rattle.beacons.proofs.BeaconLaws.{beacon_in, beacon_told_law}
use Rattle.misp.proofs.RequestLaws.{request_in, request_told_law}
use Rattle.misp.proofs.SuccessLaws.{success_in, success_told_law}
use Rattle.beacons.proofs.RoundTrip.{beacon_trip}
use Rattle.misp.proofs.RoundTrip.{request_trip}
use Rattle.misauth.specs.AccessRequest.{AccessRequestValues, access_request_told, read_access_request, access_request_bytes}
use Rattle.misauth.specs.Accept.{AcceptValues, accept_types, accept_told, read_accept, accept_bytes}
use Rattle.misauth.proofs.AcceptLaws.{accept_fits, accept_in, accept_told_law}
use Rattle.misauth.proofs.AlikeLaws.{accept_alike, access_request_alike}
use Rattle.misauth.proofs.RoundTrip.{accept_trip, access_request_named}
use Rattle.icv.specs.Icv.{session_key, masked}
use Rattle.icv.proofs.IcvLaws.{authentication_length, session_key_length, masked_length, mask_twice}
use Rattle.checked.specs.Checked.{authentication_data, check_for, with_check, request_of, success_by}
use Rattle.checked.proofs.ShapeLaws.{check_sixteen}
use Rattle.checked.proofs.RequestLaws.{request_range}
use Rattle.checked.proofs.SuccessLaws.{success_read}
use Rattle.places.specs.declared.place.Session.{Session}
use Rattle.places.specs.declared.state.Settings.{Settings}
use Rattle.places.specs.declared.state.Router.{Router}
use Rattle.places.specs.State.{groups_of}
use Rattle.turn.specs.Writes.{asked_values, asked_of, success_for}
use Rattle.turn.proofs.WritesLaws.{asked_fits}
use Rattle.router.specs.Beacon.{own_beacon, beacon_of}
use Rattle.router.proofs.BeaconLaws.{beacon_range}
use Rattle.node.specs.declared.Node.{Node}
use Rattle.hearing.specs.Hear.{request_for}
use Rattle.server.specs.Login.{own_accept, accept_of}
use Rattle.link.specs.World.{Clock, Serial, Seed}
use Rattle.link.specs.Premises.{RouterMade}
use Rattle.link.specs.Can.{own_fields, OfRequest}
use Rattle.link.specs.OwnLaws.{own_stamp, own_account, own_sixteen}
use Rattle.link.specs.MadeLaws.{router_fresh}
use Rattle.link.specs.SealedLaws.{sealed_alike}

-- THE CODE
-- what is read as a request starts with 3
pub request_code : (m : List ℕ) (v : RequestValues) → request_told m (read_request m) ≡ Ok v → slice_index m 0 ≡ 3
request_code m v e = (told_from Misp 3 request_types m (λ end. request_in end m) v (sym (request_told_law m) ∙ e)).0

-- as a success, with 4
pub success_code : (m : List ℕ) (v : SuccessValues) → success_told m (read_success m) ≡ Ok v → slice_index m 0 ≡ 4
success_code m v e = (told_from Misp 4 success_types m (λ end. success_in end m) v (sym (success_told_law m) ∙ e)).0

-- as a beacon, with 1
pub beacon_code : (m : List ℕ) (v : BeaconValues) → beacon_told m (read_beacon m) ≡ Ok v → slice_index m 0 ≡ 1
beacon_code m v e = (told_from Misp 1 beacon_types m (λ end. beacon_in end m) v (sym (beacon_told_law m) ∙ e)).0

-- as an accept, with 2
pub accept_code : (m : List ℕ) (v : AcceptValues) → accept_told m (read_accept m) ≡ Ok v → slice_index m 0 ≡ 2
accept_code m v e = (told_from Misauth 2 accept_types m (λ end. accept_in end m) v (sym (accept_told_law m) ∙ e)).0

-- A BEACON
-- groups of four bytes each, at most 64 bytes, are a list that can be written
groups_list : (groups : List ℕ) → length groups ≤ 64 → length groups % 4 ≡ 0 → is_list 4 groups ≡ true
unfolding is_list
groups_list groups most fours = rw (le-leb (length groups) 253 (omega arith), eq-eqb (length groups % 4) 0 fours)

-- the router's beacon is read as its fields
pub beacon_read : (r : Router) → RouterMade r → (now : Clock) (serial : Serial) → let m = beacon_of r.settings now.ticks serial.number in
    beacon_told m (read_beacon m) ≡ Ok (own_beacon r.settings now.ticks serial.number)
unfolding beacon_of
beacon_read r made now serial =
    let s = r.settings in
    let fresh = router_fresh r made in
    rw append-nil at (
    beacon_trip (own_beacon s now.ticks serial.number)
    (beacon_range s now.ticks serial.number (groups_list (groups_of s) fresh.groups.0 fresh.groups.1))
    (record { stamp = now.fits; serial = serial.fits; interval = omega (arith, fresh.interval); position = tt; uplink = tt })
    [])

-- so its stamp fits 64 bits
pub beacon_reads : (r : Router) → RouterMade r → (now : Clock) (serial : Serial) (v : BeaconValues) →
    let m = beacon_of r.settings now.ticks serial.number in beacon_told m (read_beacon m) ≡ Ok v → v.stamp < 2 ^ 64
beacon_reads r made now serial v e = rw (got_same e (beacon_read r made now serial)) now.fits

-- A REQUEST
-- its check value has 16 bytes
pub own_check : (n : Node) (seed : List ℕ) (stamp : ℕ) → length (own_fields n seed stamp).check ≡ 16
unfolding own_fields
own_check n seed stamp = check_sixteen _ _ _ _

-- its fields are in their ranges
own_range : (n : Node) (seed : List ℕ) (stamp : ℕ) → is_name (held_bytes n.settings.account) ≡ true → request_in_range (own_fields n seed stamp) ≡ true
unfolding own_fields
own_range n seed stamp e = request_range _ _ _ _ _ _ ∙ e

-- its bytes are those of its fields
own_bytes : (n : Node) (seed : List ℕ) (stamp : ℕ) → request_for n seed stamp ≡ request_bytes (own_fields n seed stamp)
unfolding request_for request_of with_check own_fields
own_bytes n seed stamp = refl

-- a node's request is read as the fields that the node wrote
pub request_reads : (n : Node) (seed : Seed) (stamp : ℕ) → stamp < 2 ^ 64 → is_name (held_bytes n.settings.account) ≡ true →
    let m = request_for n seed.bytes stamp in request_told m (read_request m) ≡ Ok (own_fields n seed.bytes stamp)
request_reads n seed stamp h name =
    let v = own_fields n seed.bytes stamp in
    rw (own_bytes n seed.bytes stamp) (
    rw append-nil at (
    request_trip v (own_range n seed.bytes stamp name)
    (record {
      stamp = rw (own_stamp n seed.bytes stamp) h;
      check = own_check n seed.bytes stamp;
      seed = own_sixteen n seed stamp;
    })
    []))

-- A SUCCESS
-- a success is read as the fields of its session
pub success_back : (r : Router) → RouterMade r → (to : List ℕ) (session : Session) → session.stamp < 2 ^ 64 → let z = success_for r.settings to session in
    success_told z (read_success z) ≡ Ok (success_by session.stamp r.settings.lifetime r.settings.network (check_for session.key r.settings.address to z))
unfolding success_for
success_back r made to session h =
    let s = r.settings in
    let short : s.lifetime < 2 ^ 16 = omega (arith, (router_fresh r made).lifetime) in
    rw append-nil at (success_read session.stamp s.lifetime s.network session.key s.address to [] h short)

-- so its stamp is the session's
pub success_reads : (r : Router) → RouterMade r → (to : List ℕ) (session : Session) (v : SuccessValues) → session.stamp < 2 ^ 64 →
    let z = success_for r.settings to session in success_told z (read_success z) ≡ Ok v → v.stamp ≡ session.stamp
success_reads r made to session v h e = ap (λ (x : SuccessValues). x.stamp) (got_same e (success_back r made to session h))

-- AN ACCESS REQUEST: the Authenticator is not read
-- authentication data have 16 bytes
pub authentication_data_length : (sender receiver m : List ℕ) → length (authentication_data sender receiver m) ≡ 16
unfolding authentication_data
authentication_data_length sender receiver m = authentication_length _ sender receiver _

-- what is read of an access request is what the request carried
pub asked_reads : (s : Settings) (j : ℕ) (from m : List ℕ) (v : RequestValues) → is_name v.account ≡ true → length v.check ≡ 16
    → length v.seed ≡ 16 → let x = asked_of s j from m v in
    (a : AccessRequestValues) → access_request_told x (read_access_request x) ≡ Ok a → OfRequest j v a
unfolding asked_of
asked_reads s j from m v name check seed a e =
    let w = asked_values s j from m v in
    let named =
    access_request_named w name (authentication_data_length from s.address m) check seed tt tt refl (asked_fits s j from m v) [] a
    (rw append-nil (sym (access_request_alike (sealed_alike (held_bytes s.secret) (access_request_bytes w))) ∙ e)) in
    record { identifier = named.identifier; account = named.account; check = named.check; seed = named.seed }

-- an access request for a node's request carries what that carried
pub access_reads : (s : Settings) (j : ℕ) (from m : List ℕ) (n : Node) (seed : Seed) (stamp : ℕ) → is_name (held_bytes n.settings.account) ≡ true →
    let v = own_fields n seed.bytes stamp in let x = asked_of s j from m v in
    (a : AccessRequestValues) → access_request_told x (read_access_request x) ≡ Ok a → OfRequest j v a
access_reads s j from m n seed stamp name =
    asked_reads s j from m (own_fields n seed.bytes stamp) (rw (own_account n seed.bytes stamp) name) (own_check n seed.bytes stamp)
    (own_sixteen n seed stamp)

-- AN ACCEPT
-- the accept that the server writes is read as the fields of which it was written
pub accept_reads : (secret password : List ℕ) (a : AccessRequestValues) → length a.check ≡ 16 → let y = accept_of secret password a in
    accept_told y (read_accept y) ≡ Ok (own_accept secret password a)
unfolding accept_of
accept_reads secret password a h =
    let w = own_accept secret password a in
    let key = masked_length secret a.check (session_key password a.seed) (session_key_length password a.seed) in
    accept_alike (sealed_alike secret (accept_bytes w))
    ∙ (rw append-nil at (accept_trip w (record { key = key; check = h; proxies = tt }) (accept_fits w.identifier w.key w.check) []))

-- THE MASK
-- a mask put on twice is off again
pub unmasked : (secret check password seed : List ℕ) → masked secret check (masked secret check (session_key password seed)) ≡ session_key password seed
unmasked secret check password seed = mask_twice secret check (session_key password seed) (session_key_length password seed)
