-- What is written is read: the bytes of each kind, with any bytes after them, are read as the very fields they were made of, the repeated
-- ones in their order.
-- Asked of the fields: `_in_range`, so that a writer does not refuse them; `Typed`, what the types of the writer's arguments say of every value
-- they can have, and what a run that it takes holds (run_fits and run_sixteen of GivenRunLaws); and that the whole does not pass 4,096 bytes,
-- which a writer refuses too.
use Prim.Native.Nat.{ℕ, ◌^◌, ◌≤◌, ◌<◌}
use mathlib.Core.Path.{◌≡◌, refl, ◌∙◌}
use mathlib.Core.Bool.{Bool, true}
use mathlib.Core.List.{List, [], ◌++◌, append-nil}
use lib.Dec.{lit≤}
use lib.ListN.{length, drop}
use borrow.Author.Tests.{eq-eqb}
use Rattle.std.specs.Prelude.{Ok}
use Rattle.octets.proofs.ChoiceLaws.{in_turn}
use Rattle.octets.proofs.NumberLaws.{number_back}
use Rattle.octets.specs.Choice.{both, every}
use Rattle.object.specs.declared.family.Family.TheVariants.{Misauth}
use Rattle.object.specs.Family.{limit_of}
use Rattle.position.specs.Position as position
use Rattle.position.proofs.PositionLaws.{PositionHeld, position_bytes_law}
use Rattle.message.specs.Reading.{length_of, fits_in}
use Rattle.message.specs.Writing.{is_name, is_below, Writes}
use Rattle.message.proofs.CarriedLaws.{Carries, carries, carried_second, carried_vetted, carried_value, carried_perhaps, carried_optional}
use Rattle.message.proofs.ToldLaws.{got_same}
use Rattle.message.proofs.ValueLaws.{name_there, EachFits, EachOf}
use Rattle.message.proofs.WroteLaws.{wrote_left}
use Rattle.misauth.specs.AccessRequest.{access_request_types, read_access_request, AccessRequestValues, access_request_told, access_request_bytes, groups_in_range, access_request_in_range}
use Rattle.misauth.specs.Accept.{accept_types, read_accept, AcceptValues, accept_told, accept_bytes}
use Rattle.misauth.specs.Reject.{read_reject, RejectValues, reject_told, reject_bytes}
use Rattle.misauth.proofs.RunLaws.{carried_repeats}
use Rattle.misauth.proofs.AccessRequestLaws.{access_request_runs, access_request_form, access_request_proper, access_request_in, access_request_told_law}
use Rattle.misauth.proofs.AcceptLaws.{accept_form, accept_proper, accept_in, accept_told_law}
use Rattle.misauth.proofs.RejectLaws.{reject_form, reject_proper, reject_in, reject_told_law}

-- REJECT: each proxy value fits an object.
pub record RejectTyped (v : RejectValues) : Type 0 where
  pub proxies : EachFits v.proxies

pub reject_trip : (v : RejectValues) → RejectTyped v → length (reject_bytes v) ≤ limit_of Misauth → (more : List ℕ)
    → reject_told (reject_bytes v ++ more) (read_reject (reject_bytes v ++ more)) ≡ Ok v
unfolding reject_in every
reject_trip v typed fits more =
    let c = carries (reject_form v fits) (reject_proper v typed.proxies) more in
    reject_told_law (reject_bytes v ++ more)
    ∙ rw (carried_vetted c [] refl refl, carried_second c, carried_repeats c 33, append-nil v.proxies)

-- ACCEPT: a masked key and a check value of 16 bytes; each proxy value fits an object.
pub record AcceptTyped (v : AcceptValues) : Type 0 where
  pub key : length v.key ≡ 16
  pub check : length v.check ≡ 16
  pub proxies : EachFits v.proxies

pub accept_trip : (v : AcceptValues) → AcceptTyped v → length (accept_bytes v) ≤ limit_of Misauth → (more : List ℕ)
    → accept_told (accept_bytes v ++ more) (read_accept (accept_bytes v ++ more)) ≡ Ok v
unfolding accept_in every fits_in
accept_trip v typed fits more =
    let c = carries (accept_form v fits) (accept_proper v typed.key typed.check typed.proxies) more in
    accept_told_law (accept_bytes v ++ more)
    ∙ rw (
      carried_vetted c accept_types refl (rw (eq-eqb (length v.key) 16 typed.key, eq-eqb (length v.check) 16 typed.check)),
      carried_second c,
      carried_value c 203,
      carried_value c 201,
      carried_repeats c 33,
      append-nil v.proxies,
    )

-- ACCESS REQUEST: authentication data, check value and seed of 16 bytes, a 16-bit security type, a position of what its type holds; each
-- proxy value fits an object, and each IPv6 address has 16 bytes.
pub record AccessRequestTyped (v : AccessRequestValues) : Type 0 where
  pub authentication : length v.authentication ≡ 16
  pub check : length v.check ≡ 16
  pub seed : length v.seed ≡ 16
  pub security : v.security < 2 ^ 16
  pub position : PositionHeld v.position
  pub proxies : EachFits v.proxies
  pub sixes : EachOf 16 v.sixes

-- The Identifier, the name, the check value and the seed are read back whatever the position and the security type are: these two have
-- their sizes always.
pub record AccessRequestNamed (v a : AccessRequestValues) : Type 0 where
  pub identifier : a.identifier ≡ v.identifier
  pub account : a.account ≡ v.account
  pub check : a.check ≡ v.check
  pub seed : a.seed ≡ v.seed

module _ (v : AccessRequestValues) (account : is_name v.account ≡ true) (authentication : length v.authentication ≡ 16) (check : length v.check ≡ 16)
    (seed : length v.seed ≡ 16) (proxies : EachFits v.proxies) (sixes : EachOf 16 v.sixes) (groups : groups_in_range v.groups ≡ true)
    (fits : length (access_request_bytes v) ≤ limit_of Misauth) (more : List ℕ) where
  -- the message, and any bytes after it
  abbrev message : List ℕ
  message = access_request_bytes v ++ more

  -- it starts with the objects of these fields
  pub access_carries : Carries Misauth 1 v.identifier (access_request_runs v) message
  access_carries = carries (access_request_form v fits) (access_request_proper v account authentication check seed proxies sixes groups) more

  -- it passes the tests
  pub access_told : access_request_told message (read_access_request message) ≡ Ok (access_request_in (length_of message) message)
  unfolding every fits_in
  access_told =
      let fit =
      carried_vetted access_carries access_request_types refl
      (rw (
        name_there v.account account,
        eq-eqb (length v.authentication) 16 authentication,
        eq-eqb (length v.check) 16 check,
        eq-eqb (length v.seed) 16 seed,
      )) in
      access_request_told_law message ∙ rw fit

  -- the four fields stand in it
  access_named : AccessRequestNamed v (access_request_in (length_of message) message)
  unfolding access_request_in
  access_named = record { identifier = carried_second access_carries; account = carried_value access_carries 1; check = carried_value access_carries 201; seed = carried_value access_carries 202 }

  -- and are among the fields that the reader hands back
  pub access_request_named : (a : AccessRequestValues) → access_request_told message (read_access_request message) ≡ Ok a → AccessRequestNamed v a
  access_request_named a e =
      let same : access_request_in (length_of message) message ≡ a = got_same access_told e in rw same at access_named

-- every field is read back where all are in range
pub access_request_trip : (v : AccessRequestValues) → access_request_in_range v ≡ true → AccessRequestTyped v
    → length (access_request_bytes v) ≤ limit_of Misauth → (more : List ℕ)
    → access_request_told (access_request_bytes v ++ more) (read_access_request (access_request_bytes v ++ more)) ≡ Ok v
unfolding access_request_in_range access_request_in
access_request_trip v range typed fits more =
    let from_router = both (is_below v.router (2 ^ 32)) (groups_in_range v.groups) in
    let from_position = both (position.in_range v.position) from_router in
    let (account, rest) = in_turn (is_name v.account) from_position range in
    let (position, rest) = in_turn (position.in_range v.position) from_router rest in
    let (router, groups) = in_turn (is_below v.router (2 ^ 32)) (groups_in_range v.groups) rest in
    let c = access_carries v account typed.authentication typed.check typed.seed typed.proxies typed.sixes groups fits more in
    access_told v account typed.authentication typed.check typed.seed typed.proxies typed.sixes groups fits more
    ∙ rw (
      carried_second c,
      carried_value c 1,
      carried_value c 200,
      carried_value c 201,
      carried_value c 202,
      carried_value c 205,
      carried_value c 204,
      carried_optional c 4 4 v.router refl router (lit≤ tt),
      carried_repeats c 33,
      carried_repeats c 95,
      carried_perhaps c 206 v.groups refl,
      number_back 2 2 v.security typed.security (lit≤ tt),
      position_bytes_law v.position position typed.position,
      append-nil v.proxies,
      append-nil v.sixes,
    )

-- IN THE BUFFER: where a writer answers with a number of bytes, what it leaves in the lent buffer is read as the fields that it was given.
module _ {before after : List ℕ} {in_range : Bool} {n : ℕ} where
  pub reject_left : (v : RejectValues) → RejectTyped v → Writes Misauth in_range (reject_bytes v) before after (Ok n)
      → reject_told after (read_reject after) ≡ Ok v
  reject_left v typed w = rw (wrote_left w).starts (reject_trip v typed (wrote_left w).fits (drop (length (reject_bytes v)) before))

  pub accept_left : (v : AcceptValues) → AcceptTyped v → Writes Misauth in_range (accept_bytes v) before after (Ok n)
      → accept_told after (read_accept after) ≡ Ok v
  accept_left v typed w = rw (wrote_left w).starts (accept_trip v typed (wrote_left w).fits (drop (length (accept_bytes v)) before))

  pub access_request_left : (v : AccessRequestValues) → (in_range ≡ true → access_request_in_range v ≡ true) → AccessRequestTyped v
      → Writes Misauth in_range (access_request_bytes v) before after (Ok n) → access_request_told after (read_access_request after) ≡ Ok v
  access_request_left v range typed w =
      rw (wrote_left w).starts
      (access_request_trip v (range (wrote_left w).range) typed (wrote_left w).fits (drop (length (access_request_bytes v)) before))
