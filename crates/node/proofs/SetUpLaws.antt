-- Setup: what the ranges say.
use Prim.Native.Nat.{ℕ, ◌≤◌}
use mathlib.Core.Path.{◌≡◌}
use mathlib.Core.List.{List}
use mathlib.Core.Bool.{true}
use lib.ListN.{length}
use borrow.Author.Tests.{leb-true}
use Rattle.octets.specs.Range.{within}
use Rattle.octets.proofs.ChoiceLaws.{both_left, both_right}
use Rattle.octets.proofs.RangeLaws.{within_is}
use Rattle.terms.specs.Terms.{takes_type}
use Rattle.node.specs.State.{settings_in_range}

-- the settings are in their ranges: password w, account a, type k, network number n
pub record InRange (u p : ℕ) (w a : List ℕ) (k n : ℕ) : Type 0 where
  pub unit : (1 ≤ u) × (u ≤ 4294967295)
  pub patience : (1 ≤ p) × (p ≤ 4294967295)
  pub password : (1 ≤ length w) × (length w ≤ 253)
  pub account : (1 ≤ length a) × (length a ≤ 253)
  pub kind : takes_type k ≡ true
  pub network : n ≤ 65535

-- what the test of the settings says
pub node_in_range_law : (u p : ℕ) (password account : List ℕ) (kind network : ℕ) → settings_in_range u p password account kind network ≡ true
    → InRange u p password account kind network
unfolding settings_in_range
node_in_range_law u p password account kind network e =
    let past_unit = both_right (within 1 4294967295 u) _ e in
    let past_patience = both_right (within 1 4294967295 p) _ past_unit in
    let past_password = both_right (within 1 253 (length password)) _ past_patience in
    let past_account = both_right (within 1 253 (length account)) _ past_password in
    record {
      unit = within_is 1 4294967295 u (both_left (within 1 4294967295 u) _ e);
      patience = within_is 1 4294967295 p (both_left (within 1 4294967295 p) _ past_unit);
      password = within_is 1 253 (length password) (both_left (within 1 253 (length password)) _ past_patience);
      account = within_is 1 253 (length account) (both_left (within 1 253 (length account)) _ past_password);
      kind = both_left (takes_type kind) _ past_account;
      network = leb-true network 65535 (both_right (takes_type kind) _ past_account);
    }
