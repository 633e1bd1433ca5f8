-- The fields of the request that a node writes.
use Rattle.std.specs.Prelude.{ℕ, true, false, ◌≡◌, List, length}
use Rattle.std.proofs.Math.Path.{refl}
use Rattle.std.proofs.Common.{ap, ◌∙◌}
use Rattle.octets.specs.Numbers.{number_of}
use Rattle.octets.proofs.NumberLaws.{number_bytes}
use Rattle.held.specs.Held.{held_bytes}
use Rattle.terms.specs.Terms.{takes_type, is_one_type}
use Rattle.terms.proofs.TermsLaws.{one_type}
use Rattle.terms.proofs.TypeLaws.{takes_small}
use Rattle.node.specs.declared.Node.{Node}
use Rattle.link.specs.World.{Seed}
use Rattle.link.specs.Can.{own_fields}

module _ (n : Node) (seed : List ℕ) (stamp : ℕ) where
  -- its S is 0
  pub own_plain : (own_fields n seed stamp).s ≡ false
  unfolding own_fields
  own_plain = refl

  -- its stamp is the one it was made with
  pub own_stamp : (own_fields n seed stamp).stamp ≡ stamp
  unfolding own_fields
  own_stamp = refl

  -- its seed is the one it was made with
  pub own_seed : (own_fields n seed stamp).seed ≡ seed
  unfolding own_fields
  own_seed = refl

  -- its account is the node's
  pub own_account : (own_fields n seed stamp).account ≡ held_bytes n.settings.account
  unfolding own_fields
  own_account = refl

  -- its security list is one number that we take
  pub own_type : takes_type n.settings.kind ≡ true → is_one_type (own_fields n seed stamp).security ≡ true
  unfolding own_fields
  own_type e = one_type n.settings.kind e (takes_small n.settings.kind e)

  -- that number is the node's type
  pub own_security : takes_type n.settings.kind ≡ true → number_of (own_fields n seed stamp).security ≡ n.settings.kind
  unfolding own_fields
  own_security e = number_bytes 2 n.settings.kind (takes_small n.settings.kind e)

-- its seed has 16 bytes
pub own_sixteen : (n : Node) (seed : Seed) (stamp : ℕ) → length (own_fields n seed.bytes stamp).seed ≡ 16
own_sixteen n seed stamp = ap length (own_seed n seed.bytes stamp) ∙ seed.sixteen
