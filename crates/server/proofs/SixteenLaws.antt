-- The authentication data, the check value and the seed of an access request that was read have 16 bytes: refusal 6 stands against any other.
use Rattle.std.specs.Prelude.{Result, Ok, Err}
use Prim.Native.Nat.{ℕ}
use mathlib.Core.Path.{◌≡◌, refl}
use mathlib.Core.List.{List}
use lib.ListN.{length}
use Rattle.refusal.specs.declared.Refusal.{Refusal}
use Rattle.octets.proofs.ChoiceLaws.{never}
use Rattle.object.specs.declared.family.Family.TheVariants.{Misauth}
use Rattle.message.specs.Reading.{vetted}
use Rattle.octets.specs.Part.{bytes_at}
use Rattle.message.proofs.ToldLaws.{vetted_all}
use Rattle.message.proofs.VettedLaws.{field_sixteen}
use Rattle.misauth.specs.declared.request.AccessRequest.{AccessRequest}
use Rattle.misauth.specs.AccessRequest.{access_request_types, access_request_at, read_access_request}

-- the three fields, of an access request in m
pub record Sixteens (m : List ℕ) (r : AccessRequest) : Type 0 where
  pub authentication : length (bytes_at m r.authentication) ≡ 16
  pub check : length (bytes_at m r.check) ≡ 16
  pub seed : length (bytes_at m r.seed) ≡ 16

-- of one that was read
pub read_sixteen : (m : List ℕ) (r : AccessRequest) → read_access_request m ≡ Ok r → Sixteens m r
unfolding read_access_request access_request_at
read_sixteen m r =
    vetted_all (λ (x : Result AccessRequest Refusal). x ≡ Ok r → Sixteens m r) (vetted Misauth 1 access_request_types m) Err
    (λ end. Ok (access_request_at end m))
    (λ why e q. never cc)
    (λ end e q.
    let same : access_request_at end m ≡ r = cc in
    rw (← same)
    (record {
      authentication = field_sixteen Misauth 1 access_request_types m 200 end e refl refl;
      check = field_sixteen Misauth 1 access_request_types m 201 end e refl refl;
      seed = field_sixteen Misauth 1 access_request_types m 202 end e refl refl;
    }))
