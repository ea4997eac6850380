-- The regions of a policy's memory have addresses.
use Rattle.std.proofs.Common.{◌≡◌, ℕ, ◌<◌, Bool, true, false, cond, List, length, Some, None, refl, arith}
use Rattle.std.specs.Prelude.{nat_lt, position}
use Rattle.std.specs.List.{position_or_len}
use Rattle.std.proofs.lemmas.Bool.{ltb-true}
use Rattle.std.proofs.lemmas.Option.{slice_get_within}
use Rattle.muen_num.proofs.Lists.{there}
use Rattle.region_alloc.proofs.OwnRegions.{addresses_many, region_at}
use Rattle.region_alloc.specs.Placed.{IsPlaced, Placement}

-- an index that is found is one of the list
pub position_within : {X : Type 0} (p : X → Bool) (xs : List X) (n : ℕ) → position p xs ≡ Some n → n < length xs
position_within p xs n e =
    elim (nat_lt (position_or_len p xs) (length xs)) as (λ b. nat_lt (position_or_len p xs) (length xs) ≡ b → cond b (Some (position_or_len p xs)) None ≡ Some n → n < length xs) [
      | true ↦ λ is some.
          let same : position_or_len p xs ≡ n = cc in
          let within = ltb-true (position_or_len p xs) (length xs) is in
          omega arith
      | false ↦ λ is some. absurd (cc)
    ] refl e

pub number_there : (x : Placement) → IsPlaced x → (n : ℕ) → n < length x.expanded.lawful.memory → n < length x.addresses
number_there x placed n within =
    let m = there x.expanded.lawful.memory n within in
    let among = slice_get_within x.expanded.regions n _ (region_at x placed n m.0 m.1) in
    omega (arith, among, addresses_many x placed)
