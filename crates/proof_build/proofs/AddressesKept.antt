-- The regions of the image lie where the policy's placement has them.
use Rattle.std.proofs.Common.{◌≡◌, ℕ, Some, ap}
use Rattle.std.specs.Prelude.{slice_get, slice_index}
use Rattle.std.specs.Option.{option_map_or}
use Rattle.expand_kernel.specs.thing.Region.{Region}
use Rattle.image_emit.specs.Made.{IsMade, Made, image_of}
use Rattle.image_emit.proofs.ByNumber.{span_numbered}
use Rattle.image_emit.proofs.SpansAt.{region_at}
use Rattle.image_soundness.specs.Memory.{Span, address_at}

-- the region of a number lies at the address of this number
pub lies_at : (m : Made) → IsMade m → (n : ℕ) (y : Region) → slice_get m.placed.expanded.regions n ≡ Some y → address_at (image_of m) n ≡ slice_index m.placed.addresses n
lies_at m h n y at = ap (λ o. option_map_or (λ (e : Span). e.0.address) o 0) (span_numbered m h n _ (region_at m h n y at))
