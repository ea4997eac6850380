-- The window of a domain on a region, by the region's number.
use Rattle.std.proofs.Common.{◌≡◌, ℕ, List, get_or, Some, position, sym, ap, ◌∙◌}
use Rattle.std.specs.Prelude.{option_map, slice_index}
use Rattle.std.specs.List.{find}
use Rattle.std.specs.Option.{option_map_or}
use Rattle.std.specs.Str.{bytes_eq}
use Rattle.std.proofs.lemmas.Option.{get_or_from_slice_get}
use Rattle.dma_emit.specs.Domains.{mapped, region_address_of, region_mapped}
use Rattle.dma_emit.proofs.PlacesThere.{position_within}
use Rattle.ept_emit.specs.declared.window.Leaf.TheVariants.{Small}
use Rattle.muen_num.proofs.Lists.{there}
use Rattle.muen_num.proofs.Lookups.{at_position}
use Rattle.policy_lawful.specs.rights.Caching.TheVariants.{Uc}
use Rattle.policy_lawful.specs.source.Mapping.{Mapping}
use Rattle.policy_lawful.specs.source.Region.{Region}
use Rattle.region_alloc.specs.Placed.{Placement}

pub mapped_at : (x : Placement) (m : Mapping) (memory : List Region) (addresses : List ℕ) (n : ℕ) (d : Region) → memory ≡ x.expanded.lawful.memory → addresses ≡ x.addresses → position (λ r. bytes_eq r.name m.region) memory ≡ Some n
    → Some (record { guest = m.virtual_address; size = (get_or memory n d).size; address = get_or addresses n 0; rights = m.rights; caching = Uc; leaf = Small }) ≡ mapped x m
mapped_at x m memory addresses n d is lie at =
    let rs = x.expanded.lawful.memory in
    let number : position (λ r. bytes_eq r.name m.region) rs ≡ Some n = ap (position (λ r. bytes_eq r.name m.region)) (sym is) ∙ at in
    let region = there rs n (position_within (λ r. bytes_eq r.name m.region) rs n number) in
    let size : (get_or memory n d).size ≡ region.0.size = ap (λ ms. (get_or ms n d).size) is ∙ ap (λ (r : Region). r.size) (get_or_from_slice_get rs n region.0 d region.1) in
    let lies : get_or addresses n 0 ≡ region_address_of x m.region = ap (λ ps. get_or ps n 0) lie ∙ sym (ap (λ o. option_map_or (slice_index x.addresses) o 0) number) in
    let found : find (λ r. bytes_eq r.name m.region) rs ≡ Some region.0 = sym (at_position (λ r. bytes_eq r.name m.region) rs n number) ∙ region.1 in
    (λ i. Some (record { guest = m.virtual_address; size = size i; address = lies i; rights = m.rights; caching = Uc; leaf = Small }))
    ∙ ap (option_map (region_mapped x m)) (sym found)
