-- The bytes of regions, made of the files that were read, are as many as the regions' sizes say, whatever files hold.
use Rattle.std.proofs.Common.{◌≡◌, ℕ, ◌+◌, ◌-◌, List, [], ◌∷◌, ◌++◌, length, map, take, refl, sym, ap, ap₂, ◌∙◌, arith, length-append}
use Rattle.std.specs.Prelude.{replicate}
use Rattle.std.specs.List.{flat_map}
use Rattle.std.proofs.Math.Seq.{take-append_seam}
use Rattle.std.proofs.lemmas.List.{length-map, length-replicate, length-take}
use Rattle.std.proofs.lemmas.Slice.Zip.{AllZip-long}
use Rattle.expand_kernel.specs.ByIndex.{kernel_first}
use Rattle.expand_kernel.specs.Regions.{kernel_regions_of, region_of, regions_of}
use Rattle.image_emit.specs.Made.{IsFilled}
use Rattle.muen_build.specs.Accepting.{Files}
use Rattle.muen_build.specs.Reading.{content_read, read_bytes, sized, things_read}
use Rattle.policy_lawful.proofs.ThingsByIndex.{placed_by_index}
use Rattle.policy_lawful.specs.Contents.{file_part}
use Rattle.policy_lawful.specs.Resolution.{IsResolved, Resolution, source_of}
use Rattle.policy_lawful.specs.Thing.{Item, placed_items}
use Rattle.policy_lawful.specs.Things.{IsThingOf, placed_things}
use Rattle.policy_lawful.specs.source.Content.{Content}
use Rattle.policy_lawful.specs.source.Content.TheVariants.{Zero, Fill, Inline, File}
use Rattle.region_alloc.specs.Placed.{Placement}

-- ---- one content

length-sized : (size : ℕ) (bytes : List ℕ) → length (sized size bytes) ≡ size
length-sized size bytes =
    length-append (take size bytes) (replicate (size - length (take size bytes)) 0)
    ∙ ap (λ n. length (take size bytes) + n) (length-replicate (size - length (take size bytes)) 0)
    ∙ omega (arith, length-take size bytes)

module _ (given found : Files) where
  -- a content fills its room
  length-content : (size : ℕ) (c : Content) → length (content_read given found size c) ≡ size
  length-content size Zero = length-replicate size 0
  length-content size (Fill b) = length-replicate size b
  length-content size (Inline bytes) = length-sized size bytes
  length-content size (File file offset most) = length-sized size (file_part offset most (read_bytes given found file))

  -- ---- all of them

  each_sized : (is : List Item) → map (λ bytes. length bytes) (map (λ i. content_read given found i.size i.content) is) ≡ map (λ y. y.size) (map region_of is)
  each_sized [] = refl
  each_sized (i ∷ is) = ap₂ (λ n ns. n ∷ ns) (length-content i.size i.content) (each_sized is)

  -- the kernel's regions come next
  first_many : (r : Resolution) → IsResolved r → length (placed_items (source_of r)) ≡ kernel_first r 0
  first_many r resolved =
      let as_many = AllZip-long (IsThingOf r (source_of r)) (placed_items (source_of r)) (placed_things r) (placed_by_index r resolved) in
      omega (arith, as_many)

  -- they have the sizes of the regions
  pub things_filled : (x : Placement) → IsResolved x.expanded.lawful → x.expanded.regions ≡ regions_of (source_of x.expanded.lawful) → IsFilled x (things_read given found (source_of x.expanded.lawful))
  unfolding regions_of
  things_filled x resolved are =
      let p = source_of x.expanded.lawful in
      let many = length-map (placed_items p) (λ i. content_read given found i.size i.content) in
      let front : take (length (things_read given found p)) x.expanded.regions ≡ map region_of (placed_items p) =
      ap₂ (λ n ys. take n ys) (many ∙ sym (length-map (placed_items p) region_of)) are ∙ take-append_seam (map region_of (placed_items p)) (flat_map (kernel_regions_of p) p.subjects) in
      record { many = many ∙ first_many x.expanded.lawful resolved; sizes = each_sized (placed_items p) ∙ ap (map (λ y. y.size)) (sym front) }
