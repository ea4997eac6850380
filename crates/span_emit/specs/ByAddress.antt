-- What is known of spans before they are in the order of their addresses.
use Rattle.std.specs.Prelude.{◌≡◌, ℕ, true, List, IfSome}
use Rattle.std.specs.List.Sorted.{IsNonDecreasingBy, IsPermutation}
use Rattle.image_pack.specs.Codes.{part_name}
use Rattle.image_pack.specs.SpanConditions.{AreSpans}
use Rattle.image_pack.specs.declared.parts.SpanPart.{SpanPart}
use Rattle.muen_num.specs.Naming.{is_name}
use Rattle.muen_num.specs.declared.tag.TagPart.TheVariants.{Named}
use Rattle.muen_num.specs.declared.tag.Tag.{Tag}
use Rattle.policy_lawful.specs.source.DeviceMemory.{DeviceMemory}

-- the tag of memory of the device of this name
abbrev pub memory_tag : List ℕ → DeviceMemory → Tag
memory_tag device m = record { owner = device; part = Named m.name }

-- the owner's name is one, and the part's, if it has one
pub record HasNames (tag : Tag) : Type 0 where
  pub owner : is_name tag.owner ≡ true
  pub called : IfSome (part_name tag.part) (λ text. is_name text ≡ true)

-- in the order of their addresses they are the spans of an image
abbrev pub AreSpansByAddress : List SpanPart → Type 0
AreSpansByAddress spans =
    (ordered : List SpanPart) → IsPermutation spans ordered → IsNonDecreasingBy (λ s. s.address) ordered → AreSpans ordered
