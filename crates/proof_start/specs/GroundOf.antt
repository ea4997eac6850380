-- A policy's system and the machine that an image for it makes.
use Rattle.std.specs.Prelude.{ℕ, ◌+◌, ◌/◌, ◌==◌, ◌&&◌, ◌||◌, nat_le, nat_lt, Bool, map, zip}
use Rattle.std.specs.List.{All, find, list_any}
use Rattle.std.specs.Option.{option_map_or}
use Rattle.image_load.specs.Loaded.{setup_of}
use Rattle.image_memory.specs.Memory.{memory_of}
use Rattle.image_soundness.specs.Sound.{is_kernel, address_of, thing_spans}
use Rattle.image_pack.specs.Codes.{part_code}
use Rattle.image_pack.specs.declared.parts.Image.{Image}
use Rattle.image_pack.specs.declared.parts.SpanPart.{SpanPart}
use Rattle.muen_num.specs.declared.limits.TheConstants.{PAGE}
use Rattle.muen_num.specs.declared.tag.TagPart.TheVariants.{Ept, Iobm, Msrbm}
use Rattle.policy_lawful.specs.Thing.{Thing, same_thing, things_of}
use Rattle.policy_lawful.specs.source.Source.{Source}
use Rattle.proof_turns.specs.Ground.{Ground}
use Rattle.guest_isa.specs.Words.{IsByte}

-- how many pages the span of a thing has; none where it is no thing of the policy
abbrev pub page_count_of_thing : Source → Image → Thing → ℕ
page_count_of_thing p i x = option_map_or (λ e. e.1) (find (λ e. same_thing e.0 x) (zip (things_of p) (map (λ e. e.0.pages) (thing_spans i)))) 0

-- a span of tables or of bitmaps
abbrev pub is_kept : SpanPart → Bool
is_kept s = is_kernel s.kind && ((part_code s.tag.part == part_code Ept) || ((part_code s.tag.part == part_code Iobm) || (part_code s.tag.part == part_code Msrbm)))

-- a page is one of the span
abbrev pub is_page_of : ℕ → SpanPart → Bool
is_page_of page s = nat_le (s.address / PAGE) page && nat_lt page (s.address / PAGE + s.pages)

unfoldable pub ground_of : Source → Image → Ground
ground_of p i = record {
  policy = p;
  setup = setup_of i;
  first = λ x. address_of p i x / PAGE;
  pages = page_count_of_thing p i;
  kept = λ page. list_any (λ s. is_kept s && is_page_of page s) i.spans;
  memory = memory_of i;
}

-- what its spans hold at the start are bytes, as they are in an image that was read
abbrev pub HoldsBytes : Image → Type 0
HoldsBytes i = All (All IsByte) i.contents
