-- The pages of the spans that have tables.
use Rattle.std.specs.Prelude.{ℕ, ◌+◌, ◌/◌, List, [], map, if◌then◌else◌}
use Rattle.std.specs.List.{flat_map}
use Rattle.image_pack.specs.declared.parts.SpanPart.{SpanPart}
use Rattle.image_soundness.specs.Sound.{is_tables}
use Rattle.muen_num.specs.Range.{numbers_below}

abbrev pub pages_of_span : SpanPart → List ℕ
pages_of_span s = map (λ k. s.address / 4096 + k) (numbers_below s.pages)

abbrev pub pages_of_tables : SpanPart → List ℕ
pages_of_tables s = if is_tables s then pages_of_span s else []

-- span by span
unfoldable pub pages_of_all : List SpanPart → List ℕ
pages_of_all spans = flat_map pages_of_tables spans
