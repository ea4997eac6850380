-- The conditions on the spans of an image in plain words, each over all spans that it speaks of.
use Rattle.std.specs.Prelude.{◌≡◌, ◌≢◌, ℕ, ◌+◌, ◌*◌, ◌%◌, ◌<◌, ◌≤◌, true, List, length, IfSome, if◌then◌else◌}
use Rattle.std.specs.List.{All, AllPairs, sum_by}
use Rattle.muen_num.specs.Naming.{is_name}
use Rattle.muen_num.specs.declared.limits.TheConstants.{PAGE, PHYSICAL_END, MOST_BLOCK_BYTES, MOST_DEVICE_BYTES, MOST_REGIONS, MOST_DEVICE_WINDOWS}
use Rattle.image_pack.specs.Codes.{is_device, is_part, part_code, part_name}
use Rattle.image_pack.specs.declared.parts.SpanPart.{SpanPart}

-- the address behind its last byte
abbrev pub end_of : SpanPart → ℕ
end_of s = s.address + PAGE * s.pages

-- whole pages, of addresses that there are; a part that a span of its kind may be; names that are names
pub record IsSpan (s : SpanPart) : Type 0 where
  pub aligned : s.address % PAGE ≡ 0
  pub some : 0 < s.pages
  pub low : end_of s ≤ PHYSICAL_END
  pub part : is_part s.kind (part_code s.tag.part) ≡ true
  pub owner : is_name s.tag.owner ≡ true
  pub called : IfSome (part_name s.tag.part) (λ text. is_name text ≡ true)

-- each ends where the next one begins, or before it
abbrev pub Ascend : List SpanPart → Type 0
Ascend spans = AllPairs (λ a b. end_of a ≤ b.address) spans

-- no two have one number
abbrev pub HaveDifferentNumbers : List SpanPart → Type 0
HaveDifferentNumbers spans = AllPairs (λ a b. a.number ≢ b.number) spans

-- how many pages a span has that has bytes in the image, and how many one of a device's memory
abbrev pub pages_of : SpanPart → ℕ
pages_of s = if is_device s.kind then 0 else s.pages

abbrev pub device_pages_of : SpanPart → ℕ
device_pages_of s = if is_device s.kind then s.pages else 0

-- together they have no more pages than there may be, those of devices counted apart
pub record HaveRoom (spans : List SpanPart) : Type 0 where
  pub pages : PAGE * sum_by pages_of spans ≤ MOST_BLOCK_BYTES
  pub device_pages : PAGE * sum_by device_pages_of spans ≤ MOST_DEVICE_BYTES

-- the spans of an image
pub record AreSpans (spans : List SpanPart) : Type 0 where
  pub few : length spans ≤ MOST_REGIONS + MOST_DEVICE_WINDOWS
  pub each : All IsSpan spans
  pub ascend : Ascend spans
  -- numbered from 0 on, each number once
  pub numbered : All (λ s. s.number < length spans) spans
  pub differ : HaveDifferentNumbers spans
  pub room : HaveRoom spans
