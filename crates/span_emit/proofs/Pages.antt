-- How many pages the spans have that have bytes, and those of devices.
use Rattle.std.proofs.Common.{◌≡◌, ℕ, ◌*◌, ◌≤◌, inl, inr, Bool, true, false, cond, All, List, [], ◌∷◌, refl, ap, arith}
use Rattle.std.specs.Prelude.{filter, not, if◌then◌else◌}
use Rattle.std.specs.List.{sum_by}
use Rattle.std.proofs.lemmas.Bool.{cases_Bool, not-true}
use Rattle.std.proofs.lemmas.List.Elements.{All-filter, All-head, All-tail, filter_passes}
use Rattle.std.proofs.lemmas.List.Kept.{AllPairs-filter}
use Rattle.std.proofs.lemmas.List.Sums.{sum_by-cons}
use Rattle.image_pack.specs.Codes.{is_device}
use Rattle.image_pack.specs.SpanConditions.{Ascend, device_pages_of, end_of, pages_of}
use Rattle.image_pack.specs.declared.parts.SpanPart.{SpanPart}
use Rattle.muen_num.specs.declared.limits.TheConstants.{PAGE}
use Rattle.policy_lawful.specs.source.Block.{Block}
use Rattle.span_emit.proofs.Room.{in_blocks}
use Rattle.policy_lawful.specs.Ranges.{in_a_block}

abbrev has_bytes : SpanPart → Bool
has_bytes s = not (is_device s.kind)

abbrev bytes_in : SpanPart → ℕ
bytes_in s = PAGE * s.pages

pages_are : (xs : List SpanPart) → PAGE * sum_by pages_of xs ≡ sum_by bytes_in (filter has_bytes xs)
pages_are [] = refl
pages_are (s ∷ xs) =
    let rest = pages_are xs in
    let all = sum_by-cons pages_of s xs in
    elim (cases_Bool (is_device s.kind)) [
      | inl device ↦
          let left : sum_by bytes_in (filter has_bytes (s ∷ xs)) ≡ sum_by bytes_in (filter has_bytes xs) =
          ap (λ b. sum_by bytes_in (cond (not b) (s ∷ filter has_bytes xs) (filter has_bytes xs))) device in
          let none : pages_of s ≡ 0 = ap (λ b. if b then 0 else s.pages) device in
          omega arith
      | inr bytes ↦
          let kept : sum_by bytes_in (filter has_bytes (s ∷ xs)) ≡ sum_by bytes_in (s ∷ filter has_bytes xs) =
          ap (λ b. sum_by bytes_in (cond (not b) (s ∷ filter has_bytes xs) (filter has_bytes xs))) bytes in
          let sum = sum_by-cons bytes_in s (filter has_bytes xs) in
          let some : pages_of s ≡ s.pages = ap (λ b. if b then 0 else s.pages) bytes in
          omega arith
    ]

-- spans that ascend, and lie inside blocks where they have bytes
pub pages_within : (blocks : List Block) (xs : List SpanPart) → Ascend xs → All (λ s. is_device s.kind ≡ false → in_a_block blocks s.address (PAGE * s.pages) ≡ true) xs → PAGE * sum_by pages_of xs ≤ sum_by (λ b. b.size) blocks
pages_within blocks xs up inside =
    let those : All (λ s. in_a_block blocks s.address (PAGE * s.pages) ≡ true) (filter has_bytes xs) = λ k d l.
    All-filter has_bytes (λ s. is_device s.kind ≡ false → in_a_block blocks s.address (PAGE * s.pages) ≡ true) xs inside k d l (not-true _ (filter_passes has_bytes xs k d l)) in
    let room = in_blocks (λ s. s.address) bytes_in blocks (filter has_bytes xs) (AllPairs-filter (λ a b. end_of a ≤ b.address) has_bytes xs up) those in
    let e = pages_are xs in
    omega arith

pub no_device_pages : (xs : List SpanPart) → All (λ s. is_device s.kind ≡ false) xs → sum_by device_pages_of xs ≡ 0
no_device_pages [] h = refl
no_device_pages (s ∷ xs) h =
    let rest = no_device_pages xs (All-tail (λ s. is_device s.kind ≡ false) s xs h) in
    let all = sum_by-cons device_pages_of s xs in
    let none : device_pages_of s ≡ 0 = ap (λ b. if b then s.pages else 0) (All-head (λ s. is_device s.kind ≡ false) s xs h) in
    omega arith
