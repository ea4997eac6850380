-- The spans of the memory of devices.
use Rattle.std.proofs.Common.{◌≡◌, ℕ, ◌+◌, ◌*◌, ◌%◌, ◌<◌, ◌≤◌, inl, inr, true, All, List, [], ◌∷◌, map, refl, arith}
use Rattle.std.specs.Prelude.{◌&&◌, nat_le}
use Rattle.std.specs.List.{AllPairs, enumerate_from, sum_by}
use Rattle.std.proofs.lemmas.Bool.{and_parts, leb-true, or_cases}
use Rattle.std.proofs.lemmas.List.Elements.{All-cons, All-head, All-nil, All-tail, All-weaker}
use Rattle.std.proofs.lemmas.List.Kept.{AllPairs-cons}
use Rattle.std.proofs.lemmas.List.Sums.{sum_by-cons}
use Rattle.image_pack.specs.Codes.{is_device, is_part, part_code}
use Rattle.image_pack.specs.SpanConditions.{device_pages_of, end_of}
use Rattle.image_pack.specs.declared.parts.SpanPart.{SpanPart}
use Rattle.muen_num.specs.declared.limits.TheConstants.{PAGE, PHYSICAL_END}
use Rattle.policy_lawful.specs.source.Block.{Block}
use Rattle.policy_lawful.specs.source.DeviceMemory.{DeviceMemory}
use Rattle.span_emit.specs.Spans.{device_span}
use Rattle.policy_lawful.proofs.KeptAddresses.{IsPhysical}
use Rattle.span_emit.proofs.KeptDevices.{AreTwo}
use Rattle.span_emit.proofs.PairLaws.{pairs_head, pairs_nil, pairs_tail}
use Rattle.span_emit.proofs.RegionSpans.{AreApart, IsRegionSpan, less_pages}
use Rattle.policy_lawful.specs.Ranges.{in_a_block}

pub record IsDeviceSpan (s : SpanPart) : Type 0 where
  pub bytes : is_device s.kind ≡ true
  pub aligned : s.address % PAGE ≡ 0
  pub some : 0 < s.pages
  pub part : is_part s.kind (part_code s.tag.part) ≡ true
  pub low : end_of s ≤ PHYSICAL_END

-- a device's memory, with the device's name
abbrev Memory : Type 0
Memory = List ℕ × DeviceMemory

-- ---- each

device_span_is : (k : ℕ) (x : Memory) → IsPhysical x.1 → IsDeviceSpan (device_span (k, x))
device_span_is k x h =
    let pages = h.pages in
    let some = h.some in
    let low = h.low in
    let l = less_pages x.1.size in
    record {
      bytes = refl;
      aligned = h.aligned;
      some = omega arith;
      part = refl;
      low = omega arith;
    }

-- what holds of each memory, of each span
pub each_memory : (P : Memory → Type 0) (Q : SpanPart → Type 0) → ((k : ℕ) (x : Memory) → P x → Q (device_span (k, x))) → (k : ℕ) (ms : List Memory) → All P ms → All Q (map device_span (enumerate_from k ms))
each_memory P Q so k [] h = All-nil Q
each_memory P Q so k (x ∷ ms) h =
    All-cons Q (device_span (k, x)) (map device_span (enumerate_from (k + 1) ms)) (so k x (All-head P x ms h)) (each_memory P Q so (k + 1) ms (All-tail P x ms h))

pub device_spans_are : (k : ℕ) (ms : List Memory) → All (λ x. IsPhysical x.1) ms → All IsDeviceSpan (map device_span (enumerate_from k ms))
device_spans_are k ms h = each_memory (λ x. IsPhysical x.1) IsDeviceSpan device_span_is k ms h

-- ---- pairs

abbrev AreMemories : Memory → Memory → Type 0
AreMemories x y = AreTwo x.1.physical_address x.1.size y.1.physical_address y.1.size

spans_apart : (m n : ℕ) (x y : Memory) → AreMemories x y → AreApart (device_span (m, x)) (device_span (n, y))
spans_apart m n x y (inl before) = let l = less_pages x.1.size in inl (omega arith)
spans_apart m n x y (inr behind) = let l = less_pages y.1.size in inr (omega arith)

pub device_spans_apart : (k : ℕ) (ms : List Memory) → AllPairs AreMemories ms → AllPairs AreApart (map device_span (enumerate_from k ms))
device_spans_apart k [] h = pairs_nil AreApart
device_spans_apart k (x ∷ ms) h =
    AllPairs-cons AreApart (device_span (k, x)) (map device_span (enumerate_from (k + 1) ms))
    (each_memory (AreMemories x) (AreApart (device_span (k, x))) (λ n y two. spans_apart k n x y two) (k + 1) ms (pairs_head AreMemories x ms h))
    (device_spans_apart (k + 1) ms (pairs_tail AreMemories x ms h))

-- ---- beside regions

-- a block in which so many bytes from an address on lie, with what holds of each block
pub record IsIn (P : Block → Type 0) (address size : ℕ) : Type 0 where
  pub block : Block
  pub holds : P block
  pub low : block.physical_address ≤ address
  pub high : address + size ≤ block.physical_address + block.size

pub some_block : (P : Block → Type 0) (blocks : List Block) (address size : ℕ) → All P blocks → in_a_block blocks address size ≡ true → IsIn P address size
some_block P [] address size h e = absurd (cc)
some_block P (b ∷ bs) address size h e =
    elim (or_cases (nat_le b.physical_address address && nat_le (address + size) (b.physical_address + b.size)) (in_a_block bs address size) e) [
      | inl here ↦
          let both = and_parts (nat_le b.physical_address address) (nat_le (address + size) (b.physical_address + b.size)) here in
          record { block = b; holds = All-head P b bs h; low = leb-true _ _ both.0; high = leb-true _ _ both.1 }
      | inr later ↦ some_block P bs address size (All-tail P b bs h) later
    ]

abbrev IsOutside : List Block → Memory → Type 0
IsOutside blocks x = All (λ b. AreTwo b.physical_address b.size x.1.physical_address x.1.size) blocks

beside : (blocks : List Block) (s : SpanPart) → IsRegionSpan blocks s → (k : ℕ) (x : Memory) → IsOutside blocks x → AreApart s (device_span (k, x))
beside blocks s h k x out =
    let b = some_block (λ b. AreTwo b.physical_address b.size x.1.physical_address x.1.size) blocks s.address (PAGE * s.pages) out h.inside in
    let low = b.low in
    let high = b.high in
    let l = less_pages x.1.size in
    elim b.holds [ inl before ↦ inl (omega arith) | inr behind ↦ inr (omega arith) ]

pub beside_regions : (blocks : List Block) (rs : List SpanPart) (k : ℕ) (ms : List Memory) → All (IsRegionSpan blocks) rs → All (IsOutside blocks) ms → All (λ s. All (AreApart s) (map device_span (enumerate_from k ms))) rs
beside_regions blocks rs k ms h out =
    All-weaker (IsRegionSpan blocks) (λ s. All (AreApart s) (map device_span (enumerate_from k ms)))
    (λ s is. each_memory (IsOutside blocks) (AreApart s) (beside blocks s is) k ms out) rs h

-- ---- how many pages

pub device_pages_are : (k : ℕ) (ms : List Memory) → All (λ x. IsPhysical x.1) ms → PAGE * sum_by device_pages_of (map device_span (enumerate_from k ms)) ≡ sum_by (λ x. x.1.size) ms
device_pages_are k [] h = refl
device_pages_are k (x ∷ ms) h =
    let here = (All-head (λ (x : Memory). IsPhysical x.1) x ms h).pages in
    let rest = device_pages_are (k + 1) ms (All-tail (λ (x : Memory). IsPhysical x.1) x ms h) in
    let a = sum_by-cons device_pages_of (device_span (k, x)) (map device_span (enumerate_from (k + 1) ms)) in
    let b = sum_by-cons (λ (x : Memory). x.1.size) x ms in
    omega arith
