-- Each page of a span of an image is in the image's memory.
use Rattle.std.proofs.Common.{◌≡◌, ℕ, ◌+◌, ◌-◌, ◌/◌, ◌<◌, ◌≤◌, true, List, Option, Some, sym, ap, ◌∙◌, arith}
use Rattle.std.specs.Prelude.{is_some, slice_get}
use Rattle.image_pack.proofs.PartsKeep.{parts_keep}
use Rattle.image_pack.specs.Parts.{IsParts}
use Rattle.image_pack.specs.declared.parts.Image.{Image}
use Rattle.image_pack.specs.declared.parts.SpanPart.{SpanPart}
use Rattle.image_memory.specs.Memory.{memory_of}
use Rattle.ept_check.specs.Memory.{is_there, page_of}
use Rattle.image_memory.proofs.SpanPages.{page_there, span_with}

pub in_span_there : (i : Image) → IsParts i → (a : ℕ) (s : SpanPart) → slice_get i.spans a ≡ Some s → (t : ℕ) → s.address / 4096 ≤ t → t < s.address / 4096 + s.pages → is_there (memory_of i) t ≡ true
in_span_there i parts a s at t low high =
    let keeps = parts_keep i parts in
    let c = span_with i keeps a s at in
    let k : ℕ = t - s.address / 4096 in
    let is : s.address / 4096 + k ≡ t = omega (arith, low) in
    let within : k < s.pages = omega (arith, low, high) in
    ap (λ n. is_some (page_of (memory_of i) n)) (sym is)
    ∙ ap (λ (o : Option (List ℕ)). is_some o) (page_there i keeps (s, c.0) c.1 k within)
