-- The spans of an image are one: those of a placement, by their addresses.
use Rattle.std.proofs.Common.{◌≡◌, Bool, true, false, List, get_or, sym, ◌∙◌, arith, le-leb}
use Rattle.std.specs.Prelude.{nat_le}
use Rattle.std.specs.List.{AllPairs}
use Rattle.std.specs.List.Sorted.{IsPermutation}
use Rattle.std.proofs.lemmas.Bool.{lt-leb}
use Rattle.expand_kernel.proofs.Ordered.{ordered_is}
use Rattle.image_pack.specs.SpanConditions.{AreSpans}
use Rattle.image_pack.specs.declared.parts.SpanPart.{SpanPart}

abbrev is_lower : SpanPart → SpanPart → Bool
is_lower a b = nat_le a.address b.address

-- each is below those behind it
ascending : (spans : List SpanPart) → AreSpans spans → AllPairs (λ a b. (is_lower a b ≡ true) × (is_lower b a ≡ false)) spans
ascending spans h i j d l within =
    let some = (h.each i d (omega (arith, l, within))).some in
    let up = h.ascend i j d l within in
    (le-leb (get_or spans i d).address (get_or spans j d).address (omega (arith, some, up)), lt-leb (get_or spans j d).address (get_or spans i d).address (omega (arith, some, up)))

pub spans_are_one : (of one other : List SpanPart) → IsPermutation of one → IsPermutation of other → AreSpans one → AreSpans other → one ≡ other
spans_are_one of one other p q h k = sym (ordered_is is_lower of one p (ascending one h)) ∙ ordered_is is_lower of other q (ascending other k)
