use Rattle.std.proofs.Common.{◌≡◌, ◌==◌, ◌<◌, ℕ, false}
use Rattle.std.specs.Prelude.{slice_index_or}
use Rattle.image_pack.specs.declared.parts.SpanPart.{SpanPart}
use Rattle.image_checks.proofs.span_pages.span_at.Given as goal

-- none so far has the number
abbrev pub invariant-loop-index : goal.invariant-loop-index
invariant-loop-index l = (j : ℕ) (d : SpanPart) → j < l.index → ((slice_index_or l.spans j d).number == l.number) ≡ false
