-- Where spans lie: those that aren't the kernel's, in the order of their numbers, and that of a number.
use Rattle.std.proofs.Common.{◌≡◌, ℕ, List, map, get_or, Option, Some, None, refl, sym, ap, ◌∙◌}
use Rattle.std.specs.Prelude.{◌==◌, option_map}
use Rattle.std.specs.List.{find}
use Rattle.std.specs.Option.{option_map_or}
use Rattle.image_checks.proofs.SpansOfNumbers.{as_many, no_span, span_of, thing_spans_are}
use Rattle.image_checks.specs.Contents.{thing_indexes}
use Rattle.image_memory.specs.Memory.{Span, address_at, span_at}
use Rattle.image_pack.specs.Parts.{IsParts}
use Rattle.image_pack.specs.declared.parts.Image.{Image}
use Rattle.image_pack.specs.declared.parts.SpanPart.{SpanPart}
use Rattle.image_memory.proofs.SpanNumbers.{span_alone}
use Rattle.image_soundness.specs.Sound.{thing_spans}
use Rattle.muen_num.proofs.Lists.{map-map}

module _ (i : Image) (parts : IsParts i) where
  pub addresses_are : (spans : List SpanPart) (indexes addresses : List ℕ) → spans ≡ i.spans → indexes ≡ thing_indexes spans → addresses ≡ map (λ k. (get_or spans k no_span).address) indexes
      → addresses ≡ map (λ e. e.0.address) (thing_spans i)
  addresses_are spans indexes addresses same found are =
      are
      ∙ (λ j. map (λ k. (get_or (same j) k no_span).address) ((found ∙ ap thing_indexes same) j))
      ∙ sym (map-map (λ (e : Span). e.0.address) (span_of i.spans i.contents) (thing_indexes i.spans))
      ∙ ap (map (λ (e : Span). e.0.address)) (sym (thing_spans_are i parts))

  pub span_lies : (n : ℕ) (o : Option SpanPart) → o ≡ find (λ s. s.number == n) i.spans → option_map_or (λ s. s.address) o 0 ≡ address_at i n
  span_lies n o is = ap (λ o. option_map_or (λ (s : SpanPart). s.address) o 0) (is ∙ sym (span_alone i (as_many i parts) n)) ∙ by (span_at i n)
    where
      by : (o : Option Span) → option_map_or (λ (s : SpanPart). s.address) (option_map (λ e. e.0) o) 0 ≡ option_map_or (λ (e : Span). e.0.address) o 0
      by None = refl
      by (Some e) = refl
