use Rattle.std.proofs.Common.{◌∙◌, sym, ap}
use Rattle.std.specs.Prelude.{option_map}
use Rattle.muen_run.proofs.LowSpans.{found_low}
use Rattle.muen_run.proofs.digests.put_numbered.Goals as goal

pub put_span-requires : goal.put_span-requires
put_span-requires g c = found_low c.args.spans.now c.args.n c.in-Some.span.now c.requires (sym c.span_numbered.ensures ∙ ap (option_map (λ s. s.now)) c.in-Some.is)
