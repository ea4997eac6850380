use Rattle.std.proofs.Common.{ap, subst, ◌∙◌}
use Rattle.std.specs.Prelude.{decimal}
use Rattle.muen_outside.specs.Puts.{Puts}
use Rattle.muen_top.proofs.GeneratedRuns.{summary_is, ticks_are}
use Rattle.muen_top.proofs.load.put_summary.Goals as goal

pub returns : goal.returns
returns g c =
    subst (λ text. Puts text (g.S.Sink.state c.args.out.now) (g.S.Sink.state c.put_pieces.new.out) c.put_pieces.result)
    (summary_is c.args.number c.args.text.now c.format.result.now c.format-2.result.now c.format-3.result.now c.args.digest.now
    (c.format.ensures.text ∙ ap decimal c.subjects_of.ensures)
    (c.format-2.ensures.text ∙ ap decimal (ticks_are c.args.number))
    c.format-3.ensures.text c.requires)
    c.put_pieces.ensures
