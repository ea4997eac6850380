use Rattle.std.proofs.Common.{◌∙◌, length, inr, sym, arith}
use Rattle.std.proofs.lemmas.Bool.{eqb-true}
use Rattle.std.proofs.lemmas.Result.{err_from_is_err_and}
use Rattle.text_words.specs.Parts.{lines_of}
use Rattle.record_text.proofs.Lines.{grown_ended, grown_more, grown_unended, refused_here}
use Rattle.text_words.proofs.Cuts.{no_lines}
use Rattle.record_text.proofs.Rules.{in_order_more}
use Rattle.record_text.proofs.reading.read_lines.Goals as goal

pub returns-in_err-made : goal.returns-in_err-made
returns-in_err-made c =
    let p = err_from_is_err_and c.from_residual.result c.from_residual.ensures.1 in
    let same = rw c.first_line.ensures.lines at c.loop-rest.invariant.same in
    rw (p.1, p.2) (
    refused_here c.args.devices.now c.loop-rest.made c.loop-rest.number c.first_line.result.0.now (lines_of c.first_line.result.1.now) c.in_err-made.field-0.0 _ c.in_err-made.ensures same
    )

pub loop-rest-preserved : goal.loop-rest-preserved
loop-rest-preserved c =
    let same = rw c.first_line.ensures.lines at c.loop-rest.invariant.same in
    record {
      same = sym (grown_more c.args.devices.now c.loop-rest.made c.in_ok-made.made c.loop-rest.number c.first_line.result.0.now (lines_of c.first_line.result.1.now) c.in_ok-made.ensures) ∙ same;
      order = in_order_more c.args.devices.now c.loop-rest.made c.in_ok-made.made c.loop-rest.number c.first_line.result.0.now c.loop-rest.invariant.order c.in_ok-made.ensures;
      count = omega (arith, c.first_line.ensures.shorter, c.loop-rest.invariant.count);
    }

pub returns-then-not-ended : goal.returns-then-not-ended
returns-then-not-ended c =
    let none = no_lines c.loop-rest.rest.now (eqb-true (length c.loop-rest.rest.now) 0 (sym c.loop-rest-test.ensures)) in
    let same = rw none at c.loop-rest.invariant.same in
    inr (sym same ∙ grown_unended c.args.devices.now c.loop-rest.made c.loop-rest.number c.if-not-ended.true)

pub returns : goal.returns
returns c =
    let none = no_lines c.loop-rest.rest.now (eqb-true (length c.loop-rest.rest.now) 0 (sym c.loop-rest-test.ensures)) in
    let same = rw none at c.loop-rest.invariant.same in
    sym same ∙ grown_ended c.args.devices.now c.loop-rest.made c.loop-rest.number c.if-not-ended.false
