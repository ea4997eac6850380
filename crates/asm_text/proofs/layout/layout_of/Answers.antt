use Rattle.std.proofs.Common.{◌∙◌, length, sym, arith}
use Rattle.std.proofs.lemmas.Bool.{eqb-true}
use Rattle.text_words.specs.Parts.{lines_of}
use Rattle.text_words.proofs.Cuts.{no_lines}
use Rattle.asm_text.specs.Placing.{layout_standing_of}
use Rattle.asm_text.proofs.LayoutLaws.{line_read, no_more_lines, refused_here}
use Rattle.asm_text.proofs.layout.layout_of.Goals as goal

pub returns-in-Err : goal.returns-in-Err
returns-in-Err c =
    let same = rw c.first_line.ensures.lines at c.loop-rest.invariant.same in
    refused_here c.loop-rest.lines (layout_standing_of c.loop-rest.standing) c.loop-rest.number c.first_line.result.0.now (lines_of c.first_line.result.1.now) c.in-Err.fault _ _ c.in-Err.ensures same

pub loop-rest-preserved : goal.loop-rest-preserved
loop-rest-preserved c =
    let same = rw c.first_line.ensures.lines at c.loop-rest.invariant.same in
    record {
      same = rw c.in_ok-push-in-Ok.ensures.ok (
          sym (line_read c.loop-rest.lines (layout_standing_of c.loop-rest.standing) (layout_standing_of c.place_line.new.standing) c.loop-rest.number c.first_line.result.0.now (lines_of c.first_line.result.1.now) c.in-Ok.line c.in-Ok.ensures)
          ∙ same
          );
      count = omega (arith, c.first_line.ensures.shorter, c.loop-rest.invariant.count);
    }

pub returns : goal.returns
returns c =
    let none = no_lines c.loop-rest.rest.now (eqb-true (length c.loop-rest.rest.now) 0 (sym c.loop-rest-test.ensures)) in
    let same = rw none at c.loop-rest.invariant.same in
    sym same ∙ no_more_lines c.loop-rest.lines (layout_standing_of c.loop-rest.standing) c.loop-rest.number
