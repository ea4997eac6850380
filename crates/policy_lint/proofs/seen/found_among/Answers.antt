use Rattle.std.proofs.Common.{Some, ap, option_map, sym, ◌∙◌}
use Rattle.muen_outside.specs.Found.{seen}
use Rattle.muen_outside.specs.declared.files.Found.{Found}
use Rattle.policy_lint.specs.Seen.{length_read}
use Rattle.policy_lint.proofs.FilesLooked.{found_here, found_later}
use Rattle.policy_lint.proofs.seen.found_among.Goals as goal

pub returns-then-eq : goal.returns-then-eq
returns-then-eq c =
    let here = found_here c.args.file c.args.others.now c.loop-other.other-index c.other-item.result c.loop-other-test.true c.other-item.is (sym c.eq.ensures ∙ c.if-eq.true) in
    ap Some c.of_found.ensures ∙ ap (option_map (λ (found : Found). length_read (seen found))) (sym here ∙ c.loop-other.invariant)

pub loop-other-preserved : goal.loop-other-preserved
loop-other-preserved c =
    found_later c.args.file c.args.others.now c.loop-other.other-index c.other-item.result c.loop-other-test.true c.other-item.is (sym c.eq.ensures ∙ c.if-eq.false) ∙ c.loop-other.invariant
