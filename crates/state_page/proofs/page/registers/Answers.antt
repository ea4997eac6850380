use Rattle.std.proofs.Common.{◌∙◌, ◌<◌, length, arith, refl, length-set}
use Rattle.state_page.proofs.PageLaws.{registers_none, registers_more}
use Rattle.state_page.proofs.page.registers.Goals as goal

pub loop-i-init : goal.loop-i-init
loop-i-init c = record { long = refl; front = registers_none c.args.page.now }

pub loop-i-preserved : goal.loop-i-preserved
loop-i-preserved c =
    let long = c.loop-i.invariant.long in
    let within : c.loop-i.i < length c.loop-i.register-items = omega arith in
    record {
      long = length-set c.loop-i.register-items c.loop-i.i _ ∙ long;
      front = registers_more c.args.page.now c.loop-i.register-items c.loop-i.i c.word_at.result within c.loop-i.invariant.front c.word_at.ensures;
    }
