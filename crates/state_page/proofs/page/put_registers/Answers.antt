use Rattle.std.proofs.Common.{arith, length, refl, ◌<◌, ◌*◌}
use Rattle.state_page.proofs.PageLaws.{words_more}
use Rattle.state_page.proofs.page.put_registers.Goals as goal

pub loop-i-preserved : goal.loop-i-preserved
loop-i-preserved c =
    let within : c.loop-i.i < length c.args.registers.now = omega arith in
    words_more (length c.args.page.now) 8 c.args.registers.now c.loop-i.i 0 (8 * c.loop-i.i) c.loop-i.page c.put_word.new.page within refl (omega arith) c.loop-i.invariant c.put_word.ensures
