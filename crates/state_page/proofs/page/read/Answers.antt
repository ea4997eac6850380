use Rattle.state_page.specs.StatePage.{state_in}
use Rattle.state_page.proofs.page.read.Goals as goal

pub returns : goal.returns
unfolding state_in
returns c i = record {
  regs = c.registers.ensures i;
  pc = c.word_at.ensures i;
  epc = c.word_at-2.ensures i;
  vbase = c.word_at-3.ensures i;
  interrupts = c.has.ensures i;
  halted = c.has-2.ensures i;
  stopped = c.has-3.ensures i;
  exited = c.has-4.ensures i;
}
