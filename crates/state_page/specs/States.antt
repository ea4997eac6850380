-- The state of a subject (this project's own machine).
use Rattle.std.specs.Prelude.{ℕ, true, false, replicate}
use Rattle.state_page.specs.declared.state.SubjectState.{SubjectState}

-- the state in which a subject with this entry begins: all zero, and exited
unfoldable pub started : ℕ → SubjectState
started entry = record {
  regs = replicate 16 0;
  pc = entry;
  epc = 0;
  vbase = 0;
  interrupts = false;
  halted = false;
  stopped = false;
  exited = true;
}
