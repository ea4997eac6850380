use Rattle.std.proofs.Common.{◌≡◌, length, take}
use Rattle.state_page.specs.StatePage.{registers_in}
use Rattle.state_page.proofs.page.registers.Given as goal

-- the registers so far
abbrev pub invariant-loop-i : goal.invariant-loop-i
invariant-loop-i l = record {
  long : length l.register-items ≡ 16;
  front : take l.i l.register-items ≡ registers_in l.i l.page;
}
