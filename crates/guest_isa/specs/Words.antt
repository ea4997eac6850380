-- Numbers that fit a byte and a word, and states whose registers do.
use Rattle.std.specs.Prelude.{◌≡◌, ℕ, ◌^◌, ◌<◌, length}
use Rattle.std.specs.List.{All}
use Rattle.state_page.specs.declared.state.SubjectState.{SubjectState}

abbrev pub IsByte : ℕ → Type 0
IsByte b = b < 256

abbrev pub IsWord : ℕ → Type 0
IsWord v = v < 2 ^ 64

pub record FitsState (s : SubjectState) : Type 0 where
  pub many : length s.regs ≡ 16
  pub regs : All IsWord s.regs
  pub pc : IsWord s.pc
  pub epc : IsWord s.epc
  pub vbase : IsWord s.vbase
