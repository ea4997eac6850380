-- The state page of a subject (this project's own machine): words have 8 bytes, the lowest first.
use Rattle.std.specs.Prelude.{ℕ, ◌+◌, ◌*◌, ◌^◌, ◌==◌, Bool, List, [], ◌∷◌, ◌++◌, map, slice_index, if◌then◌else◌, flat_map}
use Rattle.std.specs.Int.{bit_at}
use Rattle.muen_num.specs.Range.{numbers_below}
use Rattle.muen_num.specs.declared.limits.TheConstants.{PAGE}
use Rattle.machine_layout.specs.Memory.{le_bytes}
use Rattle.machine_layout.specs.PageFields.{number_at, padded}
use Rattle.state_page.specs.declared.state.SubjectState.{SubjectState}

-- ---- the bits of the flags byte

abbrev pub interrupts_bit : ℕ
interrupts_bit = 0

abbrev pub halted_bit : ℕ
halted_bit = 1

abbrev pub stopped_bit : ℕ
stopped_bit = 2

abbrev pub exited_bit : ℕ
exited_bit = 3

-- ---- the page of a state

abbrev pub flag : Bool → ℕ → ℕ
flag is_set bit = if is_set then 2 ^ bit else 0

-- the flags byte: interrupts 1, halted 2, stopped 4, exited 8
abbrev pub flags_of : SubjectState → ℕ
flags_of s =
    flag s.interrupts interrupts_bit + flag s.halted halted_bit + flag s.stopped stopped_bit + flag s.exited exited_bit

-- registers 0 to 15 from byte 0 on, `pc` at byte 128, `epc` at 136, `vbase` at 144, the flags at 152, and zeros behind them
unfoldable pub page_bytes : SubjectState → List ℕ
page_bytes s =
    padded PAGE (flat_map (le_bytes 8) s.regs ++ (le_bytes 8 s.pc ++ (le_bytes 8 s.epc ++ (le_bytes 8 s.vbase ++ (flags_of s ∷ [])))))

-- ---- the state on a page

-- the first n registers
unfoldable pub registers_in : ℕ → List ℕ → List ℕ
registers_in n page = map (λ i. number_at page (8 * i) 8) (numbers_below n)

abbrev pub has_flag : List ℕ → ℕ → Bool
has_flag page bit = bit_at (slice_index page 152) bit == 1

-- bits and bytes elsewhere don't matter
unfoldable pub state_in : List ℕ → SubjectState
state_in page = record {
  regs = registers_in 16 page;
  pc = number_at page 128 8;
  epc = number_at page 136 8;
  vbase = number_at page 144 8;
  interrupts = has_flag page interrupts_bit;
  halted = has_flag page halted_bit;
  stopped = has_flag page stopped_bit;
  exited = has_flag page exited_bit;
}
