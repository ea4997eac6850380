-- The lines that a run prints (this project's own).
use Rattle.std.specs.Prelude.{ℕ, ◌+◌, ◌-◌, ◌*◌, ◌==◌, Bool, true, false, List, [], ◌∷◌, ◌++◌, slice_index, codes, decimal, if◌then◌else◌}
use Rattle.std.specs.List.{flat_map}
use Rattle.guest_isa.specs.declared.end.Change.{Change}
use Rattle.guest_isa.specs.declared.end.Change.TheVariants.{Plain, Set, Stored, Out, WroteMsr}
use Rattle.hex.specs.Hex.{encode_lower}
use Rattle.muen_num.specs.Fixed.{hex4, hex8, hex16}
use Rattle.muen_num.specs.AccessSize.{bytes_of}
use Rattle.muen_num.specs.Tag.{tag_text}
use Rattle.muen_num.specs.declared.tag.Tag.{Tag}
use Rattle.guest_isa.specs.state.SubjectState.{SubjectState}
use Rattle.view_text.specs.declared.TurnLine.{TurnLine}
use Rattle.view_text.specs.declared.TurnAction.{TurnAction}
use Rattle.view_text.specs.declared.TurnAction.TheVariants.{Ran, Inject, Exit}
use Rattle.view_text.specs.declared.ExitEnd.{ExitEnd}
use Rattle.view_text.specs.declared.ExitEnd.TheVariants.{On, Halt, Trap, Stop}

abbrev pub exit_end_text : ExitEnd → List ℕ
exit_end_text On = codes "on"
exit_end_text Halt = codes "halt"
exit_end_text Trap = codes "trap"
exit_end_text Stop = codes "stop"

abbrev pub change_text : Change → List ℕ
change_text Plain = codes "-"
change_text (Set reg value) = codes "r" ++ decimal reg ++ codes "=" ++ hex16 value
change_text (Stored size addr value) = codes "store " ++ decimal (bytes_of size) ++ codes " " ++ hex16 addr ++ codes " " ++ hex16 value
change_text (Out size port value) = codes "out " ++ decimal (bytes_of size) ++ codes " " ++ hex4 port ++ codes " " ++ hex8 value
change_text (WroteMsr index value) = codes "wrmsr " ++ hex8 index ++ codes " " ++ hex16 value

abbrev pub what_text : TurnAction → List ℕ
what_text (Ran change) = change_text change
what_text (Inject vector) = codes "inject " ++ decimal vector
what_text (Exit reason qualification addr end) =
    codes "exit " ++ decimal reason ++ codes " " ++ hex16 qualification ++ codes " " ++ hex16 addr ++ codes " " ++ exit_end_text end

-- the line of a turn
unfoldable pub turn_text : TurnLine → List ℕ
turn_text l =
    decimal l.tick ++ codes " " ++ decimal l.cpu ++ codes " " ++ l.subject ++ codes " " ++ hex16 l.pc ++ codes " " ++ what_text l.what ++ codes "\n"

abbrev pub printed_flag : Bool → ℕ → ℕ
printed_flag false n = 0
printed_flag true n = n

-- interrupts 1, halted 2, stopped 4, exited 8
abbrev pub printed_flags_of : SubjectState → ℕ
printed_flags_of s = printed_flag s.interrupts 1 + printed_flag s.halted 2 + printed_flag s.stopped 4 + printed_flag s.exited 8

unfoldable pub end_line_text : List ℕ → SubjectState → List ℕ
end_line_text subject s =
    codes "end " ++ subject ++ codes " " ++ hex16 s.pc ++ codes " " ++ hex16 s.epc ++ codes " " ++ hex16 s.vbase ++ codes " " ++ decimal (printed_flags_of s) ++ codes "\n"

unfoldable pub registers_text : List ℕ → List ℕ → ℕ → List ℕ
registers_text subject regs first =
    codes "regs " ++ subject ++ codes " " ++ decimal first
    ++ codes " " ++ hex16 (slice_index regs first) ++ codes " " ++ hex16 (slice_index regs (first + 1))
    ++ codes " " ++ hex16 (slice_index regs (first + 2)) ++ codes " " ++ hex16 (slice_index regs (first + 3)) ++ codes "\n"

-- a row of a subject's final state: row 0, or the four registers from 4 * (row - 1)
abbrev pub state_row_text : List ℕ → SubjectState → ℕ → List ℕ
state_row_text subject s row =
    if row == 0 then end_line_text subject s else registers_text subject s.regs (4 * (row - 1))

-- the five lines of a subject's final state
abbrev pub rows_text : List ℕ → SubjectState → List ℕ
rows_text subject s = flat_map (state_row_text subject s) (0 ∷ 1 ∷ 2 ∷ 3 ∷ 4 ∷ [])

abbrev pub kind_word : Bool → List ℕ
kind_word true = codes "device"
kind_word false = codes "region"

-- the final line of a region of memory, or of a device's window
unfoldable pub region_text : Tag → Bool → List ℕ → List ℕ
region_text tag device digest =
    kind_word device ++ codes " " ++ tag_text tag ++ codes " " ++ encode_lower digest ++ codes "\n"
