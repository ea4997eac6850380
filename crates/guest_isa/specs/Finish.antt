-- What the kernel makes of a subject's state (this project's own machine): it delivers an event, and it lets the subject go on
-- after an exit, or not.
use Rattle.std.specs.Prelude.{ℕ, ◌+◌, ◌*◌, ◌%◌, ◌^◌, ◌==◌, Bool, true, false, if◌then◌else◌}
use Rattle.muen_num.specs.declared.limits.TheConstants.{EXIT_HLT, EXIT_VMCALL}
use Rattle.state_page.specs.declared.state.SubjectState.{SubjectState}
use Rattle.guest_isa.specs.GuestIsa.{advanced}
use Rattle.guest_isa.specs.declared.finish.Finish.{Finish}
use Rattle.guest_isa.specs.declared.finish.Finish.TheVariants.{On, Halt, Stop}

-- an event of this vector is delivered: its handler has 8 bytes from `vbase` on for each vector
abbrev pub injected : ℕ → SubjectState → SubjectState
injected vector s =
    record s { pc = (s.vbase + 8 * vector) % 2 ^ 64; epc = s.pc; interrupts = false; halted = false; exited = false }

-- after an exit
abbrev pub finished : Finish → SubjectState → SubjectState
finished On s = advanced s
finished Halt s = record (advanced s) { halted = true }
finished Stop s = record s { stopped = true }

-- how the subject goes on after an exit of this reason, by whether it has a trap entry for it
abbrev pub finish_of : ℕ → Bool → Finish
finish_of reason has_trap =
    if reason == EXIT_HLT then Halt
    else (if reason == EXIT_VMCALL then On
    else (if has_trap then On else Stop))
