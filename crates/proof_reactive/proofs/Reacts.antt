-- The device really answers in the run.
use Rattle.std.proofs.Common.{◌≡◌, ℕ, true, List, [], ◌++◌, filter, Some, refl, ap, ◌∙◌, arith}
use Rattle.std.specs.Prelude.{codes, ◌==◌}
use Rattle.std.specs.List.{cons_option, flat_map, list_any}
use Rattle.guest_isa.specs.GuestIsa.{decode_of, row_of}
use Rattle.guest_isa.specs.declared.end.Change.TheVariants.{Out}
use Rattle.machine_layout.specs.PageFields.{number_at, padded}
use Rattle.muen_num.specs.declared.access.AccessSize.TheVariants.{One}
use Rattle.state_page.specs.StatePage.{page_bytes, registers_in, state_in}
use Rattle.state_page.specs.States.{started}
use Rattle.subject_model.specs.TurnAction.TheVariants.{Ran}
use Rattle.policy_lawful.specs.Contents.{Held, initial_bytes}
use Rattle.policy_lawful.specs.Frames.{frames_of}
use Rattle.policy_lawful.specs.Thing.{device_items, item_of, items_of, placed_items, things_of}
use Rattle.policy_lawful.specs.Windows.{windows_of}
use Rattle.subject_model.specs.Alone.{own_of, solo_turn}
use Rattle.subject_model.specs.Clock.{begins, inputs_at}
use Rattle.subject_model.specs.Resources.{ports_of}
use Rattle.subject_model.specs.System.{inbox_of, line_at, start_of, first_page, system_turn}
use Rattle.proof_isolation.specs.MemberLines.{is_of}
use Rattle.proof_reactive.specs.Echo.{answer, answer_in, echo, echoes, members, silent, talker, talker_code}
use Rattle.proof_reactive.specs.Playing.{played}
use Rattle.proof_reactive.proofs.Echo.{talker_ports}
use Rattle.proof_reactive.proofs.Playing.{comes_in}

pub first_line : (code : List ℕ) (f : Held) → list_any (λ m. m == 768) (ports_of (echo talker_code code) talker) ≡ true
    → (system_turn (echo talker_code code) 0 0 (begins (echo talker_code code) 0 (start_of (echo talker_code code) f))).line ≡ Some (line_at 0 0 (codes "talker") 4194304 (Ran (Out One 768 0)))
unfolding start_of first_page things_of items_of placed_items device_items started state_in registers_in number_at page_bytes padded own_of solo_turn inbox_of windows_of frames_of initial_bytes item_of decode_of row_of
first_line code f granted = rw granted refl

-- so the device answers in the next tick of the run
pub reacts : (code : List ℕ) (f : Held) → inputs_at (played echoes silent members (echo talker_code code) f 2) 1 ≡ answer 0
reacts code f =
    comes_in echoes silent members (echo talker_code code) f 2 1 (omega arith)
    ∙ ap (λ o. flat_map (answer_in 1) (filter (is_of members) (cons_option o [])) ++ []) (first_line code f (talker_ports talker_code code code))
