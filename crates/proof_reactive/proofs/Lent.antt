-- The card really answers in the run.
use Rattle.std.proofs.Common.{◌≡◌, ℕ, List, [], ◌∷◌, ◌++◌, Option, Some, refl, ap, ◌∙◌, arith}
use Rattle.std.specs.Prelude.{codes}
use Rattle.guest_isa.specs.GuestIsa.{decode_of, row_of}
use Rattle.machine_layout.specs.PageFields.{number_at, padded}
use Rattle.state_page.specs.StatePage.{page_bytes, registers_in, state_in}
use Rattle.state_page.specs.States.{started}
use Rattle.policy_lawful.specs.Contents.{Held, initial_bytes}
use Rattle.policy_lawful.specs.Frames.{frames_of}
use Rattle.policy_lawful.specs.Thing.{device_items, item_of, items_of, placed_items, things_of}
use Rattle.policy_lawful.specs.Windows.{windows_of}
use Rattle.subject_model.specs.Alone.{own_of, solo_turn}
use Rattle.subject_model.specs.Clock.{begins, inputs_at, system}
use Rattle.subject_model.specs.DeviceRecord.{irq_input}
use Rattle.subject_model.specs.Run.{tick_ran}
use Rattle.subject_model.specs.System.{inbox_of, first_page, start_of, system_turn}
use Rattle.proof_reactive.specs.Answering.{shown_by}
use Rattle.proof_reactive.specs.Echo.{answer_to_ring, echo, given_back, lends, members, ring_in, serves, silent}
use Rattle.proof_reactive.specs.Playing.{played}
use Rattle.proof_reactive.proofs.Playing.{comes_in}

-- at the start the ring is the talker's
ring_at_start : (code : List ℕ) (f : Held) → ring_in (shown_by (echo lends code) members (start_of (echo lends code) f)) ≡ Some (1, 0)
unfolding start_of first_page things_of items_of placed_items device_items started state_in registers_in number_at page_bytes padded own_of solo_turn inbox_of windows_of frames_of initial_bytes item_of decode_of row_of
ring_at_start code f = refl {A = Option (ℕ × ℕ)} {a = Some (1, 0)}

nothing_first : (code : List ℕ) (f : Held) → inputs_at (played serves silent members (echo lends code) f 1) 0 ≡ []
nothing_first code f = comes_in serves silent members (echo lends code) f 1 0 (omega arith) ∙ ap (λ o. answer_to_ring o ++ []) (ring_at_start code f)

-- what the talker leaves in it in tick 0
ring_lent : (code : List ℕ) (f : Held) → ring_in (shown_by (echo lends code) members (system_turn (echo lends code) 0 0 (begins (echo lends code) 0 (start_of (echo lends code) f))).state) ≡ Some (0, 0)
unfolding start_of first_page things_of items_of placed_items device_items started state_in registers_in number_at page_bytes padded own_of solo_turn inbox_of windows_of frames_of initial_bytes item_of decode_of row_of
ring_lent code f = refl {A = Option (ℕ × ℕ)} {a = Some (0, 0)}

-- so the card answers in the next tick of the run
pub gives_back : (code : List ℕ) (f : Held) → inputs_at (played serves silent members (echo lends code) f 2) 1 ≡ given_back 0 ∷ irq_input (codes "line") (codes "rx") ∷ []
gives_back code f =
    comes_in serves silent members (echo lends code) f 2 1 (omega arith)
    ∙ ap (λ is. answer_to_ring (ring_in (shown_by (echo lends code) members (tick_ran (system (echo lends code)) 0 is (0 ∷ []) (start_of (echo lends code) f)).state)) ++ []) (nothing_first code f)
    ∙ ap (λ o. answer_to_ring o ++ []) (ring_lent code f)
