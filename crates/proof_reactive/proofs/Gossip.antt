-- A device that hears `noise` makes a difference to the talker.
use Rattle.std.proofs.Common.{◌≡◌, ℕ, zero, suc, ◌<◌, true, List, [], ◌∷◌, ◌++◌, filter, Option, Some, refl, sym, ap, ◌∙◌, arith}
use Rattle.std.specs.Prelude.{codes, ◌==◌, slice_get}
use Rattle.std.specs.List.{cons_option, flat_map, list_any}
use Rattle.std.proofs.lemmas.List.Elements.{All-nil}
use Rattle.guest_isa.specs.GuestIsa.{decode_of, row_of}
use Rattle.machine_layout.specs.PageFields.{number_at, padded}
use Rattle.state_page.specs.StatePage.{page_bytes, registers_in, state_in}
use Rattle.state_page.specs.States.{started}
use Rattle.policy_lawful.specs.Contents.{Held, initial_bytes}
use Rattle.policy_lawful.specs.Events.{irq_of}
use Rattle.policy_lawful.specs.Frames.{frames_of}
use Rattle.policy_lawful.specs.Thing.{device_items, item_of, items_of, placed_items, things_of}
use Rattle.policy_lawful.specs.Windows.{windows_of}
use Rattle.subject_model.specs.Alone.{own_of, solo_turn}
use Rattle.subject_model.specs.Clock.{begins, inputs_at, system}
use Rattle.subject_model.specs.DeviceRecord.{irq_input}
use Rattle.subject_model.specs.Resources.{ports_of}
use Rattle.subject_model.specs.Run.{begun}
use Rattle.subject_model.specs.TurnLine.{TurnLine}
use Rattle.subject_model.specs.System.{inbox_of, line_at, start_of, first_page, system_turn}
use Rattle.subject_model.specs.TurnAction.TheVariants.{Ran, Exit}
use Rattle.view_text.specs.declared.ExitEnd.TheVariants.{Halt}
use Rattle.guest_isa.specs.declared.end.Change.TheVariants.{Set}
use Rattle.subject_model.specs.View.{Seen, ran_through, seen_in, view_of}
use Rattle.proof_isolation.specs.Agree.{WritesTheSame, input_reaches_member}
use Rattle.proof_isolation.specs.Alike.{AreSameViews}
use Rattle.proof_isolation.specs.MemberLines.{is_of}
use Rattle.proof_reactive.specs.Answering.{AgreeButForDevices, heard}
use Rattle.proof_reactive.specs.Echo.{echo, everybody, gossip, gossip_in, halts, members, nothing_comes, one_comes, sets, talker, talker_code}
use Rattle.proof_reactive.proofs.Echo.{echoes_agree, talker_ports}
use Rattle.proof_reactive.proofs.Reacts.{first_line}

-- what pends for the talker after tick 2
none_pends : (f : Held) → list_any (λ m. m == 768) (ports_of (echo talker_code halts) talker) ≡ true → (seen_in (echo talker_code halts) talker (ran_through (echo talker_code halts) f nothing_comes 0 2)).now ≡ []
unfolding start_of first_page things_of items_of placed_items device_items started state_in registers_in number_at page_bytes padded own_of solo_turn inbox_of windows_of frames_of initial_bytes item_of decode_of row_of irq_of
none_pends f granted = rw granted (refl {A = List ℕ} {a = []})

one_pends : (g : Held) → list_any (λ m. m == 768) (ports_of (echo talker_code sets) talker) ≡ true → (seen_in (echo talker_code sets) talker (ran_through (echo talker_code sets) g one_comes 0 2)).now ≡ 40 ∷ []
unfolding start_of first_page things_of items_of placed_items device_items started state_in registers_in number_at page_bytes padded own_of solo_turn inbox_of windows_of frames_of initial_bytes item_of decode_of row_of irq_of
one_pends g granted = rw granted (refl {A = List ℕ} {a = 40 ∷ []})

pub views_differ : (f g : Held) (a b : Seen) → slice_get (view_of (echo talker_code halts) f nothing_comes talker) 2 ≡ Some a → slice_get (view_of (echo talker_code sets) g one_comes talker) 2 ≡ Some b → AreSameViews a b → ⊥
unfolding view_of
views_differ f g a b at at' same =
    let left : seen_in (echo talker_code halts) talker (ran_through (echo talker_code halts) f nothing_comes 0 2) ≡ a = cc (at) in
    let right : seen_in (echo talker_code sets) talker (ran_through (echo talker_code sets) g one_comes 0 2) ≡ b = cc (at') in
    let both : [] ≡ 40 ∷ [] = sym (none_pends f (talker_ports talker_code halts sets)) ∙ ap (λ v. v.now) left ∙ same.now ∙ sym (ap (λ v. v.now) right) ∙ one_pends g (talker_ports talker_code sets halts) in
    absurd (cc (both))

-- the line of `noise` in tick 1
abbrev line_of_noise : List ℕ → Held → Option TurnLine
line_of_noise code f = (system_turn (echo talker_code code) 0 1 (begun (system (echo talker_code code)) 1 [] (system_turn (echo talker_code code) 0 0 (begins (echo talker_code code) 0 (start_of (echo talker_code code) f))).state)).line

abbrev halted : TurnLine
halted = line_at 1 0 (codes "noise") 4194304 (Exit 12 0 0 Halt)

abbrev was_set : TurnLine
was_set = line_at 1 0 (codes "noise") 4194304 (Ran (Set 1 5))

halts_at_once : (f : Held) → list_any (λ m. m == 768) (ports_of (echo talker_code halts) talker) ≡ true → (system_turn (echo talker_code halts) 0 1 (begins (echo talker_code halts) 1 (system_turn (echo talker_code halts) 0 0 (begins (echo talker_code halts) 0 (start_of (echo talker_code halts) f))).state)).line ≡ Some halted
unfolding start_of first_page things_of items_of placed_items device_items started state_in registers_in number_at page_bytes padded own_of solo_turn inbox_of windows_of frames_of initial_bytes item_of decode_of row_of irq_of
halts_at_once f granted = rw granted (refl {A = Option TurnLine} {a = Some halted})

sets_first : (g : Held) → list_any (λ m. m == 768) (ports_of (echo talker_code sets) talker) ≡ true → (system_turn (echo talker_code sets) 0 1 (begins (echo talker_code sets) 1 (system_turn (echo talker_code sets) 0 0 (begins (echo talker_code sets) 0 (start_of (echo talker_code sets) g))).state)).line ≡ Some was_set
unfolding start_of first_page things_of items_of placed_items device_items started state_in registers_in number_at page_bytes padded own_of solo_turn inbox_of windows_of frames_of initial_bytes item_of decode_of row_of irq_of
sets_first g granted = rw granted (refl {A = Option TurnLine} {a = Some was_set})

nothing_said : (f : Held) → list_any (λ m. m == 768) (ports_of (echo talker_code halts) talker) ≡ true → flat_map (gossip_in 2) (filter (is_of everybody) (cons_option (line_of_noise halts f) [])) ≡ []
nothing_said f granted = ap (λ o. flat_map (gossip_in 2) (filter (is_of everybody) (cons_option o []))) (halts_at_once f granted)

something_said : (g : Held) → list_any (λ m. m == 768) (ports_of (echo talker_code sets) talker) ≡ true → flat_map (gossip_in 2) (filter (is_of everybody) (cons_option (line_of_noise sets g) [])) ≡ irq_input (codes "line") (codes "rx") ∷ []
something_said g granted = ap (λ o. flat_map (gossip_in 2) (filter (is_of everybody) (cons_option o []))) (sets_first g granted)

one_kept : filter (input_reaches_member (echo talker_code sets) (echo talker_code halts) members) (inputs_at one_comes 2) ≡ irq_input (codes "line") (codes "rx") ∷ []
unfolding irq_of
one_kept = refl

-- what comes is what the device answers to everybody
pub halting : (f : Held) → list_any (λ m. m == 768) (ports_of (echo talker_code halts) talker) ≡ true → (tick : ℕ) → tick < 3 → filter (input_reaches_member (echo talker_code halts) (echo talker_code sets) members) (inputs_at nothing_comes tick) ≡ gossip (heard (echo talker_code halts) everybody f nothing_comes tick) tick
halting f granted zero low = refl
halting f granted (suc zero) low = sym (ap (λ o. flat_map (gossip_in 1) (filter (is_of everybody) (cons_option o []))) (first_line halts f granted))
halting f granted (suc (suc zero)) low =
    sym (ap (λ o. flat_map (gossip_in 2) (filter (is_of everybody) (cons_option o [] ++ cons_option (line_of_noise halts f) []))) (first_line halts f granted) ∙ nothing_said f granted)
halting f granted (suc (suc (suc n))) low = absurd (omega (arith, low))

pub setting : (g : Held) → list_any (λ m. m == 768) (ports_of (echo talker_code sets) talker) ≡ true → (tick : ℕ) → tick < 3 → filter (input_reaches_member (echo talker_code sets) (echo talker_code halts) members) (inputs_at one_comes tick) ≡ gossip (heard (echo talker_code sets) everybody g one_comes tick) tick
setting g granted zero low = refl
setting g granted (suc zero) low = sym (ap (λ o. flat_map (gossip_in 1) (filter (is_of everybody) (cons_option o []))) (first_line sets g granted))
setting g granted (suc (suc zero)) low =
    one_kept
    ∙ sym (ap (λ o. flat_map (gossip_in 2) (filter (is_of everybody) (cons_option o [] ++ cons_option (line_of_noise sets g) []))) (first_line sets g granted) ∙ something_said g granted)
setting g granted (suc (suc (suc n))) low = absurd (omega (arith, low))

-- all else agrees
pub all_else : (f g : Held) → AgreeButForDevices members (echo talker_code halts) (echo talker_code sets) f g nothing_comes 3
all_else f g = echoes_agree talker_code halts sets f g nothing_comes 3 (λ tick low. All-nil (WritesTheSame members (echo talker_code halts) (echo talker_code sets)))
