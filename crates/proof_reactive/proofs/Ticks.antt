-- A group has in each cycle of major frames the ticks that the plan gives it.
use Rattle.std.proofs.Common.{◌≡◌, ℕ, ◌+◌, ◌≤◌, false, List, [], ◌∷◌, length, None, refl, sym, ap, subst, ◌∙◌, inl, inr, arith}
use Rattle.std.specs.Prelude.{◌==◌}
use Rattle.std.specs.List.{count_by, sum_by}
use Rattle.std.specs.Option.{option_map_or}
use Rattle.std.proofs.lemmas.Bool.{cases_lt}
use Rattle.std.proofs.lemmas.List.Sums.{sum-map}
use Rattle.muen_num.specs.Frame.{Frame}
use Rattle.muen_num.specs.Range.{numbers_below}
use Rattle.policy_lawful.specs.Contents.{Held}
use Rattle.policy_lawful.specs.Frames.{frames_of}
use Rattle.policy_lawful.specs.Lawful.{IsLawful}
use Rattle.policy_lawful.specs.source.Source.{Source}
use Rattle.subject_model.proofs.SlotLaws.{ticks_of}
use Rattle.subject_model.specs.Clock.{inputs_at, order_at, system, ticks_of_majors}
use Rattle.subject_model.specs.DeviceRecord.{DeviceRecord}
use Rattle.subject_model.specs.Frames.{slot_in}
use Rattle.subject_model.specs.Laws.{AreFrames, frame_after}
use Rattle.subject_model.specs.Run.{begun, run_to}
use Rattle.subject_model.specs.Slot.{slot_at}
use Rattle.subject_model.specs.System.{start_of}
use Rattle.proof_views.specs.AloneRun.{before}
use Rattle.proof_isolation.proofs.TwoSystems.{turns_frame}
use Rattle.proof_reactive.specs.Acting.{HasItsTicks, cycle, is_given, ticks_given, ticks_had}
use Rattle.proof_reactive.proofs.PlanTicks.{are_frames, same_majors}
use Rattle.proof_reactive.proofs.RunFrames.{begun_frame}
use Rattle.proof_reactive.proofs.Windows.{given_in, in_cycle}

no_elements : {X : Type 0} (xs : List X) → length xs ≤ 0 → xs ≡ []
no_elements [] l = refl
no_elements (x ∷ xs) l = absurd (omega (arith, l))

module _ (cyclic : (frames : List (List Frame)) (ticks : List ℕ) (tick : ℕ) → AreFrames frames ticks → slot_in frames (frame_after ticks tick) tick ≡ slot_at frames tick) where
  pub has_its_ticks : (p : Source) (files : Held) (r : DeviceRecord) → IsLawful p → p.scheduling.tau0 ≡ None → HasItsTicks p files r
  has_its_ticks p files r lawful free cpu group from low =
      elim (cases_lt 0 (length (ticks_of_majors p))) as (λ _. ticks_had p files r cpu group from (cycle p) ≡ ticks_given p cpu group) [
        | inl some ↦
            let frames = frames_of p cpu in
            let are = are_frames p lawful cpu low some in
            let its : (tick : ℕ) → is_given p files r cpu group tick ≡ option_map_or (λ slot. slot.group == group) (slot_at frames tick) false = λ tick.
            let y = begun (system p) tick (inputs_at r tick) (run_to (system p) (inputs_at r) (order_at p r) tick (start_of p files)).state in
            ap (λ at. option_map_or (λ slot. slot.group == group) (slot_in frames at tick) false) (turns_frame p tick (before cpu (order_at p r tick)) y ∙ begun_frame p free files (inputs_at r) (order_at p r) tick)
            ∙ ap (λ o. option_map_or (λ slot. slot.group == group) o false) (cyclic frames (ticks_of_majors p) tick are) in
            let many : cycle p ≡ sum_by ticks_of frames = ap (sum_by (λ n. n)) are.sums ∙ sum-map ticks_of frames in
            ap (ticks_had p files r cpu group from) many
            ∙ (λ i. count_by (λ k. its (from + k) i) (numbers_below (sum_by ticks_of frames)))
            ∙ in_cycle group frames from
        | inr none ↦
            let empty = no_elements (ticks_of_majors p) none in
            let empty_too = no_elements (frames_of p cpu) (subst (λ n. n ≤ 0) (same_majors p cpu) none) in
            ap (λ ts. ticks_had p files r cpu group from (sum_by (λ n. n) ts)) empty
            ∙ sym (ap (sum_by (sum_by (given_in group))) empty_too)
      ]
