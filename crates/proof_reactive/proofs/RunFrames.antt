-- Where nobody chooses frames, the major frame of each tick of a run is that of the plan.
use Rattle.std.proofs.Common.{◌≡◌, ℕ, zero, suc, List, None, ap, ◌∙◌}
use Rattle.policy_lawful.specs.Contents.{Held}
use Rattle.policy_lawful.specs.source.Source.{Source}
use Rattle.subject_model.specs.Clock.{begins, pick_in, system, ticks_of_majors}
use Rattle.subject_model.specs.DeviceRecord.{NamedInput}
use Rattle.subject_model.specs.Frames.{frame_at_tick}
use Rattle.subject_model.specs.Laws.{frame_after}
use Rattle.subject_model.specs.Run.{begun, run_to}
use Rattle.subject_model.specs.System.{start_of}
use Rattle.proof_isolation.proofs.TwoSystems.{inputs_frame, turns_frame}

module _ (p : Source) (free : p.scheduling.tau0 ≡ None) (files : Held) (inputs : ℕ → List NamedInput) (order : ℕ → List ℕ) where
  -- before the turns of a tick
  pub begun_frame : (n : ℕ) → (begun (system p) n (inputs n) (run_to (system p) inputs order n (start_of p files)).state).frame ≡ frame_after (ticks_of_majors p) n
  unfolding start_of
  begun_frame zero =
      let y = start_of p files in
      inputs_frame p (inputs 0) (begins p 0 y) ∙ ap (λ o. frame_at_tick (ticks_of_majors p) y.frame (pick_in y o) 0) free
  begun_frame (suc n) =
      let before = run_to (system p) inputs order n (start_of p files) in
      let y = (run_to (system p) inputs order (suc n) (start_of p files)).state in
      inputs_frame p (inputs (suc n)) (begins p (suc n) y)
      ∙ ap (λ o. frame_at_tick (ticks_of_majors p) y.frame (pick_in y o) (suc n)) free
      ∙ ap (λ at. frame_at_tick (ticks_of_majors p) at None (suc n)) (turns_frame p n (order n) (begun (system p) n (inputs n) before.state) ∙ begun_frame n)
