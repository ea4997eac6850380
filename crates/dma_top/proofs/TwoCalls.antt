-- What the first of two calls has found for the second.
use Rattle.std.proofs.Common.{◌≡◌, ◌∙◌, refl, sym, ap, subst, ℕ, List, Option, Some, None, Ok}
use Rattle.dma_check.specs.Verdict.{verdict}
use Rattle.dma_tables.proofs.ConditionsHold.{conditions_kept}
use Rattle.dma_tables.proofs.FileLaws.{file_laws}
use Rattle.dma_tables.specs.DmaFile.{dma_file}
use Rattle.dma_tables.specs.declared.file.DmaFile.{DmaFile}
use Rattle.image_pack.proofs.Theorem.{back}
use Rattle.image_pack.specs.Faults.{unpacked}
use Rattle.muen_outside.specs.States.{SinkState}
use Rattle.muen_outside.specs.Store.{Store, whole}
use Rattle.muen_top.proofs.TwoCalls.{one_fitting}
use Rattle.muen_top.specs.Commands.{command_of as muen_command_of, run}
use Rattle.muen_top.specs.Headline.{HoldsFitting, HoldsRecord, RunOfSoundPrintsHeld}
use Rattle.muen_top.specs.Systems.{RunsSubjectsAloneHeld, by_run}
use Rattle.muen_top.specs.Tables.{HoldsTables}
use Rattle.muen_top.specs.TwoCalls.{PrintsSubjectsAlone}
use Rattle.muen_top.specs.declared.status.Status.{Status as MuenStatus}
use Rattle.policy_lawful.specs.source.Source.{Source}
use Rattle.proof_dma.proofs.Faultless.{faultless_fit}
use Rattle.proof_runs.specs.Fit.{Fit}
use Rattle.record_text.specs.DeviceRecord.{DeviceRecord}
use Rattle.dma_top.specs.Accepting.{HoldsFit}

module _ (m : Store) (image policy tables : List ℕ) (h : HoldsFit m image policy tables) (t : DmaFile) (there : HoldsTables m tables t) where
  -- the tables are those that were judged
  same_tables : h.t ≡ t
  same_tables =
      let read : whole h.bytes ≡ whole there.bytes = sym h.read ∙ there.read in
      let bytes : h.bytes ≡ there.bytes = cc (read) in
      let both : Ok h.t ≡ Ok t = sym h.are ∙ (ap (unpacked dma_file) (bytes ∙ there.file.bytes_are) ∙ back dma_file file_laws t there.file.tables) in
      cc (both)

  they_fit : Fit h.p h.sound.parts (Some t)
  they_fit = faultless_fit h.p h.sound.parts t h.lawful (conditions_kept t there.file.tables) (subst (λ x. verdict h.p h.sound.parts x ≡ None) same_tables h.fit)

  pub prints_alone : (inputs : List ℕ) (p : Source) (r : DeviceRecord) (words : List (List ℕ)) (held : Option Store) (out out' : SinkState) (status : MuenStatus) → held ≡ Some m
      → muen_command_of words ≡ Some (run image inputs (Some tables)) → HoldsFitting m policy p → HoldsRecord m inputs p r → RunOfSoundPrintsHeld words held out out' status
      → RunsSubjectsAloneHeld words held → PrintsSubjectsAlone p m r out out' status
  prints_alone inputs p r words held out out' status is asked holds says prints alone =
      let same : h.p ≡ p = one_fitting m policy h.p p h.fits holds in
      let record_there : HoldsRecord m inputs h.p r = subst (λ q. HoldsRecord m inputs q r) (sym same) says in
      subst (λ q. PrintsSubjectsAlone q m r out out' status) same
      (prints m image inputs (Some tables) (Some t) h.p m r is asked h.sound (t, there, refl) they_fit record_there, alone m h.p m r is (by_run image inputs (Some tables) asked h.sound record_there))
