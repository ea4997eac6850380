-- What comes of tables that were read, by their verdict.
use Rattle.std.proofs.Common.{◌≡◌, List, ℕ, Option, Some, None, refl, sym, subst}
use Rattle.command_shell.specs.Answers.{Plan, answers}
use Rattle.command_shell.proofs.Ending.{refused as refused_at, without_memory}
use Rattle.command_shell.specs.Outcomes.{Reaches}
use Rattle.command_shell.specs.declared.error.CommandError.TheVariants.{NoMemory, Own}
use Rattle.dma_check.specs.Verdict.{verdict}
use Rattle.dma_check.specs.declared.fault.DmaFault.{DmaFault}
use Rattle.dma_tables.specs.declared.file.DmaFile.{DmaFile}
use Rattle.image_pack.specs.declared.parts.Image.{Image}
use Rattle.muen_outside.specs.States.{History}
use Rattle.muen_outside.specs.Store.{Store}
use Rattle.muen_top.specs.Reports.{sound_text}
use Rattle.policy_lawful.specs.source.Source.{Source}
use Rattle.dma_top.specs.Answers.{tables_plan, verdict_answer, verdict_plan}
use Rattle.dma_top.specs.Reads.{EndsFor, Finds, IsToPrint}
use Rattle.dma_top.specs.Refusals.{devices, refusal_status, refusal_text}
use Rattle.dma_top.specs.declared.refusal.Refusal.TheVariants.{Unfit}
use Rattle.dma_top.specs.declared.status.DmaStatus.{DmaStatus}

module _ (tables : List ℕ) (held : Option Store) (old new : History) (t : DmaFile) (found : Finds (tables_plan tables) held old new t) (p : Source) (i : Image) where
  abbrev judge : DmaFile → Plan DmaStatus
  judge t = answers (verdict_answer (verdict p i t))

  so : (o : Option DmaFault) → o ≡ verdict p i t → Reaches devices.name (verdict_plan p i tables) (answers (verdict_answer o)) held old new
  so o is = subst (λ v. Reaches devices.name (verdict_plan p i tables) (answers (verdict_answer v)) held old new) (sym is) (found judge)

  -- they have no fault
  pub have_none : None ≡ verdict p i t → IsToPrint (verdict_plan p i tables) sound_text held old new
  have_none is = so None is

  -- they have this one
  pub have_fault : (fault : DmaFault) → Some fault ≡ verdict p i t → EndsFor (verdict_plan p i tables) held old new (Own (Unfit fault))
  have_fault fault is =
      refused_at devices (verdict_plan p i tables) held old new (refusal_status (Unfit fault)) (refusal_text (Unfit fault)) (so (Some fault) is) (Unfit fault) refl refl

  -- memory is refused
  pub have_no_memory : EndsFor (verdict_plan p i tables) held old new NoMemory
  have_no_memory = without_memory devices (verdict_plan p i tables) held old new (verdict_answer (verdict p i t)) (found judge)
