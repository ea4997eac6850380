-- The law: tables whose verdict has no fault fit.
use Rattle.std.specs.Prelude.{◌≡◌, None, Some}
use Rattle.dma_check.specs.Verdict.{verdict}
use Rattle.dma_tables.specs.DmaConditions.{KeepsConditions}
use Rattle.dma_tables.specs.declared.file.DmaFile.{DmaFile}
use Rattle.image_pack.specs.declared.parts.Image.{Image}
use Rattle.policy_lawful.specs.Lawful.{IsLawful}
use Rattle.policy_lawful.specs.source.Source.{Source}
use Rattle.proof_runs.specs.Fit.{Fit}

-- tables, whoever made them, whose verdict has no fault fit
abbrev pub FaultlessTablesFit : Type 0
FaultlessTablesFit = (p : Source) (i : Image) (t : DmaFile) → IsLawful p → KeepsConditions t → verdict p i t ≡ None → Fit p i (Some t)
