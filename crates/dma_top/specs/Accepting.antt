-- What is so of files that `verify` accepts.
use Rattle.std.specs.Prelude.{◌≡◌, ℕ, List, Some, None, Ok}
use Rattle.std.specs.FinMap.{get}
use Rattle.command_shell.specs.declared.status.Status.{Status}
use Rattle.command_shell.specs.declared.status.Status.TheVariants as statuses
use Rattle.dma_check.specs.Verdict.{verdict}
use Rattle.dma_tables.specs.DmaFile.{dma_file}
use Rattle.dma_tables.specs.declared.file.DmaFile.{DmaFile}
use Rattle.image_pack.specs.Faults.{unpacked}
use Rattle.muen_outside.specs.Looks.{ShowAll}
use Rattle.muen_outside.specs.States.{Look}
use Rattle.muen_outside.specs.Store.{Store, reading_of, whole}
use Rattle.muen_top.specs.Headline.{HoldsFitting, HoldsSound}
use Rattle.muen_top.specs.declared.limits.TheConstants.{DMA_MOST}
use Rattle.policy_lawful.specs.Lawful.{IsLawful}
use Rattle.policy_lawful.specs.source.Source.{Source}
use Rattle.dma_top.specs.Commands.{command_of, verify}
use Rattle.dma_top.specs.declared.status.DmaStatus.{DmaStatus}

-- the store has a lawful policy under the one name, whose contents fit, an image that is sound for it under the other, and under the
-- third tables that fit both
pub record HoldsFit (m : Store) (image policy tables : List ℕ) : Type 0 where
  pub p : Source
  pub lawful : IsLawful p
  pub fits : HoldsFitting m policy p
  pub sound : HoldsSound m image p m
  pub bytes : List ℕ
  pub read : reading_of (get m tables) DMA_MOST ≡ whole bytes
  pub t : DmaFile
  pub are : unpacked dma_file bytes ≡ Ok t
  pub fit : verdict p sound.parts t ≡ None

-- `verify` with status 0 promises that of every store that agrees with the looks
abbrev pub VerifyAccepts : List (List ℕ) → List Look → Status DmaStatus → Type 0
VerifyAccepts words looks status =
    (m : Store) (image policy tables : List ℕ) → ShowAll m looks → command_of words ≡ Some (verify image policy tables) → status ≡ statuses.Done
    → HoldsFit m image policy tables
