-- The laws: tables that are emitted for the domains of devices fit the images that are built; and they are one.
use Rattle.std.specs.Prelude.{◌≡◌, ℕ, List, length, Some, true}
use Rattle.dma_emit.specs.Base.{IsBase}
use Rattle.dma_emit.specs.Domains.{domains_of}
use Rattle.dma_emit.specs.Emitted.{IsFileOf}
use Rattle.dma_emit.specs.Placed.{IsPlaced, Placement}
use Rattle.dma_emit.specs.Reached.{device_access_kind, placed_at}
use Rattle.dma_tables.specs.DmaWalk.{dma_walk}
use Rattle.dma_tables.specs.Tables.{IsDmaFile}
use Rattle.dma_tables.specs.declared.file.DmaFile.{DmaFile}
use Rattle.dma_tables.specs.parts.Image.{Image}
use Rattle.policy_lawful.specs.Contents.{Held}
use Rattle.policy_lawful.specs.source.Source.{Source}
use Rattle.policy_lawful.specs.Dma.{dma_access}
use Rattle.policy_lawful.specs.Resolution.{source_of}
use Rattle.proof_build.specs.Built.{HasSpans}
use Rattle.proof_build.specs.Sound.{IsSound}
use Rattle.proof_runs.specs.Fit.{Fit}

-- tables that lead each write of a device where a placed policy declares it fit each image that is sound for the policy and has the
-- policy's regions where they were placed
abbrev pub EmittedTablesFit : Type 0
EmittedTablesFit =
    (x : Placement) (files : Held) (i : Image) (t : DmaFile)
    → IsPlaced x → IsSound (source_of x.expanded.lawful) files i → HasSpans (source_of x.expanded.lawful) i
    → ((device : List ℕ) (addr : ℕ)
    → dma_walk t device addr true ≡ placed_at x (dma_access (source_of x.expanded.lawful) device addr (device_access_kind true)))
    → Fit (source_of x.expanded.lawful) i (Some t)

-- these bytes are the file of the tables of a policy's domains, as some placement of it has them, which lie in the lowest pages that
-- are free
pub record AreFileOfTables (p : Source) (bytes : List ℕ) : Type 0 where
  pub placement : Placement
  pub of_policy : source_of placement.expanded.lawful ≡ p
  pub placed : IsPlaced placement
  pub tables : DmaFile
  pub bytes_are : IsDmaFile bytes tables
  pub of_domains : IsFileOf (domains_of placement) tables
  pub base : IsBase p (length tables.pages) tables.base

-- no two files are
abbrev pub DomainTablesAreOne : Type 0
DomainTablesAreOne = (p : Source) (a b : List ℕ) → AreFileOfTables p a → AreFileOfTables p b → a ≡ b
