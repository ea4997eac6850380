-- The tables of a policy's domains of devices: they fit each image that has the policy's regions where they were placed.
use Rattle.std.proofs.Common.{◌≡◌, ◌*◌, ◌<◌, ℕ, Bool, true, List, length, Some, Result, Ok, Err, IfOk, refl, sym, subst}
use Rattle.dma_emit.specs.Base.{IsBase}
use Rattle.dma_emit.specs.Domains.{domains_of}
use Rattle.dma_emit.specs.Emitted.{IsFileOf}
use Rattle.dma_emit.specs.Reached.{device_access_kind, placed_at}
use Rattle.dma_tables.specs.DmaWalk.{dma_walk}
use Rattle.dma_tables.specs.declared.file.TheConstants.{MOST_DMA_PAGES}
use Rattle.dma_tables.specs.declared.file.DmaFile.{DmaFile}
use Rattle.image_pack.specs.declared.parts.Image.{Image}
use Rattle.image_soundness.specs.Sound.{IsSound}
use Rattle.muen_num.specs.declared.limits.TheConstants.{PAGE}
use Rattle.policy_lawful.specs.Contents.{Held}
use Rattle.policy_lawful.specs.Dma.{dma_access}
use Rattle.policy_lawful.specs.Resolution.{source_of}
use Rattle.policy_lawful.specs.source.Source.{Source}
use Rattle.proof_domains.specs.Built.{HasSpans}
use Rattle.proof_domains.proofs.Fitting.{fits}
use Rattle.proof_runs.specs.Fit.{Fit}
use Rattle.dma_emit.specs.Placed.{IsPlaced, Placement}
use Rattle.muen_top.specs.Tables.{AreTablesFor}

pub tables_fit : (p : Source) (t : DmaFile) → AreTablesFor p t → (files : Held) (i : Image) → IsSound p files i → HasSpans p i → Fit p i (Some t)
tables_fit p t tables files i sound spans =
    subst (λ q. Fit q i (Some t)) tables.of_policy
    (fits tables.placement files i t tables.placed (subst (λ q. IsSound q files i) (sym tables.of_policy) sound) (subst (λ q. HasSpans q i) (sym tables.of_policy) spans)
    (λ device addr. subst (λ q. dma_walk t device addr true ≡ placed_at tables.placement (dma_access q device addr (device_access_kind true))) (sym tables.of_policy) (tables.walk device addr true)))

-- tables that are emitted for a placed policy are those of its domains
pub are_tables : {E : Type 0} (x : Placement) → IsPlaced x → (result : Result DmaFile E)
    → IfOk result (λ t. (device : List ℕ) (addr : ℕ) (write : Bool) → dma_walk t device addr write ≡ placed_at x (dma_access (source_of x.expanded.lawful) device addr (device_access_kind write)))
    → IfOk result (IsFileOf (domains_of x)) → IfOk result (λ t. length t.pages < PAGE * MOST_DMA_PAGES) → IfOk result (λ t. IsBase (source_of x.expanded.lawful) (length t.pages) t.base)
    → IfOk result (AreTablesFor (source_of x.expanded.lawful))
are_tables x placed (Ok t) walk file few base = record { placement = x; of_policy = refl; placed = placed; file = file; few = few; base = base; walk = walk }
are_tables x placed (Err e) walk file few base = tt
