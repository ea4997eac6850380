-- The file of the tables of a policy's domains is one, whatever placement of the policy it is made of.
use Rattle.std.proofs.Common.{◌≡◌, ℕ, List, Ok, sym, ap, subst, ◌∙◌}
use Rattle.dma_emit.specs.Base.{IsBase}
use Rattle.dma_emit.specs.Domains.{domains_of, windows_of}
use Rattle.dma_emit.specs.Emitted.{IsFileOf}
use Rattle.dma_emit.specs.Placed.{IsPlaced, Placement}
use Rattle.dma_emit.proofs.OneFile.{file_is_one}
use Rattle.dma_tables.proofs.ConditionsHold.{conditions_kept}
use Rattle.dma_tables.specs.DmaFile.{dma_file}
use Rattle.dma_tables.specs.declared.file.DmaFile.{DmaFile}
use Rattle.policy_lawful.specs.Resolution.{source_of}
use Rattle.proof_build.proofs.OneResolution.{resolutions_are_one}
use Rattle.region_alloc.specs.Placement.{placement_of}
use Rattle.proof_domains.specs.Laws.{DomainTablesAreOne}

-- two placements of one policy have the same domains
same_domains : (x y : Placement) → IsPlaced x → IsPlaced y → source_of x.expanded.lawful ≡ source_of y.expanded.lawful → domains_of x ≡ domains_of y
unfolding windows_of
same_domains x y placed placed_too same =
    let policy = resolutions_are_one x.expanded.lawful y.expanded.lawful placed.resolved placed_too.resolved same in
    let both : Ok x.addresses ≡ Ok y.addresses = sym placed.placement ∙ ap placement_of same ∙ placed_too.placement in
    let addresses : x.addresses ≡ y.addresses = cc in
    λ i. domains_of (record { expanded = record x.expanded { lawful = policy i }; addresses = addresses i })

pub tables_are_one : DomainTablesAreOne
tables_are_one p a b of_a of_b =
    let bytes_t = (conditions_kept of_a.tables of_a.bytes_are.tables).bytes in
    let bytes_u = (conditions_kept of_b.tables of_b.bytes_are.tables).bytes in
    let domains = same_domains of_a.placement of_b.placement of_a.placed of_b.placed (of_a.of_policy ∙ sym of_b.of_policy) in
    let file : IsFileOf (domains_of of_b.placement) of_a.tables = subst (λ d. IsFileOf d of_a.tables) domains of_a.of_domains in
    let same = file_is_one p (domains_of of_b.placement) of_a.tables of_b.tables file of_b.of_domains of_a.base of_b.base bytes_t bytes_u in
    of_a.bytes_are.bytes_are ∙ (ap (λ (t : DmaFile). dma_file.spell t) same ∙ sym of_b.bytes_are.bytes_are)
