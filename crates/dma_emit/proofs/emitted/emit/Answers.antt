use Rattle.std.proofs.Common.{length, sym, ap, ◌∙◌, subst, arith}
use Rattle.dma_emit.specs.Base.{IsBase}
use Rattle.dma_emit.specs.Domains.{domains_of}
use Rattle.dma_emit.specs.Emitted.{IsFileOf}
use Rattle.dma_emit.proofs.DomainsReady.{ready}
use Rattle.dma_emit.proofs.FileMade.{conditions_of, many_of, walk_of}
use Rattle.dma_emit.proofs.emitted.emit.Goals as goal
use Rattle.dma_tables.specs.DmaWalk.{dma_walk}
use Rattle.dma_tables.specs.declared.file.DmaFile.{DmaFile}
use Rattle.policy_lawful.specs.Resolution.{source_of}

pub make-requires : goal.make-requires
make-requires c = c.conditions.ensures.enough c.in_ok-file.file (conditions_of c.args.placed.now c.in_ok-file.file c.in_ok-file.ensures)

pub returns-clause-walk : goal.returns-clause-walk
returns-clause-walk c = λ device addr write. ap (λ (t : DmaFile). dma_walk t device addr write) c.make.ensures ∙ walk_of c.args.placed.now c.in_ok-file.file c.in_ok-file.ensures device addr write

pub returns-clause-file : goal.returns-clause-file
returns-clause-file c = subst (IsFileOf (domains_of c.args.placed.now)) (sym c.make.ensures) c.in_ok-file.ensures.file

pub returns-clause-many : goal.returns-clause-many
returns-clause-many c = ap (λ (t : DmaFile). length t.pages) c.make.ensures ∙ many_of c.args.placed.now c.in_ok-file.file c.in_ok-file.ensures

pub returns-clause-few : goal.returns-clause-few
returns-clause-few c =
    let many = ap (λ (t : DmaFile). length t.pages) c.make.ensures ∙ many_of c.args.placed.now c.in_ok-file.file c.in_ok-file.ensures in
    let few = (ready c.args.placed.now c.in_ok-file.ensures.placed).pages in
    omega (arith, many, few)

pub returns-clause-base : goal.returns-clause-base
returns-clause-base c = subst (λ (t : DmaFile). IsBase (source_of c.args.placed.now.expanded.lawful) (length t.pages) t.base) (sym c.make.ensures) c.in_ok-file.ensures.base
