use Rattle.std.proofs.Common.{◌≡◌, ◌*◌, length, drop, sym, ◌∙◌, ap, subst}
use Rattle.std.proofs.lemmas.List.{take_at}
use Rattle.dma_emit.proofs.TablesOf.{at_page}
use Rattle.dma_emit.proofs.tables.tables_of.Goals as goal
use Rattle.ept_emit.specs.Pages.{ept_pages, ranges_of}
use Rattle.ept_emit.specs.Tables.{AreWritten}
use Rattle.policy_lawful.specs.rights.Rights.TheVariants.{Rw}

pub returns : goal.returns
returns c =
    let bytes = c.in_ok-tables.tables in
    let out = c.write_tables.new.out in
    let is = c.of.ensures ∙ take_at out (drop (length out) bytes.items) bytes.len (c.write_tables.ensures.len ∙ c.as_mut_slice.ensures.len) in
    let many : length out ≡ 4096 * ept_pages (ranges_of c.args.windows.now) = c.write_tables.ensures.len ∙ c.as_mut_slice.ensures.len ∙ c.in_ok-tables.ensures.len ∙ ap (λ n. 4096 * n) c.requires.count in
    subst (AreWritten Rw c.args.windows.now c.args.page) (sym is)
    (at_page c.args.windows.now c.args.page out c.write_tables.result many c.write_tables.ensures.some c.write_tables.ensures.few c.write_tables.ensures.numbered c.write_tables.ensures.rest)
