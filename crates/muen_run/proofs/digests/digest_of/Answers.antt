use Rattle.std.proofs.Common.{◌∙◌, ◌+◌, ap, subst}
use Rattle.sha2.specs.Hashers.{Holds256}
use Rattle.kernel_core.specs.Machine.{page_bytes_at}
use Rattle.muen_run.specs.RunText.{bytes_from}
use Rattle.muen_run.proofs.Numbered.{one_page}
use Rattle.muen_run.proofs.digests.digest_of.Goals as goal

pub loop-page-preserved : goal.loop-page-preserved
loop-page-preserved g c =
    let pages = g.M.PhysMem.pages c.args.mem.now in
    let bytes = c.bytes_of_page.ensures ∙ ap (λ n. page_bytes_at pages (c.args.first + n)) c.from.ensures in
    subst (Holds256 c.update.new.self) (one_page pages c.args.first c.loop-page.page c.bytes_of_page.result.now bytes) (c.update.ensures (bytes_from pages c.args.first c.loop-page.page) c.loop-page.invariant)
