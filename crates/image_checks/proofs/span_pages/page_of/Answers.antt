use Rattle.muen_num.specs.declared.limits.TheConstants.{PAGE}
use Rattle.image_checks.proofs.PageLaws.{cut}
use Rattle.image_checks.proofs.span_pages.page_of.Goals as goal

pub returns : goal.returns
returns c =
    cut c.args.bytes.now c.extend_from_slice.new.self.items c.new-found.result.items PAGE c.min-start.result c.min.result c.from.result c.args.page
    c.in_ok-extend_from_slice.ensures.items c.new-found.ensures.items c.min.ensures c.min-start.ensures c.from.ensures
