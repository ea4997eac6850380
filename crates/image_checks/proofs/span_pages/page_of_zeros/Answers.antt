use Rattle.std.proofs.Common.{◌∙◌, sym, arith}
use Rattle.muen_num.specs.declared.limits.TheConstants.{PAGE}
use Rattle.image_checks.proofs.PageLaws.{zeros_page}
use Rattle.image_checks.proofs.span_pages.page_of_zeros.Goals as goal

pub returns-then-from-pages : goal.returns-then-from-pages
returns-then-from-pages c = c.in_ok-zeros.ensures.items_if_clones_equal (λ y e. e) ∙ sym (zeros_page PAGE c.args.pages c.args.page (omega arith))
