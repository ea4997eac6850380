use Rattle.std.proofs.Common.{◌∙◌, ap}
use Rattle.ept_check.specs.Looked.{is_number_marked}
use Rattle.ept_check.proofs.Marks.{none_marked}
use Rattle.ept_check.proofs.looked.Looked.none.Goals as goal

pub returns-clause-none : goal.returns-clause-none
returns-clause-none c = λ ns t. ap (λ bs. is_number_marked ns bs t) (c.in_ok-entered.ensures.items_if_clones_equal (λ y h. h)) ∙ none_marked ns _ t
