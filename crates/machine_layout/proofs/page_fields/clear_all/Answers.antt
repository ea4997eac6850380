use Rattle.std.proofs.Common.{◌∙◌}
use Rattle.machine_layout.proofs.PageFieldLaws.{padded_none}
use Rattle.machine_layout.proofs.page_fields.clear_all.Goals as goal

pub returns : goal.returns
returns c = c.fill.ensures.after (λ y e. e) ∙ padded_none _
