use Rattle.std.proofs.Common.{refl}
use Rattle.machine_layout.proofs.PageFieldLaws.{word_is}
use Rattle.machine_layout.proofs.page_fields.word_at.Goals as goal

pub returns : goal.returns
returns c =
    word_is c.args.page.now c.in-Some.bytes.now c.args.at 8 _ refl c.requires c.in-Some.ensures.cases.same c.type_inv.page c.from_le_bytes.type_inv c.from_le_bytes.ensures
