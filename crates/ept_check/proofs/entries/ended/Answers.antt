use Rattle.std.proofs.Common.{◌∙◌, sym}
use Rattle.machine_layout.specs.Memory.{is_there}
use Rattle.ept_check.proofs.Reading.{ended_leaf}
use Rattle.ept_check.proofs.entries.ended.Goals as goal

pub returns : goal.returns
returns g c =
    c.leaf_end.ensures c.args.addr
    ∙ ended_leaf (is_there (g.E.Entries.pages c.args.entries.now)) c.args.level c.args.entry c.args.addr c.args.want c.args.rights c.page_number.result c.entry_size.result c.rights_of.result c.page_number.ensures.value c.entry_size.ensures.value c.rights_of.ensures (sym c.is_present.ensures ∙ c.if-not-is_present.false) (sym c.is_misconfigured.ensures ∙ c.if-is_misconfigured.false)
