use Rattle.std.proofs.Common.{◌∙◌, ap}
use Rattle.machine_layout.specs.Memory.{le_bytes, over}
use Rattle.msrbm_emit.proofs.AreaLaws.{entry_put}
use Rattle.msrbm_emit.proofs.area.put_entry.Goals as goal

pub returns : goal.returns
returns c =
    λ front long here. entry_put _ c.args.at c.args.index front _ _ _ c.ranges.index.fits long c.requires here (c.put_word.ensures ∙ ap (λ word. over c.args.area.now c.args.at (le_bytes 8 word)) c.from.ensures) c.put_word-2.ensures
