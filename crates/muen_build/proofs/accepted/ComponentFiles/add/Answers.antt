-- A name that wasn't there goes last.
use Rattle.std.proofs.Common.{◌∙◌}
use Rattle.std.specs.Str.{bytes_eq}
use Rattle.indexmap.proofs.CallerLemmas.{insert_entry-new}
use Rattle.muen_build.proofs.accepted.ComponentFiles.add.Goals as goal

pub returns : goal.returns
returns c = rw (← c.self.view_is) (c.in_ok-insert.ensures.entries ∙ insert_entry-new bytes_eq c.self.inside.files c.args.name c.args.bytes (rw (← c.self.view_is) at c.requires))
