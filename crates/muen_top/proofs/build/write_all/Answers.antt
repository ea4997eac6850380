use Rattle.muen_top.specs.Kept.{image_well}
use Rattle.muen_top.proofs.build.write_all.Goals as goal

pub returns-in-Done : goal.returns-in-Done
returns-in-Done g c = image_well _ _ (rw c.in-Done.is at (rw c.deref.ensures.value at c.write_file.ensures)) c.write_tables.ensures
