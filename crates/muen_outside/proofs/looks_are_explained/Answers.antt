use Rattle.muen_outside.proofs.Explained.{explained}
use Rattle.muen_outside.proofs.looks_are_explained.Goals as goal

pub returns : goal.returns
returns c = explained
