use Rattle.muen_build.proofs.Documents.{shown_document}
use Rattle.muen_build.proofs.shown_document.Goals as goal

pub returns : goal.returns
returns c = shown_document
