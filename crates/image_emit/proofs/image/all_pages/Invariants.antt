-- What is known while the subjects are gone through.
use Rattle.std.proofs.Common.{take, zip}
use Rattle.std.specs.List.{AllZip, enumerate_from}
use Rattle.subject_emit.specs.Pages.{ArePages}
use Rattle.image_emit.proofs.image.all_pages.Given as goal

abbrev pub invariant-loop-index : goal.invariant-loop-index
invariant-loop-index l = AllZip (λ e q. ArePages l.placed e.0 e.1.0 e.1.1 q) (take l.index (enumerate_from 0 (zip l.placed.expanded.lawful.subjects l.placed.expanded.grants))) l.all
