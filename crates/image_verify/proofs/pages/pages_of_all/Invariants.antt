-- What is known while the spans are gone through.
use Rattle.std.proofs.Common.{◌≡◌, take}
use Rattle.std.specs.List.{flat_map}
use Rattle.image_verify.specs.TablePages.{pages_of_tables}
use Rattle.image_verify.proofs.pages.pages_of_all.Given as goal

abbrev pub invariant-loop-span : goal.invariant-loop-span
invariant-loop-span l = l.pages.items ≡ flat_map pages_of_tables (take l.span-index l.spans)
