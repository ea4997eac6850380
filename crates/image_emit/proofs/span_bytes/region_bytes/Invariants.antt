-- What is known while the subjects' pages are gone through.
use Rattle.std.proofs.Common.{◌≡◌, ◌++◌, flat_map}
use Rattle.image_emit.specs.Made.{kernel_bytes}
use Rattle.image_emit.proofs.span_bytes.region_bytes.Given as goal

abbrev pub invariant-loop-of_subject : goal.invariant-loop-of_subject
invariant-loop-of_subject l = l.bytes.items ++ flat_map kernel_bytes l.of_subject-iterator.rest.items ≡ l.fn.things ++ flat_map kernel_bytes l.fn.pages
