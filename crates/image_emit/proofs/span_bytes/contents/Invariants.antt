-- What is known while the spans are gone through.
use Rattle.image_emit.specs.Taking.{IsTaking}
use Rattle.image_emit.proofs.span_bytes.contents.Given as goal

abbrev pub invariant-loop-span : goal.invariant-loop-span
invariant-loop-span l = IsTaking l.spans l.span-index l.fn.bytes.items l.bytes.items l.held
