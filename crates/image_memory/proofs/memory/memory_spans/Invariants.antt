-- What is known while the spans are gone through.
use Rattle.std.proofs.Common.{◌≡◌, ◌++◌, map}
use Rattle.std.specs.List.{zip}
use Rattle.image_memory.specs.Memory.{memory_span}
use Rattle.image_memory.proofs.memory.memory_spans.Given as goal

-- the spans so far and those that are left
abbrev pub invariant-loop-span : goal.invariant-loop-span
invariant-loop-span l = l.loaded.items ++ map memory_span (zip l.span-iterator.a.rest.now l.span-iterator.b.rest.items) ≡ map memory_span (zip l.fn.spans l.fn.contents)
