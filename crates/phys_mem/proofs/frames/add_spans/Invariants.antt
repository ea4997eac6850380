use Rattle.std.proofs.Common.{◌≡◌, ◌++◌, vec_len}
use Rattle.phys_mem.specs.Frames.{pages_by}
use Rattle.phys_mem.specs.Spans.{AreSpans, pages_of_spans}
use Rattle.phys_mem.proofs.frames.add_spans.Given as goal

-- the pages so far and those of the spans that remain
abbrev pub invariant-loop-span : goal.invariant-loop-span
invariant-loop-span l =
    record {
      pages : pages_by l.numbers.items l.frames.items ++ pages_of_spans l.span-iterator.rest.items ≡ pages_by l.initial.numbers.items l.initial.frames.items ++ pages_of_spans l.fn.spans.items;
      spans : AreSpans l.span-iterator.rest.items;
      paired : vec_len l.numbers ≡ vec_len l.frames;
    }
