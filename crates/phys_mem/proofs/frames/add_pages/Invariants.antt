use Rattle.std.proofs.Common.{◌≡◌, ◌++◌, ◌+◌, ◌/◌, ◌≤◌, length, vec_len}
use Rattle.phys_mem.specs.Frames.{pages_in}
use Rattle.phys_mem.specs.Frames.{pages_by}
use Rattle.phys_mem.proofs.frames.add_pages.Given as goal

-- the pages so far and those of what remains
abbrev pub invariant-loop-page : goal.invariant-loop-page
invariant-loop-page l =
    record {
      pages : pages_by l.numbers.items l.frames.items ++ pages_in (length l.rest / 4096) l.number l.rest ≡ pages_by l.initial.numbers.items l.initial.frames.items ++ pages_in (length l.bytes / 4096) l.first l.bytes;
      paired : vec_len l.numbers ≡ vec_len l.frames;
      small : l.number + length l.rest ≤ l.first + length l.bytes;
    }

abbrev pub decreases-loop-page : goal.decreases-loop-page
decreases-loop-page l = length l.rest
