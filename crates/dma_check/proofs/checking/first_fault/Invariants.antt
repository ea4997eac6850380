use Rattle.std.proofs.Common.{◌≡◌, ◌*◌, ◌^◌, None}
use Rattle.std.specs.Prelude.{vec_len}
use Rattle.dma_check.specs.Again.{AreEarlier}
use Rattle.dma_check.specs.Faults.{fault_at}
use Rattle.dma_check.specs.Marked.{Marked, seen_in}
use Rattle.dma_check.specs.Verdict.{OverImages}
use Rattle.dma_check.specs.Views.{view_of}
use Rattle.dma_tables.specs.DmaFile.{page_count_of}
use Rattle.dma_tables.specs.DmaWalk.{root_page}
use Rattle.ept_check.specs.Search.{first_from}
use Rattle.policy_lawful.specs.Resolution.{source_of}
use Rattle.dma_check.proofs.checking.first_fault.Given as goal

-- the sources so far
abbrev pub invariant-loop-source : goal.invariant-loop-source
invariant-loop-source l =
    record {
      none : OverImages l.spans (λ i. first_from (fault_at (view_of (source_of l.policy) i l.file)) 0 (2 ^ 48 * l.source) ≡ None);
      long : vec_len l.ways ≡ page_count_of l.file;
      earlier : AreEarlier l.file l.source l.earlier.items;
      known : OverImages l.spans (λ i. Marked (view_of (source_of l.policy) i l.file) (seen_in (root_page l.file) l.ways.items) (6 * (2 ^ 48 * l.source)));
    }
