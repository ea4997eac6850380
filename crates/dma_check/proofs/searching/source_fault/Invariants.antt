use Rattle.std.proofs.Common.{◌≡◌, ◌-◌, ◌+◌, ◌*◌, ◌^◌, ◌≤◌, ℕ, Bool, Option, None}
use Rattle.std.specs.Prelude.{vec_len}
use Rattle.dma_check.specs.Faults.{fault_at}
use Rattle.dma_check.specs.Held.{AreFor, view_by}
use Rattle.dma_check.specs.Marked.{Marked, seen_in}
use Rattle.dma_tables.specs.DmaWalk.{root_page}
use Rattle.ept_check.specs.Search.{first_from}
use Rattle.dma_check.proofs.searching.source_fault.Given as goal

-- the addresses so far
abbrev pub invariant-loop-addr : goal.invariant-loop-addr
invariant-loop-addr l =
    record {
      low : l.addr ≤ 2 ^ 48;
      long : vec_len l.ways ≡ vec_len l.fn.ways;
      none : (declared : ℕ → ℕ → Bool → Option ℕ) → AreFor declared l.source l.windows → Marked (view_by l.file l.spans declared) (seen_in (root_page l.file) l.fn.ways.items) (6 * (2 ^ 48 * l.source)) → first_from (fault_at (view_by l.file l.spans declared)) (2 ^ 48 * l.source) l.addr ≡ None;
      known : (declared : ℕ → ℕ → Bool → Option ℕ) → AreFor declared l.source l.windows → Marked (view_by l.file l.spans declared) (seen_in (root_page l.file) l.fn.ways.items) (6 * (2 ^ 48 * l.source)) → Marked (view_by l.file l.spans declared) (seen_in (root_page l.file) l.ways.items) (6 * (2 ^ 48 * l.source + l.addr));
    }

abbrev pub decreases-loop-addr : goal.decreases-loop-addr
decreases-loop-addr l = 2 ^ 48 - l.addr
