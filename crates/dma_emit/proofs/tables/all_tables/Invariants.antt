use Rattle.std.proofs.Common.{◌≡◌, ℕ, ◌<◌, [], get_or, length}
use Rattle.dma_emit.specs.Emitted.{IsDomainsTables}
use Rattle.dma_emit.proofs.tables.all_tables.Given as goal

-- the tables of the domains so far
abbrev pub invariant-loop-number : goal.invariant-loop-number
invariant-loop-number l = record {
  many : length l.tables.items ≡ l.number;
  each : (n : ℕ) → n < l.number → IsDomainsTables l.domains l.root n (get_or l.tables.items n []);
}
