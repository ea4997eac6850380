use Rattle.std.proofs.Common.{◌≡◌, ◌<◌, ℕ, length, slice_index_or}
use Rattle.ept_walk.proofs.cached.clear_times.Given as goal

abbrev pub invariant-loop-time : goal.invariant-loop-time
invariant-loop-time l =
    record {
      long : length l.changed ≡ length l.fn.changed;
      done : (i : ℕ) → i < l.time-index → slice_index_or l.changed i 0 ≡ 0;
    }
