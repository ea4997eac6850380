use Rattle.std.proofs.Common.{◌≡◌, ◌<◌, ℕ, length, slice_index_or, None}
use Rattle.ept_walk.proofs.cached.clear_slots.Given as goal

abbrev pub invariant-loop-slot : goal.invariant-loop-slot
invariant-loop-slot l =
    record {
      long : length l.slots ≡ length l.fn.slots;
      done : (i : ℕ) → i < l.slot-index → slice_index_or l.slots i None ≡ None;
    }
