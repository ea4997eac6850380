-- Each region has one user more for each window on it so far.
use Rattle.std.proofs.Common.{◌≡◌, ℕ, ◌<◌, ◌++◌, [], length, slice_index_or, take}
use Rattle.std.specs.List.{filter_map}
use Rattle.policy_rules.specs.Writers.{user_of}
use Rattle.policy_rules.proofs.writers.note_views.Given as goal

abbrev pub invariant-loop-view : goal.invariant-loop-view
invariant-loop-view l = record {
  room : length l.users ≡ length l.fn.users;
  noted : (k : ℕ) → k < length l.fn.users → slice_index_or l.users k [] ≡ slice_index_or l.fn.users k [] ++ filter_map (user_of k l.name) (take l.view-index l.views);
}
