use Rattle.std.proofs.Common.{◌≡◌, ◌++◌, take}
use Rattle.std.specs.List.{filter_map}
use Rattle.expand_grants.specs.Raising.{reader_reached}
use Rattle.expand_grants.proofs.reached.note_readers.Given as goal

abbrev pub invariant-loop-end : goal.invariant-loop-end
invariant-loop-end l = l.noted.items ≡ l.initial.noted.items ++ filter_map (λ e. reader_reached l.index e e.role) (take l.end-index l.ends)
