use Rattle.std.proofs.lemmas.Slice.Eq.{slice_eq-Decides}
use Rattle.image_checks.proofs.Equal.{decided, event_tells, option_tells}
use Rattle.image_checks.proofs.events.same_events.Goals as goal

pub returns : goal.returns
returns c = decided _ _ (slice_eq-Decides (option_tells _ event_tells) _ _ _ c.eq.ensures)
