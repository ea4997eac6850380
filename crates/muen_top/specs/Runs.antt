-- How a run ends that prints this text.
use Rattle.std.specs.Prelude.{◌≡◌, ℕ, List, Ok}
use Rattle.map_report.specs.MapText.{map_text_of}
use Rattle.map_report.specs.Placement.{placement_of}
use Rattle.muen_outside.specs.States.{SinkState}
use Rattle.muen_outside.specs.Puts.{Appended, Failed}
use Rattle.policy_lawful.specs.source.Source.{Source}
use Rattle.muen_top.specs.declared.outcome.Outcome.{Outcome}
use Rattle.muen_top.specs.declared.outcome.Outcome.TheVariants.{Done, Stopped, OutputFault}
use Rattle.muen_top.specs.declared.outcome.CommandError.{CommandError}
use Rattle.muen_top.specs.declared.outcome.CommandError.TheVariants.{NoMemory}

-- want of memory is the one reason to print nothing
abbrev pub OnlyMemory : CommandError → Type 0
OnlyMemory NoMemory = Unit {0}
OnlyMemory _ = ⊥

abbrev pub RunsTo : List ℕ → SinkState → SinkState → Outcome → Type 0
RunsTo text old new Done = Appended text old new
RunsTo text old new (Stopped error) = OnlyMemory error × (new ≡ old)
RunsTo text old new OutputFault = Failed text old new

-- .. the map of this policy, whose regions lie where its placement has them
abbrev pub RunsToMap : Source → SinkState → SinkState → Outcome → Type 0
RunsToMap p old new outcome = (addresses : List ℕ) → placement_of p ≡ Ok addresses → RunsTo (map_text_of p addresses) old new outcome
