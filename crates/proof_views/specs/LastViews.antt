-- What a system shows a subject when nothing runs any more.
use Rattle.std.specs.Prelude.{ℕ, ◌==◌, List, [], ◌∷◌, None, if◌then◌else◌}
use Rattle.policy_lawful.specs.source.Source.{Source}
use Rattle.policy_lawful.specs.source.Subject.{Subject}
use Rattle.subject_model.specs.System.{System, named, pending, shown_to, state_of}
use Rattle.subject_model.specs.View.{Seen}

-- with no line
abbrev pub at_rest : Source → Subject → System → Seen
at_rest p s y = record {
  line = None;
  state = state_of y s.name;
  msrs = named y.msrs s.name;
  now = pending y.now s.name;
  later = pending y.later s.name;
  things = shown_to p s y;
}

abbrev pub without_line : Seen → Seen
without_line v = record v { line = None }

-- the CPUs whose turns come after that of this one
abbrev pub behind : ℕ → List ℕ → List ℕ
behind cpu [] = []
behind cpu (c ∷ order) = if c == cpu then order else behind cpu order
