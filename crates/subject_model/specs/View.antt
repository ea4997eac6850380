-- What a subject sees of a run (this project's own): in each tick the line of its turn, and just after the turn of its CPU its own
-- state, its MSRs, its pending events, and the bytes of all that its windows show.
use Rattle.std.specs.Prelude.{ℕ, ◌==◌, List, [], ◌∷◌, map, Option, if◌then◌else◌}
use Rattle.std.specs.List.{find}
use Rattle.std.specs.Str.{bytes_eq}
use Rattle.muen_num.specs.Range.{numbers_below}
use Rattle.policy_lawful.specs.Contents.{Held}
use Rattle.policy_lawful.specs.source.Source.{Source}
use Rattle.policy_lawful.specs.source.Subject.{Subject}
use Rattle.record_text.specs.DeviceRecord.{DeviceRecord}
use Rattle.guest_isa.specs.state.SubjectState.{SubjectState}
use Rattle.frame_clock.specs.Run.{Ran, run_to, tick_ran}
use Rattle.view_text.specs.declared.TurnLine.{TurnLine}
use Rattle.subject_model.specs.Alone.{MsrValues, Things}
use Rattle.subject_model.specs.Clock.{inputs_at, order_at, system}
use Rattle.subject_model.specs.System.{System, named, pending, shown_to, start_of, state_of}

-- what it sees in a tick
pub record Seen : Type 0 where
  -- the line of its turn; none where it has none
  pub line : Option TurnLine
  pub state : Option SubjectState
  pub msrs : Option MsrValues
  -- its pending vectors that are deliverable at any turn
  pub now : List ℕ
  -- those that wait for a minor frame or an exit
  pub later : List ℕ
  -- all that its windows show
  pub things : Things

-- the CPUs whose turns come before that of this one, and it
abbrev pub through : ℕ → List ℕ → List ℕ
through cpu [] = []
through cpu (c ∷ order) = if c == cpu then c ∷ [] else c ∷ through cpu order

-- of these turns of a tick, and the system after them
abbrev pub seen_in : Source → Subject → Ran System TurnLine → Seen
seen_in p s r = record {
  line = find (λ l. bytes_eq l.subject s.name) r.lines;
  state = state_of r.state s.name;
  msrs = named r.state.msrs s.name;
  now = pending r.state.now s.name;
  later = pending r.state.later s.name;
  things = shown_to p s r.state;
}

-- the turns of a tick of a run on a record, through that of this CPU
abbrev pub ran_through : Source → Held → DeviceRecord → ℕ → ℕ → Ran System TurnLine
ran_through p files r cpu tick =
    tick_ran (system p) tick (inputs_at r tick) (through cpu (order_at p r tick))
    (run_to (system p) (inputs_at r) (order_at p r) tick (start_of p files)).state

-- **the view** of a subject, tick by tick
unfoldable pub view_of : Source → Held → DeviceRecord → Subject → List Seen
view_of p files r s = map (λ tick. seen_in p s (ran_through p files r s.cpu tick)) (numbers_below r.end)
