-- The text of a run of the abstract system (this project's own).
use Rattle.std.specs.Prelude.{ℕ, List, [], ◌++◌, Option, Some, None}
use Rattle.std.specs.List.{flat_map}
use Rattle.sha2.specs.Sha256.{sha256}
use Rattle.policy_lawful.specs.Contents.{Held}
use Rattle.policy_lawful.specs.Thing.{Thing, things_of, is_device, thing_tag}
use Rattle.policy_lawful.specs.source.Source.{Source}
use Rattle.policy_lawful.specs.source.Subject.{Subject}
use Rattle.record_text.specs.DeviceRecord.{DeviceRecord}
use Rattle.view_text.specs.ViewText.{rows_text, turn_text, region_text}
use Rattle.guest_isa.specs.state.SubjectState.{SubjectState}
use Rattle.subject_model.specs.Alone.{bytes_in}
use Rattle.subject_model.specs.System.{System, state_of}
use Rattle.subject_model.specs.Clock.{run_of}

-- the five lines of a subject's final state
abbrev pub state_text : List ℕ → Option SubjectState → List ℕ
state_text name None = []
state_text name (Some s) = rows_text name s

abbrev pub subject_text : System → Subject → List ℕ
subject_text y s = state_text s.name (state_of y s.name)

abbrev pub thing_text : System → Thing → List ℕ
thing_text y x = region_text (thing_tag x) (is_device x) (sha256 (bytes_in y.things x))

-- the final lines: each subject's state, a digest of each region by number, and one of each device's memory by number
unfoldable pub final_text : Source → System → List ℕ
final_text p y = flat_map (subject_text y) p.subjects ++ flat_map (thing_text y) (things_of p)

-- **the text** of a run: all lines of turns in their order, then the final lines
unfoldable pub trace_of : Source → Held → DeviceRecord → List ℕ
trace_of p files r = flat_map turn_text (run_of p files r).lines ++ final_text p (run_of p files r).state
