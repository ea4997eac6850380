-- What a command that reads files comes to.
use Rattle.std.specs.Prelude.{◌≡◌, ℕ, List, [], Option, Some, Ok}
use Rattle.dma_emit.specs.Placed.{Placement}
use Rattle.flow_report.specs.FlowText.{flow_text_of}
use Rattle.map_report.specs.MapText.{map_text_of}
use Rattle.map_report.specs.Placement.{placement_of}
use Rattle.muen_outside.specs.States.{History, Look}
use Rattle.muen_outside.specs.Store.{Store}
use Rattle.muen_run.specs.RunText.{run_text}
use Rattle.policy_lawful.specs.Resolution.{Resolution, source_of}
use Rattle.policy_lawful.specs.source.Source.{Source}
use Rattle.muen_top.specs.Answers.{Answer, answer_of, prints}
use Rattle.muen_top.specs.Asked.{Asks}
use Rattle.muen_top.specs.Calls.{StopsFor}
use Rattle.muen_top.specs.Commands.{Command, build, run, map, flows}
use Rattle.muen_top.specs.FilesSeen.{OverLooks, Saw}
use Rattle.muen_top.specs.declared.outcome.CommandError.{CommandError}
use Rattle.muen_top.specs.declared.run.Loaded.{Loaded}

-- a command has looked at its files, and this is so of the looks
pub record HasRead (command : Command) (held : Option Store) (old new : History) (Says : List Look → Type 0) : Type 0 where
  pub looks : List Look
  pub saw : Saw held old new looks
  pub asked : Asks (Some command) looks
  pub says : Says looks

-- over every store that agrees with the looks this is the command's answer
abbrev pub IsAnswered : Command → Option Store → History → History → Answer → Type 0
IsAnswered command held old new answer = HasRead command held old new (λ looks. OverLooks looks (λ m. answer_of m (Some command) ≡ answer))

-- .. it is the run of what was loaded
abbrev pub IsAnsweredByRun : Command → Option Store → History → History → Loaded → Type 0
IsAnsweredByRun command held old new x = IsAnswered command held old new (prints (run_text x.tables x.parts x.input))

-- .. the map of this policy, whose regions lie where its placement has them
pub record IsMapOf (policy : List ℕ) (held : Option Store) (old new : History) (p : Source) : Type 0 where
  pub addresses : List ℕ
  pub placement : placement_of p ≡ Ok addresses
  pub answered : IsAnswered (map policy) held old new (prints (map_text_of p addresses))

-- .. of a policy that was placed
abbrev pub IsAnsweredByMap : List ℕ → Option Store → History → History → Placement → Type 0
IsAnsweredByMap policy held old new x = IsMapOf policy held old new (source_of x.expanded.lawful)

-- .. the flows of this policy
abbrev pub IsAnsweredByFlows : List ℕ → Option Store → History → History → Resolution → Type 0
IsAnsweredByFlows policy held old new r = IsAnswered (flows policy) held old new (prints (flow_text_of (source_of r)))

-- nothing is printed or written, as the command's answer says
abbrev pub StopsCommand : Command → Option Store → History → History → CommandError → Type 0
StopsCommand command held old new error = HasRead command held old new (λ looks. StopsFor (λ m. answer_of m (Some command)) looks [] error)

-- .. whatever name the command is given
abbrev pub StopsEach : (List ℕ → Command) → Option Store → History → History → CommandError → Type 0
StopsEach command held old new error = (name : List ℕ) → StopsCommand (command name) held old new error

-- .. `run`, whatever record it is given
abbrev pub StopsRun : List ℕ → Option (List ℕ) → Option Store → History → History → CommandError → Type 0
StopsRun image dma held old new error = StopsEach (λ inputs. run image inputs dma) held old new error

-- .. `build`, whatever it is to write
abbrev pub StopsBuild : List ℕ → Option Store → History → History → CommandError → Type 0
StopsBuild policy held old new error = (image : List ℕ) (dma : Option (List ℕ)) → StopsCommand (build policy image dma) held old new error
