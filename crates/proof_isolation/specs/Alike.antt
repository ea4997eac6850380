-- Systems that are alike for some of their subjects (this project's own): what these have themselves, and what reaches them.
use Rattle.std.specs.Prelude.{◌≡◌, ℕ, ◌==◌, Bool, false, true, List, Some, option_and_then, slice_get}
use Rattle.std.specs.List.{list_any}
use Rattle.std.specs.Option.{option_map_or}
use Rattle.std.specs.Str.{bytes_eq}
use Rattle.subject_model.specs.Resources.{ports_of}
use Rattle.policy_flows.specs.Flows.{is_member}
use Rattle.policy_lawful.specs.Frames.{group_of}
use Rattle.policy_lawful.specs.Thing.{Thing, state}
use Rattle.policy_lawful.specs.Windows.{windows_of}
use Rattle.policy_lawful.specs.source.Source.{Source}
use Rattle.policy_lawful.specs.source.Subject.{Subject}
use Rattle.subject_model.specs.Alone.{thing_in}
use Rattle.subject_model.specs.System.{System, is_shown, named, subject_named}
use Rattle.subject_model.specs.View.{Seen}

-- it is the active member of its group
abbrev pub is_active : Source → System → List ℕ → Bool
is_active p y name = option_map_or (λ member. bytes_eq member name) (option_and_then (λ g. slice_get y.active g) (group_of p name)) false

-- for a subject of the first policy, under its name in both
pub record AreAlikeFor (p q : Source) (s : Subject) (y z : System) : Type 0 where
  pub page : thing_in y.things (state s.name) ≡ thing_in z.things (state s.name)
  pub msrs : named y.msrs s.name ≡ named z.msrs s.name
  pub now : named y.now s.name ≡ named z.now s.name
  pub later : named y.later s.name ≡ named z.later s.name
  pub active : is_active p y s.name ≡ is_active q z s.name
  pub shown : (x : Thing) → is_shown (windows_of p s) x ≡ true → thing_in y.things x ≡ thing_in z.things x
  pub ports : (n : ℕ) → list_any (λ m. m == n) (ports_of p s) ≡ true → slice_get y.ports n ≡ slice_get z.ports n

-- for all of these
abbrev pub AreAlike : Source → Source → List (List ℕ) → System → System → Type 0
AreAlike p q members y z = (s : Subject) → is_member members s ≡ true → subject_named p s.name ≡ Some s → AreAlikeFor p q s y z

-- what a subject sees in a tick of two runs: the same line, and the same own state, MSRs, pending events and bytes of each thing
pub record AreSameViews (v w : Seen) : Type 0 where
  pub line : v.line ≡ w.line
  pub state : v.state ≡ w.state
  pub msrs : v.msrs ≡ w.msrs
  pub now : v.now ≡ w.now
  pub later : v.later ≡ w.later
  pub things : (x : Thing) → thing_in v.things x ≡ thing_in w.things x
