-- What laws of runs of the abstract system speak of (this project's own).
use Rattle.std.specs.Prelude.{◌≡◌, ℕ, List, Some}
use Rattle.policy_lawful.specs.Thing.{state as state_thing}
use Rattle.subject_model.specs.StatePage.{page_bytes}
use Rattle.subject_model.specs.Alone.{thing_in}
use Rattle.subject_model.specs.System.{System}
use Rattle.subject_model.specs.SubjectState.{SubjectState}

-- the state page of the subject with this name is that of a state, and all else on it 0
pub record IsStatePage (y : System) (name : List ℕ) : Type 0 where
  pub state : SubjectState
  pub is : thing_in y.things (state_thing name) ≡ Some (page_bytes state)
