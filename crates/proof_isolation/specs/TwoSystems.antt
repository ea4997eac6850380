-- What a law says of a set of subjects against every second system (this project's own).
use Rattle.std.specs.Prelude.{◌≡◌, ℕ, true, List, min, Some, slice_get}
use Rattle.policy_flows.specs.Flows.{IsClosed, is_member}
use Rattle.policy_lawful.specs.Contents.{Held}
use Rattle.policy_lawful.specs.Lawful.{IsLawful}
use Rattle.policy_lawful.specs.source.Source.{Source}
use Rattle.policy_lawful.specs.source.Subject.{Subject}
use Rattle.subject_model.specs.DeviceRecord.{DeviceRecord}
use Rattle.subject_model.specs.System.{subject_named}
use Rattle.subject_model.specs.View.{Seen, view_of}
use Rattle.proof_isolation.specs.Agree.{Agree}
use Rattle.proof_isolation.specs.Alike.{AreSameViews}

-- what members see depends on members alone: in every second lawful policy in which the set is closed, where the two with any files
-- and records agree on what reaches members, each member has at each tick below both ends the same view in both
abbrev pub DependOnMembersAlone : Source → List (List ℕ) → Type 0
DependOnMembersAlone p members =
    (q : Source) (f g : Held) (r t : DeviceRecord) → IsLawful q → IsClosed q members → Agree members p q f g r t (min r.end t.end)
    → (s w : Subject) → is_member members s ≡ true → subject_named p s.name ≡ Some s → subject_named q s.name ≡ Some w
    → (n : ℕ) (a b : Seen) → slice_get (view_of p f r s) n ≡ Some a → slice_get (view_of q g t w) n ≡ Some b → AreSameViews a b
