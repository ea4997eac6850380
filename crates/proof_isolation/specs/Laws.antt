-- The laws of isolation (this project's own).
use Rattle.std.specs.Prelude.{◌≡◌, ℕ, List, false}
use Rattle.policy_flows.specs.Flows.{IsClosed, closure_of, is_member}
use Rattle.policy_lawful.specs.Contents.{Held}
use Rattle.policy_lawful.specs.Lawful.{IsLawful}
use Rattle.policy_lawful.specs.source.Source.{Source}
use Rattle.policy_lawful.specs.source.Subject.{Subject}
use Rattle.proof_views.specs.Members.{AreListed, HasTurn}
use Rattle.subject_model.specs.DeviceRecord.{DeviceRecord}
use Rattle.subject_model.specs.Slot.{Slot}
use Rattle.subject_model.specs.System.{System, system_turn}
use Rattle.proof_isolation.specs.Alike.{AreAlike}
use Rattle.proof_isolation.specs.TwoSystems.{DependOnMembersAlone}
use Rattle.proof_isolation.specs.TwoTexts.{PrintsMembersAlike}

-- a turn that no member of a closed set has changes nothing that a member has or sees, where each group's active member is one that the
-- group lists
abbrev pub OutsidersChangeNothing : Type 0
OutsidersChangeNothing =
    (p : Source) (members : List (List ℕ)) (cpu tick : ℕ) (y : System) → IsLawful p → IsClosed p members → AreListed p y.active
    → ((slot : Slot) (name : List ℕ) (u : Subject) → HasTurn p cpu tick y slot name u → is_member members u ≡ false)
    → AreAlike p p members y (system_turn p cpu tick y).state

-- what members of a closed set see depends on members alone
abbrev pub MembersSeeTheSame : Type 0
MembersSeeTheSame = (p : Source) (members : List (List ℕ)) → IsLawful p → IsClosed p members → DependOnMembersAlone p members

-- so does what the set of each subject sees
abbrev pub SetsOfFlowsAreEnough : Type 0
SetsOfFlowsAreEnough = (p : Source) (name : List ℕ) → IsLawful p → DependOnMembersAlone p (closure_of p name)

-- and so does all that is printed of members
abbrev pub MembersPrintTheSame : Type 0
MembersPrintTheSame = (p : Source) (f : Held) (r : DeviceRecord) → IsLawful p → PrintsMembersAlike p f r
