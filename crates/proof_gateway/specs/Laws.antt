-- The law of two systems at the gateway (this project's own).
use Rattle.std.specs.Prelude.{◌≡◌, true, Some}
use Rattle.policy_lawful.specs.Contents.{Held}
use Rattle.policy_lawful.specs.source.Source.{Source}
use Rattle.policy_lawful.specs.source.Subject.{Subject}
use Rattle.proof_isolation.specs.Flows.{is_member}
use Rattle.proof_isolation.specs.TwoTexts.{ArePrintedAlike}
use Rattle.proof_gateway.specs.Gateway.{gateway, members, network}
use Rattle.subject_model.specs.System.{subject_named}

-- what is printed of each member is the same in the gateway and in this system, with any files of both
abbrev pub PrintsMembersAsTheGateway : Source → Type 0
PrintsMembersAsTheGateway q =
    (f g : Held) (s w : Subject) → is_member members s ≡ true → subject_named gateway s.name ≡ Some s → subject_named q s.name ≡ Some w
    → ArePrintedAlike members gateway q f g network network s w
