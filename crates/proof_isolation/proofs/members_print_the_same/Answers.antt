use Rattle.proof_isolation.proofs.TwoEnds.{printed_alike}
use Rattle.proof_isolation.proofs.TwoTexts.{all_below}
use Rattle.proof_isolation.proofs.members_print_the_same.Goals as goal

pub returns-clause-printed : goal.returns-clause-printed
returns-clause-printed c = printed_alike

pub returns-clause-ends : goal.returns-clause-ends
returns-clause-ends c = all_below
