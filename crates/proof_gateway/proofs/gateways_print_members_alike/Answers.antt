use Rattle.proof_gateway.proofs.TwoGateways.{with_another, with_more, with_program}
use Rattle.proof_gateway.proofs.gateways_print_members_alike.Goals as goal

pub returns-clause-another : goal.returns-clause-another
returns-clause-another c = with_another

pub returns-clause-program : goal.returns-clause-program
returns-clause-program c = with_program

pub returns-clause-more : goal.returns-clause-more
returns-clause-more c = with_more
