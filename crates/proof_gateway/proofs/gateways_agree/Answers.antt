use Rattle.std.proofs.Common.{[], ◌∷◌}
use Rattle.proof_gateway.proofs.Agree.{agree}
use Rattle.proof_gateway.proofs.Lawful.{closed, closed_with_more, lawful, lawful_with_more, set_of_cipher, set_with_more}
use Rattle.proof_gateway.specs.Gateway.{black_code, halt_code, on_pad, pad}
use Rattle.proof_gateway.proofs.gateways_agree.Goals as goal

pub returns-clause-lawful : goal.returns-clause-lawful
returns-clause-lawful c = (lawful black_code, lawful halt_code, lawful_with_more)

pub returns-clause-set : goal.returns-clause-set
returns-clause-set c = (set_of_cipher black_code, set_of_cipher halt_code, set_with_more)

pub returns-clause-closed : goal.returns-clause-closed
returns-clause-closed c = (closed black_code, closed halt_code, closed_with_more)

pub returns-clause-another : goal.returns-clause-another
returns-clause-another c = agree [] [] [] [] black_code halt_code

pub returns-clause-more : goal.returns-clause-more
returns-clause-more c = agree [] (pad ∷ []) [] (on_pad ∷ []) black_code black_code
