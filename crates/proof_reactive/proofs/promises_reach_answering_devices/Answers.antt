use Rattle.proof_reactive.proofs.Loops.{promised_prints, promised_sets, strategies_print, strategies_see}
use Rattle.proof_reactive.proofs.promises_reach_answering_devices.Goals as goal

pub returns-clause-prints : goal.returns-clause-prints
returns-clause-prints c = promised_prints

pub returns-clause-prints_back : goal.returns-clause-prints_back
returns-clause-prints_back c = strategies_print

pub returns-clause-sees : goal.returns-clause-sees
returns-clause-sees c = promised_sets

pub returns-clause-sees_back : goal.returns-clause-sees_back
returns-clause-sees_back c = strategies_see
