use Rattle.std.proofs.Common.{ap}
use Rattle.std.specs.List.{flat_map}
use Rattle.proof_reactive.specs.Echo.{answer_in}
use Rattle.proof_reactive.proofs.Echo.{closed, lawful}
use Rattle.proof_reactive.proofs.EchoLoops.{echoes_looped}
use Rattle.proof_reactive.proofs.Reacts.{reacts}
use Rattle.proof_reactive.proofs.an_answering_device_is_in_the_loop.Goals as goal

pub returns-clause-lawful : goal.returns-clause-lawful
returns-clause-lawful c = λ own code. (lawful own code, closed own code)

pub returns-clause-looped : goal.returns-clause-looped
returns-clause-looped c = echoes_looped

pub returns-clause-answers : goal.returns-clause-answers
returns-clause-answers c = λ size pc port heard is. ap (flat_map (answer_in 5)) is

pub returns-clause-reacts : goal.returns-clause-reacts
returns-clause-reacts c = reacts
