use Rattle.proof_reactive.proofs.Echo.{gives_alike}
use Rattle.proof_reactive.proofs.EchoLoops.{cards_looped}
use Rattle.proof_reactive.proofs.Lent.{gives_back}
use Rattle.proof_reactive.proofs.a_card_with_a_ring_is_in_the_loop.Goals as goal

pub returns-clause-looped : goal.returns-clause-looped
returns-clause-looped c = cards_looped

pub returns-clause-writes : goal.returns-clause-writes
returns-clause-writes c = gives_alike

pub returns-clause-reacts : goal.returns-clause-reacts
returns-clause-reacts c = gives_back
