use Rattle.proof_reactive.specs.Echo.{halts, sets, talker_code}
use Rattle.proof_reactive.proofs.Echo.{talker_ports}
use Rattle.proof_reactive.proofs.Gossip.{all_else, halting, setting, views_differ}
use Rattle.proof_reactive.proofs.hearing_others_breaks_it.Goals as goal

pub returns-clause-halting : goal.returns-clause-halting
returns-clause-halting c = λ f. halting f (talker_ports talker_code halts sets)

pub returns-clause-setting : goal.returns-clause-setting
returns-clause-setting c = λ g. setting g (talker_ports talker_code sets halts)

pub returns-clause-agree : goal.returns-clause-agree
returns-clause-agree c = all_else

pub returns-clause-differ : goal.returns-clause-differ
returns-clause-differ c = views_differ
