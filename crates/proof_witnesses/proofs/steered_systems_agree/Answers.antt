use Rattle.proof_witnesses.proofs.Steered.{agree, alike, closed, lawful, line_writes_ring, reach}
use Rattle.proof_witnesses.proofs.steered_systems_agree.Goals as goal

pub returns : goal.returns
returns c = record { lawful = lawful; closed = closed; reached = reach; written = line_writes_ring; agree = agree; alike = alike }
