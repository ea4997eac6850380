use Rattle.muen_top.proofs.Judging.{are_of_files}
use Rattle.dma_top.proofs.Ending.{fit, not_fit, not_read, not_sound}
use Rattle.dma_top.proofs.verify.verify.Goals as goal

-- nothing is read that can be judged
pub returns-in-Err-clause-came : goal.returns-in-Err-clause-came
returns-in-Err-clause-came g c =
    rw c.told_as.ensures (not_read c.args.image.now c.args.policy.now c.args.tables.now _ _ _ _ _ c.read_to_judge.ensures.held c.in-Err.error c.in-Err.ensures.err)

pub judge_image-requires : goal.judge_image-requires
judge_image-requires g c = are_of_files c.args.image.now c.args.policy.now _ _ _ c.in-Ok.read.parts c.in-Ok.read.policy c.in-Ok.read.things c.in-Ok.ensures.ok

-- the image isn't sound
pub returns-in-Err-judge_image-clause-came : goal.returns-in-Err-judge_image-clause-came
returns-in-Err-judge_image-clause-came g c =
    not_sound c.args.image.now c.args.policy.now c.args.tables.now _ _ _ _ c.in-Ok.read.parts c.in-Ok.read.policy c.in-Ok.read.things c.in-Ok.ensures.ok _ c.read_to_judge.ensures.held
    c.in-Err-judge_image.error c.in-Err-judge_image.ensures.err

-- the tables fit
pub returns-in-Ok-judge_tables-clause-came : goal.returns-in-Ok-judge_tables-clause-came
returns-in-Ok-judge_tables-clause-came g c =
    fit c.args.image.now c.args.policy.now c.args.tables.now _ _ _ _ c.in-Ok.read.parts c.in-Ok.read.policy c.in-Ok.read.things c.in-Ok.ensures.ok c.in-Ok-judge_image.accepted c.in-Ok-judge_image.ensures.ok _ _
    c.read_to_judge.ensures.held c.judge_tables.ensures.held _ c.in-Ok-judge_tables.ensures.ok _ c.put_sound.result c.put_sound.ensures

-- they don't, or aren't read
pub returns-clause-came : goal.returns-clause-came
returns-clause-came g c =
    not_fit c.args.image.now c.args.policy.now c.args.tables.now _ _ _ _ c.in-Ok.read.parts c.in-Ok.read.policy c.in-Ok.read.things c.in-Ok.ensures.ok c.in-Ok-judge_image.accepted c.in-Ok-judge_image.ensures.ok _ _
    c.read_to_judge.ensures.held c.judge_tables.ensures.held _ c.in-Err-judge_tables.error c.in-Err-judge_tables.ensures.err
