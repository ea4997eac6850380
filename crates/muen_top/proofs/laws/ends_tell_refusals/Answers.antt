use Rattle.muen_top.proofs.Came.{ends_tell}
use Rattle.muen_top.proofs.laws.ends_tell_refusals.Goals as goal
use Rattle.muen_top.specs.declared.status.Status.TheVariants as statuses

pub returns-clause-policy : goal.returns-clause-policy
returns-clause-policy c answer err err' ends = ends_tell err err' answer statuses.PolicyRefused ends

pub returns-clause-file : goal.returns-clause-file
returns-clause-file c answer err err' ends = ends_tell err err' answer statuses.FileMissing ends

pub returns-clause-image : goal.returns-clause-image
returns-clause-image c answer err err' ends = ends_tell err err' answer statuses.ImageRefused ends

pub returns-clause-record : goal.returns-clause-record
returns-clause-record c answer err err' ends = ends_tell err err' answer statuses.RecordRefused ends

pub returns-clause-dma : goal.returns-clause-dma
returns-clause-dma c answer err err' ends = ends_tell err err' answer statuses.DmaRefused ends

pub returns-clause-verdict : goal.returns-clause-verdict
returns-clause-verdict c answer err err' ends = ends_tell err err' answer statuses.NotSound ends
