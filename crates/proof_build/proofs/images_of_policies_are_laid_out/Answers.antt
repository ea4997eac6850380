use Rattle.proof_build.proofs.Sound.{has_ascending, has_kernel_spans, has_leaves, has_paths, has_spans, has_spare, has_types}
use Rattle.proof_build.proofs.images_of_policies_are_laid_out.Goals as goal

pub returns-clause-spans : goal.returns-clause-spans
returns-clause-spans c = has_spans

pub returns-clause-kernel : goal.returns-clause-kernel
returns-clause-kernel c = has_kernel_spans

pub returns-clause-paths : goal.returns-clause-paths
returns-clause-paths c = has_paths

pub returns-clause-ascending : goal.returns-clause-ascending
returns-clause-ascending c = has_ascending

pub returns-clause-spare : goal.returns-clause-spare
returns-clause-spare c = has_spare

pub returns-clause-leaves : goal.returns-clause-leaves
returns-clause-leaves c = has_leaves

pub returns-clause-types : goal.returns-clause-types
returns-clause-types c = has_types
