use Rattle.proof_runs.proofs.ImageRuns.{image_bench_is, image_runs}
use Rattle.proof_runs.proofs.sound_images_run_as_their_systems.Goals as goal

pub returns-clause-trace : goal.returns-clause-trace
returns-clause-trace c = image_runs

pub returns-clause-bench : goal.returns-clause-bench
returns-clause-bench c = image_bench_is
