-- What is known while they are gone through.
use Rattle.muen_build.specs.Accepting.{given_files}
use Rattle.policy_lint.proofs.ContentsTold.{Telling}
use Rattle.policy_lint.proofs.contents.refused_contents.Given as goal

abbrev pub invariant-loop-thing : goal.invariant-loop-thing
invariant-loop-thing g l = Telling l.policy (given_files l.given) l.thing-items (g.F.Files.held l.fn.files) (g.F.Files.held l.files) (g.F.Files.history l.fn.files) (g.F.Files.history l.files) l.seen l.refusals l.thing-index
