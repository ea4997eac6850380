-- What is known while they are gone through.
use Rattle.muen_build.specs.Accepting.{given_files}
use Rattle.muen_build.proofs.Checking.{Passing}
use Rattle.muen_build.proofs.contents.read_contents.Given as goal

abbrev pub invariant-loop-thing : goal.invariant-loop-thing
invariant-loop-thing g l = Passing l.policy (given_files l.given) l.thing-items (g.F.Files.held l.fn.files) (g.F.Files.held l.files) (g.F.Files.history l.fn.files) (g.F.Files.history l.files) l.found l.thing-index
