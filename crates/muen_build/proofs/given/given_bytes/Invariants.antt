-- What is left is searched as all is.
use Rattle.std.proofs.Common.{◌≡◌, drop}
use Rattle.muen_build.specs.Accepting.{given_files}
use Rattle.muen_outside.specs.Store.{find_bytes}
use Rattle.muen_build.proofs.given.given_bytes.Given as goal

abbrev pub invariant-loop-g : goal.invariant-loop-g
invariant-loop-g l = find_bytes l.file (given_files (drop l.g-index l.given)) ≡ find_bytes l.file (given_files l.given)
