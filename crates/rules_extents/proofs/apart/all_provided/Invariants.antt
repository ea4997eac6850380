-- What is kept for the components so far are the ranges of what they provide.
use Rattle.std.proofs.Common.{◌≡◌, length}
use Rattle.rules_extents.specs.Parted.{AreProvided}
use Rattle.rules_extents.proofs.apart.all_provided.Given as goal

abbrev pub invariant-loop-component : goal.invariant-loop-component
invariant-loop-component l = record {
  room : length l.all.items ≡ l.component-index;
  provided : AreProvided l.all.items l.components;
}
