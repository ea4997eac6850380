-- What is known while the indexes are gone through.
use Rattle.std.proofs.Common.{◌≡◌, get_or, map, take}
use Rattle.image_checks.proofs.SpansOfNumbers.{no_span}
use Rattle.image_verify.proofs.windows.thing_addresses.Given as goal

abbrev pub invariant-loop-index : goal.invariant-loop-index
invariant-loop-index l = l.addresses.items ≡ map (λ k. (get_or l.spans k no_span).address) (take l.index-index l.index-items)
