-- What is known while the pages are gone through.
use Rattle.std.proofs.Common.{◌≡◌, ◌+◌, ◌/◌, ◌++◌, map}
use Rattle.muen_num.specs.Range.{numbers_below}
use Rattle.image_verify.proofs.pages.push_pages.Given as goal

abbrev pub invariant-loop-k : goal.invariant-loop-k
invariant-loop-k l = l.pages.items ≡ l.fn.pages.items ++ map (λ k. l.span.address / 4096 + k) (numbers_below l.k)
