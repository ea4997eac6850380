-- The bytes of the things so far were put there.
use Rattle.std.proofs.Common.{◌≡◌, map, take}
use Rattle.muen_build.specs.Accepting.{given_files, thing_content}
use Rattle.muen_build.specs.Reading.{content_read}
use Rattle.muen_build.proofs.things.things.Given as goal

abbrev pub invariant-loop-thing : goal.invariant-loop-thing
invariant-loop-thing l = l.things.items ≡ map (λ t. content_read (given_files l.given) l.found t.size (thing_content l.policy t)) (take l.thing-index l.thing-items)
