-- The bytes of all that is placed were put there.
use Rattle.std.proofs.Common.{ap, arith, map, take_all, ◌∙◌}
use Rattle.muen_build.specs.Accepting.{given_files, thing_content}
use Rattle.muen_build.specs.Reading.{content_read}
use Rattle.muen_build.proofs.OfThings.{all_read}
use Rattle.muen_build.proofs.things.things.Goals as goal

pub returns-clause-things : goal.returns-clause-things
returns-clause-things c =
    let things = c.placed_things-thing-items.result.now in
    let all = take_all c.loop-thing.thing-index things (omega (arith, c.loop-thing-test.false)) in
    c.of.ensures
    ∙ c.loop-thing.invariant
    ∙ ap (map (λ t. content_read (given_files c.args.given.now) c.args.found.now t.size (thing_content c.args.policy.now t))) all
    ∙ all_read (given_files c.args.given.now) c.args.found.now c.args.policy.now things c.placed_things-thing-items.ensures.declared
