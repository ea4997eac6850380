-- The files of all things were taken.
use Rattle.std.proofs.Common.{ap, arith, subst, take_all, ◌∙◌}
use Rattle.std.specs.List.{flat_map}
use Rattle.policy_lawful.specs.NameHashes.{AreDigested}
use Rattle.policy_lawful.specs.Resolution.{source_of}
use Rattle.muen_build.specs.Accepting.{thing_content}
use Rattle.muen_build.specs.FileNames.{content_file_of, named_files}
use Rattle.muen_build.proofs.OfThings.{all_named}
use Rattle.muen_build.proofs.file_hash.hash_of_files.Goals as goal

pub returns : goal.returns
returns c =
    let things = c.things-thing-items.result.now in
    let all = ap (flat_map (λ t. content_file_of (thing_content c.args.policy.now t))) (take_all c.loop-thing.thing-index things (omega (arith, c.loop-thing-test.false))) in
    c.hash.ensures (named_files (source_of c.args.policy.now)) (subst (AreDigested c.loop-thing.digest) (all ∙ all_named c.args.policy.now things c.things-thing-items.ensures.declared) c.loop-thing.invariant)
