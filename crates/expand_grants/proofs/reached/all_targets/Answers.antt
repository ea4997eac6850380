use Rattle.std.proofs.Common.{◌++◌, map, refl, sym, ap, ◌∙◌}
use Rattle.expand_grants.specs.Raising.{subject_targets, target_reached}
use Rattle.expand_grants.proofs.Mapped.{flat_more}
use Rattle.expand_grants.proofs.reached.all_targets.Goals as goal

pub loop-index-preserved : goal.loop-index-preserved
loop-index-preserved c =
    let s = c.index-subjects-index.result in
    c.in_ok-note_targets.ensures
    ∙ ap (λ ts. c.loop-index.noted.items ++ map (target_reached c.loop-index.index) ts) c.items.ensures
    ∙ ap (λ xs. xs ++ subject_targets (c.loop-index.index, s)) c.loop-index.invariant
    ∙ sym (flat_more subject_targets c.args.subjects.now c.args.subjects.now c.loop-index.index s s refl c.loop-index-test.true c.index-subjects-index.is)
