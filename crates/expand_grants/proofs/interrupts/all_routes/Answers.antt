use Rattle.std.proofs.Common.{◌++◌, refl, sym, ap, ◌∙◌}
use Rattle.std.specs.List.{flat_map}
use Rattle.expand_grants.specs.ByIndex.{device_routes, subject_routes}
use Rattle.expand_grants.proofs.Mapped.{flat_more}
use Rattle.expand_grants.proofs.interrupts.all_routes.Goals as goal

pub loop-index-preserved : goal.loop-index-preserved
loop-index-preserved c =
    let s = c.index-subjects-index.result in
    c.in_ok-add_devices.ensures
    ∙ ap (λ us. c.loop-index.routes.items ++ flat_map (device_routes c.loop-index.index) us) c.items.ensures
    ∙ ap (λ xs. xs ++ subject_routes (c.loop-index.index, s)) c.loop-index.invariant
    ∙ sym (flat_more subject_routes c.args.subjects.now c.args.subjects.now c.loop-index.index s s refl c.loop-index-test.true c.index-subjects-index.is)
