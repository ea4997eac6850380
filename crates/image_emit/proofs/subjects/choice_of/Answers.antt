use Rattle.std.proofs.Common.{◌≡◌, ◌∙◌, sym, ap, position, Some}
use Rattle.std.specs.Prelude.{option_and_then}
use Rattle.std.specs.Str.{bytes_eq}
use Rattle.image_emit.proofs.subjects.choice_of.Goals as goal

pub returns-in-None-region_named : goal.returns-in-None-region_named
returns-in-None-region_named c =
    let chosen : c.args.policy.now.scheduling.tau0 ≡ Some c.in-Some.chooser = ap (λ s. s.tau0) (sym c.scheduling.ensures.value) ∙ c.in-Some.is in
    sym (ap (λ o. option_and_then (λ t. position (λ m. bytes_eq m.name t.region) c.args.policy.now.memory) o) chosen
    ∙ ap (position (λ m. bytes_eq m.name c.in-Some.chooser.region)) (sym c.memory.ensures.value)
    ∙ sym c.region_named.ensures
    ∙ c.in-None-region_named.is)
