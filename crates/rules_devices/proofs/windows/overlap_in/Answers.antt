-- The first two that overlap, told by the domain.
use Rattle.std.proofs.Common.{map, ap, ◌∙◌}
use Rattle.std.specs.Prelude.{option_map}
use Rattle.policy_lawful.specs.Offences.{two}
use Rattle.rules_devices.specs.Windows.{mapping_extent}
use Rattle.rules_devices.proofs.WindowsByExtent.{overlap_named}
use Rattle.rules_devices.proofs.windows.overlap_in.Goals as goal

pub returns : goal.returns
returns c =
    c.second_of.ensures
    ∙ ap (option_map (λ o. two c.args.domain.now.name o.second)) c.in_ok-overlap.ensures
    ∙ overlap_named c.args.domain.now.name (map (mapping_extent c.args.regions.now.items.now) c.args.domain.now.memory)
