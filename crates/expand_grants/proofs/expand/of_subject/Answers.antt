use Rattle.std.proofs.Common.{◌≤◌, [], map, sym, ap, subst, ◌∙◌}
use Rattle.std.specs.Option.{option_map_or}
use Rattle.std.specs.List.{count_by, flat_map}
use Rattle.policy_lawful.specs.Views.{views_of}
use Rattle.expand_grants.specs.ByIndex.{ranges_at}
use Rattle.expand_grants.specs.Grants.{entry_raised, is_way}
use Rattle.expand_grants.specs.Kept.{is_lower_view}
use Rattle.expand_grants.specs.Numbered.{numbered_view}
use Rattle.expand_grants.specs.Ordered.{in_order}
use Rattle.expand_grants.specs.Resources.{msr_grant}
use Rattle.expand_grants.proofs.expand.of_subject.Goals as goal

pub returns : goal.returns
returns c =
    let r = c.args.policy.now in
    let kept = c.requires.kept in
    let entries = c.in_ok-entries_of.ensures in
    record {
      windows = c.in_ok-windows_of.ensures ∙ ap (λ vs. map (numbered_view r c.args.subject.now.name) (in_order is_lower_view vs)) (c.views.ensures ∙ ap (λ o. option_map_or (views_of r) o []) c.requires.at) ∙ kept.windows;
      ports = c.in_ok-port_ranges.ensures ∙ (λ k. flat_map (ranges_at (c.devices.ensures.value k)) (c.items.ensures k)) ∙ sym kept.ports;
      msrs = c.in_ok-msr_grants.ensures ∙ ap (map msr_grant) c.items-2.ensures;
      events = λ way. ap (λ es. entry_raised r es way) entries ∙ kept.events way;
      once = λ way. subst (λ es. count_by (λ e. is_way way e.way) es ≤ 1) (sym entries) (kept.once way);
    }
