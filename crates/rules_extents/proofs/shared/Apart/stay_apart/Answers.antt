use Rattle.std.proofs.Common.{◌≡◌, ◌++◌, None, subst, ◌∙◌}
use Rattle.std.specs.List.{All}
use Rattle.policy_lawful.specs.Rules.{first_overlap}
use Rattle.rules_extents.specs.AddressRange.{IsApart, address_range_of}
use Rattle.rules_extents.proofs.Beside.{none_at_all, stay_apart}
use Rattle.rules_extents.proofs.shared.Apart.stay_apart.Goals as goal

pub returns : goal.returns
returns c clear =
    let ranges = c.self.inside.ranges.items in
    let apart : first_overlap (c.args.front.now ++ c.args.behind.now) ≡ None =
    subst (λ es. first_overlap es ≡ None) (c.deref.ensures.value ∙ c.in_ok-others.ensures) (none_at_all (first_overlap c.deref.result.now) _ c.in_ok-overlap.ensures c.if-branch.false) in
    let all = subst (λ es. All (λ e. All (λ s. IsApart s (address_range_of e)) ranges) es) (c.deref-3.ensures.value ∙ c.in_ok-others.ensures) (subst (λ rs. All (λ e. All (λ s. IsApart s (address_range_of e)) rs) c.deref-3.result.now) c.deref-2.ensures.value (c.are_clear.ensures clear)) in
    rw (← c.self.view_is) (stay_apart ranges c.args.front.now c.args.behind.now c.self.invariant.1 apart all)
