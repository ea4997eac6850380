use Rattle.std.proofs.Common.{◌≡◌, ◌++◌, map, ap, subst, ◌∙◌}
use Rattle.std.specs.Prelude.{IfOk, IsSomeAnd}
use Rattle.policy_lawful.specs.Rules.{first_overlap}
use Rattle.policy_lawful.specs.Views.{view_extent}
use Rattle.rules_extents.specs.Parted.{provided_extent, provided_to}
use Rattle.rules_extents.proofs.Parted.{overlap_parted, told_apart}
use Rattle.rules_extents.specs.Shared.{StayApart}
use Rattle.rules_extents.proofs.apart.of_subject.Goals as goal

pub returns-then-branch : goal.returns-then-branch
returns-then-branch c =
    let front = c.deref.ensures.value ∙ c.in_ok-front.ensures in
    let behind = c.deref-2.ensures.value ∙ c.in_ok-behind.ensures in
    let kept = provided_to c.args.provided.now c.args.subject.now.component in
    told_apart c.args.policy.now c.args.subject.now c.args.front.now c.args.behind.now c.requires.front c.requires.behind c.args.provided.now c.requires.provided
    (subst (λ es. IsSomeAnd kept (λ ranges. StayApart ranges (map view_extent c.args.front.now) es)) behind
    (subst (λ es. IsSomeAnd kept (λ ranges. StayApart ranges es c.deref-2.result.now)) front
    (c.in_ok-are_told_apart.ensures c.if-branch.true)))

pub returns : goal.returns
returns c =
    let r = c.args.policy.now in
    let s = c.args.subject.now in
    let front = c.deref-3.ensures.value ∙ c.in_ok-front.ensures in
    let behind = c.deref-4.ensures.value ∙ c.in_ok-behind.ensures in
    let all = c.deref-5.ensures.value ∙ c.in_ok-extents.ensures ∙ (λ i. front i ++ map provided_extent (c.provided_by.ensures i) ++ behind i) in
    subst (λ o. IfOk c.first_overlap.result (λ found. found ≡ o)) (ap first_overlap all ∙ overlap_parted r s c.args.front.now c.args.behind.now c.requires.front c.requires.behind) c.first_overlap.ensures
