use Rattle.std.proofs.Common.{◌≡◌, Some, ap, map, subst, sym, ◌∙◌}
use Rattle.std.specs.List.Sorted.{IsPermutation}
use Rattle.policy_lawful.specs.Dma.{domain_of}
use Rattle.policy_lawful.specs.Resolution.{source_of}
use Rattle.dma_map.specs.DmaMapText.{window_shown}
use Rattle.dma_map.proofs.Rows.{in_order_shown, none_rising}
use Rattle.dma_map.proofs.windows.windows_shown.Goals as goal

pub returns-in-None : goal.returns-in-None
returns-in-None c =
    let x = c.args.placed.now in
    let is : c.resolved-policy.result.now ≡ x.expanded.lawful = c.resolved-policy.ensures.value ∙ c.lawful.ensures ∙ ap (λ x. x.lawful) c.expanded.ensures.value in
    let none = ap (λ r. domain_of (source_of r) c.args.device) (sym is) ∙ sym c.in-None.ensures in
    c.new.ensures ∙ ap (map (window_shown x c.args.device)) (sym (none_rising x c.args.device none))

pub returns : goal.returns
returns c =
    let x = c.args.placed.now in
    let is : c.resolved-policy.result.now ≡ x.expanded.lawful = c.resolved-policy.ensures.value ∙ c.lawful.ensures ∙ ap (λ x. x.lawful) c.expanded.ensures.value in
    let stands : domain_of (source_of x.expanded.lawful) c.args.device ≡ Some c.in-Some.domain.now = ap (λ r. domain_of (source_of r) c.args.device) (sym is) ∙ sym c.in-Some.ensures in
    c.of.ensures
    ∙ in_order_shown x c.expanded.ensures.placed c.args.device c.in-Some.domain.now stands c.in_ok-rising.field-0.items
    (subst (λ ws. IsPermutation ws c.in_ok-rising.field-0.items) c.in_ok-windows.ensures c.in_ok-rising.ensures.moved) c.in_ok-rising.ensures.rising
