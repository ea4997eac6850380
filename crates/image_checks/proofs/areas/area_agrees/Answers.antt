use Rattle.std.proofs.Common.{◌≡◌, ◌≤◌, ◌<◌, ◌*◌, ◌∙◌, ℕ, List, length, map, take, arith, rules, ap, subst}
use Rattle.std.specs.List.Sorted.{IsPermutation}
use Rattle.image_checks.specs.Agree.{indices_in}
use Rattle.image_checks.specs.Firsts.{Decides}
use Rattle.image_checks.proofs.AreaLaws.{area_decided, zeros_fail}
use Rattle.image_soundness.specs.Memory.{bytes_at}
use Rattle.machine_layout.specs.Exits.{area_index, area_value}
use Rattle.muen_num.specs.Range.{numbers_below}
use Rattle.muen_num.specs.declared.limits.TheConstants.{PAGE}
use Rattle.policy_lawful.specs.resources.MsrGrant.{MsrGrant}
use Rattle.image_checks.proofs.areas.area_agrees.Goals as goal

pub returns-then-not-are_zeros : goal.returns-then-not-are_zeros
returns-then-not-are_zeros c =
    let bytes = bytes_at c.args.image.now c.args.part.now.area in
    let page : c.deref.result.now ≡ take PAGE bytes = c.deref.ensures.value ∙ c.in_ok-area.ensures in
    let size : 16 * c.args.part.now.msrs ≤ PAGE = omega arith in
    zeros_fail bytes c.deref.result.now c.args.part.now.msrs PAGE c.args.granted.now.msrs c.are_zeros.result page size (search rules) c.are_zeros.ensures

pub returns : goal.returns
returns c =
    let bytes = bytes_at c.args.image.now c.args.part.now.area in
    let count = c.args.part.now.msrs in
    let granted = c.in_ok-msrs.msrs.items in
    let size : 16 * count ≤ PAGE = omega arith in
    let all : granted ≡ indices_in c.args.granted.now.msrs = c.in_ok-msrs.ensures ∙ ap (λ (msrs : List MsrGrant). indices_in msrs) c.items.ensures in
    let many : length granted ≡ count = omega (arith, c.len.ensures, c.from.ensures, c.if-len-from.false) in
    area_decided bytes c.in_ok-area.area.items granted count PAGE c.args.granted.now.msrs c.are_zeros.result c.has_each.result c.in_ok-area.ensures size all many (search rules)
    (subst (λ (xs : List ℕ). Decides ((n : ℕ) → n < count → area_value xs n ≡ 0) c.are_zeros.result) c.deref.ensures.value c.are_zeros.ensures)
    (subst (λ (xs : List ℕ). Decides (IsPermutation granted (map (area_index xs) (numbers_below count))) c.has_each.result) c.deref-2.ensures.value c.has_each.ensures)
