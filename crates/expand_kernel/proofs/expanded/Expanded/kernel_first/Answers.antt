use Rattle.std.proofs.Common.{◌≡◌, length, ap, ◌∙◌, arith}
use Rattle.expand_kernel.proofs.Numbering.{regions_many}
use Rattle.policy_lawful.specs.Resolution.{Resolution}
use Rattle.expand_kernel.proofs.expanded.Expanded.kernel_first.Goals as goal

pub overflow_sub-result : goal.overflow_sub-result
overflow_sub-result c =
    let x = c.args.self.now in
    let is = c.regions.ensures.expanded in
    let many = regions_many x.lawful is.resolved x.grants is.expansion.grants c.regions.result.now c.regions.ensures.regions in
    let subjects : length c.subjects.result.now ≡ length x.lawful.subjects = ap length (c.subjects.ensures.value ∙ ap (λ (r : Resolution). r.subjects) (c.resolved.ensures.value ∙ c.lawful.ensures)) in
    omega (arith, many, subjects)

pub returns : goal.returns
returns c =
    let x = c.args.self.now in
    let is = c.regions.ensures.expanded in
    let many = regions_many x.lawful is.resolved x.grants is.expansion.grants c.regions.result.now c.regions.ensures.regions in
    let subjects : length c.subjects.result.now ≡ length x.lawful.subjects = ap length (c.subjects.ensures.value ∙ ap (λ (r : Resolution). r.subjects) (c.resolved.ensures.value ∙ c.lawful.ensures)) in
    omega (arith, many, subjects, c.requires)
