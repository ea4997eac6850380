use Rattle.std.proofs.Common.{◌≡◌, ◌+◌, ◌-◌, ◌<◌, length, length-append, ap, sym, ◌∙◌, subst, arith, rules}
use Rattle.std.specs.Prelude.{slice_index}
use Rattle.expand_kernel.specs.ByIndex.{kernel_first}
use Rattle.expand_kernel.specs.Expansion.{Expansion}
use Rattle.expand_kernel.specs.thing.ThingIndex.TheVariants.{Declared}
use Rattle.muen_num.proofs.Lists.{read_at}
use Rattle.policy_lawful.specs.Things.{device_things, placed_things}
use Rattle.region_alloc.specs.Placed.{IsThere, address_of}
use Rattle.region_alloc.proofs.OwnRegions.{kernel_within, placed_within}
use Rattle.region_alloc.proofs.ThingAddresses.{device_address, placed_address}
use Rattle.region_alloc.proofs.placed.Placed.address_of.Goals as goal

pub bounds-addresses-number : goal.bounds-addresses-number
bounds-addresses-number c =
    let policy = c.resolved-policy.ensures.value ∙ c.lawful.ensures ∙ ap (λ (x : Expansion). x.lawful) c.expanded.ensures.value in
    let things = ap length (c.placed_things-placed.ensures.value ∙ ap placed_things policy) in
    let addresses = ap length c.addresses-addresses.ensures.value in
    omega (arith, c.if-number-placed.true, things, addresses, placed_within c.args.self.now c.expanded.ensures.placed)

pub returns-then-number-placed : goal.returns-then-number-placed
returns-then-number-placed c =
    let x = c.args.self.now in
    let policy = c.resolved-policy.ensures.value ∙ c.lawful.ensures ∙ ap (λ (x : Expansion). x.lawful) c.expanded.ensures.value in
    let things = ap length (c.placed_things-placed.ensures.value ∙ ap placed_things policy) in
    ap (λ xs. slice_index xs c.in-Declared.number) c.addresses-addresses.ensures.value
    ∙ sym (placed_address x c.expanded.ensures.placed c.in-Declared.number (omega (arith, c.if-number-placed.true, things)))
    ∙ ap (address_of x) (sym c.in-Declared.is)

pub offset_bounds-addresses-kernel_first : goal.offset_bounds-addresses-kernel_first
offset_bounds-addresses-kernel_first c =
    let x = c.args.self.now in
    let there = subst (IsThere x.expanded.lawful) c.in-State.is c.requires in
    let within = kernel_within x c.expanded-in-State.ensures.placed c.in-State.subject there in
    let first = c.kernel_first.ensures ∙ ap (λ (x : Expansion). kernel_first x.lawful c.in-State.subject) c.expanded-in-State.ensures.value in
    let l : c.kernel_first.result < length c.addresses-addresses.result.now = omega (arith, ap length c.addresses-addresses.ensures.value, first, within) in
    search rules

pub bounds-addresses-kernel_first : goal.bounds-addresses-kernel_first
bounds-addresses-kernel_first c =
    let x = c.args.self.now in
    let there = subst (IsThere x.expanded.lawful) c.in-State.is c.requires in
    let within = kernel_within x c.expanded-in-State.ensures.placed c.in-State.subject there in
    let first = c.kernel_first.ensures ∙ ap (λ (x : Expansion). kernel_first x.lawful c.in-State.subject) c.expanded-in-State.ensures.value in
    omega (arith, ap length c.addresses-addresses.ensures.value, first, within)

pub returns-else-number-placed : goal.returns-else-number-placed
returns-else-number-placed c =
    let x = c.args.self.now in
    let policy = c.resolved-policy.ensures.value ∙ c.lawful.ensures ∙ ap (λ (x : Expansion). x.lawful) c.expanded.ensures.value in
    let things = ap length (c.placed_things-placed.ensures.value ∙ ap placed_things policy) in
    let number : c.in-Declared.number ≡ length (placed_things x.expanded.lawful) + (c.in-Declared.number - length c.placed_things-placed.result.now) = omega (arith, c.if-number-placed.false, things) in
    let devices = c.device_things.ensures.value ∙ ap device_things policy in
    let within = subst (IsThere x.expanded.lawful) c.in-Declared.is c.requires in
    let long = length-append (placed_things x.expanded.lawful) (device_things x.expanded.lawful) in
    let t = c.index-device_things-number.result in
    c.fixed_address.ensures
    ∙ sym (device_address x c.expanded.ensures.placed (c.in-Declared.number - length c.placed_things-placed.result.now) t
    (read_at (device_things x.expanded.lawful) c.device_things.result.now _ t devices (omega (arith, within, long, things, ap length devices, c.if-number-placed.false)) c.index-device_things-number.is))
    ∙ ap (λ n. address_of x (Declared n)) (sym number)
    ∙ ap (address_of x) (sym c.in-Declared.is)
