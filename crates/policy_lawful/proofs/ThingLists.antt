-- The things that are placed are the first ones, the devices' memory the others.
use Rattle.std.proofs.Common.{◌≡◌, ℕ, ◌-◌, ◌≤◌, List, length, take, drop, sym, ap, ap₂, ◌∙◌, subst, arith, length-append}
use Rattle.std.proofs.Math.Seq.{drop-append_seam, take-append_seam}
use Rattle.std.proofs.lemmas.List.{take_all}
use Rattle.policy_lawful.proofs.ThingsByIndex.{devices_by_index}
use Rattle.policy_lawful.specs.Resolution.{IsResolved, Resolution, source_of}
use Rattle.policy_lawful.specs.Thing.{device_items}
use Rattle.policy_lawful.specs.Things.{AreDeclared, AreThings, device_things, placed_things}
use Rattle.policy_lawful.specs.declared.thing.Thing.{Thing}

pub first_things : (r : Resolution) (placed : ℕ) (things : List Thing) → AreThings r placed things → take placed things ≡ placed_things r
first_things r placed things h = ap₂ take h.many h.all ∙ take-append_seam (placed_things r) (device_things r)

pub last_things : (r : Resolution) (placed : ℕ) (things : List Thing) → AreThings r placed things → drop placed things ≡ device_things r
last_things r placed things h = ap₂ drop h.many h.all ∙ drop-append_seam (placed_things r) (device_things r)

pub placed_within : (r : Resolution) (placed : ℕ) (things : List Thing) → AreThings r placed things → placed ≤ length things
placed_within r placed things h = omega (arith, h.many, ap length h.all, length-append (placed_things r) (device_things r))

-- so these are as they are declared
pub last_declared : (r : Resolution) (placed : ℕ) (things : List Thing) → IsResolved r → AreThings r placed things → AreDeclared r (device_items (source_of r)) (take (length things - placed) (drop placed things))
last_declared r placed things q h =
    let last = last_things r placed things h in
    let many : length (device_things r) ≤ length things - placed = omega (arith, h.many, ap length h.all, length-append (placed_things r) (device_things r)) in
    subst (AreDeclared r (device_items (source_of r))) (sym (ap (take (length things - placed)) last ∙ take_all (length things - placed) (device_things r) many)) (devices_by_index r q)
