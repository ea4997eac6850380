-- Where an access is led: by the right that there is or isn't.
use Rattle.std.proofs.Common.{◌≡◌, ℕ, ◌+◌, Bool, true, false, refl, sym, ap, Some}
use Rattle.std.specs.Prelude.{if◌then◌else◌}
use Rattle.image_soundness.specs.Sound.{led}
use Rattle.machine_layout.specs.declared.walk.Walk.TheVariants.{At, Violation}
use Rattle.policy_lawful.specs.Rights.{rights_bits}
use Rattle.policy_lawful.specs.Thing.{Thing}
use Rattle.policy_lawful.specs.Windows.{byte, violation}
use Rattle.policy_lawful.specs.rights.Rights.{Rights}

-- a byte where there is the right, and the rights that were found where there isn't
pub by_rights : (address : Thing → ℕ) (b : Bool) (x : Thing) (to offset : ℕ) (rights : Rights) → address x ≡ to → (if b then At (to + offset) else Violation (rights_bits rights)) ≡ led address (if b then byte x offset else violation (Some rights))
by_rights address true x to offset rights e = ap (λ n. At (n + offset)) (sym e)
by_rights address false x to offset rights e = refl
