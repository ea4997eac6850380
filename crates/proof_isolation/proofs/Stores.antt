-- What a store leaves: all but the bytes of things.
use Rattle.std.proofs.Common.{◌≡◌, Option, Some, None, refl}
use Rattle.subject_model.specs.Step.{Stored}
use Rattle.policy_lawful.specs.Thing.{Thing}
use Rattle.subject_model.specs.System.{System, with_store}

pub record LeavesAllElse (y z : System) : Type 0 where
  pub msrs : z.msrs ≡ y.msrs
  pub ports : z.ports ≡ y.ports
  pub now : z.now ≡ y.now
  pub later : z.later ≡ y.later
  pub active : z.active ≡ y.active
  pub frame : z.frame ≡ y.frame

pub by_store : (o : Option (Stored Thing)) (y : System) → LeavesAllElse y (with_store o y)
by_store None y = record { msrs = refl; ports = refl; now = refl; later = refl; active = refl; frame = refl }
by_store (Some w) y = record { msrs = refl; ports = refl; now = refl; later = refl; active = refl; frame = refl }
