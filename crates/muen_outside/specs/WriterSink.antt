-- What a put does to a sink over a device and to the device.
use Rattle.std.specs.Prelude.{◌≡◌, ℕ, List, ◌++◌, Option}
use Rattle.std.specs.Io.KnownBytes.{Appends}
use Rattle.muen_outside.specs.States.{SinkState}

-- the device has taken what was handed on
pub record TookGiven (old new : SinkState) (before now : Option (List ℕ)) : Type 0 where
  pub more : List ℕ
  pub given : new.given ≡ old.given ++ more
  pub taken : Appends before now more
