-- How a name is kept.
use Rattle.std.specs.Prelude.{◌≡◌, ◌≤◌, true, length, take}
use Rattle.std.proofs.Common.{arith, length-take-le}
use Rattle.muen_num.specs.Naming.{is_name, name_length, name_room}
use Rattle.muen_num.specs.declared.name.Name.TheInside.{Inside}

-- a name stands at the front, and zeros behind it
pub record IsStored (a : Inside) : Type 0 where
  pub room : length a.bytes ≡ 63
  pub within : a.len ≤ 63
  pub zeros : name_room (take a.len a.bytes) ≡ a.bytes
  pub name : is_name (take a.len a.bytes) ≡ true

-- a kept name is told by its text
pub stored_back : (a : Inside) → IsStored a → record { len = name_length (take a.len a.bytes); bytes = name_room (take a.len a.bytes) } ≡ a
stored_back a h i = record {
  len = length-take-le a.len a.bytes (omega (arith, h.room, h.within)) i;
  bytes = h.zeros i;
}
