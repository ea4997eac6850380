-- What an access within a page needs.
use Rattle.std.specs.Prelude.{◌≡◌, ℕ, ◌%◌, ◌<◌, ◌^◌}
use Rattle.machine_layout.specs.declared.walk.Walk.{Walk}
use Rattle.machine_layout.specs.declared.walk.Walk.TheVariants.{At, Violation, Misconfigured}
use Rattle.guest_isa.specs.declared.reach.Reach.{Reach}
use Rattle.guest_isa.specs.declared.reach.Reach.TheVariants.{Reached, Refused}

-- a page, and an offset in it that is a multiple of the size
pub record IsWithinPage (page offset size : ℕ) : Type 0 where
  pub below : page < 2 ^ 52
  pub inside : offset < 4096
  pub aligned : offset % size ≡ 0

abbrev pub LeadsWithin : ℕ → Reach ℕ → Type 0
LeadsWithin size (Reached page offset) = IsWithinPage page offset size
LeadsWithin size (Refused reason qualification addr) = Unit {0}

-- a walk of an address that is a multiple of the size ends at such an address; the rights that it finds are three bits
abbrev pub EndsWithin : ℕ → Walk → Type 0
EndsWithin size (At address) = address % size ≡ 0
EndsWithin size (Violation rights) = rights < 8
EndsWithin size Misconfigured = Unit {0}
