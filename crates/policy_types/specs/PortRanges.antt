-- The ports of a range.
use Rattle.std.specs.Prelude.{ℕ, ◌&&◌, Bool, nat_le}
use Rattle.policy_types.specs.declared.resources.PortRange.{PortRange}

-- the range has the port
abbrev pub has_port : PortRange → ℕ → Bool
has_port r port = nat_le r.start port && nat_le port r.end
