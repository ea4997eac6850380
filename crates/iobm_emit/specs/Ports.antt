-- The ports that are granted, and accesses of them.
use Rattle.std.specs.Prelude.{ℕ, ◌+◌, ◌&&◌, Bool, nat_le, List}
use Rattle.std.specs.List.{list_any, list_all}
use Rattle.muen_num.specs.Range.{numbers_below}
use Rattle.muen_num.specs.declared.limits.TheConstants.{LAST_PORT}
use Rattle.policy_types.specs.declared.resources.PortRange.{PortRange}
use Rattle.policy_types.specs.PortRanges.{has_port}

-- one of the ranges has it
unfoldable pub is_granted : List PortRange → ℕ → Bool
is_granted ports port = list_any (λ r. has_port r port) ports

-- an access of so many bytes doesn't wrap past the last port, and each port that it touches is granted
unfoldable pub is_granted_access : List PortRange → ℕ → ℕ → Bool
is_granted_access ports port size =
    nat_le (port + size) (LAST_PORT + 1) && list_all (λ k. is_granted ports (port + k)) (numbers_below size)
