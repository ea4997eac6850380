-- Ranges of numbers, of addresses and of ports.
use Rattle.std.specs.Prelude.{ℕ, ◌+◌, ◌&&◌, ◌||◌, Bool, List, nat_le}
use Rattle.std.specs.List.{list_any}
use Rattle.muen_num.specs.declared.limits.TheConstants.{LAST_PORT}
use Rattle.policy_types.specs.declared.source.Block.{Block}
use Rattle.policy_types.specs.declared.source.Ports.{Ports}

-- the numbers from a up to b, which isn't one of them, and those from c up to d share none
abbrev pub share_none : ℕ → ℕ → ℕ → ℕ → Bool
share_none a b c d = nat_le b c || nat_le d a

-- so many bytes from an address on lie inside one block
abbrev pub in_a_block : List Block → ℕ → ℕ → Bool
in_a_block blocks address size = list_any (λ b. nat_le b.physical_address address && nat_le (address + size) (b.physical_address + b.size)) blocks

-- both ends are ports, the first not behind the last
abbrev pub is_port_range : Ports → Bool
is_port_range x = nat_le x.start x.end && nat_le x.end LAST_PORT
