-- The MSRs that are granted.
use Rattle.std.specs.Prelude.{ℕ, ◌&&◌, Bool, nat_le, List, if◌then◌else◌}
use Rattle.std.specs.List.{list_any}
use Rattle.policy_types.specs.declared.resources.MsrGrant.{MsrGrant}

-- the grant has the MSR
abbrev pub has_msr : MsrGrant → ℕ → Bool
has_msr m index = nat_le m.start index && nat_le index m.end

-- it allows writes, or reads
abbrev pub allows : MsrGrant → Bool → Bool
allows m write = if write then m.write else m.read

-- one of the grants has the MSR and allows it
unfoldable pub is_granted : List MsrGrant → ℕ → Bool → Bool
is_granted msrs index write = list_any (λ m. has_msr m index && allows m write) msrs
