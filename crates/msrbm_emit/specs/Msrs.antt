-- The MSRs that can be granted.
use Rattle.std.specs.Prelude.{◌&&◌, ◌||◌, Bool, nat_le}
use Rattle.muen_num.specs.declared.limits.TheConstants.{LOW_MSR_LAST, HIGH_MSR_FIRST, HIGH_MSR_LAST}
use Rattle.policy_types.specs.declared.resources.MsrGrant.{MsrGrant}

-- the grant has some MSR, and both of its ends are in one of the two ranges
abbrev pub is_covered : MsrGrant → Bool
is_covered m =
    nat_le m.start m.end && (nat_le m.end LOW_MSR_LAST || (nat_le HIGH_MSR_FIRST m.start && nat_le m.end HIGH_MSR_LAST))
