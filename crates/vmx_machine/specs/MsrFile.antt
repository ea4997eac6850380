-- The MSR file of a CPU: the values of the MSRs that an MSR bitmap covers (Intel SDM volume 3, "MSR-Bitmap Address").
use Rattle.std.specs.Prelude.{ℕ, ◌+◌, ◌-◌, ◌&&◌, nat_le, if◌then◌else◌, List, slice_get, Option, Some, None, option_and_then}
use Rattle.muen_num.specs.declared.limits.TheConstants.{LOW_MSR_LAST, HIGH_MSR_FIRST, HIGH_MSR_LAST}
use Rattle.muen_num.specs.ListChange.{change_at}

-- the slot of the file that an MSR has: those of the low range from 0 on, and those of the high range behind them
abbrev pub msr_slot_of : ℕ → Option ℕ
msr_slot_of index =
    if nat_le index LOW_MSR_LAST
    then Some index
    else (if nat_le HIGH_MSR_FIRST index && nat_le index HIGH_MSR_LAST then Some (LOW_MSR_LAST + 1 + (index - HIGH_MSR_FIRST)) else None)

-- how many MSRs it has
abbrev pub most : ℕ
most = LOW_MSR_LAST + 1 + (HIGH_MSR_LAST + 1 - HIGH_MSR_FIRST)

-- the value of an MSR, if the file has it
abbrev pub value_in : List ℕ → ℕ → Option ℕ
value_in file index = option_and_then (slice_get file) (msr_slot_of index)

abbrev pub put_at : Option ℕ → ℕ → List ℕ → List ℕ
put_at None value file = file
put_at (Some i) value file = change_at i (λ _. value) file

-- with this value of an MSR; an MSR that it doesn't have is passed over
abbrev pub with_msr : ℕ → ℕ → List ℕ → List ℕ
with_msr index value file = put_at (msr_slot_of index) value file
