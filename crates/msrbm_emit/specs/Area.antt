-- The area of the MSRs that are granted.
use Rattle.std.specs.Prelude.{ℕ, ◌+◌, ◌-◌, List, map, flat_map, sum_by}
use Rattle.muen_num.specs.Range.{numbers_below}
use Rattle.machine_layout.specs.Exits.{AreaEntry}
use Rattle.policy_types.specs.declared.resources.MsrGrant.{MsrGrant}

-- an MSR with the value 0
abbrev pub zero_area_entry : ℕ → AreaEntry
zero_area_entry index = record { index = index; value = 0 }

-- how many MSRs a grant has
abbrev pub size_of : MsrGrant → ℕ
size_of m = m.end + 1 - m.start

-- how many all grants have
unfoldable pub msr_count : List MsrGrant → ℕ
msr_count msrs = sum_by size_of msrs

-- the entries of a grant's MSRs, ascending
unfoldable pub grant_area_entries : MsrGrant → List AreaEntry
grant_area_entries m = map (λ k. zero_area_entry (m.start + k)) (numbers_below (size_of m))

-- those of all grants, in order
unfoldable pub area_of : List MsrGrant → List AreaEntry
area_of msrs = flat_map grant_area_entries msrs
