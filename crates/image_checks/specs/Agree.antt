-- What a subject's bitmaps and MSR area say, beside what is granted to it by ranges.
use Rattle.std.specs.Prelude.{◌≡◌, ℕ, ◌+◌, ◌-◌, ◌<◌, ◌≤◌, not, Bool, List, length, map}
use Rattle.std.specs.List.{flat_map, list_any}
use Rattle.std.specs.List.Sorted.{IsPermutation}
use Rattle.policy_lawful.specs.PortRanges.{has_port}
use Rattle.image_checks.specs.declared.bitmaps.TheConstants.{RANGE_SIZE}
use Rattle.machine_layout.specs.Exits.{area_index, area_value, msr_exits, port_exits}
use Rattle.policy_lawful.specs.MsrGrants.{is_granted}
use Rattle.muen_num.specs.Range.{numbers_below}
use Rattle.muen_num.specs.declared.limits.TheConstants.{HIGH_MSR_FIRST, LAST_PORT}
use Rattle.policy_lawful.specs.resources.MsrGrant.{MsrGrant}
use Rattle.policy_lawful.specs.resources.PortRange.{PortRange}

-- ---- bitmaps

-- an access of each port alone exits unless one of the ranges has it
abbrev pub PortsAgree : List ℕ → List ℕ → List PortRange → Type 0
PortsAgree a b ranges = (port : ℕ) → port ≤ LAST_PORT → port_exits a b port 1 ≡ not (list_any (λ r. has_port r port) ranges)

-- an access of an MSR exits unless it is granted
abbrev pub MsrAgrees : List ℕ → List MsrGrant → ℕ → Bool → Type 0
MsrAgrees bitmap msrs index write = msr_exits bitmap index write ≡ not (is_granted msrs index write)

-- those of so many MSRs, from a first one on
abbrev pub MsrsAgree : List ℕ → List MsrGrant → ℕ → ℕ → Type 0
MsrsAgree bitmap msrs first count = (k : ℕ) (write : Bool) → k < count → MsrAgrees bitmap msrs (first + k) write

-- I/O bitmaps A and B, and the MSR bitmap
pub record BitmapsAgree (a b msr_bitmap : List ℕ) (ranges : List PortRange) (msrs : List MsrGrant) : Type 0 where
  pub ports : PortsAgree a b ranges
  pub low : MsrsAgree msr_bitmap msrs 0 RANGE_SIZE
  pub high : MsrsAgree msr_bitmap msrs HIGH_MSR_FIRST RANGE_SIZE

-- ---- MSR areas

-- the MSRs of a range, ascending
abbrev pub indices_of : MsrGrant → List ℕ
indices_of m = map (λ k. m.start + k) (numbers_below (m.end + 1 - m.start))

-- those of all ranges, in order
abbrev pub indices_in : List MsrGrant → List ℕ
indices_in msrs = flat_map indices_of msrs

-- the area has an entry for each MSR of the ranges, with the value 0
pub record AreaAgrees (area : List ℕ) (count : ℕ) (msrs : List MsrGrant) : Type 0 where
  pub many : count ≡ length (indices_in msrs)
  pub each : IsPermutation (indices_in msrs) (map (area_index area) (numbers_below count))
  pub zeros : (n : ℕ) → n < count → area_value area n ≡ 0
