-- What a run of bits that is cleared lets through, and then grant by grant.
use Rattle.std.proofs.Common.{◌≡◌, ◌∙◌, ◌+◌, ◌-◌, ◌*◌, ◌<◌, ◌≤◌, ◌&&◌, ◌⊎◌}
use Rattle.std.proofs.Common.{ap, sym, refl, ℕ, Bool, true, false, not, List, length, get_or, take, arith, Option, Some, None, nat_le}
use Rattle.std.proofs.lemmas.Bool.Decides.{nat_tests}
use Rattle.std.proofs.lemmas.List.Folds.{list_any_more}
use Rattle.std.proofs.Math.Bool.{and-true}
use Rattle.muen_num.specs.declared.limits.TheConstants.{LOW_MSR_LAST, HIGH_MSR_FIRST, HIGH_MSR_LAST}
use Rattle.muen_num.proofs.Booleans.{not_or}
use Rattle.machine_layout.specs.Exits.{is_set, low_part, high_part, msr_bit, exits_by, msr_exits}
use Rattle.machine_layout.specs.Bitmaps.{is_between}
use Rattle.policy_types.specs.declared.resources.MsrGrant.{MsrGrant}
use Rattle.msrbm_emit.specs.Msrs.{is_covered}
use Rattle.policy_types.specs.MsrGrants.{has_msr, allows, is_granted}

-- ---- where a grant lies, and where a bit does

-- a grant with these ends has an MSR, and lies in one of the two ranges
abbrev Lies : ℕ → ℕ → Type 0
Lies start end = (start ≤ end) × ((end ≤ LOW_MSR_LAST) ⊎ ((HIGH_MSR_FIRST ≤ start) × (end ≤ HIGH_MSR_LAST)))

-- this is the bit of an MSR for reads or for writes
abbrev Stands : ℕ → Bool → ℕ → Type 0
Stands index write bit =
    ((index ≤ LOW_MSR_LAST) × (bit ≡ 8 * low_part write + index))
    ⊎ ((HIGH_MSR_FIRST ≤ index) × (index ≤ HIGH_MSR_LAST) × (bit + HIGH_MSR_FIRST ≡ 8 * high_part write + index))

-- an MSR is in neither range
abbrev IsOutside : ℕ → Type 0
IsOutside index = (LOW_MSR_LAST < index) × ((index < HIGH_MSR_FIRST) ⊎ (HIGH_MSR_LAST < index))

-- a grant that is covered lies in one range
covered_tells : (m : MsrGrant) → is_covered m ≡ true → Lies m.start m.end
covered_tells m e = grind (arith, nat_tests)

-- the bit that an MSR has is the one where it stands
bit_tells : (index : ℕ) (write : Bool) (bit : ℕ) → msr_bit index write ≡ Some bit → Stands index write bit
bit_tells index write bit e = grind (arith, nat_tests)

-- an MSR without a bit is in neither range
none_tells : (index : ℕ) (write : Bool) → msr_bit index write ≡ None → IsOutside index
none_tells index write e = grind (arith, nat_tests)

-- the first MSR of a grant is in a range
lies_somewhere : (start end : ℕ) → Lies start end → IsOutside start → ⊥
lies_somewhere start end h n = grind (arith, nat_tests)

-- so where a grant begins, there is a bit
pub covered_has_bit : (m : MsrGrant) (write : Bool) → is_covered m ≡ true → msr_bit m.start write ≡ None → ⊥
covered_has_bit m write covered none =
    lies_somewhere m.start m.end (covered_tells m covered) (none_tells m.start write none)

-- a bit of a grant's run is one of its MSRs
in_run : (start end index first bit : ℕ) (write : Bool) → Lies start end → Stands start write first → Stands index write bit
    → is_between first (first + (end - start + 1)) bit ≡ (nat_le start index && nat_le index end)
in_run start end index first bit true h f b = grind (arith, nat_tests)
in_run start end index first bit false h f b = grind (arith, nat_tests)

-- a bit of the other kind isn't in the run
apart : (start end index first bit : ℕ) (write : Bool) → Lies start end → Stands start write first → Stands index (not write) bit
    → is_between first (first + (end - start + 1)) bit ≡ false
apart start end index first bit true h f b = grind (arith, nat_tests)
apart start end index first bit false h f b = grind (arith, nat_tests)

-- a grant hasn't an MSR that is in neither range
outside : (start end index : ℕ) → Lies start end → IsOutside index → (nat_le start index && nat_le index end) ≡ false
outside start end index h n = grind (arith, nat_tests)

-- bits that stand somewhere are in the page
below : (index : ℕ) (write : Bool) (bit : ℕ) → Stands index write bit → bit < 32768
below index true bit h = grind arith
below index false bit h = grind arith

-- ---- a run of bits is cleared

-- what a run with these ends leaves
abbrev Clears : List ℕ → List ℕ → ℕ → ℕ → Type 0
Clears old new first end = (n : ℕ) → is_set new n ≡ (is_set old n && not (is_between first end n))

-- these accesses exit as before, but for the MSRs that the grant has and allows
abbrev LetsThrough : MsrGrant → Bool → List ℕ → List ℕ → Type 0
LetsThrough m write old new =
    (index : ℕ) → msr_exits new index write ≡ (msr_exits old index write && not (has_msr m index && allows m write))

-- these accesses exit as before
abbrev Stays : Bool → List ℕ → List ℕ → Type 0
Stays write old new = (index : ℕ) → msr_exits new index write ≡ msr_exits old index write

-- an access that has this bit, if any, exits as before, but if the bit is of the run
by_bit : (old new : List ℕ) (first end : ℕ) (has : Bool) (o : Option ℕ) → Clears old new first end
    → ((bit : ℕ) → o ≡ Some bit → is_between first end bit ≡ has) → (o ≡ None → has ≡ false)
    → exits_by new o ≡ (exits_by old o && not has)
by_bit old new first end has None cleared within without = rw (without refl) refl
by_bit old new first end has (Some bit) cleared within without = cleared bit ∙ ap (λ b. is_set old bit && not b) (within bit refl)

-- an access whose bit is never of the run exits as before
by_other : (old new : List ℕ) (first end : ℕ) (o : Option ℕ) → Clears old new first end
    → ((bit : ℕ) → o ≡ Some bit → is_between first end bit ≡ false) → exits_by new o ≡ exits_by old o
by_other old new first end None cleared apart = refl
by_other old new first end (Some bit) cleared apart =
    cleared bit ∙ (ap (λ b. is_set old bit && not b) (apart bit refl) ∙ and-true _)

-- the run is that of a grant, for reads or for writes
module _ (m : MsrGrant) (first : ℕ) (write : Bool) (old new : List ℕ)
    (covered : is_covered m ≡ true) (begins : msr_bit m.start write ≡ Some first)
    (cleared : Clears old new first (first + (m.end - m.start + 1))) where
  lies : Lies m.start m.end
  lies = covered_tells m covered

  starts : Stands m.start write first
  starts = bit_tells m.start write first begins

  -- accesses of this kind to its MSRs don't exit
  pub run_cleared : allows m write ≡ true → LetsThrough m write old new
  unfolding msr_exits
  run_cleared allowed index =
      rw (allowed, and-true (has_msr m index)) (by_bit old new first _ (has_msr m index) (msr_bit index write) cleared
      (λ bit e. in_run m.start m.end index first bit write lies starts (bit_tells index write bit e))
      (λ e. outside m.start m.end index lies (none_tells index write e)))

  -- those of the other kind do as before
  pub run_of_other : Stays (not write) old new
  unfolding msr_exits
  run_of_other index =
      by_other old new first _ (msr_bit index (not write)) cleared
      (λ bit e. apart m.start m.end index first bit write lies starts (bit_tells index (not write) bit e))

-- ---- grant by grant

-- what exits is all but what so many of the grants allow
abbrev AllBut : List MsrGrant → ℕ → List ℕ → Type 0
AllBut msrs i bitmap = (index : ℕ) (write : Bool) → msr_exits bitmap index write ≡ not (is_granted (take i msrs) index write)

-- every MSR exits where all bits are set
pub all_exit : (bitmap : List ℕ) (size : ℕ) → size ≡ 4096 → ((n : ℕ) → n < 8 * size → is_set bitmap n ≡ true)
    → (index : ℕ) (write : Bool) → msr_exits bitmap index write ≡ true
unfolding msr_exits
all_exit bitmap size long all index write = go (msr_bit index write) refl
  where
    go : (o : Option ℕ) → msr_bit index write ≡ o → exits_by bitmap o ≡ true
    go None e = refl
    go (Some bit) e = let h = below index write bit (bit_tells index write bit e) in all bit (omega (arith, h, long))

-- so they do before the first grant
pub granted_none : (msrs : List MsrGrant) (index : ℕ) (write b : Bool) → b ≡ true → b ≡ not (is_granted (take 0 msrs) index write)
unfolding is_granted
granted_none msrs index write b h = h

-- what doesn't exit after one more grant is what was let through before, and what this grant allows
granted_more : (msrs : List MsrGrant) (i : ℕ) (m : MsrGrant) (index : ℕ) (write old new : Bool) → i < length msrs
    → old ≡ not (is_granted (take i msrs) index write)
    → new ≡ (old && not (has_msr (get_or msrs i m) index && allows (get_or msrs i m) write))
    → new ≡ not (is_granted (take (i + 1) msrs) index write)
unfolding is_granted
granted_more msrs i m index write old new h before now =
    rw (now, before, list_any_more (λ x. has_msr x index && allows x write) msrs i m h) (sym (not_or _ _))

-- the reads of a grant are let through, and then its writes
pub record IsLetThrough (m : MsrGrant) (old mid new : List ℕ) : Type 0 where
  pub reads : LetsThrough m false old mid
  pub writes_stay : Stays true old mid
  pub writes : LetsThrough m true mid new
  pub reads_stay : Stays false mid new

-- then it is one grant more that is let through
pub grant_more : (msrs : List MsrGrant) (i : ℕ) (d : MsrGrant) (old mid new : List ℕ) → i < length msrs
    → AllBut msrs i old → IsLetThrough (get_or msrs i d) old mid new → AllBut msrs (i + 1) new
grant_more msrs i d old mid new h before is index true =
    granted_more msrs i d index true (msr_exits old index true) (msr_exits new index true) h (before index true)
    (is.writes index ∙ ap (λ b. b && not (has_msr (get_or msrs i d) index && allows (get_or msrs i d) true)) (is.writes_stay index))
grant_more msrs i d old mid new h before is index false =
    granted_more msrs i d index false (msr_exits old index false) (msr_exits new index false) h (before index false)
    (is.reads_stay index ∙ is.reads index)
