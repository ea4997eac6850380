-- Numbers that fit the fields of an image.
use Rattle.std.specs.Prelude.{◌≡◌, ℕ, ◌%◌, ◌<◌, ◌≤◌, true, length, nat_le, nat_lt}
use Rattle.std.specs.List.{list_all}
use Rattle.expand_kernel.specs.ByIndex.{kernel_first}
use Rattle.muen_num.specs.declared.limits.TheConstants.{MOST_CPUS, MOST_MSRS, MOST_REGIONS, MOST_SUBJECTS, PAGE, PHYSICAL_END}
use Rattle.expand_kernel.specs.ByIndex.{kernel_first}
use Rattle.msrbm_emit.specs.Area.{msr_count}
use Rattle.region_alloc.specs.Placed.{Placement}
use Rattle.subject_emit.specs.Pages.{tables_at}

-- of a placed policy: its regions, groups, subjects and CPUs
pub record AreFew (x : Placement) : Type 0 where
  pub regions : kernel_first x.expanded.lawful (length x.expanded.lawful.subjects) ≤ MOST_REGIONS
  pub groups : length x.expanded.lawful.scheduling.groups ≤ MOST_SUBJECTS
  pub subjects : length x.expanded.lawful.subjects ≤ MOST_SUBJECTS
  -- their tables lie at physical addresses that there are, each at a page
  pub tables : (k : ℕ) → k < length x.expanded.lawful.subjects → tables_at x k ≤ PHYSICAL_END
  pub whole : (k : ℕ) → k < length x.expanded.lawful.subjects → tables_at x k % PAGE ≡ 0
  pub cpus : list_all (λ s. nat_lt s.cpu MOST_CPUS) x.expanded.lawful.subjects ≡ true
  -- of each subject as many MSRs as an area has room for
  pub msrs : list_all (λ g. nat_le (msr_count g.msrs) MOST_MSRS) x.expanded.grants ≡ true
  pub grants : length x.expanded.grants ≡ length x.expanded.lawful.subjects
