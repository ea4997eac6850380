-- What the kernel keeps for a subject: its state page, tables, bitmaps and MSR area.
use Rattle.std.specs.Prelude.{◌≡◌, ℕ, ◌*◌, ◌/◌, ◌≤◌, not, Bool, List, length, take, drop, slice_index}
use Rattle.ept_emit.specs.Pages.{ept_pages, ranges_of}
use Rattle.ept_emit.specs.declared.window.Window.{Window}
use Rattle.ept_emit.specs.Emitted.{AreAscending, AreReadAlone, AreReadOrZero, AreTranslating, HaveGreatestPages, HaveMemoryTypes, HaveOnePath}
use Rattle.ept_emit.specs.Tables.{AreWritten}
use Rattle.expand_kernel.specs.granted.Grants.{Grants}
use Rattle.expand_kernel.specs.ByIndex.{kernel_first}
use Rattle.expand_kernel.specs.Regions.{kernel_number}
use Rattle.expand_kernel.specs.declared.kernel.KernelRegion.TheVariants.{Tables}
use Rattle.iobm_emit.specs.Ports.{is_granted_access}
use Rattle.machine_layout.specs.Exits.{area_bytes, msr_exits, port_exits}
use Rattle.msrbm_emit.specs.Area.{area_of, msr_count}
use Rattle.policy_lawful.specs.MsrGrants.{is_granted}
use Rattle.muen_num.specs.declared.limits.TheConstants.{PAGE, MOST_MSRS}
use Rattle.machine_layout.specs.PageFields.{padded}
use Rattle.policy_lawful.specs.declared.resolved.Subject.{Subject}
use Rattle.policy_lawful.specs.rights.Rights.TheVariants.{Rwx}
use Rattle.region_alloc.specs.Placed.{Placement}
use Rattle.state_page.specs.StatePage.{page_bytes}
use Rattle.subject_emit.specs.Mapped.{mapped_windows}
use Rattle.subject_emit.specs.declared.subject_pages.SubjectPages.{SubjectPages}
use Rattle.state_page.specs.States.{started}

-- where the tables of the subject at an index lie
abbrev pub tables_at : Placement → ℕ → ℕ
tables_at x subject = slice_index x.addresses (kernel_number Tables (kernel_first x.expanded.lawful subject))

-- what tables at an address say of windows, and which bytes they are: as the call that emits them has it
pub record AreTablesOf (windows : List Window) (at : ℕ) (tables : List ℕ) : Type 0 where
  pub walk : AreTranslating windows at tables
  pub alone : AreReadAlone at tables
  pub paths : HaveOnePath at tables
  pub leaves : HaveGreatestPages windows at tables
  pub types : HaveMemoryTypes windows at tables
  pub ascending : AreAscending at tables
  pub rest : AreReadOrZero (ept_pages (ranges_of windows)) at tables
  -- entries that refer to a table have all rights
  pub written : AreWritten Rwx windows (at / PAGE) tables

-- the pages of the subject at an index, which is granted this
pub record ArePages (x : Placement) (subject : ℕ) (s : Subject) (g : Grants) (q : SubjectPages) : Type 0 where
  pub state : q.state ≡ page_bytes (started s.entry)
  pub tables : AreTablesOf (mapped_windows x g) (tables_at x subject) q.tables
  -- bitmap A, then bitmap B
  pub ports_len : length q.ports ≡ 2 * PAGE
  pub ports : (port size : ℕ) → port_exits (take PAGE q.ports) (drop PAGE q.ports) port size ≡ not (is_granted_access g.ports port size)
  pub msrs_len : length q.msrs ≡ PAGE
  pub msrs : (index : ℕ) (write : Bool) → msr_exits q.msrs index write ≡ not (is_granted g.msrs index write)
  pub few : msr_count g.msrs ≤ MOST_MSRS
  pub area : q.area ≡ padded PAGE (area_bytes (area_of g.msrs))
