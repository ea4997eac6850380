-- The pages that each kind of memory has, and where a page is kept.
use Rattle.std.specs.Prelude.{◌≡◌, ℕ, ◌<◌, List, [], length, slice_index_or, slice_set, Some, None}
use Rattle.machine_layout.specs.Memory.{Page, page_of, change}
use Rattle.phys_mem.specs.Frames.{pages_by}
use Rattle.phys_mem.specs.declared.frame_mem.FrameMem.{FrameMem}
use Rattle.phys_mem.specs.declared.region_mem.RegionMem.{RegionMem}

-- the pages that memory has
abbrev pub pages_kept : RegionMem → List Page
pages_kept m = pages_by m.numbers.items m.frames.items

abbrev pub frames_kept : FrameMem → List Page
frames_kept m = pages_by m.numbers.items m.frames.items

-- page k is kept in frame i
pub record IsInFrame (ns : List ℕ) (fs : List (List ℕ)) (k i : ℕ) : Type 0 where
  pub within : i < length fs
  pub page : page_of (pages_by ns fs) k ≡ Some (slice_index_or fs i [])
  pub changed : (f : List ℕ → List ℕ) → change (pages_by ns fs) k f ≡ pages_by ns (slice_set fs i (f (slice_index_or fs i [])))

-- page k isn't there
pub record IsNowhere (ns : List ℕ) (fs : List (List ℕ)) (k : ℕ) : Type 0 where
  pub page : page_of (pages_by ns fs) k ≡ None
  pub changed : (f : List ℕ → List ℕ) → change (pages_by ns fs) k f ≡ pages_by ns fs
