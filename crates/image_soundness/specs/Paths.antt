-- At how many paths a table of an image is read (Intel SDM volume 3, "VMX Support for Address Translation").
use Rattle.std.specs.Prelude.{◌≡◌, ℕ, suc, ◌/◌, ◌<◌, slice_get, Some}
use Rattle.image_memory.specs.Memory.{memory_of}
use Rattle.image_pack.specs.declared.parts.Image.{Image}
use Rattle.image_pack.specs.declared.parts.SubjectPart.{SubjectPart}
use Rattle.machine_layout.specs.Reads.{Reads}
use Rattle.machine_layout.specs.Walks.{entry_size}
use Rattle.muen_num.specs.declared.limits.TheConstants.{GUEST_END}

-- two reads of tables are at one path: for one subject, at one level, and for addresses in one range that a table of the
-- level covers
pub record IsOnePath (j k level other a b : ℕ) : Type 0 where
  pub subject : j ≡ k
  pub depth : level ≡ other
  pub range : a / entry_size (suc level) ≡ b / entry_size (suc level)

-- no page of tables is read at two paths
abbrev pub HasOnePathPerTable : Image → Type 0
HasOnePathPerTable i =
    (j k : ℕ) (q r : SubjectPart) (a b level other page : ℕ) → slice_get i.subjects j ≡ Some q → slice_get i.subjects k ≡ Some r → a < GUEST_END → b < GUEST_END
    → Reads (memory_of i) q.eptp a level page → Reads (memory_of i) r.eptp b other page → IsOnePath j k level other a b
