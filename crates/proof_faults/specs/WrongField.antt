-- A field of a file that is wrong, as the reading of the file's fronts shows it.
use Rattle.std.specs.Prelude.{◌≡◌, ℕ, ◌+◌, ◌<◌, ◌≤◌, List, ◌++◌, length, take, Err}
use Rattle.binary_form.specs.declared.fault.Field.{Field}
use Rattle.binary_form.specs.declared.fault.ImageFault.TheVariants.{Short, Bad}
use Rattle.binary_form.specs.Faults.{unpacked}
use Rattle.binary_form.specs.Form.{Form}

-- It begins at this offset, has this name and so many bytes: what ends in it lacks it, and is right before it; and what
-- goes as far as its end has its fault, whatever else stands behind.
pub record IsWrongField {A : Type 0} (f : Form A) (bytes : List ℕ) (at : ℕ) (name : Field) (size : ℕ) : Type 0 where
  pub some : 0 < size
  pub there : at + size ≤ length bytes
  pub lacked : (n : ℕ) → at ≤ n → n < at + size → unpacked f (take n bytes) ≡ Err (Short at)
  pub decides : (n : ℕ) (more : List ℕ) → at + size ≤ n → unpacked f (take n bytes ++ more) ≡ Err (Bad at name)
