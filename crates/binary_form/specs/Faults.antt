-- What the reading of a whole file answers, with its faults by their offsets.
use Rattle.std.specs.Prelude.{◌≡◌, ℕ, ◌-◌, ◌≤◌, List, length, Result, Ok, Err}
use Rattle.binary_form.specs.declared.fault.ImageFault.{ImageFault}
use Rattle.binary_form.specs.declared.fault.ImageFault.TheVariants as fault
use Rattle.binary_form.specs.declared.fault.FormFault.{FormFault}
use Rattle.binary_form.specs.declared.fault.FormFault.TheVariants.{Short, Bad, Trailing}
use Rattle.binary_form.specs.declared.fault.FormError.{FormError}
use Rattle.binary_form.specs.declared.fault.FormError.TheVariants.{NoMemory, At}
use Rattle.binary_form.specs.Form.{Form, fault_bytes_left, whole}

-- the fault, by its offset among so many bytes
abbrev pub located : ℕ → FormFault → ImageFault
located total (Short left) = fault.Short (total - left)
located total (Bad left field) = fault.Bad (total - left) field
located total (Trailing left) = fault.Trailing (total - left)

abbrev pub located_in : {A : Type 0} → ℕ → Result A FormFault → Result A ImageFault
located_in total (Ok x) = Ok x
located_in total (Err s) = Err (located total s)

-- what the bytes of a file spell, or the first fault
unfoldable pub unpacked : {A : Type 0} → Form A → List ℕ → Result A ImageFault
unpacked f bytes = located_in (length bytes) (whole f bytes)

-- the fault is what is wanted, unless memory ran out
abbrev pub IsWanted : {A : Type 0} → Result A ImageFault → ImageFault → Type 0
IsWanted wanted (fault.Short at) = wanted ≡ Err (fault.Short at)
IsWanted wanted (fault.Bad at field) = wanted ≡ Err (fault.Bad at field)
IsWanted wanted (fault.Trailing at) = wanted ≡ Err (fault.Trailing at)
IsWanted wanted fault.NoMemory = Unit {0}

-- the answer is what is wanted, unless memory ran out
abbrev pub Tells : {A : Type 0} → Result A ImageFault → Result A ImageFault → Type 0
Tells wanted (Ok x) = wanted ≡ Ok x
Tells wanted (Err f) = IsWanted wanted f

-- its field begins among so many bytes
abbrev pub IsErrorOf : ℕ → FormError → Type 0
IsErrorOf total NoMemory = Unit {0}
IsErrorOf total (At s) = fault_bytes_left s ≤ total

-- the fault tells why a reader of so many bytes stopped
abbrev pub IsFaultOf : ℕ → FormError → ImageFault → Type 0
IsFaultOf total NoMemory f = f ≡ fault.NoMemory
IsFaultOf total (At s) f = f ≡ located total s

-- no fault but that the bytes end
abbrev pub IsShort : {A : Type 0} → Result A ImageFault → Type 0
IsShort r = (at : ℕ) × (r ≡ Err (fault.Short at))
