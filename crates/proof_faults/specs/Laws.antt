-- The laws over the faults of a file that isn't of a form of bytes, as that of an image (this project's own).
use Rattle.std.specs.Prelude.{◌≡◌, ℕ, ◌+◌, ◌<◌, ◌≤◌, List, ◌++◌, length, take, Ok, Err}
use Rattle.binary_form.specs.declared.fault.Field.{Field}
use Rattle.binary_form.specs.declared.fault.ImageFault.TheVariants.{Short, Bad, Trailing}
use Rattle.binary_form.specs.Faults.{unpacked}
use Rattle.binary_form.specs.Form.{Form}
use Rattle.proof_faults.specs.Room.{room_of}
use Rattle.proof_faults.specs.WrongField.{IsWrongField}

-- ---- a wrong field

-- bytes that go as far as the field's end have this fault, whatever else stands behind them
abbrev pub WrongFieldsDecide : {A : Type 0} → Form A → Type 0
WrongFieldsDecide form =
    (bytes more : List ℕ) (at n : ℕ) (f : Field) → unpacked form bytes ≡ Err (Bad at f) → at + room_of f ≤ n
    → unpacked form (take n bytes ++ more) ≡ Err (Bad at f)

-- so has each file that begins with the same bytes
abbrev pub FilesAreWrongAlike : {A : Type 0} → Form A → Type 0
FilesAreWrongAlike form =
    (bytes other : List ℕ) (at : ℕ) (f : Field) → unpacked form bytes ≡ Err (Bad at f)
    → take (at + room_of f) other ≡ take (at + room_of f) bytes → unpacked form other ≡ Err (Bad at f)

-- bytes that end where the field begins lack it, and are right up to there
abbrev pub AllIsRightBefore : {A : Type 0} → Form A → Type 0
AllIsRightBefore form = (bytes : List ℕ) (at : ℕ) (f : Field) → unpacked form bytes ≡ Err (Bad at f) → unpacked form (take at bytes) ≡ Err (Short at)

-- the field has a size: bytes that end before its end lack it, and all others have its fault
abbrev pub WrongFieldsHaveSizes : {A : Type 0} → Form A → Type 0
WrongFieldsHaveSizes form =
    (bytes : List ℕ) (at : ℕ) (f : Field) → unpacked form bytes ≡ Err (Bad at f)
    → (size : ℕ) × (size ≤ room_of f) × IsWrongField form bytes at f size

-- ---- a field that isn't wholly there

-- it is the same, wherever in it the bytes end
abbrev pub MissingFieldsAreTheSame : {A : Type 0} → Form A → Type 0
MissingFieldsAreTheSame form =
    (bytes : List ℕ) (at n : ℕ) → unpacked form bytes ≡ Err (Short at) → at ≤ n → unpacked form (take n bytes) ≡ Err (Short at)

-- it begins in the bytes, or at their end
abbrev pub MissingFieldsBeginInside : {A : Type 0} → Form A → Type 0
MissingFieldsBeginInside form = (bytes : List ℕ) (at : ℕ) → unpacked form bytes ≡ Err (Short at) → at ≤ length bytes

-- ---- bytes that trail

-- what stands before them is the whole of something
abbrev pub AWholeStandsBefore : {A : Type 0} → Form A → Type 0
AWholeStandsBefore {A} form = (bytes : List ℕ) (at : ℕ) → unpacked form bytes ≡ Err (Trailing at) → (said : A) × (unpacked form (take at bytes) ≡ Ok said)

-- there are some
abbrev pub TrailingBytesAreThere : {A : Type 0} → Form A → Type 0
TrailingBytesAreThere form = (bytes : List ℕ) (at : ℕ) → unpacked form bytes ≡ Err (Trailing at) → at < length bytes

-- whatever stands behind a whole trails
abbrev pub AllTrailsAWhole : {A : Type 0} → Form A → Type 0
AllTrailsAWhole {A} form =
    (bytes more : List ℕ) (said : A) → unpacked form bytes ≡ Ok said → 0 < length more → unpacked form (bytes ++ more) ≡ Err (Trailing (length bytes))
