-- Fields of a byte, a number, zeros or a name have no more bytes than there is room for, so their faults are those of the bytes up to their ends.
use Rattle.std.proofs.Common.{◌≡◌, ℕ, Bool, true, List, refl, arith, leb}
use Rattle.std.specs.Int.{w16, w32, w64}
use Rattle.std.proofs.lemmas.Bool.{leb-true}
use Rattle.binary_form.specs.declared.fault.Field.{Field}
use Rattle.binary_form.specs.declared.fault.Field.TheVariants as at
use Rattle.binary_form.specs.Form.{Form, byte, coded, gap, number, only}
use Rattle.binary_form.specs.Name.{name, name_bytes, name_in}
use Rattle.proof_faults.proofs.Fields.{byte_field, coded_field, gap_local, local_field, number_field, only_field}
use Rattle.proof_faults.proofs.Readers.{IsLocal}
use Rattle.proof_faults.specs.Room.{room_of}

-- a reader whose faults are those of its fields
abbrev pub Local : {A : Type 0} → Form A → Type 0
Local f = IsLocal room_of f.read

pub one : (test : ℕ → Bool) (field : Field) → leb 1 (room_of field) ≡ true → Local (only test field byte)
one test field room = local_field room_of 1 field (only test field byte) (only_field 1 test field byte (byte_field field)) (omega arith) (leb-true 1 (room_of field) room)

pub two : (test : ℕ → Bool) (field : Field) → leb 2 (room_of field) ≡ true → Local (only test field (number w16))
two test field room = local_field room_of 2 field (only test field (number w16)) (only_field 2 test field (number w16) (number_field w16 field)) (omega arith) (leb-true 2 (room_of field) room)

pub four : (test : ℕ → Bool) (field : Field) → leb 4 (room_of field) ≡ true → Local (only test field (number w32))
four test field room = local_field room_of 4 field (only test field (number w32)) (only_field 4 test field (number w32) (number_field w32 field)) (omega arith) (leb-true 4 (room_of field) room)

pub eight : (test : ℕ → Bool) (field : Field) → leb 8 (room_of field) ≡ true → Local (only test field (number w64))
eight test field room = local_field room_of 8 field (only test field (number w64)) (only_field 8 test field (number w64) (number_field w64 field)) (omega arith) (leb-true 8 (room_of field) room)

pub zeros : {S : Type 0} (n : ℕ) (more : Form S) → leb 1 n ≡ true → leb n (room_of at.Zero) ≡ true → Local more → Local (gap n at.Zero more)
zeros n more some room rest = gap_local room_of n at.Zero more (leb-true 1 n some) (leb-true n (room_of at.Zero) room) rest

pub a_name : Local name
unfolding name
a_name = local_field room_of 64 at.Name (coded 64 name_in name_bytes at.Name) (coded_field 64 name_in name_bytes at.Name) (omega arith) (leb-true 64 (room_of at.Name) refl)

pub new_name : (test : List ℕ → Bool) → Local (only test at.Name name)
unfolding name
new_name test =
    local_field room_of 64 at.Name (only test at.Name (coded 64 name_in name_bytes at.Name)) (only_field 64 test at.Name (coded 64 name_in name_bytes at.Name) (coded_field 64 name_in name_bytes at.Name))
    (omega arith) (leb-true 64 (room_of at.Name) refl)
