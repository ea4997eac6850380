-- A form that is read, and what reads on behind it.
use Rattle.std.proofs.Common.{◌≡◌, ℕ, ◌≤◌, List, length, Result, Ok, Err, inl, inr}
use Rattle.binary_form.specs.declared.fault.FormFault.{FormFault}
use Rattle.binary_form.specs.Form.{IsBytes, ◌>>=◌, Form, fault_bytes_left}
use Rattle.binary_form.proofs.Leaves.{Laws, Takes, Takes-shorter, bind_err, bind_ok}

-- a value was read, which is spelled so and fits; and the value and what is left behind it were read on
pub record ReadOn {A B : Type 0} (f : Form A) (next : A × List ℕ → Result B FormFault) (bytes : List ℕ) (y : B) : Type 0 where
  pub value : A
  pub left : List ℕ
  pub read : f.read bytes ≡ Ok (value, left)
  pub goes_on : next (value, left) ≡ Ok y
  pub taken : Takes bytes (f.spell value) left
  pub fits : f.fits value

-- what did not fail was read so
pub read_on : {A B : Type 0} (f : Form A) → Laws f → (next : A × List ℕ → Result B FormFault) (bytes : List ℕ) (y : B) → IsBytes bytes
    → (f.read bytes >>= next) ≡ Ok y → ReadOn f next bytes y
read_on f laws next bytes y are e =
    let (x, read, goes_on) = bind_ok (f.read bytes) next y e in
    let (taken, fits) = laws.takes bytes x.0 x.1 are read in
    record { value = x.0; left = x.1; read = read; goes_on = goes_on; taken = taken; fits = fits }

-- the field of a fault begins among the bytes, if that of a fault of what reads on does
pub within_on : {A B : Type 0} (f : Form A) → Laws f → (next : A × List ℕ → Result B FormFault) (bytes : List ℕ) (s : FormFault) → IsBytes bytes
    → ((value : A) (left : List ℕ) → IsBytes left → length left ≤ length bytes → next (value, left) ≡ Err s → fault_bytes_left s ≤ length bytes)
    → (f.read bytes >>= next) ≡ Err s → fault_bytes_left s ≤ length bytes
within_on f laws next bytes s are behind e =
    elim (bind_err (f.read bytes) next s e) [
      | inl here ↦ laws.within bytes s are here
      | inr on ↦
          let (x, read, fault) = on in
          let taken = (laws.takes bytes x.0 x.1 are read).0 in
          behind x.0 x.1 taken.rest_fits (Takes-shorter bytes (f.spell x.0) x.1 taken) fault
    ]
