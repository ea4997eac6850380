-- The field of a fault has a size: the fronts that lack it are those that end before its end.
use Rattle.std.proofs.Common.{◌≡◌, ℕ, zero, suc, ◌+◌, ◌-◌, ◌<◌, ◌≤◌, List, ◌++◌, length, take, drop, Result, Err, sym, ap, ◌∙◌, arith, inl, inr, ◌⊎◌}
use Rattle.std.proofs.lemmas.Bool.{cases_lt}
use Rattle.std.proofs.lemmas.List.{length-take, take-append-drop, take-take, take_all}
use Rattle.binary_form.specs.declared.fault.Field.{Field}
use Rattle.binary_form.specs.declared.fault.ImageFault.{ImageFault}
use Rattle.binary_form.specs.declared.fault.ImageFault.TheVariants as fault
use Rattle.binary_form.specs.Form.{Form}
use Rattle.binary_form.specs.Faults.{unpacked}
use Rattle.proof_faults.specs.WrongField.{IsWrongField}
use Rattle.proof_faults.proofs.Fronts.{bad_decided, bad_inside, bad_only, bad_stays}
use Rattle.proof_faults.proofs.Readers.{IsLocal}

-- ---- what holds from a number on, and another thing before it

-- this number, no higher than a bound, has the other, and so have all from it on
pub record IsFirst (P Q : ℕ → Type 0) (most : ℕ) : Type 0 where
  pub size : ℕ
  pub within : size ≤ most
  pub before : (n : ℕ) → n < size → P n
  pub from : (n : ℕ) → size ≤ n → Q n

-- each number has one or the other, never both, and the other goes on
module _ (P Q : ℕ → Type 0) (either : (n : ℕ) → P n ⊎ Q n) (apart : (n : ℕ) → P n → Q n → ⊥) (on : (n m : ℕ) → n ≤ m → Q n → Q m) where
  -- what is before one that has the first has it too
  first_before : (n m : ℕ) → n ≤ m → P m → P n
  first_before n m le p =
      elim (either n) [
        | inl h ↦ h
        | inr h ↦ absurd (apart m p (on n m le h))
      ]

  -- there is a first one that has the other
  first : (k : ℕ) → Q k → IsFirst P Q k
  first zero q = record { size = zero; within = omega arith; before = λ n lt. absurd (omega (arith, lt)); from = λ n le. on zero n le q }
  first (suc k) q =
      elim (either k) [
        | inl p ↦
            record { size = suc k; within = omega arith; before = λ n lt. first_before n k (omega (arith, lt)) p; from = λ n le. on (suc k) n le q }
        | inr h ↦
            let found = first k h in
            let within = found.within in
            record { size = found.size; within = omega (arith, within); before = found.before; from = found.from }
      ]

-- ---- the size of a wrong field

-- the bytes end in a field that begins here
abbrev short_at : {A : Type 0} → ℕ → Result A ImageFault
short_at at = Err (fault.Short at)

-- a field that begins here is wrong
abbrev bad_at : {A : Type 0} → ℕ → Field → Result A ImageFault
bad_at at name = Err (fault.Bad at name)

-- these are two
short_not_bad : {A : Type 0} (at : ℕ) (name : Field) → short_at {A = A} at ≡ bad_at {A = A} at name → ⊥
short_not_bad at title e = absurd cc

module _ {A : Type 0} (room : Field → ℕ) (f : Form A) (local : IsLocal room f.read) (bytes : List ℕ) (at : ℕ) (name : Field)
    (wrong : unpacked f bytes ≡ Err (fault.Bad at name)) where
  -- what goes on has the fault of a front
  bad_on : (n m : ℕ) → n ≤ m → unpacked f (take n bytes) ≡ Err (fault.Bad at name) → unpacked f (take m bytes) ≡ Err (fault.Bad at name)
  bad_on n m le e =
      let parts : take m bytes ≡ take n bytes ++ drop n (take m bytes) =
      sym (take-append-drop n (take m bytes)) ∙ ap (λ (t : List ℕ). t ++ drop n (take m bytes)) (take-take n m bytes le) in
      ap (unpacked f) parts ∙ bad_stays room f local (take n bytes) (drop n (take m bytes)) at name e

  -- a front with the fault has a byte of the field
  some_size : (size : ℕ) → unpacked f (take (at + size) bytes) ≡ Err (fault.Bad at name) → 0 < size
  some_size size h =
      let there = bad_inside room f local (take (at + size) bytes) at name h in
      omega (arith, there, length-take (at + size) bytes)

  -- a front that goes so far beyond the field's beginning ends in the field, or has the fault
  abbrev Lacks : ℕ → Type 0
  Lacks k = unpacked f (take (at + k) bytes) ≡ Err (fault.Short at)

  abbrev Has : ℕ → Type 0
  Has k = unpacked f (take (at + k) bytes) ≡ Err (fault.Bad at name)

  -- there is a shortest that has it
  shortest : IsFirst Lacks Has (room name)
  shortest =
      first Lacks Has
      (λ k. bad_only room f local bytes at (at + k) name wrong (omega arith))
      (λ k p q. short_not_bad {A = A} at name (sym p ∙ q))
      (λ n m le q. bad_on (at + n) (at + m) (omega (arith, le)) q)
      (room name) (bad_decided room f local bytes at (at + room name) name wrong (omega arith))

  -- all of it is among the bytes
  shortest_there : at + shortest.size ≤ length bytes
  shortest_there =
      elim (cases_lt (length bytes) (at + shortest.size)) [
        | inl lt ↦
            let inside = bad_inside room f local bytes at name wrong in
            let lacks = shortest.before (length bytes - at) (omega (arith, lt, inside)) in
            let whole : at + (length bytes - at) ≡ length bytes = omega (arith, inside) in
            let all : take (at + (length bytes - at)) bytes ≡ bytes = take_all (at + (length bytes - at)) bytes (omega (arith, whole)) in
            absurd (short_not_bad {A = A} at name (sym lacks ∙ ap (unpacked f) all ∙ wrong))
        | inr le ↦ le
      ]

  -- so the field has that size
  pub wrong_field : (size : ℕ) × (size ≤ room name) × IsWrongField f bytes at name size
  wrong_field = (
    shortest.size,
    shortest.within,
    record {
      some = some_size shortest.size (shortest.from shortest.size (omega arith));
      there = shortest_there;
      lacked = λ n from before.
          let whole : at + (n - at) ≡ n = omega (arith, from) in
          ap (λ (k : ℕ). unpacked f (take k bytes)) (sym whole) ∙ shortest.before (n - at) (omega (arith, before, from));
      decides = λ n more le.
          let whole : at + (n - at) ≡ n = omega (arith, le) in
          bad_stays room f local (take n bytes) more at name (ap (λ (k : ℕ). unpacked f (take k bytes)) (sym whole) ∙ shortest.from (n - at) (omega (arith, le)));
    },
  )
