-- Readers whose faults are those of the bytes up to the end of a field.
use Rattle.std.proofs.Common.{◌≡◌, ℕ, ◌+◌, ◌<◌, ◌≤◌, List, [], ◌++◌, length, Result, Ok, Err, refl, sym, ap, subst, ◌∙◌, append_assoc, arith, inl, inr}
use Rattle.std.proofs.lemmas.List.{length-append}
use Rattle.binary_form.specs.declared.fault.Field.{Field}
use Rattle.binary_form.specs.declared.fault.FormFault.{FormFault}
use Rattle.binary_form.specs.declared.fault.FormFault.TheVariants.{Short, Bad, Trailing}
use Rattle.binary_form.specs.Form.{◌>>=◌, IsSettled, extended, fault_bytes_left, longer}
use Rattle.binary_form.proofs.Leaves.{bind_err, bind_ok, bind_stays, ok_is, ok_not_err}

-- answers a value and the bytes behind it, or the first fault
abbrev pub Reader : Type 0 → Type 0
Reader A = List ℕ → Result (A × List ℕ) FormFault

-- a fault of so many bytes: its field begins among them, and has a byte where it is wrong
abbrev pub IsAmong : ℕ → FormFault → Type 0
IsAmong n (Short left) = left ≤ n
IsAmong n (Bad left title) = (0 < left) × (left ≤ n)
IsAmong n (Trailing left) = ⊥

-- a field that is wrong, of whose bytes so many are too few
abbrev pub HasMore : (Field → ℕ) → ℕ → FormFault → Type 0
HasMore room s (Short left) = Unit {0}
HasMore room s (Bad left title) = s < room title
HasMore room s (Trailing left) = Unit {0}

-- the faults of a reader are those of its fields
pub record IsLocal {A : Type 0} (room : Field → ℕ) (read : Reader A) : Type 0 where
  -- it takes bytes from the front
  pub parts : (bytes : List ℕ) (x : A) (rest : List ℕ) → read bytes ≡ Ok (x, rest) → (front : List ℕ) × (bytes ≡ front ++ rest)
  -- the field of a fault begins among the bytes
  pub among : (bytes : List ℕ) (e : FormFault) → read bytes ≡ Err e → IsAmong (length bytes) e
  -- bytes behind change neither a value nor a fault but that the bytes end
  pub stays : (bytes more : List ℕ) → IsSettled (read bytes) → read (bytes ++ more) ≡ extended (longer more) (length more) (read bytes)
  -- where they end in a field, a value that is read with more behind goes on past their end
  pub past : (bytes more : List ℕ) (s : ℕ) (x : A) (rest : List ℕ) → read bytes ≡ Err (Short s) → read (bytes ++ more) ≡ Ok (x, rest) → length rest < length more
  -- and a fault with more behind that doesn't begin past their end is one of that field
  pub near : (bytes more : List ℕ) (s : ℕ) (e : FormFault) → read bytes ≡ Err (Short s) → read (bytes ++ more) ≡ Err e → length more ≤ fault_bytes_left e → (fault_bytes_left e ≡ s + length more) × HasMore room s e

pub parts_shorter : (bytes front rest : List ℕ) → bytes ≡ front ++ rest → length rest ≤ length bytes
parts_shorter bytes front rest e = rw e (omega (arith, length-append front rest))

pub rest_shorter : {A : Type 0} (room : Field → ℕ) (read : Reader A) → IsLocal room read → (bytes : List ℕ) (x : A) (rest : List ℕ) → read bytes ≡ Ok (x, rest) → length rest ≤ length bytes
rest_shorter room read local bytes x rest e =
    let p = local.parts bytes x rest e in
    parts_shorter bytes p.0 rest p.1

pub among_more : (n m : ℕ) (e : FormFault) → n ≤ m → IsAmong n e → IsAmong m e
among_more n m (Short left) le h = omega (arith, le, h)
among_more n m (Bad left title) le h = (h.0, omega (arith, le, h.1))
among_more n m (Trailing left) le h = h

pub left_among : (n : ℕ) (e : FormFault) → IsAmong n e → fault_bytes_left e ≤ n
left_among n (Short left) h = h
left_among n (Bad left title) h = h.1
left_among n (Trailing left) h = absurd h

-- what was read is read with more behind
pub read_on : {A : Type 0} (room : Field → ℕ) (read : Reader A) → IsLocal room read → (bytes more : List ℕ) (x : A × List ℕ) → read bytes ≡ Ok x → read (bytes ++ more) ≡ Ok (longer more x)
read_on room read local bytes more x e = local.stays bytes more (subst IsSettled (sym e) tt) ∙ ap (extended (longer more) (length more)) e

-- ---- a reader by its answers

pub same_local : {A : Type 0} (room : Field → ℕ) (read other : Reader A) → ((bytes : List ℕ) → read bytes ≡ other bytes) → IsLocal room other → IsLocal room read
same_local room read other same local = record {
  parts = λ bytes x rest e. local.parts bytes x rest (sym (same bytes) ∙ e);
  among = λ bytes e h. local.among bytes e (sym (same bytes) ∙ h);
  stays = λ bytes more settled. same (bytes ++ more) ∙ local.stays bytes more (subst IsSettled (same bytes) settled) ∙ ap (extended (longer more) (length more)) (sym (same bytes));
  past = λ bytes more s x rest e h. local.past bytes more s x rest (sym (same bytes) ∙ e) (sym (same (bytes ++ more)) ∙ h);
  near = λ bytes more s e h g. local.near bytes more s e (sym (same bytes) ∙ h) (sym (same (bytes ++ more)) ∙ g);
}

-- ---- nothing is read

abbrev pub given : {A : Type 0} → A → Reader A
given x bytes = Ok (x, bytes)

pub given_local : {A : Type 0} (room : Field → ℕ) (made : A) → IsLocal room (given made)
given_local {A} room made = record {
  parts = λ bytes x rest e. ([], ap (λ (p : A × List ℕ). p.1) (ok_is (made, bytes) (x, rest) e));
  among = λ bytes e h. absurd (ok_not_err (made, bytes) e h);
  stays = λ bytes more settled. refl;
  past = λ bytes more s x rest e h. absurd (ok_not_err (made, bytes) (Short s) e);
  near = λ bytes more s e h g. absurd (ok_not_err (made, bytes) (Short s) h);
}

-- ---- one after the other

abbrev pub then : {A B : Type 0} → Reader A → (A → Reader B) → Reader B
then read more bytes = read bytes >>= λ x. more x.0 x.1

then_parts : {A B : Type 0} (room : Field → ℕ) (read : Reader A) (more : A → Reader B) → IsLocal room read → ((x : A) → IsLocal room (more x))
    → (bytes : List ℕ) (y : B) (rest : List ℕ) → then read more bytes ≡ Ok (y, rest) → (front : List ℕ) × (bytes ≡ front ++ rest)
then_parts room read more first others bytes y rest e =
    let a = bind_ok (read bytes) (λ x. more x.0 x.1) (y, rest) e in
    let p = first.parts bytes a.0.0 a.0.1 a.1 in
    let q = (others a.0.0).parts a.0.1 y rest a.2 in
    (p.0 ++ q.0, p.1 ∙ ap (λ (t : List ℕ). p.0 ++ t) q.1 ∙ sym (append_assoc p.0 q.0 rest))

then_among : {A B : Type 0} (room : Field → ℕ) (read : Reader A) (more : A → Reader B) → IsLocal room read → ((x : A) → IsLocal room (more x))
    → (bytes : List ℕ) (e : FormFault) → then read more bytes ≡ Err e → IsAmong (length bytes) e
then_among room read more first others bytes e h =
    elim (bind_err (read bytes) (λ x. more x.0 x.1) e h) [
      | inl g ↦ first.among bytes e g
      | inr g ↦ among_more (length g.0.1) (length bytes) e (rest_shorter room read first bytes g.0.0 g.0.1 g.1) ((others g.0.0).among g.0.1 e g.2)
    ]

then_stays : {A B : Type 0} (room : Field → ℕ) (read : Reader A) (more : A → Reader B) → IsLocal room read → ((x : A) → IsLocal room (more x))
    → (bytes behind : List ℕ) → IsSettled (then read more bytes) → then read more (bytes ++ behind) ≡ extended (longer behind) (length behind) (then read more bytes)
then_stays room read more first others bytes behind settled =
    bind_stays (longer behind) (longer behind) (length behind) (read bytes) (read (bytes ++ behind)) (λ x. more x.0 x.1) (first.stays bytes behind) (λ x. (others x.0).stays x.1 behind) settled

-- what is read with more behind, once the first reader has its value
then_on : {A B : Type 0} (room : Field → ℕ) (read : Reader A) (more : A → Reader B) → IsLocal room read → (bytes behind : List ℕ) (x : A × List ℕ) → read bytes ≡ Ok x → then read more (bytes ++ behind) ≡ more x.0 (x.1 ++ behind)
then_on room read more first bytes behind x e = ap (λ r. r >>= λ y. more y.0 y.1) (read_on room read first bytes behind x e)

then_past : {A B : Type 0} (room : Field → ℕ) (read : Reader A) (more : A → Reader B) → IsLocal room read → ((x : A) → IsLocal room (more x))
    → (bytes behind : List ℕ) (s : ℕ) (y : B) (rest : List ℕ) → then read more bytes ≡ Err (Short s) → then read more (bytes ++ behind) ≡ Ok (y, rest) → length rest < length behind
then_past room read more first others bytes behind s y rest e h =
    elim (bind_err (read bytes) (λ x. more x.0 x.1) (Short s) e) [
      | inl g ↦
          let a = bind_ok (read (bytes ++ behind)) (λ x. more x.0 x.1) (y, rest) h in
          let there = first.past bytes behind s a.0.0 a.0.1 g a.1 in
          let shorter = rest_shorter room (more a.0.0) (others a.0.0) a.0.1 y rest a.2 in
          omega (arith, there, shorter)
      | inr g ↦ (others g.0.0).past g.0.1 behind s y rest g.2 (sym (then_on room read more first bytes behind g.0 g.1) ∙ h)
    ]

then_near : {A B : Type 0} (room : Field → ℕ) (read : Reader A) (more : A → Reader B) → IsLocal room read → ((x : A) → IsLocal room (more x))
    → (bytes behind : List ℕ) (s : ℕ) (e : FormFault) → then read more bytes ≡ Err (Short s) → then read more (bytes ++ behind) ≡ Err e → length behind ≤ fault_bytes_left e → (fault_bytes_left e ≡ s + length behind) × HasMore room s e
then_near room read more first others bytes behind s e h k le =
    elim (bind_err (read bytes) (λ x. more x.0 x.1) (Short s) h) [
      | inl g ↦
          elim (bind_err (read (bytes ++ behind)) (λ x. more x.0 x.1) e k) [
            | inl j ↦ first.near bytes behind s e g j le
            | inr j ↦
                let there = first.past bytes behind s j.0.0 j.0.1 g j.1 in
                let within = left_among (length j.0.1) e ((others j.0.0).among j.0.1 e j.2) in
                absurd (omega (arith, there, within, le))
          ]
      | inr g ↦ (others g.0.0).near g.0.1 behind s e g.2 (sym (then_on room read more first bytes behind g.0 g.1) ∙ k) le
    ]

pub then_local : {A B : Type 0} (room : Field → ℕ) (read : Reader A) (more : A → Reader B) → IsLocal room read → ((x : A) → IsLocal room (more x)) → IsLocal room (then read more)
then_local room read more first others = record {
  parts = then_parts room read more first others;
  among = then_among room read more first others;
  stays = then_stays room read more first others;
  past = then_past room read more first others;
  near = then_near room read more first others;
}
