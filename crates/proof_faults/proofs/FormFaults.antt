-- A fault of a whole file is one of its form, so many bytes before the end.
use Rattle.std.proofs.Common.{◌≡◌, ℕ, zero, suc, ◌-◌, ◌<◌, Bool, true, false, cond, eqb, List, length, Result, Ok, Err, refl, sym, ap, subst, ◌∙◌, arith, inl, inr}
use Rattle.std.proofs.lemmas.Bool.{eqb-true}
use Rattle.binary_form.specs.declared.fault.Field.{Field}
use Rattle.binary_form.specs.declared.fault.ImageFault.{ImageFault}
use Rattle.binary_form.specs.declared.fault.ImageFault.TheVariants as fault
use Rattle.binary_form.specs.declared.fault.FormFault.{FormFault}
use Rattle.binary_form.specs.declared.fault.FormFault.TheVariants.{Short, Bad, Trailing}
use Rattle.binary_form.specs.Form.{◌>>=◌, Form, fault_bytes_left, whole}
use Rattle.binary_form.specs.Faults.{located, located_in, unpacked}
use Rattle.binary_form.proofs.Leaves.{bind_err, bind_ok, err_is, ok_not_err, test_err, test_ok}
use Rattle.binary_form.proofs.Theorem.{located_ok}

-- what stands behind the last field ends the file, or trails
abbrev ending : {A : Type 0} → A × List ℕ → Result A FormFault
ending x = cond (eqb (length x.1) 0) (Ok x.0) (Err (Trailing (length x.1)))

abbrev failed : {A : Type 0} → FormFault → Result A FormFault
failed d = Err d

abbrev pub failing : {A : Type 0} → ImageFault → Result A ImageFault
failing w = Err w

-- ---- a fault by its offset

-- the fault of a form that this one of the file is
record IsOfForm {A : Type 0} (total : ℕ) (r : Result A FormFault) (w : ImageFault) : Type 0 where
  within : FormFault
  is : r ≡ Err within
  place : w ≡ located total within

-- there is one
of_form : {A : Type 0} (total : ℕ) (r : Result A FormFault) (w : ImageFault) → located_in total r ≡ Err w → IsOfForm total r w
of_form total (Ok x) w e = absurd cc
of_form total (Err d) w e = record { within = d; is = refl; place = cc }

-- a fault of a form is this one, with so many bytes left at this offset
record IsLeft (total : ℕ) (make : ℕ → FormFault) (at : ℕ) (e : FormFault) : Type 0 where
  left : ℕ
  is : e ≡ make left
  place : at ≡ total - left

-- a field of a file is wrong as one of its form is
bad_is : (total : ℕ) (e : FormFault) (at : ℕ) (name : Field) → fault.Bad at name ≡ located total e → IsLeft total (λ left. Bad left name) at e
bad_is total (Short left) at title h = absurd cc
bad_is total (Bad left other) at title h = let same : other ≡ title = cc in record { left = left; is = ap (λ t. Bad left t) same; place = cc }
bad_is total (Trailing left) at title h = absurd cc

-- a file ends too early where its form does
short_is : (total : ℕ) (e : FormFault) (at : ℕ) → fault.Short at ≡ located total e → IsLeft total (λ left. Short left) at e
short_is total (Short left) at h = record { left = left; is = refl; place = cc }
short_is total (Bad left other) at h = absurd cc
short_is total (Trailing left) at h = absurd cc

-- what trails in a file trails behind its form
trailing_is : (total : ℕ) (e : FormFault) (at : ℕ) → fault.Trailing at ≡ located total e → IsLeft total (λ left. Trailing left) at e
trailing_is total (Short left) at h = absurd cc
trailing_is total (Bad left other) at h = absurd cc
trailing_is total (Trailing left) at h = record { left = left; is = refl; place = cc }

-- ---- a fault of a field

-- no fault of fields comes of what is behind the last one
abbrev pub IsOfField : FormFault → Type 0
IsOfField (Short left) = Unit {0}
IsOfField (Bad left title) = Unit {0}
IsOfField (Trailing left) = ⊥

-- such a fault of the whole is one that the form reads
whole_is : {A : Type 0} (f : Form A) (bytes : List ℕ) (e : FormFault) → IsOfField e → whole f bytes ≡ Err e → f.read bytes ≡ Err e
unfolding whole
whole_is f bytes e of h =
    elim (bind_err (f.read bytes) ending e h) [
      | inl g ↦ g
      | inr g ↦
          let x = g.0 in
          absurd (subst IsOfField (sym (test_err (eqb (length x.1) 0) (Trailing (length x.1)) x.0 e g.2)) of)
    ]

-- and a fault that the form reads is one of the file
pub is_whole : {A : Type 0} (f : Form A) (bytes : List ℕ) (e : FormFault) → f.read bytes ≡ Err e → unpacked f bytes ≡ Err (located (length bytes) e)
unfolding whole unpacked
is_whole f bytes e h = ap (λ r. located_in (length bytes) (r >>= ending)) h

-- the form reads this fault of a file, with so many bytes left
pub record Reads {A : Type 0} (f : Form A) (bytes : List ℕ) (make : ℕ → FormFault) (at : ℕ) : Type 0 where
  pub left : ℕ
  pub read : f.read bytes ≡ Err (make left)
  pub place : at ≡ length bytes - left

-- a fault of a file that is one of a field
fault_read : {A : Type 0} (f : Form A) (bytes : List ℕ) (make : ℕ → FormFault) (at : ℕ) (w : ImageFault) → ((left : ℕ) → IsOfField (make left))
    → ((e : FormFault) → w ≡ located (length bytes) e → IsLeft (length bytes) make at e) → unpacked f bytes ≡ Err w → Reads f bytes make at
unfolding unpacked
fault_read {A} f bytes make at w of is e =
    let h = of_form (length bytes) (whole f bytes) w e in
    let b = is h.within h.place in
    let there : whole f bytes ≡ Err (make b.left) = h.is ∙ ap (λ (d : FormFault). failed {A = A} d) b.is in
    record { left = b.left; read = whole_is f bytes (make b.left) (of b.left) there; place = b.place }

-- the wrong field of a file
pub bad_read : {A : Type 0} (f : Form A) (bytes : List ℕ) (at : ℕ) (name : Field) → unpacked f bytes ≡ Err (fault.Bad at name) → Reads f bytes (λ left. Bad left name) at
bad_read f bytes at title e = fault_read f bytes (λ left. Bad left title) at (fault.Bad at title) (λ left. tt) (λ d h. bad_is (length bytes) d at title h) e

-- the field in which a file ends
pub short_read : {A : Type 0} (f : Form A) (bytes : List ℕ) (at : ℕ) → unpacked f bytes ≡ Err (fault.Short at) → Reads f bytes (λ left. Short left) at
short_read f bytes at e = fault_read f bytes (λ left. Short left) at (fault.Short at) (λ left. tt) (λ d h. short_is (length bytes) d at h) e

-- ---- bytes behind the last field

-- a test that failed
tail_there : {A : Type 0} (b : Bool) (x : A) (d s : FormFault) → cond b (Ok x) (Err d) ≡ Err s → (b ≡ false) × (d ≡ s)
tail_there true x d s e = absurd (ok_not_err x s e)
tail_there {A} false x d s e = (refl, err_is {A = A} d s e)

-- a number that isn't 0
some_left : (n : ℕ) → eqb n 0 ≡ false → 0 < n
some_left zero e = absurd cc
some_left (suc n) e = omega arith

-- what was read, with bytes behind it from this offset on
pub record HasTail {A : Type 0} (f : Form A) (bytes : List ℕ) (at : ℕ) : Type 0 where
  pub value : A
  pub rest : List ℕ
  pub read : f.read bytes ≡ Ok (value, rest)
  pub some : 0 < length rest
  pub place : at ≡ length bytes - length rest

-- what trails in a file, if the form itself reads no such fault
pub trailing_read : {A : Type 0} (f : Form A) (bytes : List ℕ) (at : ℕ) → ((left : ℕ) → f.read bytes ≡ Err (Trailing left) → ⊥) → unpacked f bytes ≡ Err (fault.Trailing at)
    → HasTail f bytes at
unfolding unpacked whole
trailing_read {A} f bytes at never e =
    let h = of_form (length bytes) (whole f bytes) (fault.Trailing at) e in
    let b = trailing_is (length bytes) h.within at h.place in
    elim (bind_err (f.read bytes) ending (Trailing b.left) (h.is ∙ ap (λ (d : FormFault). failed {A = A} d) b.is)) [
      | inl g ↦ absurd (never b.left g)
      | inr g ↦
          let x = g.0 in
          let t = tail_there (eqb (length x.1) 0) x.0 (Trailing (length x.1)) (Trailing b.left) g.2 in
          let many : length x.1 ≡ b.left = ap fault_bytes_left t.1 in
          record { value = x.0; rest = x.1; read = g.1; some = some_left (length x.1) t.0; place = omega (arith, many, b.place) }
    ]

-- all of these bytes were read, with nothing behind
pub record IsAll {A : Type 0} (r : Result (A × List ℕ) FormFault) : Type 0 where
  pub value : A
  pub rest : List ℕ
  pub is : r ≡ Ok (value, rest)
  pub none : length rest ≡ 0

-- then they are a whole file
pub read_whole : {A : Type 0} (f : Form A) (bytes : List ℕ) (x : A) (rest : List ℕ) → f.read bytes ≡ Ok (x, rest) → length rest ≡ 0 → unpacked f bytes ≡ Ok x
unfolding unpacked whole
read_whole f bytes x rest e none = ap (λ r. located_in (length bytes) (r >>= ending)) e ∙ rw none refl

-- .. and a whole file was read so
pub whole_ok : {A : Type 0} (f : Form A) (bytes : List ℕ) (x : A) → unpacked f bytes ≡ Ok x → IsAll (f.read bytes)
unfolding unpacked whole
whole_ok f bytes x e =
    let a = bind_ok (f.read bytes) ending x (located_ok (length bytes) (whole f bytes) x e) in
    let y = a.0 in
    let t = test_ok (eqb (length y.1) 0) (Trailing (length y.1)) y.0 x a.2 in
    record { value = y.0; rest = y.1; is = a.1; none = eqb-true (length y.1) 0 t.0 }

-- what stands behind what was read trails
pub tail_read : {A : Type 0} (f : Form A) (bytes : List ℕ) (x : A) (rest : List ℕ) → f.read bytes ≡ Ok (x, rest) → eqb (length rest) 0 ≡ false
    → unpacked f bytes ≡ Err (fault.Trailing (length bytes - length rest))
unfolding unpacked whole
tail_read f bytes x rest e some = ap (λ r. located_in (length bytes) (r >>= ending)) e ∙ rw some refl
