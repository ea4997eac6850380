-- What the reading of a whole file answers, by the laws of its form.
use Rattle.std.proofs.Common.{◌≡◌, ℕ, ◌-◌, List, length, Result, Ok, Err, refl, sym, ap, subst, ◌∙◌, ◌+◌, ◌<◌, ◌++◌, arith}
use Rattle.std.proofs.lemmas.List.{length-append}
use Rattle.binary_form.specs.declared.fault.ImageFault.{ImageFault}
use Rattle.binary_form.specs.declared.fault.ImageFault.TheVariants as fault
use Rattle.binary_form.specs.declared.fault.Field.{Field}
use Rattle.binary_form.specs.declared.fault.FormFault.{FormFault}
use Rattle.binary_form.specs.declared.fault.FormFault.TheVariants.{Short, Bad, Trailing}
use Rattle.binary_form.specs.declared.fault.FormError.{FormError}
use Rattle.binary_form.specs.declared.fault.FormError.TheVariants.{NoMemory, At}
use Rattle.binary_form.specs.Form.{IsBytes, Form, Fails, whole}
use Rattle.binary_form.specs.Faults.{located, located_in, unpacked, IsWanted, Tells, IsErrorOf, IsFaultOf, IsShort}
use Rattle.binary_form.proofs.Leaves.{Laws}
use Rattle.binary_form.proofs.Forms.{whole_takes, whole_again, whole_within, whole_stays, whole_short, whole_before}

pub is_found : {A : Type 0} (f : Form A) → Laws f → (bytes : List ℕ) (x : A) → IsBytes bytes → whole f bytes ≡ Ok x → f.fits x × (bytes ≡ f.spell x)
is_found f laws bytes x fits e = let h = whole_takes f laws bytes x fits e in (h.1, h.0)

pub is_error : {A : Type 0} (f : Form A) → Laws f → (bytes : List ℕ) (h : FormError) → IsBytes bytes → Fails h (whole f bytes) → IsErrorOf (length bytes) h
is_error f laws bytes NoMemory fits e = tt
is_error f laws bytes (At s) fits e = whole_within f laws bytes s fits e

pub is_unpacked : {A : Type 0} (f : Form A) (bytes : List ℕ) (x : A) → whole f bytes ≡ Ok x → unpacked f bytes ≡ Ok x
unfolding unpacked
is_unpacked f bytes x e = ap (located_in (length bytes)) e

wanted_located : {A : Type 0} (total : ℕ) (s : FormFault) (w : Result A ImageFault) → w ≡ Err (located total s) → IsWanted w (located total s)
wanted_located total (Short left) w e = e
wanted_located total (Bad left field) w e = e
wanted_located total (Trailing left) w e = e

pub is_wanted : {A : Type 0} (f : Form A) (bytes : List ℕ) (h : FormError) (w : ImageFault) → Fails h (whole f bytes) → IsFaultOf (length bytes) h w → IsWanted (unpacked f bytes) w
unfolding unpacked
is_wanted f bytes NoMemory w e is = subst (IsWanted (located_in (length bytes) (whole f bytes))) (sym is) tt
is_wanted f bytes (At s) w e is = subst (IsWanted (located_in (length bytes) (whole f bytes))) (sym is) (wanted_located (length bytes) s _ (ap (located_in (length bytes)) e))

-- what is spelled is read again
pub back : {A : Type 0} (f : Form A) → Laws f → (x : A) → f.fits x → unpacked f (f.spell x) ≡ Ok x
back f laws x fits = is_unpacked f (f.spell x) x (whole_again f laws x fits)

pub only_that : {A : Type 0} (f : Form A) → Laws f → (bytes : List ℕ) (r : Result A ImageFault) → Tells (unpacked f bytes) r → (x : A) → f.fits x → bytes ≡ f.spell x → Tells (Ok x) r
only_that {A} f laws bytes r h x fits e = subst (λ (w : Result A ImageFault). Tells w r) (ap (unpacked f) e ∙ back f laws x fits) h

pub located_ok : {A : Type 0} (total : ℕ) (r : Result A FormFault) (x : A) → located_in total r ≡ Ok x → r ≡ Ok x
located_ok total (Ok y) x e = cc
located_ok total (Err s) x e = absurd cc

-- no other bytes spell what was read
pub spelled : {A : Type 0} (f : Form A) → Laws f → (bytes : List ℕ) (x : A) → IsBytes bytes → unpacked f bytes ≡ Ok x → f.fits x × (bytes ≡ f.spell x)
unfolding unpacked
spelled f laws bytes x fits e = is_found f laws bytes x fits (located_ok (length bytes) (whole f bytes) x e)

abbrev is_ok : {A : Type 0} → A → Result A ImageFault
is_ok x = Ok x

ok_same : {A : Type 0} (x y : A) → is_ok x ≡ is_ok y → x ≡ y
ok_same x y e = cc

-- what differs is spelled otherwise
pub apart : {A : Type 0} (f : Form A) → Laws f → (x y : A) → f.fits x → f.fits y → f.spell x ≡ f.spell y → x ≡ y
apart f laws x y p q e = ok_same x y (sym (back f laws x p) ∙ ap (unpacked f) e ∙ back f laws y q)

-- ---- the first fault

bad_is : {A : Type 0} (total : ℕ) (r : Result A FormFault) (at : ℕ) (name : Field) → located_in total r ≡ Err (fault.Bad at name) → (left : ℕ) × (r ≡ Err (Bad left name)) × (at ≡ total - left)
bad_is total (Ok x) at title e = absurd cc
bad_is total (Err (Short left)) at title e = absurd cc
bad_is total (Err (Bad left other)) at title e = let same : other ≡ title = cc in (left, ap (λ t. Err (Bad left t)) same, cc)
bad_is total (Err (Trailing left)) at title e = absurd cc

short_is : {A : Type 0} (total : ℕ) (r : Result A FormFault) (at : ℕ) → located_in total r ≡ Err (fault.Short at) → (left : ℕ) × (r ≡ Err (Short left))
short_is total (Ok x) at e = absurd cc
short_is total (Err (Short left)) at e = (left, refl)
short_is total (Err (Bad left other)) at e = absurd cc
short_is total (Err (Trailing left)) at e = absurd cc

-- whatever follows, the fault is this one
pub stays : {A : Type 0} (f : Form A) → Laws f → (bytes more : List ℕ) (at : ℕ) (name : Field) → unpacked f bytes ≡ Err (fault.Bad at name) → unpacked f (bytes ++ more) ≡ Err (fault.Bad at name)
unfolding unpacked
stays f laws bytes more at title e =
    let h = bad_is (length bytes) (whole f bytes) at title e in
    let same : length (bytes ++ more) - (h.0 + length more) ≡ at = omega (arith, length-append bytes more, h.2) in
    ap (located_in (length (bytes ++ more))) (whole_stays f laws bytes more h.0 title h.1) ∙ ap (λ k. Err (fault.Bad k title)) same

-- what is short with more behind is short
pub only_short : {A : Type 0} (f : Form A) → Laws f → (bytes more : List ℕ) (at : ℕ) → unpacked f (bytes ++ more) ≡ Err (fault.Short at) → IsShort (unpacked f bytes)
unfolding unpacked
only_short f laws bytes more at e =
    let h = short_is (length (bytes ++ more)) (whole f (bytes ++ more)) at e in
    let k = whole_short f laws bytes more h.0 h.1 in
    (length bytes - k.0, ap (located_in (length bytes)) k.1)

-- what ends before the field of the fault has no fault but that it ends
pub before : {A : Type 0} (f : Form A) → Laws f → (bytes more : List ℕ) (at : ℕ) (name : Field) → length bytes < at → unpacked f (bytes ++ more) ≡ Err (fault.Bad at name) → IsShort (unpacked f bytes)
unfolding unpacked
before f laws bytes more at title lt e =
    let h = bad_is (length (bytes ++ more)) (whole f (bytes ++ more)) at title e in
    let k = whole_before f laws bytes more h.0 title (omega (arith, length-append bytes more, h.2)) h.1 in
    (length bytes - k.0, ap (located_in (length bytes)) k.1)
