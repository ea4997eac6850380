-- The laws of a form with a condition, and of a field with the rest behind it; and what the rest knows of the field.
use Rattle.std.proofs.Common.{◌≡◌, ℕ, ◌+◌, ◌≤◌, Bool, true, false, cond, List, ◌++◌, length, Result, Ok, Err, refl, sym, ap, subst, ◌∙◌, append_assoc, arith}
use Rattle.std.specs.Prelude.{IsTrue}
use Rattle.std.proofs.lemmas.List.{length-append}
use Rattle.binary_form.specs.declared.fault.Field.{Field}
use Rattle.binary_form.specs.declared.fault.FormFault.{FormFault}
use Rattle.binary_form.specs.declared.fault.FormFault.TheVariants.{Short, Bad, Trailing}
use Rattle.binary_form.specs.Form.{IsBytes, ◌>>=◌, Form, fault_bytes_left, IsSettled, extended, longer, only, field, tag, gap, done}
use Rattle.binary_form.proofs.Behind.{read_on, within_on}
use Rattle.binary_form.proofs.Leaves.{test_ok, test_err, Takes, Takes-then, Laws, bind_stays}

-- ---- a condition

-- whether a value is kept is not changed by bytes behind
pub chosen_stays : {X : Type 0} (g : X → X) (n left left' : ℕ) (name : Field) (b c : Bool) (x : X) → left' ≡ left + n → c ≡ b
    → cond c (Ok (g x)) (Err (Bad left' name)) ≡ extended g n (cond b (Ok x) (Err (Bad left name)))
chosen_stays g n left left' title true c x e same = rw same refl
chosen_stays g n left left' title false c x e same = rw (same, e) refl

-- .. nor what a test makes of what is read
tested_stays : {X : Type 0} (g : X → X) (n left left' : ℕ) (name : Field) (test : X → Bool) (r q : Result X FormFault) → left' ≡ left + n → ((x : X) → test (g x) ≡ test x)
    → (IsSettled r → q ≡ extended g n r) → IsSettled (r >>= λ x. cond (test x) (Ok x) (Err (Bad left name)))
    → (q >>= λ x. cond (test x) (Ok x) (Err (Bad left' name))) ≡ extended g n (r >>= λ x. cond (test x) (Ok x) (Err (Bad left name)))
tested_stays g n left left' title test (Ok x) q e same h settled =
    ap (λ t. t >>= λ x. cond (test x) (Ok x) (Err (Bad left' title))) (h tt) ∙ chosen_stays g n left left' title (test x) (test (g x)) x e (same x)
tested_stays g n left left' title test (Err (Short l)) q e same h settled = absurd settled
tested_stays g n left left' title test (Err (Bad l m)) q e same h settled = ap (λ t. t >>= λ x. cond (test x) (Ok x) (Err (Bad left' title))) (h tt)
tested_stays g n left left' title test (Err (Trailing l)) q e same h settled = ap (λ t. t >>= λ x. cond (test x) (Ok x) (Err (Bad left' title))) (h tt)

module _ {A : Type 0} (test : A → Bool) (name : Field) (f : Form A) (laws : Laws f) where
  -- a value that is read meets the condition
  only_takes : (bytes : List ℕ) (x : A) (rest : List ℕ) → IsBytes bytes → (only test name f).read bytes ≡ Ok (x, rest) → Takes bytes (f.spell x) rest × (f.fits x × IsTrue (test x))
  unfolding only
  only_takes bytes x rest are e =
      let on = read_on f laws (λ y. cond (test y.0) (Ok y) (Err (Bad (length bytes) name))) bytes (x, rest) are e in
      let (passes, same) = test_ok (test on.value) (Bad (length bytes) name) (on.value, on.left) (x, rest) on.goes_on in
      subst (λ (p : A × List ℕ). Takes bytes (f.spell p.0) p.1 × (f.fits p.0 × IsTrue (test p.0))) same (on.taken, (on.fits, passes))

  -- one that meets it is read again
  only_again : (x : A) (rest : List ℕ) → f.fits x × IsTrue (test x) → (only test name f).read (f.spell x ++ rest) ≡ Ok (x, rest)
  unfolding only
  only_again x rest fits = rw (laws.again x rest fits.0, fits.1) refl

  -- a fault begins among the bytes
  only_within : (bytes : List ℕ) (s : FormFault) → IsBytes bytes → (only test name f).read bytes ≡ Err s → fault_bytes_left s ≤ length bytes
  unfolding only
  only_within bytes s are e =
      within_on f laws (λ y. cond (test y.0) (Ok y) (Err (Bad (length bytes) name))) bytes s are
      (λ value left left_are shorter h. rw (← test_err (test value) (Bad (length bytes) name) (value, left) s h) (omega arith)) e

  -- bytes behind change nothing
  only_stays : (bytes more : List ℕ) → IsSettled ((only test name f).read bytes)
      → (only test name f).read (bytes ++ more) ≡ extended (longer more) (length more) ((only test name f).read bytes)
  unfolding only
  only_stays bytes more settled =
      tested_stays (longer more) (length more) (length bytes) (length (bytes ++ more)) name (λ x. test x.0) (f.read bytes) (f.read (bytes ++ more))
      (length-append bytes more) (λ x. refl) (laws.stays bytes more) settled

-- a form with a condition keeps the laws
pub only_laws : {A : Type 0} (test : A → Bool) (name : Field) (f : Form A) → Laws f → Laws (only test name f)
unfolding only
only_laws test name f laws = record {
  takes = only_takes test name f laws;
  again = only_again test name f laws;
  within = only_within test name f laws;
  stays = only_stays test name f laws;
}

-- ---- what the rest knows of a field

-- what fits has this value there
pub record Knows {S A : Type 0} (get : S → A) (x : A) (f : Form S) : Type 0 where
  pub is : (s : S) → f.fits s → get s ≡ x

-- a whole has its own
pub knows_done : {S A : Type 0} (get : S → A) (x : A) (made : S) → get made ≡ x → Knows get x (done made)
unfolding done
knows_done get x made e = record { is = λ s h. ap get h ∙ e }

-- what stands behind a field knows it
pub knows_field : {S A B : Type 0} (get : S → A) (x : A) (other : S → B) (f : Form B) (more : B → Form S) → ((y : B) → Knows get x (more y)) → Knows get x (field other f more)
unfolding field
knows_field get x other f more h = record { is = λ s fits. (h (other s)).is s fits.1 }

-- what the field fits may be used for the rest
pub knows_field_within : {S A B : Type 0} (get : S → A) (x : A) (other : S → B) (f : Form B) (more : B → Form S) → ((y : B) → f.fits y → Knows get x (more y))
    → Knows get x (field other f more)
unfolding field
knows_field_within get x other f more h = record { is = λ s fits. (h (other s) fits.0).is s fits.1 }

-- what the value of the field has, the whole knows
pub knows_within : {S A B : Type 0} (get : B → A) (x : A) (other : S → B) (f : Form B) (more : B → Form S) → Knows get x f → Knows (λ s. get (other s)) x (field other f more)
unfolding field
knows_within get x other f more h = record { is = λ s fits. h.is (other s) fits.0 }

-- what stands behind bytes that are no value knows it
pub knows_tag : {S A : Type 0} (get : S → A) (x : A) (wanted : List ℕ) (name : Field) (more : Form S) → Knows get x more → Knows get x (tag wanted name more)
unfolding tag
knows_tag get x wanted _ more h = record { is = h.is }

-- .. behind zeros
pub knows_gap : {S A : Type 0} (get : S → A) (x : A) (n : ℕ) (name : Field) (more : Form S) → Knows get x more → Knows get x (gap n name more)
unfolding gap
knows_gap get x n _ more h = record { is = h.is }

-- ---- a field and the rest

module _ {S A : Type 0} (get : S → A) (f : Form A) (more : A → Form S) (first : Laws f) (others : (x : A) → Laws (more x)) where
  -- the field is taken, and then the rest, which knows it
  field_takes : ((x : A) → f.fits x → Knows get x (more x)) → (bytes : List ℕ) (s : S) (rest : List ℕ) → IsBytes bytes → (field get f more).read bytes ≡ Ok (s, rest)
      → Takes bytes (f.spell (get s) ++ (more (get s)).spell s) rest × (f.fits (get s) × (more (get s)).fits s)
  unfolding field
  field_takes keeps bytes s rest are e =
      let on = read_on f first (λ x. (more x.0).read x.1) bytes (s, rest) are e in
      let (taken, fits) = (others on.value).takes on.left s rest on.taken.rest_fits on.goes_on in
      let same : get s ≡ on.value = (keeps on.value on.fits).is s fits in
      subst (λ (x : A). Takes bytes (f.spell x ++ (more x).spell s) rest × (f.fits x × (more x).fits s)) (sym same)
      (Takes-then bytes (f.spell on.value) on.left ((more on.value).spell s) rest on.taken taken, (on.fits, fits))

  -- both are read again
  field_again : (s : S) (rest : List ℕ) → f.fits (get s) × (more (get s)).fits s → (field get f more).read ((f.spell (get s) ++ (more (get s)).spell s) ++ rest) ≡ Ok (s, rest)
  unfolding field
  field_again s rest fits =
      ap (field get f more).read (append_assoc (f.spell (get s)) ((more (get s)).spell s) rest)
      ∙ ap (λ r. r >>= λ x. (more x.0).read x.1) (first.again (get s) ((more (get s)).spell s ++ rest) fits.0)
      ∙ (others (get s)).again s rest fits.1

  -- a fault of either begins among the bytes
  field_within : (bytes : List ℕ) (s : FormFault) → IsBytes bytes → (field get f more).read bytes ≡ Err s → fault_bytes_left s ≤ length bytes
  unfolding field
  field_within bytes s are e =
      within_on f first (λ x. (more x.0).read x.1) bytes s are
      (λ value left left_are shorter h. let there = (others value).within left s left_are h in omega (arith, there, shorter)) e

  -- bytes behind change neither
  field_stay : (bytes behind : List ℕ) → IsSettled ((field get f more).read bytes)
      → (field get f more).read (bytes ++ behind) ≡ extended (longer behind) (length behind) ((field get f more).read bytes)
  unfolding field
  field_stay bytes behind settled =
      bind_stays (longer behind) (longer behind) (length behind) (f.read bytes) (f.read (bytes ++ behind)) (λ x. (more x.0).read x.1)
      (first.stays bytes behind) (λ x. (others x.0).stays x.1 behind) settled

-- what the field fits may be used where the rest is shown to know it
pub field_laws_within : {S A : Type 0} (get : S → A) (f : Form A) (more : A → Form S) → Laws f → ((x : A) → f.fits x → Knows get x (more x)) → ((x : A) → Laws (more x))
    → Laws (field get f more)
unfolding field
field_laws_within get f more first keeps others = record {
  takes = field_takes get f more first others keeps;
  again = field_again get f more first others;
  within = field_within get f more first others;
  stays = field_stay get f more first others;
}

-- .. or to know it whatever it is
pub field_laws : {S A : Type 0} (get : S → A) (f : Form A) (more : A → Form S) → Laws f → ((x : A) → Knows get x (more x)) → ((x : A) → Laws (more x)) → Laws (field get f more)
field_laws get f more first keeps others = field_laws_within get f more first (λ x h. keeps x) others
