-- The laws of forms made of forms, in one list; and of the whole of the bytes.
use Rattle.std.proofs.Common.{◌≡◌, ℕ, ◌+◌, ◌<◌, ◌≤◌, Bool, true, false, cond, eqb, List, [], ◌++◌, length, Result, Ok, Err, refl, sym, ap, subst, ◌∙◌, arith}
use Rattle.std.proofs.lemmas.Bool.{eqb-true}
use Rattle.std.proofs.lemmas.List.{append-nil, nil_from_length}
use Rattle.binary_form.specs.declared.fault.Field.{Field}
use Rattle.binary_form.specs.declared.fault.FormFault.{FormFault}
use Rattle.binary_form.specs.declared.fault.FormFault.TheVariants.{Short, Bad, Trailing}
use Rattle.binary_form.specs.Form.{IsBytes, ◌>>=◌, Form, fault_bytes_left, IsSettled, extended, longer, whole}
use Rattle.binary_form.proofs.Behind.{read_on, within_on}
use Rattle.binary_form.proofs.Leaves.{test_ok, test_err, Laws, number_laws, byte_laws, bytes_laws, coded_laws, wide16, wide32, wide64}
pub use Rattle.binary_form.proofs.Choices.{absent_laws, done_laws, either_laws, knows_either, present_laws}
pub use Rattle.binary_form.proofs.Fields.{Knows, field_laws, field_laws_within, knows_done, knows_field, knows_field_within, knows_gap, knows_tag, knows_within, only_laws}
pub use Rattle.binary_form.proofs.Gaps.{are_zeros, gap_laws, tag_laws, zeros_are}
pub use Rattle.binary_form.proofs.Items.{each_laws, items_laws, knows_count, knows_items}

-- those of the forms, and what the rest of a form knows
pub ruleset laws = (
  field_laws,
  tag_laws,
  gap_laws,
  done_laws,
  only_laws,
  absent_laws,
  present_laws,
  either_laws,
  number_laws,
  byte_laws,
  bytes_laws,
  coded_laws,
  wide16,
  wide32,
  wide64,
  knows_done,
  knows_field,
  knows_tag,
  knows_gap,
  knows_either,
  knows_items,
  knows_count,
)

-- ---- the whole

-- nothing is left behind it
abbrev ending : {A : Type 0} → A × List ℕ → Result A FormFault
ending x = cond (eqb (length x.1) 0) (Ok x.0) (Err (Trailing (length x.1)))

-- the whole of the bytes is spelled so
pub whole_takes : {A : Type 0} (f : Form A) → Laws f → (bytes : List ℕ) (x : A) → IsBytes bytes → whole f bytes ≡ Ok x → (bytes ≡ f.spell x) × f.fits x
unfolding whole
whole_takes {A} f laws bytes x are e =
    let on = read_on f laws ending bytes x are e in
    let (nothing, same) = test_ok (eqb (length on.left) 0) (Trailing (length on.left)) on.value x on.goes_on in
    let none : on.left ≡ [] = nil_from_length on.left (eqb-true _ _ nothing) in
    let parts = on.taken.parts ∙ ap (λ (r : List ℕ). f.spell on.value ++ r) none ∙ append-nil (f.spell on.value) in
    subst (λ (y : A). (bytes ≡ f.spell y) × f.fits y) same (parts, on.fits)

-- what fits is read again
pub whole_again : {A : Type 0} (f : Form A) → Laws f → (x : A) → f.fits x → whole f (f.spell x) ≡ Ok x
unfolding whole
whole_again f laws x fits = ap (λ t. f.read t >>= ending) (sym (append-nil (f.spell x))) ∙ ap (λ r. r >>= ending) (laws.again x [] fits)

-- the field of a fault begins among the bytes
pub whole_within : {A : Type 0} (f : Form A) → Laws f → (bytes : List ℕ) (s : FormFault) → IsBytes bytes → whole f bytes ≡ Err s → fault_bytes_left s ≤ length bytes
unfolding whole
whole_within f laws bytes s are e =
    within_on f laws ending bytes s are
    (λ value left left_are shorter h. rw (← test_err (eqb (length left) 0) (Trailing (length left)) value s h) (omega (arith, shorter))) e

-- ---- the first fault

-- what is left behind is no bad field
ending_not_bad : {A : Type 0} (b : Bool) (x : A) (l left : ℕ) (name : Field) → cond b (Ok x) (Err (Trailing l)) ≡ Err (Bad left name) → ⊥
ending_not_bad true x l left title e = absurd cc
ending_not_bad false x l left title e = absurd cc

-- .. nor too short
ending_not_short : {A : Type 0} (b : Bool) (x : A) (l left : ℕ) → cond b (Ok x) (Err (Trailing l)) ≡ Err (Short left) → ⊥
ending_not_short true x l left e = absurd cc
ending_not_short false x l left e = absurd cc

-- a bad field stays bad with n bytes more
bad_stays : {A : Type 0} (n : ℕ) (g : A × List ℕ → A × List ℕ) (r q : Result (A × List ℕ) FormFault) (left : ℕ) (name : Field) → (IsSettled r → q ≡ extended g n r)
    → (r >>= ending) ≡ Err (Bad left name) → (q >>= ending) ≡ Err (Bad (left + n) name)
bad_stays n g (Ok x) q left title h e = absurd (ending_not_bad (eqb (length x.1) 0) x.0 (length x.1) left title e)
bad_stays n g (Err (Short l)) q left title h e = absurd cc
bad_stays n g (Err (Bad l m)) q left title h e = ap (λ t. t >>= ending) (h tt) ∙ cc
bad_stays n g (Err (Trailing l)) q left title h e = absurd cc

-- whatever follows, the fault is this one
pub whole_stays : {A : Type 0} (f : Form A) → Laws f → (bytes more : List ℕ) (left : ℕ) (name : Field) → whole f bytes ≡ Err (Bad left name)
    → whole f (bytes ++ more) ≡ Err (Bad (left + length more) name)
unfolding whole
whole_stays f laws bytes more left title e = bad_stays (length more) (longer more) (f.read bytes) (f.read (bytes ++ more)) left title (laws.stays bytes more) e

-- the bytes end before the form does
abbrev pub IsShort : {A : Type 0} → Result A FormFault → Type 0
IsShort r = (left : ℕ) × (r ≡ Err (Short left))

-- a front of what is short is short
front_short : {A : Type 0} (n : ℕ) (g : A × List ℕ → A × List ℕ) (r q : Result (A × List ℕ) FormFault) (left : ℕ) → (IsSettled r → q ≡ extended g n r)
    → (q >>= ending) ≡ Err (Short left) → IsShort (r >>= ending)
front_short n g (Ok x) q left h e =
    let (value, behind) = g x in
    absurd (ending_not_short (eqb (length behind) 0) value (length behind) left (sym (ap (λ t. t >>= ending) (h tt)) ∙ e))
front_short n g (Err (Short l)) q left h e = (l, refl)
front_short {A = A} n g (Err (Bad l m)) q left h e =
    let d : (q >>= ending) ≡ Err (Bad (l + n) m) = ap (λ t. t >>= ending) (h tt) in absurd cc
front_short {A = A} n g (Err (Trailing l)) q left h e =
    let d : (q >>= ending) ≡ Err (Trailing (l + n)) = ap (λ t. t >>= ending) (h tt) in absurd cc

-- what is only short with more behind is only short
pub whole_short : {A : Type 0} (f : Form A) → Laws f → (bytes more : List ℕ) (left : ℕ) → whole f (bytes ++ more) ≡ Err (Short left) → IsShort (whole f bytes)
unfolding whole
whole_short f laws bytes more left e = front_short (length more) (longer more) (f.read bytes) (f.read (bytes ++ more)) left (laws.stays bytes more) e

-- .. of what is bad behind it too
front_bad : {A : Type 0} (n : ℕ) (g : A × List ℕ → A × List ℕ) (r q : Result (A × List ℕ) FormFault) (left : ℕ) (name : Field) → left < n
    → (IsSettled r → q ≡ extended g n r) → (q >>= ending) ≡ Err (Bad left name) → IsShort (r >>= ending)
front_bad n g (Ok x) q left title lt h e =
    let (value, behind) = g x in
    absurd (ending_not_bad (eqb (length behind) 0) value (length behind) left title (sym (ap (λ t. t >>= ending) (h tt)) ∙ e))
front_bad n g (Err (Short l)) q left title lt h e = (l, refl)
front_bad {A = A} n g (Err (Bad l m)) q left title lt h e =
    let d : (q >>= ending) ≡ Err (Bad (l + n) m) = ap (λ t. t >>= ending) (h tt) in
    let same : left ≡ l + n = cc in
    absurd (omega arith)
front_bad {A = A} n g (Err (Trailing l)) q left title lt h e =
    let d : (q >>= ending) ≡ Err (Trailing (l + n)) = ap (λ t. t >>= ending) (h tt) in absurd cc

-- bytes that end before the field of the fault have no other fault
pub whole_before : {A : Type 0} (f : Form A) → Laws f → (bytes more : List ℕ) (left : ℕ) (name : Field) → left < length more
    → whole f (bytes ++ more) ≡ Err (Bad left name) → IsShort (whole f bytes)
unfolding whole
whole_before f laws bytes more left title lt e = front_bad (length more) (longer more) (f.read bytes) (f.read (bytes ++ more)) left title lt (laws.stays bytes more) e
