-- What is decoded is encoded so.
use Rattle.std.proofs.Common.{◌≡◌, ℕ, zero, suc, ◌≤◌, Bool, true, false, true≢false, cond, not, ◌&&◌, eqb, leb, List, [], ◌∷◌, length, Option, Some, None, refl, sym, ap, subst, ◌∙◌, arith, inl, inr, ◌⊎◌}
use Rattle.std.specs.Prelude.{codes, is_some}
use Rattle.std.specs.Str.{bytes_eq}
use Rattle.std.proofs.lemmas.Bool.{cases_eq, eq-eqb, ne_eqb, eqb-true, leb-true, and_parts}
use Rattle.std.proofs.lemmas.Slice.Eq.{bytes_eq-Decides}
use Rattle.muen_num.specs.declared.mode.EventMode.{EventMode}
use Rattle.muen_num.specs.declared.mode.EventMode.TheVariants.{Asap, Async, Own as OwnMode, Switch}
use Rattle.muen_num.specs.declared.tag.TagPart.TheVariants.{Whole, State, Ept, Iobm, Msrbm, Msrs}
use Rattle.binary_form.specs.declared.fault.Field.TheVariants as at
use Rattle.binary_form.specs.Form.{either, fits_either, present, fits_there, absent_value}
use Rattle.binary_form.specs.Name.{name}
use Rattle.binary_form.proofs.Leaves.{IsCode, Laws, coded_laws}
use Rattle.image_pack.specs.Codes.{mark_in, mark_bytes, span_kind_of, kind_code, kind_in, kind_bytes, part_code, part_name, plain_part, part_of, is_part, mode_of, mode_code, vector_of, vector_code, event_of, if_mode, event_in, event_bytes, target_of, subject_code, irq_vector_code, is_target_code}
use Rattle.image_pack.specs.Image.{mark, kind_byte, event, title, tau0_at}
use Rattle.image_pack.specs.declared.outline.Header.{Header}
use Rattle.image_pack.specs.declared.parts.SpanKind.{SpanKind}
use Rattle.image_pack.specs.declared.parts.SpanKind.TheVariants.{Own, Channel, Provided, Kernel, Device}
use Rattle.image_pack.specs.declared.parts.EventPart.{EventPart}

abbrev some : {A : Type 0} → A → Option A
some x = Some x

some_is : {A : Type 0} (x y : A) → some x ≡ some y → x ≡ y
some_is x y e = cc

chosen : {A : Type 0} (b : Bool) (x y : A) → cond b (some x) None ≡ some y → x ≡ y
chosen true x y e = some_is x y e
chosen false x y e = absurd cc

-- ---- the version

mark_cases : (a b x : Bool) → cond a (some false) (cond b (some true) None) ≡ some x → ((a ≡ true) × (x ≡ false)) ⊎ ((b ≡ true) × (x ≡ true))
mark_cases true b x e = inl (refl, sym (some_is false x e))
mark_cases false true x e = inr (refl, sym (some_is true x e))
mark_cases false false x e = absurd cc

plain_mark : (bytes : List ℕ) → codes "MUENIMG1" ≡ bytes → mark_bytes false ≡ bytes
unfolding mark_bytes
plain_mark bytes h = h

tau0_mark : (bytes : List ℕ) → codes "MUENIMG2" ≡ bytes → mark_bytes true ≡ bytes
unfolding mark_bytes
tau0_mark bytes h = h

mark_back : (bytes : List ℕ) (x : Bool) → mark_in bytes ≡ Some x → mark_bytes x ≡ bytes
unfolding mark_in
mark_back bytes x e =
    elim (mark_cases (bytes_eq bytes (codes "MUENIMG1")) (bytes_eq bytes (codes "MUENIMG2")) x e) [
      | inl h ↦ ap mark_bytes h.1 ∙ plain_mark bytes (sym ((bytes_eq-Decides bytes (codes "MUENIMG1")).0 h.0))
      | inr h ↦ ap mark_bytes h.1 ∙ tau0_mark bytes (sym ((bytes_eq-Decides bytes (codes "MUENIMG2")).0 h.0))
    ]

mark_size : (x : Bool) → length (mark_bytes x) ≡ 8
unfolding mark_bytes
mark_size true = refl
mark_size false = refl

pub mark_is_code : IsCode 8 mark_in mark_bytes
mark_is_code = record { back = λ bytes x fits size e. mark_back bytes x e; size = λ x fits. mark_size x }

pub mark_laws : Laws mark
mark_laws = coded_laws 8 mark_in mark_bytes at.Magic mark_is_code

pub has_tau0 : (has : Bool) (spans : ℕ) (o : Option ℕ) → (tau0_at has spans).fits o → is_some o ≡ has
unfolding tau0_at either present absent_value
has_tau0 true spans None fits = absurd fits
has_tau0 true spans (Some n) fits = refl
has_tau0 false spans o fits = ap is_some fits

-- ---- kinds of spans

kind_chosen : (a b c d e : Bool) (n : ℕ) (k : SpanKind) → (a ≡ true → n ≡ 0) → (b ≡ true → n ≡ 1) → (c ≡ true → n ≡ 2) → (d ≡ true → n ≡ 3) → (e ≡ true → n ≡ 4)
    → cond a (some Own) (cond b (some Channel) (cond c (some Provided) (cond d (some Kernel) (cond e (some Device) None)))) ≡ some k → kind_code k ≡ n
kind_chosen true b c d e n k p q r s t h = ap kind_code (sym (some_is Own k h)) ∙ sym (p refl)
kind_chosen false true c d e n k p q r s t h = ap kind_code (sym (some_is Channel k h)) ∙ sym (q refl)
kind_chosen false false true d e n k p q r s t h = ap kind_code (sym (some_is Provided k h)) ∙ sym (r refl)
kind_chosen false false false true e n k p q r s t h = ap kind_code (sym (some_is Kernel k h)) ∙ sym (s refl)
kind_chosen false false false false true n k p q r s t h = ap kind_code (sym (some_is Device k h)) ∙ sym (t refl)
kind_chosen false false false false false n k p q r s t h = absurd cc

kind_back : (n : ℕ) (k : SpanKind) → span_kind_of n ≡ Some k → kind_code k ≡ n
unfolding span_kind_of
kind_back n k e =
    kind_chosen (eqb n 0) (eqb n 1) (eqb n 2) (eqb n 3) (eqb n 4) n k (eqb-true n 0) (eqb-true n 1) (eqb-true n 2) (eqb-true n 3) (eqb-true n 4) e

kind_bytes_back : (bytes : List ℕ) (k : SpanKind) → kind_in bytes ≡ Some k → kind_bytes k ≡ bytes
unfolding kind_in
kind_bytes_back [] k e = absurd cc
kind_bytes_back (n ∷ []) k e = ap (λ (m : ℕ). m ∷ []) (kind_back n k e)
kind_bytes_back (n ∷ m ∷ ms) k e = absurd cc

pub kind_is_code : IsCode 1 kind_in kind_bytes
kind_is_code = record { back = λ bytes k fits size e. kind_bytes_back bytes k e; size = λ k fits. refl }

pub kind_laws : Laws kind_byte
kind_laws = coded_laws 1 kind_in kind_bytes at.Kind kind_is_code

-- ---- parts of an owner

nameless_chosen : (a b c d e : Bool) → part_name (cond a Whole (cond b State (cond c Ept (cond d Iobm (cond e Msrbm Msrs))))) ≡ None
nameless_chosen true b c d e = refl
nameless_chosen false true c d e = refl
nameless_chosen false false true d e = refl
nameless_chosen false false false true e = refl
nameless_chosen false false false false true = refl
nameless_chosen false false false false false = refl

nameless : (code : ℕ) → part_name (plain_part code) ≡ None
unfolding plain_part
nameless code = nameless_chosen (eqb code 0) (eqb code 2) (eqb code 3) (eqb code 4) (eqb code 5)

pub part_name_back : (code : ℕ) (o : Option (List ℕ)) → part_name (part_of code o) ≡ o
part_name_back code None = nameless code
part_name_back code (Some name) = refl

kernel_part : (n : ℕ) → 2 ≤ n → n ≤ 6 → part_code (plain_part n) ≡ n
unfolding plain_part
kernel_part zero low high = absurd (omega arith)
kernel_part (suc zero) low high = absurd (omega arith)
kernel_part (suc (suc zero)) low high = refl
kernel_part (suc (suc (suc zero))) low high = refl
kernel_part (suc (suc (suc (suc zero)))) low high = refl
kernel_part (suc (suc (suc (suc (suc zero))))) low high = refl
kernel_part (suc (suc (suc (suc (suc (suc zero)))))) low high = refl
kernel_part (suc (suc (suc (suc (suc (suc (suc n))))))) low high = absurd (omega arith)

whole_part : (n : ℕ) → n ≡ 0 → part_code (plain_part n) ≡ n
unfolding plain_part
whole_part n e = subst (λ m. part_code (plain_part m) ≡ m) (sym e) refl

other_number : (n : ℕ) → eqb n 1 ≡ true → eqb n 1 ≡ false → ⊥
other_number n h g = true≢false (sym h ∙ g)

plain_code : (kind : SpanKind) (code : ℕ) → is_part kind code ≡ true → eqb code 1 ≡ false → part_code (plain_part code) ≡ code
plain_code Own code h ne = whole_part code (eqb-true code 0 h)
plain_code Channel code h ne = whole_part code (eqb-true code 0 h)
plain_code Provided code h ne = absurd (other_number code h ne)
plain_code Device code h ne = absurd (other_number code h ne)
plain_code Kernel code h ne = let g = and_parts (leb 2 code) (leb code 6) h in kernel_part code (leb-true 2 code g.0) (leb-true code 6 g.1)

titled : (b : Bool) (o : Option (List ℕ)) → fits_either b (fits_there name o) (o ≡ None) → ((b ≡ true) × (t : List ℕ) × (o ≡ Some t)) ⊎ ((b ≡ false) × (o ≡ None))
titled true None h = absurd h
titled true (Some t) h = inl (refl, t, refl)
titled false o h = inr (refl, h)

pub part_code_back : (kind : SpanKind) (code : ℕ) (o : Option (List ℕ)) → is_part kind code ≡ true → (title code).fits o → part_code (part_of code o) ≡ code
unfolding title either present absent_value
part_code_back kind code o h fits =
    elim (titled (eqb code 1) o fits) [
      | inl q ↦ ap (λ x. part_code (part_of code x)) q.2 ∙ sym (eqb-true code 1 q.0)
      | inr q ↦ ap (λ x. part_code (part_of code x)) q.1 ∙ plain_code kind code h q.0
    ]

-- ---- events

vector_chosen : (b : Bool) (v : ℕ) → (b ≡ true → v ≡ 0) → vector_code (cond b None (some v)) ≡ v
vector_chosen true v p = sym (p refl)
vector_chosen false v p = refl

vector_back : (v : ℕ) → vector_code (vector_of v) ≡ v
vector_back v = vector_chosen (eqb v 0) v (eqb-true v 0)

event_of_back : (subjects target vector : ℕ) (mode : EventMode) (x : Option EventPart) → event_of subjects target vector mode ≡ Some x → event_bytes x ≡ mode_code mode ∷ target ∷ vector ∷ 0 ∷ []
unfolding event_of
event_of_back subjects target vector mode x e =
    ap event_bytes (sym (chosen _ (Some (record { mode = mode; target = target; vector = vector_of vector })) x e))
    ∙ ap (λ (v : ℕ). mode_code mode ∷ target ∷ v ∷ 0 ∷ []) (vector_back vector)

mode_chosen : (a b c d : Bool) (n : ℕ) (m : EventMode) → (a ≡ true → n ≡ 1) → (b ≡ true → n ≡ 2) → (c ≡ true → n ≡ 3) → (d ≡ true → n ≡ 4)
    → cond a (some Asap) (cond b (some Async) (cond c (some OwnMode) (cond d (some Switch) None))) ≡ some m → mode_code m ≡ n
mode_chosen true b c d n m p q r s h = ap mode_code (sym (some_is Asap m h)) ∙ sym (p refl)
mode_chosen false true c d n m p q r s h = ap mode_code (sym (some_is Async m h)) ∙ sym (q refl)
mode_chosen false false true d n m p q r s h = ap mode_code (sym (some_is OwnMode m h)) ∙ sym (r refl)
mode_chosen false false false true n m p q r s h = ap mode_code (sym (some_is Switch m h)) ∙ sym (s refl)
mode_chosen false false false false n m p q r s h = absurd cc

mode_back : (n : ℕ) (m : EventMode) → mode_of n ≡ Some m → mode_code m ≡ n
unfolding mode_of
mode_back n m e = mode_chosen (eqb n 1) (eqb n 2) (eqb n 3) (eqb n 4) n m (eqb-true n 1) (eqb-true n 2) (eqb-true n 3) (eqb-true n 4) e

zero_first : {A : Type 0} (b : Bool) (r : Option A) (x : A) → cond (not b) None r ≡ some x → (b ≡ true) × (r ≡ some x)
zero_first true r x e = (refl, e)
zero_first false r x e = absurd cc

one_of_two : {A : Type 0} (b : Bool) (r q : Option A) (x : A) → cond b r q ≡ some x → ((b ≡ true) × (r ≡ some x)) ⊎ ((b ≡ false) × (q ≡ some x))
one_of_two true r q x e = inl (refl, e)
one_of_two false r q x e = inr (refl, e)

passed : {A : Type 0} (b : Bool) (x y : A) → cond b (some x) None ≡ some y → b ≡ true
passed true x y e = refl
passed false x y e = absurd cc

with_mode : (o : Option EventMode) (f : EventMode → Option (Option EventPart)) (x : Option EventPart) → if_mode o f ≡ some x → (mode : EventMode) × (o ≡ Some mode) × (f mode ≡ some x)
with_mode None f x e = absurd cc
with_mode (Some mode) f x e = (mode, refl, e)

event_back : (subjects m t v z : ℕ) (x : Option EventPart) → event_in subjects (m ∷ t ∷ v ∷ z ∷ []) ≡ Some x → event_bytes x ≡ m ∷ t ∷ v ∷ z ∷ []
unfolding event_in
event_back subjects m t v z x e =
    let none : Option EventPart = None in
    let a = zero_first (eqb z 0) (cond (eqb m 0) (cond (eqb t 0 && eqb v 0) (some none) None) (if_mode (mode_of m) (event_of subjects t v))) x e in
    let zz : 0 ≡ z = sym (eqb-true z 0 a.0) in
    elim (one_of_two (eqb m 0) (cond (eqb t 0 && eqb v 0) (some none) None) (if_mode (mode_of m) (event_of subjects t v)) x a.1) [
      | inl h ↦
          let both = and_parts (eqb t 0) (eqb v 0) (passed (eqb t 0 && eqb v 0) none x h.1) in
          let zm : 0 ≡ m = sym (eqb-true m 0 h.0) in
          let zt : 0 ≡ t = sym (eqb-true t 0 both.0) in
          let zv : 0 ≡ v = sym (eqb-true v 0 both.1) in
          ap event_bytes (sym (chosen (eqb t 0 && eqb v 0) none x h.1)) ∙ (λ i. zm i ∷ zt i ∷ zv i ∷ zz i ∷ [])
      | inr h ↦
          let w = with_mode (mode_of m) (event_of subjects t v) x h.1 in
          let code : mode_code w.0 ≡ m = mode_back m w.0 w.1 in
          event_of_back subjects t v w.0 x w.2 ∙ (λ i. code i ∷ t ∷ v ∷ zz i ∷ [])
    ]

event_bytes_back : (subjects : ℕ) (bytes : List ℕ) (x : Option EventPart) → length bytes ≡ 4 → event_in subjects bytes ≡ Some x → event_bytes x ≡ bytes
event_bytes_back subjects [] x size e = absurd cc
event_bytes_back subjects (m ∷ []) x size e = absurd cc
event_bytes_back subjects (m ∷ t ∷ []) x size e = absurd cc
event_bytes_back subjects (m ∷ t ∷ v ∷ []) x size e = absurd cc
event_bytes_back subjects (m ∷ t ∷ v ∷ z ∷ []) x size e = event_back subjects m t v z x e
event_bytes_back subjects (m ∷ t ∷ v ∷ z ∷ y ∷ ys) x size e = absurd cc

event_size : (x : Option EventPart) → length (event_bytes x) ≡ 4
event_size None = refl
event_size (Some e) = refl

pub event_is_code : (subjects : ℕ) → IsCode 4 (event_in subjects) event_bytes
event_is_code subjects = record { back = λ bytes x fits size e. event_bytes_back subjects bytes x size e; size = λ x fits. event_size x }

pub event_laws : (h : Header) (b : ℕ) → Laws (event h b)
unfolding event
event_laws h b = coded_laws 4 (event_in h.subjects) event_bytes at.Event (event_is_code h.subjects)

-- ---- whom an IRQ reaches

pub subject_back : (to vector : ℕ) → subject_code (target_of to vector) ≡ to
subject_back to vector =
    elim (cases_eq to 255) [
      | inl e ↦ rw (eq-eqb to 255 e) (sym e)
      | inr ne ↦ rw (ne_eqb to 255 ne) refl
    ]

pub irq_vector_back : (subjects to vector : ℕ) → is_target_code subjects to vector ≡ true → irq_vector_code (target_of to vector) ≡ vector
irq_vector_back subjects to vector h =
    elim (cases_eq to 255) [
      | inl e ↦ let t = eq-eqb to 255 e in rw t (sym (eqb-true vector 0 (rw t at h)))
      | inr ne ↦ rw (ne_eqb to 255 ne) refl
    ]
