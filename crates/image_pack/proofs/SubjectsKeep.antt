-- Groups and subjects that fit the form of an image keep its conditions.
use Rattle.std.proofs.Common.{◌≡◌, ◌∙◌, refl, sym, subst, ap, arith, ℕ, zero, suc, ◌+◌, ◌≤◌, ◌&&◌, ◌||◌, cond, Bool, true, false, true≢false, List, [], ◌∷◌, length, eqb, nat_le, nat_lt, ◌==◌, Option, Some, None}
use Rattle.std.specs.List.{All, enumerate_from}
use Rattle.std.proofs.lemmas.Bool.{and_parts, leb-true, ltb-true, ne_eqb}
use Rattle.std.proofs.lemmas.List.Elements.{All-cons, All-nil}
use Rattle.binary_form.specs.Form.{all_fit, field, only, gap, done, number, byte, coded, items}
use Rattle.binary_form.proofs.NameLaws.{name_kept}
use Rattle.muen_num.specs.declared.limits.TheConstants.{FIRST_VECTOR, LAST_VECTOR, MOST_MSRS}
use Rattle.muen_num.specs.declared.mode.EventMode.{EventMode}
use Rattle.muen_num.specs.declared.mode.EventMode.TheVariants.{Asap, Async, Own, Switch}
use Rattle.frame_clock.specs.Plan.{is_group_on}
use Rattle.frame_clock.specs.declared.plan.GroupPart.{GroupPart}
use Rattle.image_pack.specs.Codes.{event_in, event_of, is_switch, is_vector, mode_code, mode_of, vector_code, vector_of}
use Rattle.image_pack.specs.Image.{event, events, group, is_first_here, is_group_of, next_index, nothing_left, outline, subject}
use Rattle.image_pack.specs.ImageConditions.{AreEvents, IsEvent, IsGroup, IsSubjectPart, IsVector}
use Rattle.image_pack.specs.declared.outline.Header.{Header}
use Rattle.image_pack.specs.declared.parts.EventPart.{EventPart}
use Rattle.image_pack.specs.declared.parts.Image.{Image}
use Rattle.image_pack.specs.declared.parts.SubjectPart.{SubjectPart}
use Rattle.image_pack.proofs.SubjectsFit.{next_number}

-- items that keep a condition whatever stands before them
pub each_kept : {A C : Type 0} (next : C → A → C) (fits : C → A → Type 0) (P : A → Type 0) → ((c : C) (x : A) → fits c x → P x) → (c : C) (xs : List A) → all_fit next fits c xs → All P xs
unfolding all_fit
each_kept next fits P f c [] h = All-nil P
each_kept next fits P f c (x ∷ xs) h = All-cons P x xs (f c x h.0) (each_kept next fits P f (next c x) xs h.1)

-- ---- groups

one_group : (h : Header) (b : ℕ) (g : GroupPart) → (group h b).fits g → IsGroup h g
unfolding group field only gap done byte
one_group h b g f = record { cpu = ltb-true g.cpu h.cpus f.0.1; first = ltb-true g.first h.subjects f.1.0.1 }

pub groups_kept : (h : Header) (gs : List GroupPart) → all_fit (nothing_left h) (λ b. (group h b).fits) 0 gs → All (IsGroup h) gs
groups_kept h gs f = each_kept (nothing_left h) (λ b. (group h b).fits) (IsGroup h) (one_group h) 0 gs f

-- ---- events

low_vector : (a b c : Bool) → a ≡ false → (a || (b && c)) ≡ true → c ≡ true
low_vector true b c e h = absurd (true≢false e)
low_vector false b c e h = (and_parts b c h).1

some_vector : (n : ℕ) → vector_of n ≡ Some n → eqb n 0 ≡ false
some_vector zero h = absurd (cc (h))
some_vector (suc n) h = ne_eqb (suc n) 0 (λ e. absurd (omega (arith, e)))

high_vector : (a b c : Bool) → b ≡ false → (a || (b && c)) ≡ true → a ≡ true
high_vector true b c e h = refl
high_vector false b c e h = absurd (true≢false (sym (and_parts b c h).0 ∙ e))

-- a vector that is read as it was written
vector_kept : (mode : EventMode) (v : Option ℕ) → is_vector mode (vector_code v) ≡ true → vector_of (vector_code v) ≡ v → IsVector mode v
vector_kept mode None h back = low_vector (nat_le FIRST_VECTOR 0 && nat_le 0 LAST_VECTOR) (0 == 0) (is_switch mode) refl h
vector_kept mode (Some v) h back =
    let two = and_parts (nat_le FIRST_VECTOR v) (nat_le v LAST_VECTOR) (high_vector (nat_le FIRST_VECTOR v && nat_le v LAST_VECTOR) (v == 0) (is_switch mode) (some_vector v back) h) in
    (leb-true FIRST_VECTOR v two.0, leb-true v LAST_VECTOR two.1)

chosen : (b : Bool) (x y : Option EventPart) → cond b (Some x) None ≡ Some y → (b ≡ true) × (x ≡ y)
chosen true x y e = (refl, cc (e))
chosen false x y e = absurd cc

same_event : (x y : EventPart) → Some x ≡ Some y → x ≡ y
same_event x y e = cc (e)

one_vector : (x y : EventPart) → Some x ≡ Some y → x.vector ≡ y.vector
one_vector x y e = ap (λ (z : EventPart). z.vector) (same_event x y e)

some_event : (n : ℕ) (e : EventPart) → event_of n e.target (vector_code e.vector) e.mode ≡ Some (Some e) → IsEvent n (Some e)
unfolding event_of
some_event n e h =
    let c = chosen (nat_lt e.target n && is_vector e.mode (vector_code e.vector)) (Some (record { mode = e.mode; target = e.target; vector = vector_of (vector_code e.vector) })) (Some e) h in
    let two = and_parts (nat_lt e.target n) (is_vector e.mode (vector_code e.vector)) c.0 in
    let same : vector_of (vector_code e.vector) ≡ e.vector = one_vector (record { mode = e.mode; target = e.target; vector = vector_of (vector_code e.vector) }) e c.1 in
    (ltb-true e.target n two.0, vector_kept e.mode e.vector two.1 same)

-- an event that is read as it was written
event_read : (n t v : ℕ) (mode : EventMode) (o : Option (Option EventPart)) → event_in n (mode_code mode ∷ t ∷ v ∷ 0 ∷ []) ≡ o → event_of n t v mode ≡ o
unfolding event_in mode_of
event_read n t v Asap o h = h
event_read n t v Async o h = h
event_read n t v Own o h = h
event_read n t v Switch o h = h

pub one_event : (h : Header) (b : ℕ) (o : Option EventPart) → (event h b).fits o → IsEvent h.subjects o
unfolding event coded
one_event h b None f = tt
one_event h b (Some e) f = some_event h.subjects e (event_read h.subjects e.target (vector_code e.vector) e.mode (Some (Some e)) f)

events_kept : (h : Header) (es : List (Option EventPart)) → (events h).fits es → AreEvents h.subjects es
unfolding items
events_kept h es f = record { many = f.0; each = each_kept (nothing_left h) (λ b. (event h b).fits) (IsEvent h.subjects) (one_event h) 0 es f.1 }

-- ---- subjects

one_subject : (i : Image) (index : ℕ) (q : SubjectPart) → (subject (outline i.header i.spans i.plan.groups) index).fits q → IsSubjectPart i (index, q)
unfolding subject field only gap done byte number is_group_of
one_subject i index q f =
    let two = and_parts (is_group_on i.plan.groups q.cpu q.group) (is_first_here i.plan.groups index q.group) f.1.0.1 in
    record {
      cpu = ltb-true q.cpu i.header.cpus f.0.1;
      in_group = two.0;
      first = two.1;
      few_msrs = leb-true q.msrs MOST_MSRS f.1.1.0.1;
      state = f.1.1.1.0.1;
      iobm = f.1.1.1.1.0.1;
      msrbm = f.1.1.1.1.1.0.1;
      area = f.1.1.1.1.1.1.0.1;
      eptp = f.1.1.1.1.1.1.1.0.1;
      called = name_kept q.name f.1.1.1.1.1.1.1.1.0;
      calls = events_kept i.header q.calls f.1.1.1.1.1.1.1.1.1.0;
      traps = events_kept i.header q.traps f.1.1.1.1.1.1.1.1.1.1.0;
    }

subjects_from : (i : Image) (index : ℕ) (qs : List SubjectPart) → index + length qs ≤ 32 → all_fit (next_index (outline i.header i.spans i.plan.groups)) (λ b. (subject (outline i.header i.spans i.plan.groups) b).fits) index qs
    → All (IsSubjectPart i) (enumerate_from index qs)
unfolding all_fit
subjects_from i index [] room f = All-nil (IsSubjectPart i)
subjects_from i index (q ∷ qs) room f =
    let next = next_number index (omega (arith, room)) in
    let rest = subjects_from i (index + 1) qs (omega (arith, room)) (subst (λ n. all_fit (next_index (outline i.header i.spans i.plan.groups)) (λ b. (subject (outline i.header i.spans i.plan.groups) b).fits) n qs) next f.1) in
    All-cons (IsSubjectPart i) (index, q) (enumerate_from (index + 1) qs) (one_subject i index q f.0) rest

pub subjects_kept : (i : Image) → length i.subjects ≤ 32 → all_fit (next_index (outline i.header i.spans i.plan.groups)) (λ b. (subject (outline i.header i.spans i.plan.groups) b).fits) 0 i.subjects
    → All (IsSubjectPart i) (enumerate_from 0 i.subjects)
subjects_kept i room f = subjects_from i 0 i.subjects (omega (arith, room)) f
