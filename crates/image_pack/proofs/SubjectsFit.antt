-- Groups and subjects that keep the conditions of an image fit its form.
use Rattle.std.proofs.Common.{◌≡◌, refl, sym, arith, ℕ, ◌+◌, ◌<◌, ◌≤◌, ◌^◌, ◌%◌, ◌&&◌, inl, inr, min, Bool, true, true≢false, List, [], ◌∷◌, length, eqb, ne_eqb, nat_le, ◌==◌, le-leb, lt-ltb, Option, Some, None}
use Rattle.std.specs.List.{All, enumerate_from, list_any}
use Rattle.std.proofs.lemmas.Bool.{and_from, and_parts, eqb-true, ltb-true, or_cases}
use Rattle.std.proofs.lemmas.List.Elements.{All-head, All-tail}
use Rattle.binary_form.specs.Form.{all_fit, field, only, gap, done, number, byte, coded, items}
use Rattle.binary_form.proofs.NameLaws.{name_fits}
use Rattle.muen_num.specs.declared.limits.TheConstants.{PAGE}
use Rattle.muen_num.specs.declared.mode.EventMode.{EventMode}
use Rattle.muen_num.specs.declared.mode.EventMode.TheVariants.{Asap, Async, Own, Switch}
use Rattle.muen_num.proofs.Booleans.{first_of_three}
use Rattle.frame_clock.proofs.SlotLaws.{group_there}
use Rattle.frame_clock.specs.declared.plan.GroupPart.{GroupPart}
use Rattle.image_pack.specs.Codes.{event_bytes, event_in, event_of, is_vector, mode_code, mode_of, part_code, vector_code, vector_of}
use Rattle.image_pack.specs.Image.{event, group, is_eptp, is_group_of, is_kernel_span, next_index, nothing_left, outline, subject}
use Rattle.image_pack.specs.ImageConditions.{AreEvents, IsEvent, IsGroup, IsSubjectPart, IsVector}
use Rattle.image_pack.specs.declared.outline.Header.{Header}
use Rattle.image_pack.specs.declared.parts.EventPart.{EventPart}
use Rattle.image_pack.specs.declared.parts.Image.{Image}
use Rattle.image_pack.specs.declared.parts.SpanPart.{SpanPart}
use Rattle.image_pack.specs.declared.parts.SubjectPart.{SubjectPart}

-- ---- truths and items

-- items that fit whatever stands before them
pub each_fits : {A C : Type 0} (next : C → A → C) (fits : C → A → Type 0) (P : A → Type 0) → ((c : C) (x : A) → P x → fits c x) → (c : C) (xs : List A) → All P xs → all_fit next fits c xs
unfolding all_fit
each_fits next fits P f c [] h = tt
each_fits next fits P f c (x ∷ xs) h = (f c x (All-head P x xs h), each_fits next fits P f (next c x) xs (All-tail P x xs h))

-- ---- groups

one_group : (h : Header) (b : ℕ) (g : GroupPart) → h.cpus ≤ 8 → h.subjects ≤ 32 → IsGroup h g → (group h b).fits g
unfolding group field only gap done byte
one_group h b g cpus subjects k =
    let cpu : g.cpu < h.cpus = k.cpu in
    let first : g.first < h.subjects = k.first in
    ((omega (arith, cpu, cpus), lt-ltb _ _ k.cpu), ((omega (arith, first, subjects), lt-ltb _ _ k.first), refl))

pub groups_fit : (h : Header) (gs : List GroupPart) → h.cpus ≤ 8 → h.subjects ≤ 32 → All (IsGroup h) gs → all_fit (nothing_left h) (λ b. (group h b).fits) 0 gs
groups_fit h gs cpus subjects all = each_fits (nothing_left h) (λ b. (group h b).fits) (IsGroup h) (λ b g k. one_group h b g cpus subjects k) 0 gs all

-- ---- events

vector_passes : (mode : EventMode) (v : Option ℕ) → IsVector mode v → is_vector mode (vector_code v) ≡ true
vector_passes mode None h = h
vector_passes mode (Some v) h = rw (le-leb 32 v h.0, le-leb v 255 h.1) refl

vector_decodes : (mode : EventMode) (v : Option ℕ) → IsVector mode v → vector_of (vector_code v) ≡ v
vector_decodes mode None h = refl
vector_decodes mode (Some v) h = let some : 32 ≤ v = h.0 in rw (ne_eqb v 0 (λ e. absurd (omega (arith, e, some)))) refl

some_event : (n t : ℕ) (mode : EventMode) (v : Option ℕ) → t < n → IsVector mode v → event_of n t (vector_code v) mode ≡ Some (Some (record { mode = mode; target = t; vector = v }))
unfolding event_of
some_event n t mode v low h =
    rw (and_from _ _ (lt-ltb t n low) (vector_passes mode v h), vector_decodes mode v h) refl

mode_event : (n t : ℕ) (mode : EventMode) (v : Option ℕ) → t < n → IsVector mode v → event_in n (mode_code mode ∷ t ∷ vector_code v ∷ 0 ∷ []) ≡ Some (Some (record { mode = mode; target = t; vector = v }))
unfolding event_in mode_of
mode_event n t Asap v low h = some_event n t Asap v low h
mode_event n t Async v low h = some_event n t Async v low h
mode_event n t Own v low h = some_event n t Own v low h
mode_event n t Switch v low h = some_event n t Switch v low h

event_decodes : (n : ℕ) (o : Option EventPart) → IsEvent n o → event_in n (event_bytes o) ≡ Some o
unfolding event_in
event_decodes n None h = refl
event_decodes n (Some e) h = mode_event n e.target e.mode e.vector h.0 h.1

one_event : (h : Header) (b : ℕ) (o : Option EventPart) → IsEvent h.subjects o → (event h b).fits o
unfolding event coded
one_event h b o k = event_decodes h.subjects o k

events_fit : (h : Header) (es : List (Option EventPart)) → AreEvents h.subjects es → all_fit (nothing_left h) (λ b. (event h b).fits) 0 es
events_fit h es k = each_fits (nothing_left h) (λ b. (event h b).fits) (IsEvent h.subjects) (λ b o e. one_event h b o e) 0 es k.each

-- ---- numbers that are there

-- a number that a span has which passes
pub passed_low : (p : SpanPart → Bool) (n m : ℕ) → ((s : SpanPart) → p s ≡ true → s.number ≡ n) → (spans : List SpanPart) → All (λ s. s.number < m) spans → list_any p spans ≡ true → n < m
passed_low p n m is [] all h = absurd (true≢false (sym h))
passed_low p n m is (s ∷ ss) all h =
    elim (or_cases (p s) (list_any p ss) h) [
      | inl here ↦
          let e : s.number ≡ n = is s here in
          let low : s.number < m = All-head (λ x. x.number < m) s ss all in
          omega (arith, e, low)
      | inr later ↦ passed_low p n m is ss (All-tail (λ x. x.number < m) s ss all) later
    ]

pub span_there : (spans : List SpanPart) (code pages n m : ℕ) → All (λ s. s.number < m) spans → is_kernel_span spans code pages n ≡ true → n < m
unfolding is_kernel_span
span_there spans code pages n m all h =
    passed_low (λ s. (s.number == n) && (part_code s.tag.part == code) && nat_le pages s.pages) n m (λ s e. eqb-true s.number n (first_of_three (s.number == n) (part_code s.tag.part == code) (nat_le pages s.pages) e)) spans all h

-- ---- subjects

-- what the parts of an image before its subjects count
pub record FewBefore (i : Image) : Type 0 where
  pub cpus : i.header.cpus ≤ 8
  pub groups : length i.plan.groups ≤ 32
  pub spans : All (λ s. s.number < 2 ^ 16) i.spans

eptp_low : (n : ℕ) → is_eptp n ≡ true → n < 2 ^ 40
eptp_low n h = ltb-true n (2 ^ 40) (and_parts (eqb (n % PAGE) 0x1E) _ h).1

one_subject : (i : Image) (index : ℕ) (q : SubjectPart) → FewBefore i → IsSubjectPart i (index, q) → (subject (outline i.header i.spans i.plan.groups) index).fits q
unfolding subject field only gap done byte number items is_group_of
one_subject i index q few k =
    let cpu : q.cpu < i.header.cpus = k.cpu in
    let cpus = few.cpus in
    let there = group_there i.plan.groups q.cpu q.group k.in_group in
    let groups = few.groups in
    let msrs : q.msrs ≤ 64 = k.few_msrs in
    let low : q.eptp < 2 ^ 40 = eptp_low q.eptp k.eptp in (
      (omega (arith, cpu, cpus), lt-ltb _ _ k.cpu),
      (
        (omega (arith, there, groups), and_from _ _ k.in_group k.first),
        (
          (omega (arith, msrs), le-leb _ _ k.few_msrs),
          (
            (span_there i.spans _ _ q.state (2 ^ 16) few.spans k.state, k.state),
            (
              (span_there i.spans _ _ q.iobm (2 ^ 16) few.spans k.iobm, k.iobm),
              (
                (span_there i.spans _ _ q.msrbm (2 ^ 16) few.spans k.msrbm, k.msrbm),
                (
                  (span_there i.spans _ _ q.area (2 ^ 16) few.spans k.area, k.area),
                  (
                    (omega (arith, low), k.eptp),
                    (
                      name_fits q.name k.called,
                      (
                        (k.calls.many, events_fit i.header q.calls k.calls),
                        (
                          (k.traps.many, events_fit i.header q.traps k.traps),
                          refl,
                        ),
                      ),
                    ),
                  ),
                ),
              ),
            ),
          ),
        ),
      ),
    )

pub next_number : (index : ℕ) → index < 255 → min (index + 1) 255 ≡ index + 1
next_number index low = omega (arith, low)

subjects_from : (i : Image) (index : ℕ) (qs : List SubjectPart) → FewBefore i → index + length qs ≤ 32 → All (IsSubjectPart i) (enumerate_from index qs)
    → all_fit (next_index (outline i.header i.spans i.plan.groups)) (λ b. (subject (outline i.header i.spans i.plan.groups) b).fits) index qs
unfolding all_fit
subjects_from i index [] few room all = tt
subjects_from i index (q ∷ qs) few room all =
    let next = next_number index (omega (arith, room)) in
    let rest = subjects_from i (index + 1) qs few (omega (arith, room)) (All-tail (IsSubjectPart i) (index, q) (enumerate_from (index + 1) qs) all) in
    (one_subject i index q few (All-head (IsSubjectPart i) (index, q) (enumerate_from (index + 1) qs) all), rw next rest)

pub subjects_fit : (i : Image) → FewBefore i → length i.subjects ≤ 32 → All (IsSubjectPart i) (enumerate_from 0 i.subjects)
    → all_fit (next_index (outline i.header i.spans i.plan.groups)) (λ b. (subject (outline i.header i.spans i.plan.groups) b).fits) 0 i.subjects
subjects_fit i few room all = subjects_from i 0 i.subjects few (omega (arith, room)) all
