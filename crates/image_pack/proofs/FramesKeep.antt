-- Major frames that fit the form of an image can run.
use Rattle.std.proofs.Common.{◌≡◌, ◌∙◌, refl, subst, ap, arith, ℕ, suc, ◌+◌, ◌-◌, ◌<◌, ◌≤◌, ◌^◌, ◌&&◌, ◌||◌, not, min, Bool, true, List, [], ◌∷◌, length, eq-eqb, le-leb, lt-ltb, nat_le, nat_lt, ◌==◌}
use Rattle.std.specs.List.{enumerate_from, list_all, sum_by}
use Rattle.std.proofs.lemmas.Bool.{and_from, and_parts, eqb-true, leb-true}
use Rattle.std.proofs.lemmas.List.Sums.{sum_by-cons}
use Rattle.binary_form.specs.Form.{all_fit, field, only, gap, done, number, byte, items}
use Rattle.muen_num.proofs.Booleans.{implied}
use Rattle.muen_num.specs.declared.limits.TheConstants.{MOST_MINOR_FRAMES, MOST_TICKS}
use Rattle.frame_clock.specs.Plan.{is_cpu, is_group_on, is_major, is_minor}
use Rattle.frame_clock.specs.declared.plan.Major.{Major}
use Rattle.frame_clock.specs.declared.plan.Minor.{Minor}
use Rattle.image_pack.specs.Image.{add_ticks, frames, major, minor_frame_form, next_cpu, no_frames_before, nothing_left, is_between_inclusive}
use Rattle.image_pack.specs.declared.outline.Outline.{Outline}
use Rattle.image_pack.specs.declared.reading.majors.CpuTicks.{CpuTicks}
use Rattle.image_pack.specs.declared.reading.majors.FramesBefore.{FramesBefore}
use Rattle.image_pack.proofs.SubjectsFit.{next_number}

-- ---- one truth and another

four : (a b c d : Bool) → a ≡ true → b ≡ true → c ≡ true → d ≡ true → (a && b && c && d) ≡ true
four a b c d p q r s = and_from (a && b && c) d (and_from (a && b) c (and_from a b p q) r) s

pub low_end : (low high n : ℕ) → is_between_inclusive low high n ≡ true → low ≤ n
low_end low high n h = leb-true low n (and_parts (nat_le low n) (nat_le n high) h).0

pub high_end : (low high n : ℕ) → is_between_inclusive low high n ≡ true → n ≤ high
high_end low high n h = leb-true n high (and_parts (nat_le low n) (nat_le n high) h).1

-- ---- minor frames

-- minor frames with ticks, and in all the total's
record Fill (o : Outline) (t : FramesBefore) (fs : List Minor) : Type 0 where
  each : list_all (is_minor o.groups t.cpu) fs ≡ true
  total : 0 < length fs → t.sum + sum_by (λ f. f.ticks) fs ≡ t.total

record OneFrame (o : Outline) (t : FramesBefore) (f : Minor) : Type 0 where
  here : is_minor o.groups t.cpu f ≡ true
  last : (not (t.left == 1) || (t.sum + f.ticks == t.total)) ≡ true

one_minor : (o : Outline) (t : FramesBefore) (f : Minor) → (minor_frame_form o t).fits f → OneFrame o t f
unfolding minor_frame_form field only gap done byte number
one_minor o t f h =
    let two = and_parts (nat_lt 0 f.ticks) (not (t.left == 1) || (t.sum + f.ticks == t.total)) h.1.0.1 in
    record { here = and_from (nat_lt 0 f.ticks) (is_group_on o.groups t.cpu f.group) two.0 h.0.1; last = two.1 }

-- a sum that stays below the total is the sum
exact : (a b r total : ℕ) → total ≤ 100000 → min (a + b) (2 ^ 32 - 1) + r ≡ total → a + (b + r) ≡ total
exact a b r total few h = omega (arith, few, h)

with_none : (a b total : ℕ) → a + b ≡ total → a + (b + 0) ≡ total
with_none a b total h = omega (arith, h)

total_so_far : (o : Outline) (t : FramesBefore) (f : Minor) (fs : List Minor) → t.total ≤ 100000 → t.left ≡ suc (length fs) → OneFrame o t f → Fill o (add_ticks o t f) fs → t.sum + (f.ticks + sum_by (λ f. f.ticks) fs) ≡ t.total
total_so_far o t f [] few left one g = with_none t.sum f.ticks t.total (eqb-true (t.sum + f.ticks) t.total (implied (t.left == 1) (t.sum + f.ticks == t.total) (eq-eqb t.left 1 left) one.last))
total_so_far o t f (x ∷ xs) few left one g = exact t.sum f.ticks (sum_by (λ (f : Minor). f.ticks) (x ∷ xs)) t.total few (g.total (omega arith))

minors_fill : (o : Outline) (t : FramesBefore) (fs : List Minor) → t.total ≤ 100000 → t.left ≡ length fs → all_fit (add_ticks o) (λ s. (minor_frame_form o s).fits) t fs → Fill o t fs
unfolding all_fit
minors_fill o t [] few left h = record { each = refl; total = λ l. absurd (omega (arith, l)) }
minors_fill o t (f ∷ fs) few left h =
    let one = one_minor o t f h.0 in
    let rest = minors_fill o (add_ticks o t f) fs few (omega (arith, left)) h.1 in
    record {
      each = and_from (is_minor o.groups t.cpu f) (list_all (is_minor o.groups t.cpu) fs) one.here rest.each;
      total = λ l. ap (λ n. t.sum + n) (sum_by-cons (λ (m : Minor). m.ticks) f fs) ∙ total_so_far o t f fs few left one rest;
    }

-- ---- the CPUs of a major frame

one_cpu : (o : Outline) (c : CpuTicks) (fs : List Minor) → c.total ≤ 100000 → (frames o c).fits fs → is_cpu o.groups c.total (c.cpu, fs) ≡ true
unfolding frames field only gap number items
one_cpu o c fs few h =
    let some : 1 ≤ length fs = low_end 1 MOST_MINOR_FRAMES (length fs) h.0.1 in
    let most : length fs ≤ MOST_MINOR_FRAMES = high_end 1 MOST_MINOR_FRAMES (length fs) h.0.1 in
    let g = minors_fill o (no_frames_before c (length fs)) fs few refl h.1.1 in
    let sum : 0 + sum_by (λ (f : Minor). f.ticks) fs ≡ c.total = g.total (omega (arith, some)) in
    four (nat_lt 0 (length fs)) (nat_le (length fs) MOST_MINOR_FRAMES) (list_all (is_minor o.groups c.cpu) fs) (sum_by (λ (f : Minor). f.ticks) fs == c.total)
    (lt-ltb 0 (length fs) (omega (arith, some))) (le-leb (length fs) MOST_MINOR_FRAMES most) g.each (eq-eqb (sum_by (λ (f : Minor). f.ticks) fs) c.total (omega (arith, sum)))

abbrev counted : ℕ → ℕ → CpuTicks
counted cpu total = record { cpu = cpu; total = total }

cpus_from : (o : Outline) (total cpu : ℕ) (cs : List (List Minor)) → total ≤ 100000 → cpu + length cs ≤ 8 → all_fit (next_cpu o) (λ c. (frames o c).fits) (counted cpu total) cs
    → list_all (is_cpu o.groups total) (enumerate_from cpu cs) ≡ true
unfolding all_fit
cpus_from o total cpu [] few room h = refl
cpus_from o total cpu (fs ∷ cs) few room h =
    let next = next_number cpu (omega (arith, room)) in
    let rest = cpus_from o total (cpu + 1) cs few (omega (arith, room)) (subst (λ n. all_fit (next_cpu o) (λ c. (frames o c).fits) (counted n total) cs) next h.1) in
    and_from (is_cpu o.groups total (cpu, fs)) (list_all (is_cpu o.groups total) (enumerate_from (cpu + 1) cs)) (one_cpu o (counted cpu total) fs few h.0) rest

-- ---- major frames

one_major : (o : Outline) (b : ℕ) (m : Major) → o.header.cpus ≤ 8 → (major o b).fits m → is_major o.groups o.header.cpus m ≡ true
unfolding major field only done number items
one_major o b m cpus h =
    let some : 1 ≤ m.ticks = low_end 1 MOST_TICKS m.ticks h.0.1 in
    let most : m.ticks ≤ MOST_TICKS = high_end 1 MOST_TICKS m.ticks h.0.1 in
    let many : length m.cpus ≡ o.header.cpus = h.1.0.0 in
    four (length m.cpus == o.header.cpus) (nat_lt 0 m.ticks) (nat_le m.ticks MOST_TICKS) (list_all (is_cpu o.groups m.ticks) (enumerate_from 0 m.cpus))
    (eq-eqb (length m.cpus) o.header.cpus many) (lt-ltb 0 m.ticks (omega (arith, some))) (le-leb m.ticks MOST_TICKS most) (cpus_from o m.ticks 0 m.cpus most (omega (arith, many, cpus)) h.1.0.1)

majors_each : (o : Outline) (c : ℕ) (ms : List Major) → o.header.cpus ≤ 8 → all_fit (nothing_left o) (λ b. (major o b).fits) c ms → list_all (is_major o.groups o.header.cpus) ms ≡ true
unfolding all_fit
majors_each o c [] cpus h = refl
majors_each o c (m ∷ ms) cpus h = and_from (is_major o.groups o.header.cpus m) (list_all (is_major o.groups o.header.cpus) ms) (one_major o c m cpus h.0) (majors_each o c ms cpus h.1)

pub majors_kept : (o : Outline) (ms : List Major) → o.header.cpus ≤ 8 → all_fit (nothing_left o) (λ b. (major o b).fits) 0 ms → list_all (is_major o.groups o.header.cpus) ms ≡ true
majors_kept o ms cpus h = majors_each o 0 ms cpus h
