-- Major frames that can run fit the form of an image.
use Rattle.std.proofs.Common.{◌≡◌, ◌≢◌, ◌∙◌, refl, sym, ap, arith, ℕ, zero, suc, ◌+◌, ◌-◌, ◌<◌, ◌≤◌, ◌^◌, ◌&&◌, ◌||◌, not, min, Bool, true, false, List, [], ◌∷◌, length, eq-eqb, nat_le, nat_lt, ◌==◌, le-leb}
use Rattle.std.specs.List.{enumerate_from, list_all, sum_by}
use Rattle.std.proofs.lemmas.Bool.{and_from, and_parts, eqb-true, leb-true, ltb-true}
use Rattle.std.proofs.lemmas.List.Sums.{sum_by-cons}
use Rattle.binary_form.specs.Form.{all_fit, field, only, gap, done, number, byte, items}
use Rattle.muen_num.specs.declared.limits.TheConstants.{MOST_MINOR_FRAMES, MOST_TICKS}
use Rattle.frame_clock.proofs.SlotLaws.{group_there}
use Rattle.frame_clock.specs.Plan.{is_cpu, is_group_on, is_major, is_minor}
use Rattle.frame_clock.specs.declared.plan.Major.{Major}
use Rattle.frame_clock.specs.declared.plan.Minor.{Minor}
use Rattle.image_pack.specs.Image.{add_ticks, frames, major, minor_frame_form, next_cpu, no_frames_before, nothing_left}
use Rattle.image_pack.specs.declared.outline.Outline.{Outline}
use Rattle.image_pack.specs.declared.reading.majors.CpuTicks.{CpuTicks}
use Rattle.image_pack.specs.declared.reading.majors.FramesBefore.{FramesBefore}
use Rattle.image_pack.proofs.SubjectsFit.{next_number}

record Four (a b c d : Bool) : Type 0 where
  first : a ≡ true
  second : b ≡ true
  third : c ≡ true
  fourth : d ≡ true

four : (a b c d : Bool) → (a && b && c && d) ≡ true → Four a b c d
four a b c d h =
    let p = and_parts (a && b && c) d h in
    let q = and_parts (a && b) c p.0 in
    let r = and_parts a b q.0 in
    record { first = r.0; second = r.1; third = q.1; fourth = p.1 }

-- ---- minor frames

-- minor frames that may stand behind those before them
pub record GoOn (o : Outline) (t : FramesBefore) (fs : List Minor) : Type 0 where
  pub left : t.left ≡ length fs
  pub each : list_all (is_minor o.groups t.cpu) fs ≡ true
  pub total : fs ≢ [] → t.sum + sum_by (λ f. f.ticks) fs ≡ t.total
  pub small : t.total < 2 ^ 32

is_last : (b : Bool) (sum n total : ℕ) → (b ≡ true → sum + n ≡ total) → (not b || (sum + n == total)) ≡ true
is_last true sum n total h = eq-eqb (sum + n) total (h refl)
is_last false sum n total h = refl

one_left : (left n : ℕ) → left ≡ suc n → (left == 1) ≡ true → n ≡ zero
one_left left n e h = let one = eqb-true left 1 h in omega (arith, e, one)

none_in : (fs : List Minor) → length fs ≡ zero → fs ≡ []
none_in [] e = refl
none_in (f ∷ fs) e = absurd (omega (arith, e))

all_of_them : (o : Outline) (t : FramesBefore) (f : Minor) (fs : List Minor) → GoOn o t (f ∷ fs) → t.sum + (f.ticks + sum_by (λ g. g.ticks) fs) ≡ t.total
all_of_them o t f fs g = sym (ap (λ n. t.sum + n) (sum_by-cons (λ m. m.ticks) f fs)) ∙ g.total (λ e. absurd cc)

last_ticks : (o : Outline) (t : FramesBefore) (f : Minor) (fs : List Minor) → GoOn o t (f ∷ fs) → (t.left == 1) ≡ true → t.sum + f.ticks ≡ t.total
last_ticks o t f fs g h =
    let none : fs ≡ [] = none_in fs (one_left t.left (length fs) g.left h) in
    let sum : sum_by (λ (m : Minor). m.ticks) fs ≡ zero = ap (sum_by (λ (m : Minor). m.ticks)) none in
    let all = all_of_them o t f fs g in
    omega (arith, sum, all)

one_minor : (o : Outline) (t : FramesBefore) (f : Minor) (fs : List Minor) → length o.groups ≤ 32 → GoOn o t (f ∷ fs) → (minor_frame_form o t).fits f
unfolding minor_frame_form field only gap done byte number
one_minor o t f fs few g =
    let here = and_parts (is_minor o.groups t.cpu f) (list_all (is_minor o.groups t.cpu) fs) g.each in
    let two = and_parts (nat_lt 0 f.ticks) (is_group_on o.groups t.cpu f.group) here.0 in
    let there = group_there o.groups t.cpu f.group two.1 in
    let all = all_of_them o t f fs g in
    let small = g.small in (
      (omega (arith, there, few), two.1),
      (
        (omega (arith, all, small), and_from _ _ two.0 (is_last (t.left == 1) t.sum f.ticks t.total (last_ticks o t f fs g))),
        refl,
      ),
    )

sum_fits : (a b : ℕ) → a + b < 2 ^ 32 → min (a + b) (2 ^ 32 - 1) ≡ a + b
sum_fits a b h = omega (arith, h)

next_minor : (o : Outline) (t : FramesBefore) (f : Minor) (fs : List Minor) → GoOn o t (f ∷ fs) → GoOn o (add_ticks o t f) fs
next_minor o t f fs g =
    let all = all_of_them o t f fs g in
    let small = g.small in
    let sum : min (t.sum + f.ticks) (2 ^ 32 - 1) ≡ t.sum + f.ticks = sum_fits t.sum f.ticks (omega (arith, all, small)) in
    record {
      left = omega (arith, g.left);
      each = (and_parts (is_minor o.groups t.cpu f) (list_all (is_minor o.groups t.cpu) fs) g.each).1;
      total = λ some. omega (arith, sum, all);
      small = g.small;
    }

minors_fit : (o : Outline) (t : FramesBefore) (fs : List Minor) → length o.groups ≤ 32 → GoOn o t fs → all_fit (add_ticks o) (λ s. (minor_frame_form o s).fits) t fs
unfolding all_fit
minors_fit o t [] few g = tt
minors_fit o t (f ∷ fs) few g = (one_minor o t f fs few g, minors_fit o (add_ticks o t f) fs few (next_minor o t f fs g))

-- ---- the CPUs of a major frame

one_cpu : (o : Outline) (c : CpuTicks) (fs : List Minor) → length o.groups ≤ 32 → c.total < 2 ^ 32 → is_cpu o.groups c.total (c.cpu, fs) ≡ true → (frames o c).fits fs
unfolding frames field only gap number items
one_cpu o c fs few small h =
    let q = four (nat_lt 0 (length fs)) (nat_le (length fs) MOST_MINOR_FRAMES) (list_all (is_minor o.groups c.cpu) fs) (sum_by (λ (f : Minor). f.ticks) fs == c.total) h in
    let most : length fs ≤ 64 = leb-true (length fs) 64 q.second in
    let some : 0 < length fs = ltb-true 0 (length fs) q.first in
    let sum : sum_by (λ (f : Minor). f.ticks) fs ≡ c.total = eqb-true (sum_by (λ (f : Minor). f.ticks) fs) c.total q.fourth in (
      (omega (arith, most), and_from _ _ (le-leb 1 (length fs) some) q.second),
      (refl, minors_fit o (no_frames_before c (length fs)) fs few (record { left = refl; each = q.third; total = λ ne. omega (arith, sum); small = small })),
    )

cpus_from : (o : Outline) (total cpu : ℕ) (cs : List (List Minor)) → length o.groups ≤ 32 → total < 2 ^ 32 → cpu + length cs ≤ 8
    → list_all (is_cpu o.groups total) (enumerate_from cpu cs) ≡ true → all_fit (next_cpu o) (λ c. (frames o c).fits) (record { cpu = cpu; total = total }) cs
unfolding all_fit
cpus_from o total cpu [] few small room h = tt
cpus_from o total cpu (fs ∷ cs) few small room h =
    let two = and_parts (is_cpu o.groups total (cpu, fs)) (list_all (is_cpu o.groups total) (enumerate_from (cpu + 1) cs)) h in
    let next = next_number cpu (omega (arith, room)) in
    let rest = cpus_from o total (cpu + 1) cs few small (omega (arith, room)) two.1 in
    (one_cpu o (record { cpu = cpu; total = total }) fs few small two.0, rw next rest)

-- ---- major frames

one_major : (o : Outline) (b : ℕ) (m : Major) → length o.groups ≤ 32 → o.header.cpus ≤ 8 → is_major o.groups o.header.cpus m ≡ true → (major o b).fits m
unfolding major field only done number items
one_major o b m few cpus h =
    let q = four (length m.cpus == o.header.cpus) (nat_lt 0 m.ticks) (nat_le m.ticks MOST_TICKS) (list_all (is_cpu o.groups m.ticks) (enumerate_from 0 m.cpus)) h in
    let most : m.ticks ≤ 100000 = leb-true m.ticks 100000 q.third in
    let some : 0 < m.ticks = ltb-true 0 m.ticks q.second in
    let many : length m.cpus ≡ o.header.cpus = eqb-true (length m.cpus) o.header.cpus q.first in (
      (omega (arith, most), and_from _ _ (le-leb 1 m.ticks some) q.third),
      (
        (many, cpus_from o m.ticks 0 m.cpus few (omega (arith, most)) (omega (arith, many, cpus)) q.fourth),
        refl,
      ),
    )

majors_each : (o : Outline) (c : ℕ) (ms : List Major) → length o.groups ≤ 32 → o.header.cpus ≤ 8 → list_all (is_major o.groups o.header.cpus) ms ≡ true → all_fit (nothing_left o) (λ b. (major o b).fits) c ms
unfolding all_fit
majors_each o c [] few cpus h = tt
majors_each o c (m ∷ ms) few cpus h =
    let two = and_parts (is_major o.groups o.header.cpus m) (list_all (is_major o.groups o.header.cpus) ms) h in
    (one_major o c m few cpus two.0, majors_each o c ms few cpus two.1)

pub majors_fit : (o : Outline) (ms : List Major) → length o.groups ≤ 32 → o.header.cpus ≤ 8 → list_all (is_major o.groups o.header.cpus) ms ≡ true → all_fit (nothing_left o.header) (λ b. (major o b).fits) 0 ms
majors_fit o ms few cpus h = majors_each o 0 ms few cpus h
