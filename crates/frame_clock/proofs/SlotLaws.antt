-- Laws of the frame slots: how many ticks a CPU has, where each of them stands, and what a valid plan has.
use Rattle.std.proofs.Common.{◌≡◌, ℕ, zero, suc, ◌+◌, ◌-◌, ◌<◌, ◌≤◌, true, false, List, [], ◌∷◌, ◌++◌, length, map, Option, Some, None, refl, sym, ap, ◌∙◌, subst, arith, length-append}
use Rattle.std.specs.Prelude.{◌==◌, ◌&&◌, slice_get, slice_index_or, option_map, nat_lt, nat_le}
use Rattle.std.specs.Option.{option_map_or}
use Rattle.std.specs.List.{list_all, sum_by, enumerate_from, flat_map}
use Rattle.std.proofs.lemmas.Bool.{and_parts, ltb-true, leb-true, eqb-true}
use Rattle.std.proofs.lemmas.List.{length-map}
use Rattle.std.proofs.lemmas.List.Concat.{flat_map-cons}
use Rattle.std.proofs.lemmas.List.Sums.{sum_by-cons}
use Rattle.std.proofs.lemmas.Option.{slice_get-map, slice_get_within}
use Rattle.muen_num.specs.Frame.{Frame}
use Rattle.muen_num.specs.Range.{numbers_below}
use Rattle.muen_num.specs.declared.limits.TheConstants.{MOST_CPUS, MOST_MAJOR_FRAMES, MOST_MINOR_FRAMES, MOST_TICKS}
use Rattle.frame_clock.specs.Plan.{frame_of_minor, cpus_of, is_group_on, is_minor, is_cpu, is_major, is_plan}
use Rattle.frame_clock.specs.Slot.{Slot, frame_slots, slots_from}
use Rattle.frame_clock.specs.declared.plan.GroupPart.{GroupPart}
use Rattle.frame_clock.specs.declared.plan.Minor.{Minor}
use Rattle.frame_clock.specs.declared.plan.Major.{Major}
use Rattle.frame_clock.specs.declared.plan.Plan.{Plan}
use Rattle.muen_num.proofs.Lists.{get_left, get_right}
use Rattle.muen_num.proofs.NumbersBelow.{length_numbers, number_at}

-- ---- a minor frame

-- a tick of a minor frame, by its number in the frame
abbrev pub frame_slot : ℕ → Frame → ℕ → Slot
frame_slot major f k = record { major = major; group = f.group; first = k == 0; remaining = f.ticks - k }

length_frame : (major : ℕ) (f : Frame) → length (frame_slots major f) ≡ f.ticks
length_frame major f = length-map (numbers_below f.ticks) (frame_slot major f) ∙ length_numbers f.ticks

pub slot_of_frame : (major : ℕ) (f : Frame) (k : ℕ) → k < f.ticks → slice_get (frame_slots major f) k ≡ Some (frame_slot major f k)
slot_of_frame major f k l =
    slice_get-map (frame_slot major f) (numbers_below f.ticks) k ∙ ap (option_map (frame_slot major f)) (number_at f.ticks k l)

-- ---- the minor frames of a CPU in a major frame

-- their ticks
abbrev pub ticks_of : List Frame → ℕ
ticks_of fs = sum_by (λ f. f.ticks) fs

length_frames : (major : ℕ) (fs : List Frame) → length (flat_map (frame_slots major) fs) ≡ ticks_of fs
length_frames major [] = refl
length_frames major (f ∷ fs) =
    let split = ap length (flat_map-cons (frame_slots major) f fs) ∙ length-append (frame_slots major f) (flat_map (frame_slots major) fs) in
    split ∙ (λ i. length_frame major f i + length_frames major fs i) ∙ sym (sum_by-cons (λ (g : Frame). g.ticks) f fs)

-- a tick of the first minor frame
pub first_frame : (major : ℕ) (f : Frame) (fs : List Frame) (k : ℕ) → k < f.ticks → slice_get (flat_map (frame_slots major) (f ∷ fs)) k ≡ Some (frame_slot major f k)
first_frame major f fs k l =
    let many : length (frame_slots major f) ≡ f.ticks = length_frame major f in
    ap (λ xs. slice_get xs k) (flat_map-cons (frame_slots major) f fs)
    ∙ get_left (frame_slots major f) (flat_map (frame_slots major) fs) k (omega (arith, many, l))
    ∙ slot_of_frame major f k l

-- a tick of a later one
pub later_frame : (major : ℕ) (f : Frame) (fs : List Frame) (k : ℕ) → slice_get (flat_map (frame_slots major) (f ∷ fs)) (f.ticks + k) ≡ slice_get (flat_map (frame_slots major) fs) k
later_frame major f fs k =
    ap (λ xs. slice_get xs (f.ticks + k)) (flat_map-cons (frame_slots major) f fs)
    ∙ ap (λ n. slice_get (frame_slots major f ++ flat_map (frame_slots major) fs) (n + k)) (sym (length_frame major f))
    ∙ get_right (frame_slots major f) (flat_map (frame_slots major) fs) k

-- ---- all major frames

-- as many slots as ticks
pub length_slots : (major : ℕ) (ms : List (List Frame)) → length (slots_from major ms) ≡ sum_by ticks_of ms
length_slots major [] = refl
length_slots major (m ∷ ms) =
    length-append (flat_map (frame_slots major) m) (slots_from (major + 1) ms)
    ∙ (λ i. length_frames major m i + length_slots (major + 1) ms i)
    ∙ sym (sum_by-cons ticks_of m ms)

-- a tick of the first major frame
pub first_major : (major : ℕ) (m : List Frame) (ms : List (List Frame)) (k : ℕ) → k < ticks_of m → slice_get (slots_from major (m ∷ ms)) k ≡ slice_get (flat_map (frame_slots major) m) k
first_major major m ms k l =
    let many : length (flat_map (frame_slots major) m) ≡ ticks_of m = length_frames major m in
    get_left (flat_map (frame_slots major) m) (slots_from (major + 1) ms) k (omega (arith, many, l))

-- a tick of a later one
pub later_major : (major : ℕ) (m : List Frame) (ms : List (List Frame)) (k : ℕ) → slice_get (slots_from major (m ∷ ms)) (ticks_of m + k) ≡ slice_get (slots_from (major + 1) ms) k
later_major major m ms k =
    ap (λ n. slice_get (flat_map (frame_slots major) m ++ slots_from (major + 1) ms) (n + k)) (sym (length_frames major m))
    ∙ get_right (flat_map (frame_slots major) m) (slots_from (major + 1) ms) k

-- ---- what a valid plan has

-- the minor frames of a CPU in a major frame
abbrev pub frames_at : ℕ → Major → List Frame
frames_at cpu m = map frame_of_minor (slice_index_or m.cpus cpu [])

pub record HasFrames (groups : List GroupPart) (ticks cpu : ℕ) (frames : List Minor) : Type 0 where
  pub some : 0 < length frames
  pub each : list_all (is_minor groups cpu) frames ≡ true
  pub total : sum_by (λ f. f.ticks) frames ≡ ticks

pub record HasMajor (groups : List GroupPart) (cpus : ℕ) (m : Major) : Type 0 where
  pub count : length m.cpus ≡ cpus
  pub some : 0 < m.ticks
  pub within : m.ticks ≤ MOST_TICKS
  pub each : list_all (is_cpu groups m.ticks) (enumerate_from 0 m.cpus) ≡ true

pub record HasMajors (p : Plan) : Type 0 where
  pub cpu : 0 < cpus_of p
  pub some : 0 < length p.majors
  pub within : length p.majors ≤ MOST_MAJOR_FRAMES
  pub groups : list_all (λ g. nat_lt g.cpu (cpus_of p)) p.groups ≡ true
  pub each : list_all (is_major p.groups (cpus_of p)) p.majors ≡ true

pub has_frames : (groups : List GroupPart) (ticks cpu : ℕ) (frames : List Minor) → is_cpu groups ticks (cpu, frames) ≡ true → HasFrames groups ticks cpu frames
has_frames groups ticks cpu frames h =
    let some = nat_lt 0 (length frames) in
    let within = nat_le (length frames) MOST_MINOR_FRAMES in
    let each = list_all (is_minor groups cpu) frames in
    let a = and_parts (some && within && each) (sum_by (λ f. f.ticks) frames == ticks) h in
    let b = and_parts (some && within) each a.0 in
    let c = and_parts some within b.0 in
    record {
      some = ltb-true 0 (length frames) c.0;
      each = b.1;
      total = eqb-true (sum_by (λ f. f.ticks) frames) ticks a.1;
    }

pub has_major : (groups : List GroupPart) (cpus : ℕ) (m : Major) → is_major groups cpus m ≡ true → HasMajor groups cpus m
has_major groups cpus m h =
    let count = length m.cpus == cpus in
    let some = nat_lt 0 m.ticks in
    let within = nat_le m.ticks MOST_TICKS in
    let a = and_parts (count && some && within) (list_all (is_cpu groups m.ticks) (enumerate_from 0 m.cpus)) h in
    let b = and_parts (count && some) within a.0 in
    let c = and_parts count some b.0 in
    record {
      count = eqb-true (length m.cpus) cpus c.0;
      some = ltb-true 0 m.ticks c.1;
      within = leb-true m.ticks MOST_TICKS b.1;
      each = a.1;
    }

pub has_majors : (p : Plan) → is_plan p ≡ true → HasMajors p
unfolding is_plan
has_majors p h =
    let cpus = nat_lt 0 (cpus_of p) && nat_le (cpus_of p) MOST_CPUS in
    let some = nat_lt 0 (length p.majors) in
    let within = nat_le (length p.majors) MOST_MAJOR_FRAMES in
    let groups = list_all (λ (g : GroupPart). nat_lt g.cpu (cpus_of p)) p.groups in
    let a = and_parts (cpus && some && within && groups) (list_all (is_major p.groups (cpus_of p)) p.majors) h in
    let b = and_parts (cpus && some && within) groups a.0 in
    let c = and_parts (cpus && some) within b.0 in
    let d = and_parts cpus some c.0 in
    record {
      cpu = ltb-true 0 (cpus_of p) (and_parts (nat_lt 0 (cpus_of p)) (nat_le (cpus_of p) MOST_CPUS) d.0).0;
      some = ltb-true 0 (length p.majors) d.1;
      within = leb-true (length p.majors) MOST_MAJOR_FRAMES c.1;
      groups = b.1;
      each = a.1;
    }

group_found : (groups : List GroupPart) (cpu k : ℕ) (o : Option GroupPart) → slice_get groups k ≡ o → option_map_or (λ g. g.cpu == cpu) o false ≡ true → k < length groups
group_found groups cpu k None e h = absurd (cc)
group_found groups cpu k (Some g) e h = slice_get_within groups k g e

-- a group that is on a CPU is there
pub group_there : (groups : List GroupPart) (cpu k : ℕ) → is_group_on groups cpu k ≡ true → k < length groups
group_there groups cpu k h = group_found groups cpu k (slice_get groups k) refl h

-- the minor frames of a CPU of a valid major frame
cpu_at : (groups : List GroupPart) (ticks n : ℕ) (cpus : List (List Minor)) (k : ℕ) → list_all (is_cpu groups ticks) (enumerate_from n cpus) ≡ true → k < length cpus → is_cpu groups ticks (n + k, slice_index_or cpus k []) ≡ true
cpu_at groups ticks n [] k all l = absurd (omega arith)
cpu_at groups ticks n (fs ∷ cpus) zero all l =
    let here = (and_parts (is_cpu groups ticks (n, fs)) (list_all (is_cpu groups ticks) (enumerate_from (n + 1) cpus)) all).0 in
    let same : n ≡ n + 0 = omega arith in
    subst (λ m. is_cpu groups ticks (m, fs) ≡ true) same here
cpu_at groups ticks n (fs ∷ cpus) (suc k) all l =
    let later = (and_parts (is_cpu groups ticks (n, fs)) (list_all (is_cpu groups ticks) (enumerate_from (n + 1) cpus)) all).1 in
    let same : n + 1 + k ≡ n + suc k = omega arith in
    subst (λ m. is_cpu groups ticks (m, slice_index_or cpus k []) ≡ true) same (cpu_at groups ticks (n + 1) cpus k later (omega arith))

pub frames_there : (groups : List GroupPart) (cpus : ℕ) (m : Major) (cpu : ℕ) → is_major groups cpus m ≡ true → cpu < cpus → HasFrames groups m.ticks cpu (slice_index_or m.cpus cpu [])
frames_there groups cpus m cpu h l =
    let major = has_major groups cpus m h in
    let within : cpu < length m.cpus = omega (arith, major.count, l) in
    let same : 0 + cpu ≡ cpu = omega arith in
    has_frames groups m.ticks cpu (slice_index_or m.cpus cpu []) (
    subst (λ k. is_cpu groups m.ticks (k, slice_index_or m.cpus cpu []) ≡ true) same (cpu_at groups m.ticks 0 m.cpus cpu major.each within)
    )

-- ---- the ticks of a valid plan

minor_ticks : (fs : List Minor) → ticks_of (map frame_of_minor fs) ≡ sum_by (λ f. f.ticks) fs
minor_ticks [] = refl
minor_ticks (f ∷ fs) =
    sum_by-cons (λ (g : Frame). g.ticks) (frame_of_minor f) (map frame_of_minor fs)
    ∙ ap (λ n. f.ticks + n) (minor_ticks fs)
    ∙ sym (sum_by-cons (λ (g : Minor). g.ticks) f fs)

-- those of the frames of a CPU in a major frame are the major frame's
pub major_ticks : (groups : List GroupPart) (cpus : ℕ) (m : Major) (cpu : ℕ) → is_major groups cpus m ≡ true → cpu < cpus → ticks_of (frames_at cpu m) ≡ m.ticks
major_ticks groups cpus m cpu h l =
    minor_ticks (slice_index_or m.cpus cpu []) ∙ (frames_there groups cpus m cpu h l).total
