-- The plan of a policy is one: its frames by CPUs, and its groups' CPUs and first members, are all of it.
use Rattle.std.proofs.Common.{◌≡◌, ℕ, ◌<◌, true, List, [], ◌∷◌, length, map, None, refl, sym, ap, ap₂, ◌∙◌, subst, arith, suc}
use Rattle.std.specs.Prelude.{◌==◌, nat_lt, slice_index_or}
use Rattle.std.specs.List.{enumerate_from, list_all, sum_by}
use Rattle.std.proofs.lemmas.Bool.{and_parts, eqb-true, ltb-true}
use Rattle.image_pack.specs.Plan.{cpus_of, frame_of_minor, frames_in, is_cpu, is_major, is_plan}
use Rattle.image_pack.specs.plan.GroupPart.{GroupPart}
use Rattle.image_pack.specs.plan.Major.{Major}
use Rattle.image_pack.specs.plan.Minor.{Minor}
use Rattle.image_pack.specs.plan.Plan.{Plan}
use Rattle.image_soundness.specs.PlanOf.{IsPlanOf}
use Rattle.muen_num.specs.Frame.{Frame}
use Rattle.policy_lawful.specs.Resolution.{name_at}
use Rattle.policy_lawful.specs.Rules.{repeated}
use Rattle.policy_lawful.specs.source.Source.{Source}
use Rattle.policy_lawful.specs.source.Subject.{Subject}
use Rattle.image_soundness.proofs.ListsTold.{first_same, mapped_one, named_one, rest_same}

-- ---- minor frames

abbrev minor_of : Frame → Minor
minor_of f = record { group = f.group; ticks = f.ticks }

minors_one : (fs gs : List Minor) → map frame_of_minor fs ≡ map frame_of_minor gs → fs ≡ gs
minors_one fs gs e = mapped_one frame_of_minor minor_of (λ f. refl) fs gs e

-- those of each CPU
cpus_one : (xs ys : List (List Minor)) → length xs ≡ length ys
    → ((cpu : ℕ) → cpu < length xs → map frame_of_minor (slice_index_or xs cpu []) ≡ map frame_of_minor (slice_index_or ys cpu [])) → xs ≡ ys
cpus_one [] [] l same = refl
cpus_one [] (y ∷ ys) l same = absurd (omega (arith, l))
cpus_one (x ∷ xs) [] l same = absurd (omega (arith, l))
cpus_one (x ∷ xs) (y ∷ ys) l same =
    ap₂ (λ z zs. z ∷ zs) (minors_one x y (same 0 (omega arith)))
    (cpus_one xs ys (omega (arith, l)) (λ cpu w. same (suc cpu) (omega (arith, w))))

-- ---- major frames

-- the ticks of its first CPU's minor frames
abbrev first_ticks : List (List Minor) → ℕ
first_ticks cpus = sum_by (λ f. f.ticks) (slice_index_or cpus 0 [])

ticks_are : (groups : List GroupPart) (ticks : ℕ) (cpus : List (List Minor)) → 0 < length cpus → list_all (is_cpu groups ticks) (enumerate_from 0 cpus) ≡ true → first_ticks cpus ≡ ticks
ticks_are groups ticks [] l h = absurd (omega (arith, l))
ticks_are groups ticks (c ∷ cs) l h =
    let first = and_parts (is_cpu groups ticks (0, c)) (list_all (is_cpu groups ticks) (enumerate_from 1 cs)) h in
    eqb-true (first_ticks (c ∷ cs)) ticks (and_parts _ _ first.0).1

-- a major frame of so many CPUs has its ticks on each
record IsOfCpus (cpus : ℕ) (m : Major) : Type 0 where
  many : length m.cpus ≡ cpus
  ticks : 0 < cpus → first_ticks m.cpus ≡ m.ticks

of_cpus : (groups : List GroupPart) (cpus : ℕ) (m : Major) → is_major groups cpus m ≡ true → IsOfCpus cpus m
of_cpus groups cpus m h =
    let c = and_parts _ (list_all (is_cpu groups m.ticks) (enumerate_from 0 m.cpus)) h in
    let b = and_parts _ _ c.0 in
    let a = and_parts _ _ b.0 in
    let many = eqb-true (length m.cpus) cpus a.0 in
    record { many = many; ticks = λ some. ticks_are groups m.ticks m.cpus (omega (arith, some, many)) c.1 }

-- the minor frames of a CPU in it
abbrev frames_at : ℕ → Major → List Frame
frames_at cpu m = map frame_of_minor (slice_index_or m.cpus cpu [])

module _ (cpus : ℕ) (some : 0 < cpus) where
  major_one : (m n : Major) → IsOfCpus cpus m → IsOfCpus cpus n → ((cpu : ℕ) → cpu < cpus → frames_at cpu m ≡ frames_at cpu n) → m ≡ n
  major_one m n h k same =
      let many = h.many in
      let frames = cpus_one m.cpus n.cpus (h.many ∙ sym k.many) (λ cpu l. same cpu (omega (arith, l, many))) in
      let ticks = sym (h.ticks some) ∙ ap first_ticks frames ∙ k.ticks some in
      λ i. record { ticks = ticks i; cpus = frames i }

  majors_one : (gs hs : List GroupPart) (ms ns : List Major) → list_all (is_major gs cpus) ms ≡ true → list_all (is_major hs cpus) ns ≡ true
      → ((cpu : ℕ) → cpu < cpus → map (frames_at cpu) ms ≡ map (frames_at cpu) ns) → ms ≡ ns
  majors_one gs hs [] [] h k same = refl
  majors_one gs hs [] (n ∷ ns) h k same = absurd (let e = same 0 some in cc)
  majors_one gs hs (m ∷ ms) [] h k same = absurd (let e = same 0 some in cc)
  majors_one gs hs (m ∷ ms) (n ∷ ns) h k same =
      let p = and_parts (is_major gs cpus m) (list_all (is_major gs cpus) ms) h in
      let q = and_parts (is_major hs cpus n) (list_all (is_major hs cpus) ns) k in
      ap₂ (λ z zs. z ∷ zs)
      (major_one m n (of_cpus gs cpus m p.0) (of_cpus hs cpus n q.0) (λ cpu l. first_same (frames_at cpu) m n ms ns (same cpu l)))
      (majors_one gs hs ms ns p.1 q.1 (λ cpu l. rest_same (frames_at cpu) m n ms ns (same cpu l)))

-- ---- groups

module _ (subjects : List Subject) (unique : repeated (map (λ s. s.name) subjects) ≡ None) where
  abbrev first_name : GroupPart → List ℕ
  first_name g = name_at (map (λ s. s.name) subjects) g.first

  groups_one : (gs hs : List GroupPart) → list_all (λ g. nat_lt g.first (length subjects)) gs ≡ true → list_all (λ g. nat_lt g.first (length subjects)) hs ≡ true
      → map (λ g. g.cpu) gs ≡ map (λ g. g.cpu) hs → map first_name gs ≡ map first_name hs → gs ≡ hs
  groups_one [] [] a b cpus names = refl
  groups_one [] (h ∷ hs) a b cpus names = absurd (cc)
  groups_one (g ∷ gs) [] a b cpus names = absurd (cc)
  groups_one (g ∷ gs) (h ∷ hs) a b cpus names =
      let p = and_parts (nat_lt g.first (length subjects)) (list_all (λ g. nat_lt g.first (length subjects)) gs) a in
      let q = and_parts (nat_lt h.first (length subjects)) (list_all (λ g. nat_lt g.first (length subjects)) hs) b in
      let cpu = first_same (λ (g : GroupPart). g.cpu) g h gs hs cpus in
      let first = named_one (λ (s : Subject). s.name) subjects unique g.first h.first (ltb-true _ _ p.0) (ltb-true _ _ q.0) (first_same first_name g h gs hs names) in
      let same : g ≡ h = λ i. record { cpu = cpu i; first = first i } in
      ap₂ (λ z zs. z ∷ zs) same (groups_one gs hs p.1 q.1 (rest_same (λ (g : GroupPart). g.cpu) g h gs hs cpus) (rest_same first_name g h gs hs names))

-- ---- the plan

-- it plans some CPUs, and its major frames are of these
record Plans (plan : Plan) : Type 0 where
  some : 0 < cpus_of plan
  majors : list_all (is_major plan.groups (cpus_of plan)) plan.majors ≡ true

plans : (plan : Plan) → is_plan plan ≡ true → Plans plan
unfolding is_plan
plans plan h =
    let e = and_parts _ (list_all (is_major plan.groups (cpus_of plan)) plan.majors) h in
    let d = and_parts _ _ e.0 in
    let c = and_parts _ _ d.0 in
    let b = and_parts _ _ c.0 in
    let a = and_parts _ _ b.0 in
    record { some = ltb-true 0 (cpus_of plan) a.0; majors = e.1 }

pub plans_are_one : (p : Source) → repeated (map (λ s. s.name) p.subjects) ≡ None → (a b : Plan) → IsPlanOf p a → IsPlanOf p b → a ≡ b
unfolding frames_in
plans_are_one p unique a b h k =
    let cpus = p.processor.logical_cpus in
    let here = plans a h.valid in
    let other = plans b k.valid in
    let groups = groups_one p.subjects unique a.groups b.groups h.there k.there (h.groups ∙ sym k.groups) (h.firsts ∙ sym k.firsts) in
    let majors = majors_one cpus (subst (λ n. 0 < n) h.cpus here.some) a.groups b.groups a.majors b.majors
    (subst (λ n. list_all (is_major a.groups n) a.majors ≡ true) h.cpus here.majors)
    (subst (λ n. list_all (is_major b.groups n) b.majors ≡ true) k.cpus other.majors)
    (λ cpu l. h.frames cpu l ∙ sym (k.frames cpu l)) in
    λ i. record { groups = groups i; majors = majors i }
