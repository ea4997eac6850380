-- Rule 16: each major frame names each CPU, and each of its entries has minor frames of its CPU's groups, with as many
-- ticks as the first entry.
use Rattle.std.proofs.Common.{◌≡◌, ℕ, ◌<◌, Bool, true, List, [], ◌∷◌, ◌++◌, length, Option, None, refl}
use Rattle.std.specs.Prelude.{◌&&◌, ◌==◌, not, nat_lt, slice_get}
use Rattle.std.specs.Option.{option_map_or}
use Rattle.std.specs.List.{list_all, list_any}
use Rattle.std.proofs.lemmas.Bool.{and_from, and_parts, eq-eqb, ltb-true}
use Rattle.muen_num.specs.Range.{numbers_below}
use Rattle.policy_lawful.specs.Rules.{cpu_name, group_cpu, is_entry, is_frame, is_on, major_name, major_offence, majors_of, offence_16, tau0_offence, ticks_in}
use Rattle.muen_num.specs.Search.{first_in, first_after, unless}
use Rattle.policy_lawful.specs.Offences.{two}
use Rattle.policy_lawful.specs.declared.offence.Offence.{Offence}
use Rattle.policy_types.specs.declared.source.CpuFrames.{CpuFrames}
use Rattle.policy_types.specs.declared.source.MajorFrame.{MajorFrame}
use Rattle.policy_types.specs.declared.source.Source.{Source}
use Rattle.muen_num.proofs.SearchLaws.{all_numbered, all_pass, none_both, unless_none}
use Rattle.muen_num.proofs.Lists.{each_from, some_sum}

-- it has minor frames, each one of its CPU, and so many ticks
abbrev pub has_frames : Source → ℕ → CpuFrames → Bool
has_frames p ticks c =
    nat_lt 0 (length c.minor_frames) && list_all (is_frame p c.cpu) c.minor_frames && (ticks == ticks_in c)

-- the ticks of the first entry
abbrev pub first_ticks : List CpuFrames → ℕ
first_ticks entries = option_map_or ticks_in (slice_get entries 0) 0

abbrev pub is_named : List CpuFrames → ℕ → Bool
is_named entries cpu = list_any (λ c. c.cpu == cpu) entries

abbrev pub is_major_kept : Source → MajorFrame → Bool
is_major_kept p m =
    list_all (has_frames p (first_ticks m.cpus)) m.cpus && list_all (is_named m.cpus) (numbers_below p.processor.logical_cpus)

entry_offence : Source → ℕ → List CpuFrames → CpuFrames → Option Offence
entry_offence p k before c = unless (is_entry p before c) (two (major_name k) (cpu_name c.cpu))

parts_of_entry : (p : Source) (before : List CpuFrames) (c : CpuFrames) → is_entry p before c ≡ true → ((nat_lt 0 (length c.minor_frames) && list_all (is_frame p c.cpu) c.minor_frames) ≡ true) × (option_map_or (λ b. ticks_in b == ticks_in c) (slice_get before 0) true ≡ true)
parts_of_entry p before c h =
    let last = and_parts (not (list_any (λ b. b.cpu == c.cpu) before) && nat_lt 0 (length c.minor_frames) && list_all (is_frame p c.cpu) c.minor_frames) (option_map_or (λ b. ticks_in b == ticks_in c) (slice_get before 0) true) h in
    let frames = and_parts (not (list_any (λ b. b.cpu == c.cpu) before) && nat_lt 0 (length c.minor_frames)) (list_all (is_frame p c.cpu) c.minor_frames) last.0 in
    let some = and_parts (not (list_any (λ b. b.cpu == c.cpu) before)) (nat_lt 0 (length c.minor_frames)) frames.0 in
    (and_from (nat_lt 0 (length c.minor_frames)) (list_all (is_frame p c.cpu) c.minor_frames) some.1 frames.1, last.1)

-- the entries behind the first one
later_entries : (p : Source) (k : ℕ) (b : CpuFrames) (bs cs : List CpuFrames) → first_after (entry_offence p k) (b ∷ bs) cs ≡ None → list_all (has_frames p (ticks_in b)) cs ≡ true
unfolding entry_offence
later_entries p k b bs [] h = refl
later_entries p k b bs (c ∷ cs) h =
    let both = none_both (entry_offence p k (b ∷ bs) c) (first_after (entry_offence p k) (b ∷ bs ++ c ∷ []) cs) h in
    let parts = parts_of_entry p (b ∷ bs) c (unless_none (is_entry p (b ∷ bs) c) (two (major_name k) (cpu_name c.cpu)) both.0) in
    and_from (has_frames p (ticks_in b) c) (list_all (has_frames p (ticks_in b)) cs)
    (and_from (nat_lt 0 (length c.minor_frames) && list_all (is_frame p c.cpu) c.minor_frames) (ticks_in b == ticks_in c) parts.0 parts.1)
    (later_entries p k b (bs ++ c ∷ []) cs both.1)

all_entries : (p : Source) (k : ℕ) (cs : List CpuFrames) → first_after (entry_offence p k) [] cs ≡ None → list_all (has_frames p (first_ticks cs)) cs ≡ true
unfolding entry_offence
all_entries p k [] h = refl
all_entries p k (c ∷ cs) h =
    let both = none_both (entry_offence p k [] c) (first_after (entry_offence p k) (c ∷ []) cs) h in
    let parts = parts_of_entry p [] c (unless_none (is_entry p [] c) (two (major_name k) (cpu_name c.cpu)) both.0) in
    and_from (has_frames p (ticks_in c) c) (list_all (has_frames p (ticks_in c)) cs)
    (and_from (nat_lt 0 (length c.minor_frames) && list_all (is_frame p c.cpu) c.minor_frames) (ticks_in c == ticks_in c) parts.0 (eq-eqb (ticks_in c) (ticks_in c) refl))
    (later_entries p k c [] cs both.1)

pub record MajorsKept (p : Source) : Type 0 where
  pub majors : list_all (is_major_kept p) p.scheduling.major_frames ≡ true

pub majors_kept : (p : Source) → offence_16 p ≡ None → MajorsKept p
unfolding offence_16 entry_offence
majors_kept p h =
    let frames = none_both (first_in (major_offence p) (majors_of p)) (tau0_offence p p.scheduling.tau0) h in
    let one : (k : ℕ) (m : MajorFrame) → major_offence p (k, m) ≡ None → is_major_kept p m ≡ true = λ k m none.
    let missing : ℕ → Option Offence = λ cpu. unless (is_named m.cpus cpu) (two (major_name k) (cpu_name cpu)) in
    let both = none_both (first_after (entry_offence p k) [] m.cpus) _ none in
    let named = none_both (first_in missing (numbers_below p.processor.logical_cpus)) None both.1 in
    and_from (list_all (has_frames p (first_ticks m.cpus)) m.cpus) (list_all (is_named m.cpus) (numbers_below p.processor.logical_cpus))
    (all_entries p k m.cpus both.0)
    (all_pass (is_named m.cpus) (λ cpu. two (major_name k) (cpu_name cpu)) (numbers_below p.processor.logical_cpus) named.0) in
    record { majors = all_numbered (is_major_kept p) (major_offence p) one 0 p.scheduling.major_frames frames.0 }

-- an entry has ticks
pub some_ticks : (p : Source) (ticks : ℕ) (c : CpuFrames) → has_frames p ticks c ≡ true → 0 < ticks_in c
some_ticks p ticks c h =
    let frames = and_parts (nat_lt 0 (length c.minor_frames) && list_all (is_frame p c.cpu) c.minor_frames) (ticks == ticks_in c) h in
    let parts = and_parts (nat_lt 0 (length c.minor_frames)) (list_all (is_frame p c.cpu) c.minor_frames) frames.0 in
    some_sum (λ f. f.ticks) c.minor_frames (ltb-true 0 (length c.minor_frames) parts.0)
    (each_from (is_frame p c.cpu) (λ f. nat_lt 0 f.ticks) (λ f e. (and_parts (nat_lt 0 f.ticks) (is_on (group_cpu p f.group) c.cpu) e).0) c.minor_frames parts.1)
