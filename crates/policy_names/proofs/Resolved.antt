-- The resolved policy, from its elements with indexes.
use Rattle.std.proofs.Common.{◌≡◌, true, List, length, Option, Some, None, Err, refl, sym, ap, subst, ◌∙◌}
use Rattle.std.specs.Prelude.{map, nat_lt}
use Rattle.std.specs.List.{list_all}
use Rattle.std.specs.Option.{option_or}
use Rattle.std.proofs.lemmas.List.{length-map}
use Rattle.muen_num.specs.Answers.{Answers, Explains}
use Rattle.muen_num.specs.Search.{first_in}
use Rattle.muen_num.proofs.Lists.{map-map}
use Rattle.muen_num.proofs.SearchLaws.{option_or-None}
use Rattle.policy_lawful.specs.Lawful.{kept_or, offences, unlawful}
use Rattle.policy_lawful.specs.Offences.{broken}
use Rattle.policy_lawful.proofs.Keeps.{refused}
use Rattle.policy_lawful.proofs.Offences.{none_broken}
use Rattle.policy_lawful.specs.Resolution.{IsResolved, Resolution, are_in_range, group_in_range, group_named, major_in_range, major_named, name_at, source_of, subject_in_range, subject_in_range_among, subject_named, subject_named_among}
use Rattle.policy_lawful.specs.Rules.{frame_references, group_references, major_name, majors_of, offence_1, offence_2, subject_references, undeclared}
use Rattle.policy_lawful.specs.declared.resolved.Group.{Group}
use Rattle.policy_lawful.specs.declared.resolved.MajorFrame.{MajorFrame}
use Rattle.policy_lawful.specs.declared.resolved.Subject.{Subject}
use Rattle.policy_lawful.specs.refusal.Refusal.{Refusal}
use Rattle.policy_lawful.specs.refusal.Refusal.TheVariants.{NoMemory}
use Rattle.policy_lawful.specs.source.Source.{Source}
use Rattle.policy_names.specs.Names.{names_broken}
use Rattle.policy_names.specs.Outline.{bare_group, bare_subject, bare_resolution, with_resolved}
use Rattle.policy_names.specs.Indexes.{StandsFor}
use Rattle.policy_names.proofs.Refusals.{one_behind_another}

-- ---- its elements

-- rule 2, of one kind of elements after another
pub offence_2_in_turn : (p : Source) → offence_2 p
    ≡ option_or (first_in (λ s. first_in (undeclared s.name) (subject_references p s)) p.subjects)
    (option_or (first_in (λ g. first_in (undeclared g.name) (group_references p g)) p.scheduling.groups) (first_in (λ m. first_in (undeclared (major_name m.0)) (frame_references p m.1)) (majors_of p)))
unfolding offence_2
offence_2_in_turn p = rw (option_or-None (first_in (λ m. first_in (undeclared (major_name m.0)) (frame_references p m.1)) (majors_of p))) refl

pub ruleset in_turn = (offence_2_in_turn, one_behind_another)

module _ (p : Source) (ss : List Subject) (gs : List Group) (ms : List MajorFrame)
    (subjects : StandsFor (map (subject_named (bare_resolution p))) (list_all (subject_in_range (bare_resolution p))) p.subjects ss)
    (groups : StandsFor (map (group_named (bare_resolution p))) (list_all (group_in_range (bare_resolution p))) p.scheduling.groups gs)
    (majors : StandsFor (map (major_named (bare_resolution p))) (list_all (major_in_range (bare_resolution p))) p.scheduling.major_frames ms) where
  -- the subjects have their names, and so have the groups
  of_subjects : map (λ s. s.name) (bare_resolution p).subjects ≡ map (λ s. s.name) ss
  of_subjects = map-map (λ s. s.name) bare_subject p.subjects ∙ ap (map (λ s. s.name)) (sym subjects.same) ∙ map-map (λ s. s.name) (subject_named (bare_resolution p)) ss

  of_groups : map (λ g. g.name) (bare_resolution p).scheduling.groups ≡ map (λ g. g.name) gs
  of_groups = map-map (λ g. g.name) bare_group p.scheduling.groups ∙ ap (map (λ g. g.name)) (sym groups.same) ∙ map-map (λ g. g.name) (group_named (bare_resolution p)) gs

  -- so that the subjects, the groups and the frames stand for the same beside them
  subjects_same : map (subject_named (with_resolved p ss (record { groups = gs; major_frames = ms; tau0 = p.scheduling.tau0 }))) ss ≡ p.subjects
  subjects_same = ap (λ names. map (subject_named_among (bare_resolution p) names) ss) (sym of_subjects) ∙ subjects.same

  subjects_there : list_all (subject_in_range (with_resolved p ss (record { groups = gs; major_frames = ms; tau0 = p.scheduling.tau0 }))) ss ≡ true
  subjects_there =
      subst (λ n. list_all (subject_in_range_among (bare_resolution p) n) ss ≡ true)
      (sym (length-map (bare_resolution p).subjects (λ s. s.name)) ∙ ap length of_subjects ∙ length-map ss (λ s. s.name)) subjects.there

  groups_same : map (group_named (with_resolved p ss (record { groups = gs; major_frames = ms; tau0 = p.scheduling.tau0 }))) gs ≡ p.scheduling.groups
  groups_same = ap (λ names. map (λ (g : Group). record { name = g.name; cpu = g.cpu; subjects = map (name_at names) g.subjects }) gs) (sym of_subjects) ∙ groups.same

  groups_there : list_all (group_in_range (with_resolved p ss (record { groups = gs; major_frames = ms; tau0 = p.scheduling.tau0 }))) gs ≡ true
  groups_there =
      subst (λ n. list_all (λ (g : Group). list_all (λ i. nat_lt i n) g.subjects) gs ≡ true)
      (sym (length-map (bare_resolution p).subjects (λ s. s.name)) ∙ ap length of_subjects ∙ length-map ss (λ s. s.name)) groups.there

  majors_same : map (major_named (with_resolved p ss (record { groups = gs; major_frames = ms; tau0 = p.scheduling.tau0 }))) ms ≡ p.scheduling.major_frames
  majors_same =
      ap (λ names. map (λ (m : MajorFrame). record { cpus = map (λ c. record { cpu = c.cpu; minor_frames = map (λ f. record { group = name_at names f.group; ticks = f.ticks }) c.minor_frames }) m.cpus }) ms) (sym of_groups)
      ∙ majors.same

  majors_there : list_all (major_in_range (with_resolved p ss (record { groups = gs; major_frames = ms; tau0 = p.scheduling.tau0 }))) ms ≡ true
  majors_there =
      subst (λ n. list_all (λ (m : MajorFrame). list_all (λ c. list_all (λ f. nat_lt f.group n) c.minor_frames) m.cpus) ms ≡ true)
      (sym (length-map (bare_resolution p).scheduling.groups (λ g. g.name)) ∙ ap length of_groups ∙ length-map gs (λ g. g.name)) majors.there

  -- the policy with them stands for the whole
  pub whole : StandsFor source_of are_in_range p (with_resolved p ss (record { groups = gs; major_frames = ms; tau0 = p.scheduling.tau0 }))
  unfolding source_of are_in_range
  whole = record {
    same = λ i. record {
      processor = p.processor;
      memory_blocks = p.memory_blocks;
      devices = p.devices;
      memory = p.memory;
      channels = p.channels;
      components = p.components;
      events = p.events;
      subjects = subjects_same i;
      scheduling = record { groups = groups_same i; major_frames = majors_same i; tau0 = p.scheduling.tau0 };
      device_domains = p.device_domains;
    };
    there = rw (subjects_there, groups_there, majors_there) refl;
  }

-- ---- both rules

pub names_in_turn : (p : Source) → names_broken p ≡ option_or (broken 1 (offence_1 p)) (broken 2 (offence_2 p))
unfolding names_broken
names_in_turn p = rw (option_or-None (broken 2 (offence_2 p))) refl

-- where rule 1 is kept, what explains a refusal by rule 2 explains the whole answer
pub refused_by_2 : (p : Source) (e : Refusal) → broken 1 (offence_1 p) ≡ None → Explains NoMemory (broken 2 (offence_2 p)) e → Answers NoMemory (kept_or p (names_broken p)) (Err e)
refused_by_2 p e one h =
    refused p (names_broken p) e (subst (λ o. Explains NoMemory o e) (sym (names_in_turn p ∙ ap (λ o. option_or o (broken 2 (offence_2 p))) one)) h)

-- where neither is broken, it is resolved
pub resolved : (p : Source) (r : Resolution) → broken 1 (offence_1 p) ≡ None → broken 2 (offence_2 p) ≡ None → StandsFor source_of are_in_range p r → IsResolved r
resolved p r one two stands =
    record { names = rw stands.same (none_broken 1 (offence_1 p) one); references = rw stands.same (none_broken 2 (offence_2 p) two); in_range = stands.there }

first_of_more : {O : Type 0} (a b c : Option O) (r : O) → option_or a (option_or b None) ≡ Some r → option_or a (option_or b c) ≡ Some r
first_of_more None None c r h = absurd (cc)
first_of_more None (Some x) c r h = h
first_of_more (Some x) b c r h = h

-- their refusal is that of all rules
pub names_first : (p : Source) (r : Refusal) → names_broken p ≡ Some r → unlawful p ≡ Some r
unfolding names_broken unlawful offences
names_first p r h = first_of_more (broken 1 (offence_1 p)) (broken 2 (offence_2 p)) _ r h

pub ruleset resolution = (names_in_turn, one_behind_another, resolved)
