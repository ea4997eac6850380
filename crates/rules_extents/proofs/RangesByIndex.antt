-- Rules 4, 5 and 18 of a resolved policy are those of its source policy.
use Rattle.std.proofs.Common.{◌≡◌, map, refl, sym, ap, ◌∙◌}
use Rattle.muen_num.specs.Search.{first_in, unless}
use Rattle.muen_num.proofs.SameAnswers.{first_in-map, first_in_same}
use Rattle.muen_num.proofs.SearchLaws.{first_over-map, option_or-None, option_or_assoc}
use Rattle.policy_lawful.specs.Offences.{two}
use Rattle.policy_lawful.specs.Resolution.{IsResolved, Resolution, source_of, subject_named, subject_in_range}
use Rattle.policy_lawful.specs.Rules.{component_offence, first_overlap, is_guest, offence_4, offence_5, offence_18, window_extents, window_offence}
use Rattle.policy_lawful.proofs.SourceElements.{parts_in_range}
use Rattle.policy_lawful.specs.source.Component.{Component}
use Rattle.policy_lawful.specs.Views.{view_extent, views_of}
use Rattle.policy_lawful.proofs.ExtentsByIndex.{extents_by_index}
use Rattle.rules_extents.specs.Windows.{addresses_offence, component_ranges, outside_in_subject, overlap_in_subject, physical_extents}

-- ---- rule 4

ranges_of_component : (c : Component) → component_ranges c ≡ component_offence c
ranges_of_component c = simp (option_or_assoc, option_or-None)

outside_named : (r : Resolution) → IsResolved r → first_in (window_offence (source_of r)) (map (subject_named r) r.subjects) ≡ first_in (outside_in_subject r) r.subjects
outside_named r q =
    first_in-map (subject_named r) (window_offence (source_of r)) (outside_in_subject r) (subject_in_range r)
    (λ s in_range.
    ap (first_in (λ e. unless (is_guest e.address e.size) (two s.name e.name))) (extents_by_index r s q in_range)
    ∙ first_over-map view_extent (λ e. unless (is_guest e.address e.size) (two s.name e.name)) (views_of r s))
    r.subjects (parts_in_range r q.in_range).subjects

pub addresses_by_index : (r : Resolution) → IsResolved r → addresses_offence r ≡ offence_4 (source_of r)
unfolding offence_4 source_of
addresses_by_index r q = simp (outside_named r q, first_in_same component_ranges component_offence ranges_of_component r.components, option_or_assoc, option_or-None)

-- ---- rule 5

pub windows_apart : (r : Resolution) → IsResolved r → first_in (overlap_in_subject r) r.subjects ≡ offence_5 (source_of r)
unfolding offence_5 source_of
windows_apart r q =
    sym (first_in-map (subject_named r) (λ s. first_overlap (window_extents (source_of r) s)) (overlap_in_subject r) (subject_in_range r)
    (λ s in_range. ap first_overlap (extents_by_index r s q in_range)) r.subjects (parts_in_range r q.in_range).subjects)

-- ---- rule 18

pub blocks_apart : (r : Resolution) → first_overlap (physical_extents r.memory_blocks r.devices) ≡ offence_18 (source_of r)
unfolding offence_18 source_of
blocks_apart r = refl
