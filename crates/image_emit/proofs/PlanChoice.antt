-- The region that chooses the next major frame, in the image that is made, is the policy's.
use Rattle.std.proofs.Common.{◌≡◌, ◌∙◌, refl, sym, ap, arith, ℕ, suc, ◌+◌, ◌<◌, Bool, true, false, cond, not, ◌||◌, List, [], ◌∷◌, length, Some, None}
use Rattle.std.specs.Prelude.{◌==◌, ◌&&◌, codes, option_and_then, option_map, position, slice_get, slice_index}
use Rattle.std.specs.List.{list_any, position_or_len}
use Rattle.std.specs.Str.{bytes_eq}
use Rattle.std.proofs.lemmas.List.Sums.{passes_at_first}
use Rattle.std.proofs.lemmas.Option.{get_or_from_slice_get}
use Rattle.std.proofs.lemmas.Slice.Eq.{bytes_eq-Decides}
use Rattle.expand_kernel.specs.Regions.{region_of}
use Rattle.image_emit.proofs.ByNumber.{span_numbered}
use Rattle.image_emit.proofs.SpansAt.{region_at}
use Rattle.image_emit.proofs.SpansOfKernel.{placed_of}
use Rattle.image_emit.specs.Made.{IsMade, Made, image_of, policy_of}
use Rattle.image_soundness.specs.Named.{tag_at}
use Rattle.muen_num.proofs.Lists.{any_first, there}
use Rattle.muen_num.proofs.Lookups.{position_there}
use Rattle.muen_num.proofs.SearchLaws.{none_both, unless_none}
use Rattle.muen_num.specs.Search.{first_in}
use Rattle.policy_lawful.specs.Offences.{two}
use Rattle.policy_lawful.specs.Resolution.{source_of}
use Rattle.policy_lawful.specs.Rules.{major_offence, majors_of, offence_16, tau0_offence}
use Rattle.policy_lawful.specs.Thing.{region, region_item, thing_tag}
use Rattle.policy_lawful.proofs.KeptRules.{rules_of}
use Rattle.policy_lawful.specs.source.Region.{Region as SourceRegion}
use Rattle.policy_lawful.specs.source.Source.{Source}
use Rattle.policy_lawful.specs.source.Tau0.{Tau0}
use Rattle.region_alloc.proofs.OwnRegions.{region_at as memory_at}
use Rattle.span_emit.specs.Spans.{region_span}

-- where some element passes a test, the first that does has an index
pub first_index : {X : Type 0} (test : X → Bool) (xs : List X) → list_any test xs ≡ true → position_or_len test xs < length xs
first_index test [] h = absurd (cc)
first_index test (x ∷ xs) h =
    elim (test x) as (λ b. (b || list_any test xs) ≡ true → cond (not b) (1 + position_or_len test xs) 0 < suc (length xs)) [
      | true ↦ λ _. omega arith
      | false ↦ λ k. let later : position_or_len test xs < length xs = first_index test xs k in omega (arith, later)
    ] h

-- rule 16: the region is one of memory
pub is_memory : (p : Source) (t : Tau0) → p.scheduling.tau0 ≡ Some t → offence_16 p ≡ None → list_any (λ r. bytes_eq r.name t.region) p.memory ≡ true
unfolding offence_16
is_memory p t is h =
    let last = none_both (first_in (major_offence p) (majors_of p)) (tau0_offence p p.scheduling.tau0) h in
    let of : tau0_offence p (Some t) ≡ None = ap (tau0_offence p) (sym is) ∙ last.1 in
    let declared = none_both _ _ of in
    let memory = none_both _ _ declared.1 in
    any_first (λ r. bytes_eq r.name t.region) (λ r. length r.shared_memory == 0) p.memory
    (unless_none (list_any (λ r. bytes_eq r.name t.region && (length r.shared_memory == 0)) p.memory) (two (codes "tau0") t.region) memory.0)

-- its span, by the number that the image has for it
tag_of_memory : (m : Made) → IsMade m → (n : ℕ) (r : SourceRegion) → slice_get (policy_of m).memory n ≡ Some r → tag_at (image_of m) n ≡ Some (thing_tag (region r.name))
unfolding source_of
tag_of_memory m h n r at =
    let y = region_of (region_item r) in
    ap (option_map (λ e. e.0.tag)) (span_numbered m h n (region_span (n, (y, slice_index m.placed.addresses n))) (region_at m h n y (memory_at m.placed (placed_of m h) n r at)))

chosen : (m : Made) → IsMade m → (t : Tau0) → (policy_of m).scheduling.tau0 ≡ Some t
    → option_map (tag_at (image_of m)) (position (λ r. bytes_eq r.name t.region) (policy_of m).memory) ≡ Some (Some (thing_tag (region t.region)))
unfolding source_of
chosen m h t is =
    let memory = (policy_of m).memory in
    let test : SourceRegion → Bool = λ r. bytes_eq r.name t.region in
    let n = position_or_len test memory in
    let low = first_index test memory (is_memory (source_of (policy_of m)) t is (rules_of h.lawful).rule_16) in
    let found = there memory n low in
    let passes : test found.0 ≡ true =
    ap test (sym (get_or_from_slice_get memory n found.0 found.0 found.1)) ∙ passes_at_first test memory found.0 low in
    let name : found.0.name ≡ t.region = (bytes_eq-Decides found.0.name t.region).0 passes in
    ap (option_map (tag_at (image_of m))) (position_there test memory low)
    ∙ ap Some (tag_of_memory m h n found.0 found.1 ∙ ap (λ name. Some (thing_tag (region name))) name)

-- **the choice** of the image is the policy's
pub choice_of_policy : (m : Made) → IsMade m → option_map (tag_at (image_of m)) (image_of m).header.tau0 ≡ option_map (λ t. Some (thing_tag (region t.region))) (source_of (policy_of m)).scheduling.tau0
unfolding image_of source_of
choice_of_policy m h = elim (policy_of m).scheduling.tau0 as (λ o. (policy_of m).scheduling.tau0 ≡ o → option_map (tag_at (image_of m)) (option_and_then (λ t. position (λ r. bytes_eq r.name t.region) (policy_of m).memory) o) ≡ option_map (λ t. Some (thing_tag (region t.region))) o) [
  | None ↦ λ _. refl
  | Some t ↦ λ is. chosen m h t is
] refl
