-- Where a thing lies in an image that has as many spans and subjects as a policy has things and subjects: where its number does.
use Rattle.std.proofs.Common.{◌≡◌, ℕ, suc, ◌+◌, ◌≤◌, Bool, true, false, cond, not, List, [], ◌∷◌, length, map, Some, None, refl, ap, ◌∙◌, arith}
use Rattle.std.specs.Prelude.{slice_index}
use Rattle.std.specs.Option.{option_map_or, option_or}
use Rattle.std.specs.List.{find, list_any, position_or_len, zip}
use Rattle.std.proofs.lemmas.Bool.{or_parts}
use Rattle.std.proofs.lemmas.List.{length-map}
use Rattle.std.proofs.lemmas.List.Folds.{find-append}
use Rattle.image_memory.specs.Memory.{Span, address_at}
use Rattle.image_pack.specs.declared.parts.Image.{Image}
use Rattle.image_pack.specs.declared.parts.SubjectPart.{SubjectPart}
use Rattle.image_soundness.specs.Numbered.{address_at_number}
use Rattle.image_soundness.specs.Sound.{address_of, thing_spans}
use Rattle.muen_num.proofs.Lists.{position-map}
use Rattle.muen_num.proofs.SearchLaws.{option_or-None}
use Rattle.policy_lawful.proofs.FirstIndexes.{none_mapped}
use Rattle.policy_lawful.proofs.NoPages.{pages_apart}
use Rattle.policy_lawful.specs.Thing.{Thing, channel, device_memory, provided, region, same_thing, state, things_of}
use Rattle.policy_lawful.specs.Things.{thing_index, thing_number}
use Rattle.policy_lawful.specs.source.Source.{Source}
use Rattle.policy_lawful.specs.source.Subject.{Subject}

-- ---- what is found beside something

module _ {X : Type 0} (test : X → Bool) where
  none_beside : (xs : List X) (ps : List ℕ) → list_any test xs ≡ false → find (λ (e : X × ℕ). test e.0) (zip xs ps) ≡ None
  none_beside [] ps h = refl
  none_beside (x ∷ xs) [] h = refl
  none_beside (x ∷ xs) (p ∷ ps) h =
      let both = or_parts (test x) (list_any test xs) h in
      ap (λ b. cond b (Some (x, p)) (find (λ (e : X × ℕ). test e.0) (zip xs ps))) both.0 ∙ none_beside xs ps both.1

  -- stands where the first that passes does
  beside : (xs : List X) (ps : List ℕ) → length ps ≤ length xs → option_map_or (λ (e : X × ℕ). e.1) (find (λ e. test e.0) (zip xs ps)) 0 ≡ slice_index ps (position_or_len test xs)
  beside [] [] h = refl
  beside [] (p ∷ ps) h = absurd (omega (arith, h))
  beside (x ∷ xs) [] h = refl
  beside (x ∷ xs) (p ∷ ps) h =
      let next : suc (position_or_len test xs) ≡ 1 + position_or_len test xs = omega arith in
      elim (test x) as (λ b. option_map_or (λ (e : X × ℕ). e.1) (cond b (Some (x, p)) (find (λ (e : X × ℕ). test e.0) (zip xs ps))) 0 ≡ slice_index (p ∷ ps) (cond (not b) (1 + position_or_len test xs) 0)) [
        | true ↦ refl
        | false ↦ beside xs ps (omega (arith, h)) ∙ ap (slice_index (p ∷ ps)) next
      ]

-- ---- things

module _ (p : Source) (i : Image) (spans : length (thing_spans i) ≡ length (things_of p)) (subjects : length i.subjects ≡ length p.subjects) where
  abbrev addresses : List ℕ
  addresses = map (λ (e : Span). e.0.address) (thing_spans i)

  abbrev pages : List Thing
  pages = map (λ s. state s.name) p.subjects

  abbrev page_addresses : List ℕ
  page_addresses = map (λ q. address_at i q.state) i.subjects

  -- a thing that isn't a state page
  of_thing : (x : Thing) → ((s : Subject) → same_thing (state s.name) x ≡ false) → address_of p i x ≡ slice_index addresses (thing_number p x)
  unfolding address_of
  of_thing x other =
      let is : Thing × ℕ → Bool = λ e. same_thing e.0 x in
      ap (λ o. option_map_or (λ (e : Thing × ℕ). e.1) o 0)
      (find-append is (zip (things_of p) addresses) (zip pages page_addresses)
      ∙ ap (option_or (find is (zip (things_of p) addresses))) (none_beside (λ t. same_thing t x) pages page_addresses (none_mapped (λ t. same_thing t x) (λ (s : Subject). state s.name) p.subjects other))
      ∙ option_or-None (find is (zip (things_of p) addresses)))
      ∙ beside (λ t. same_thing t x) (things_of p) addresses (omega (arith, spans, length-map (thing_spans i) (λ (e : Span). e.0.address)))

  -- **where things lie**
  pub address_by_number : (x : Thing) → address_of p i x ≡ address_at_number i (thing_index p x)
  unfolding address_of
  address_by_number (region name) = of_thing (region name) (λ s. refl)
  address_by_number (channel name) = of_thing (channel name) (λ s. refl)
  address_by_number (provided subject logical) = of_thing (provided subject logical) (λ s. refl)
  address_by_number (device_memory device memory) = of_thing (device_memory device memory) (λ s. refl)
  address_by_number (state name) =
      let test : Thing → Bool = λ t. same_thing t (state name) in
      ap (λ o. option_map_or (λ (e : Thing × ℕ). e.1) o 0)
      (find-append (λ (e : Thing × ℕ). test e.0) (zip (things_of p) addresses) (zip pages page_addresses)
      ∙ ap (λ o. option_or o (find (λ (e : Thing × ℕ). test e.0) (zip pages page_addresses))) (none_beside test (things_of p) addresses (pages_apart p name)))
      ∙ beside test pages page_addresses (omega (arith, subjects, length-map p.subjects (λ (s : Subject). state s.name), length-map i.subjects (λ (q : SubjectPart). address_at i q.state)))
      ∙ ap (slice_index page_addresses) (position-map test (λ (s : Subject). state s.name) p.subjects)
