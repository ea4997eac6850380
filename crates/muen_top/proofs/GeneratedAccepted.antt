-- Each generated system is accepted, whatever files hold: it is lawful, the code of each subject fits its page, and there is room.
use Rattle.std.proofs.Common.{◌≡◌, ℕ, List, [], ◌∷◌, ◌++◌, map, Option, Some, None, Ok, refl, ap, ◌∙◌}
use Rattle.std.specs.List.{flat_map}
use Rattle.std.specs.Option.{option_or}
use Rattle.muen_build.specs.Document.{policy_of}
use Rattle.policy_lawful.specs.Lawful.{kept_or}
use Rattle.muen_build.specs.Refusals.{accepted, accepted_policy_of, build_refused, contents_refused, item_refused, refusal_of}
use Rattle.muen_num.specs.Range.{numbers_below}
use Rattle.muen_num.specs.Search.{first_in}
use Rattle.policy_lawful.specs.Contents.{Held}
use Rattle.policy_lawful.specs.Thing.{Item, channel_item, component_by, device_items, items_of, placed_items, provided_items, region_item}
use Rattle.policy_lawful.specs.source.Source.{Source}
use Rattle.generated_system.proofs.CodeBytes.{code_length}
use Rattle.generated_system.proofs.GeneratedRoom.{generated_room}
use Rattle.generated_system.proofs.Lawful.{generated_lawful}
use Rattle.generated_system.specs.System.{channel, code_of, code_region, cpus_for, first_ticks_for, generated_system, subject, subjects_on, system_with}

none_of_both : {X O : Type 0} (f : X → Option O) (xs ys : List X) → first_in f xs ≡ None → first_in f ys ≡ None → first_in f (xs ++ ys) ≡ None
none_of_both f [] ys h k = k
none_of_both f (x ∷ xs) ys h k =
    elim (f x) as (λ o. option_or o (first_in f xs) ≡ None → option_or o (first_in f (xs ++ ys)) ≡ None) [
      | Some y ↦ λ e. absurd (cc)
      | None ↦ λ e. none_of_both f xs ys e k
    ] h

module _ (files : Held) where
  own_fit : (n : ℕ) (is : List ℕ) → first_in (item_refused files) (map region_item (map (code_region (code_of n)) is)) ≡ None
  own_fit n [] = refl
  own_fit n (i ∷ is) = rw (code_length n i) (own_fit n is)

  channels_fit : (is : List ℕ) → first_in (item_refused files) (map channel_item (map channel is)) ≡ None
  channels_fit [] = refl
  channels_fit (i ∷ is) = channels_fit is

  provided_fit : (p : Source) (cpus : ℕ) (is : List ℕ) → first_in (item_refused files) (flat_map (λ s. provided_items s.name (component_by p s.component)) (map (subject cpus) is)) ≡ None
  provided_fit p cpus [] = refl
  provided_fit p cpus (i ∷ is) = provided_fit p cpus is

  contents_fit : (n : ℕ) → contents_refused files (generated_system n) ≡ None
  unfolding contents_refused items_of placed_items device_items generated_system
  contents_fit n =
      let is : List ℕ = numbers_below (subjects_on (cpus_for n)) in
      let p : Source = system_with (cpus_for n) (first_ticks_for n) (code_of n) in
      let own : List Item = map region_item (map (code_region (code_of n)) is) in
      let channels : List Item = map channel_item (map channel is) in
      let provided : List Item = flat_map (λ s. provided_items s.name (component_by p s.component)) (map (subject (cpus_for n)) is) in
      none_of_both (item_refused files) ((own ++ channels) ++ provided) []
      (none_of_both (item_refused files) (own ++ channels) provided (none_of_both (item_refused files) own channels (own_fit n is) (channels_fit is)) (provided_fit p (cpus_for n) is))
      refl

  pub generated_accepted : (n : ℕ) → refusal_of files (generated_system n) ≡ None
  unfolding refusal_of build_refused
  generated_accepted n = rw (generated_lawful n, contents_fit n, generated_room n) refl

-- .. and so is a document that is read as it
pub document_accepted : (files : Held) (n : ℕ) (bytes : List ℕ) → policy_of bytes ≡ Ok (generated_system n) → accepted_policy_of files bytes ≡ Ok (generated_system n)
unfolding accepted_policy_of
document_accepted files n bytes is = ap (accepted files) is ∙ ap (kept_or (generated_system n)) (generated_accepted files n)
