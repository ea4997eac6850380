-- What is made of each thing is made of what the policy declares of it.
use Rattle.std.proofs.Common.{◌≡◌, ℕ, Bool, List, [], ◌∷◌, map, refl, sym, ap, ◌∙◌}
use Rattle.std.specs.List.{flat_map, list_any}
use Rattle.std.proofs.lemmas.List.Folds.{flat_map-map}
use Rattle.muen_num.specs.Search.{first_in}
use Rattle.muen_num.specs.declared.tag.Tag.{Tag}
use Rattle.muen_num.proofs.Lists.{list_any-map}
use Rattle.muen_num.proofs.SearchLaws.{first_over-map}
use Rattle.muen_build.specs.Accepting.{Files, thing_content, thing_names, thing_refused}
use Rattle.muen_build.specs.FileNames.{content_file_of, named_files}
use Rattle.muen_build.specs.Looks.{is_of_file, names_file}
use Rattle.muen_build.specs.Reading.{content_read, things_read}
use Rattle.muen_build.specs.Refusals.{content_refused, contents_refused, item_refused}
use Rattle.policy_lawful.specs.Contents.{Held}
use Rattle.policy_lawful.specs.Resolution.{Resolution, source_of}
use Rattle.policy_lawful.specs.Thing.{Item, items_of, placed_items, thing_tag}
use Rattle.policy_lawful.specs.Things.{AreDeclared}
use Rattle.policy_lawful.specs.declared.thing.Thing.{Thing}
use Rattle.policy_lawful.specs.source.Content.{Content}

module _ {A : Type 0} (made : Tag → ℕ → Content → A) (r : Resolution) where
  abbrev of_thing : Thing → A
  of_thing t = made t.tag t.size (thing_content r t)

  abbrev of_item : Item → A
  of_item i = made (thing_tag i.thing) i.size i.content

  pub made_alike : (items : List Item) (things : List Thing) → AreDeclared r items things → map of_thing things ≡ map of_item items
  made_alike [] [] declared = refl
  made_alike [] (t ∷ ts) declared = absurd declared
  made_alike (i ∷ is) [] declared = absurd declared
  made_alike (i ∷ is) (t ∷ ts) declared = λ k. made (declared.0.region k).tag (declared.0.region k).size (declared.0.content k) ∷ made_alike is ts declared.1 k

module _ (r : Resolution) (things : List Thing) (declared : AreDeclared r (items_of (source_of r)) things) where
  -- the first content that is refused
  pub first_refused : (files : Held) → first_in (λ t. thing_refused r t files) things ≡ contents_refused files (source_of r)
  unfolding contents_refused
  first_refused files =
      sym (first_over-map (of_thing (content_refused files) r) (λ o. o) things)
      ∙ ap (first_in (λ o. o)) (made_alike (content_refused files) r (items_of (source_of r)) things declared)
      ∙ first_over-map (item_refused files) (λ o. o) (items_of (source_of r))

  -- whether a content is of a file
  pub any_names : (name : List ℕ) → list_any (λ t. thing_names r t name) things ≡ names_file (source_of r) name
  any_names name =
      let made : Tag → ℕ → Content → Bool = λ tag size content. is_of_file name content in
      sym (list_any-map (λ b. b) (of_thing made r) things)
      ∙ ap (list_any (λ b. b)) (made_alike made r (items_of (source_of r)) things declared)
      ∙ list_any-map (λ b. b) (of_item made r) (items_of (source_of r))

  -- the names of all files
  pub all_named : flat_map (λ t. content_file_of (thing_content r t)) things ≡ named_files (source_of r)
  all_named =
      let made : Tag → ℕ → Content → List (List ℕ) = λ tag size content. content_file_of content in
      sym (flat_map-map (λ names. names) (of_thing made r) things)
      ∙ ap (flat_map (λ names. names)) (made_alike made r (items_of (source_of r)) things declared)
      ∙ flat_map-map (λ names. names) (of_item made r) (items_of (source_of r))

-- the bytes of what is placed
pub all_read : (given found : Files) (r : Resolution) (things : List Thing) → AreDeclared r (placed_items (source_of r)) things → map (λ t. content_read given found t.size (thing_content r t)) things ≡ things_read given found (source_of r)
all_read given found r things declared = made_alike (λ tag. content_read given found) r (placed_items (source_of r)) things declared
