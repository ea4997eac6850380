-- The bytes at the start of what the windows of members show: the same whatever `black` is.
use Rattle.std.proofs.Common.{◌≡◌, ℕ, true, false, List, [], ◌∷◌, ◌++◌, map, refl, sym, ap, subst, ◌∙◌, inl, inr, true≢false}
use Rattle.std.specs.Prelude.{Option, Some, None, codes}
use Rattle.std.specs.List.{AllByRecursion, find, flat_map}
use Rattle.std.specs.Option.{option_map_or}
use Rattle.std.proofs.lemmas.Bool.{cases_Bool}
use Rattle.policy_lawful.specs.Contents.{Held}
use Rattle.policy_lawful.specs.Thing.{Item, Thing, channel, channel_item, component_by, device_items, item_of, items_of, placed_items, provided, provided_items, region, region_item, same_thing}
use Rattle.policy_lawful.specs.Windows.{Window, windows_of}
use Rattle.policy_lawful.specs.source.Mapping.{Mapping}
use Rattle.policy_lawful.specs.source.Region.{Region}
use Rattle.policy_lawful.specs.source.Source.{Source}
use Rattle.policy_lawful.proofs.NoFiles.{in_no_file, same_content}
use Rattle.policy_lawful.proofs.SameThings.{same_things}
use Rattle.subject_model.specs.Alone.{thing_in}
use Rattle.subject_model.specs.System.{is_shown, start_of}
use Rattle.proof_isolation.proofs.WrittenOut.{at_start}
use Rattle.proof_gateway.specs.Gateway.{with_black, plain, keys, slots, cipher}
use Rattle.proof_gateway.proofs.Members.{OfMembers}

-- ---- of what is declared of a thing

same_at_start : (p q : Source) (f g : Held) (x : Thing) (o : Option Item) → item_of p x ≡ o → item_of q x ≡ o → option_map_or (λ i. in_no_file i.content) o false ≡ true
    → thing_in (start_of p f).things x ≡ thing_in (start_of q g).things x
same_at_start p q f g x None a b h = absurd (true≢false (sym h))
same_at_start p q f g x (Some i) a b h = at_start p f x i a ∙ ap Some (same_content f g i.size i.content h) ∙ sym (at_start q g x i b)

-- ---- of what isn't a region, whatever regions there are

behind_regions : (x : Thing) → ((name : List ℕ) → same_thing (region name) x ≡ false) → (regions : List Region) (channels texts devices : List Item)
    → find (λ i. same_thing i.thing x) (map region_item regions ++ channels ++ texts ++ devices) ≡ find (λ i. same_thing i.thing x) (channels ++ texts ++ devices)
behind_regions x apart [] channels texts devices = refl
behind_regions x apart (r ∷ regions) channels texts devices = rw (apart r.name) (behind_regions x apart regions channels texts devices)

abbrev texts_of : Source → List Item
texts_of p = flat_map (λ s. provided_items s.name (component_by p s.component)) p.subjects

abbrev none : Source
none = with_black [] [] []

module _ (regions : List Region) (windows : List Mapping) (code : List ℕ) where
  abbrev here : Source
  here = with_black regions windows code

  same_item : (x : Thing) → ((name : List ℕ) → same_thing (region name) x ≡ false) → item_of here x ≡ item_of none x
  unfolding item_of items_of placed_items device_items
  same_item x apart =
      behind_regions x apart here.memory (map channel_item here.channels) (texts_of here) []
      ∙ sym (behind_regions x apart none.memory (map channel_item none.channels) (texts_of none) [])

-- of what is neither a region nor from a file, the bytes are the same
module _ (r u : List Region) (w v : List Mapping) (c d : List ℕ) (f g : Held) where
  abbrev SameAtStart : Thing → Type 0
  SameAtStart x = thing_in (start_of (with_black r w c) f).things x ≡ thing_in (start_of (with_black u v d) g).things x

  same_thing_at_start : (x : Thing) → ((name : List ℕ) → same_thing (region name) x ≡ false) → option_map_or (λ i. in_no_file i.content) (item_of none x) false ≡ true → SameAtStart x
  same_thing_at_start x apart inline = same_at_start (with_black r w c) (with_black u v d) f g x (item_of none x) (same_item r w c x apart) (same_item u v d x apart) inline

  channel_at_start : (name : List ℕ) → option_map_or (λ i. in_no_file i.content) (item_of none (channel name)) false ≡ true → SameAtStart (channel name)
  channel_at_start name inline = same_thing_at_start (channel name) (λ _. refl) inline

  text_at_start : (name : List ℕ) → option_map_or (λ i. in_no_file i.content) (item_of none (provided name (codes "text"))) false ≡ true → SameAtStart (provided name (codes "text"))
  text_at_start name inline = same_thing_at_start (provided name (codes "text")) (λ _. refl) inline

  shown_each : (P : Thing → Type 0) (ws : List (Window Thing)) → AllByRecursion (λ w. P w.thing) ws → (x : Thing) → is_shown ws x ≡ true → P x
  shown_each P [] all x shown = absurd (true≢false (sym shown))
  shown_each P (w ∷ ws) all x shown =
      elim (cases_Bool (same_thing w.thing x)) [
        | inl t ↦ subst P (same_things w.thing x t) all.0
        | inr n ↦ shown_each P ws all.1 x (let g = rw n at shown in g)
      ]

  -- so it is of all that the windows of members show
  pub same_contents : OfMembers (λ s. (x : Thing) → is_shown (windows_of (with_black r w c) s) x ≡ true → SameAtStart x)
  unfolding windows_of item_of items_of placed_items device_items
  same_contents = record {
    of_plain = shown_each SameAtStart (windows_of (with_black r w c) plain) (text_at_start (codes "plain") refl, (channel_at_start (codes "job") refl, tt));
    of_keys = shown_each SameAtStart (windows_of (with_black r w c) keys) (text_at_start (codes "keys") refl, (channel_at_start (codes "key") refl, tt));
    of_slots = shown_each SameAtStart (windows_of (with_black r w c) slots) (text_at_start (codes "slots") refl, (channel_at_start (codes "beat") refl, tt));
    of_cipher =
        shown_each SameAtStart (windows_of (with_black r w c) cipher)
        (text_at_start (codes "cipher") refl, (channel_at_start (codes "sealed") refl, (channel_at_start (codes "job") refl, (channel_at_start (codes "key") refl, (channel_at_start (codes "beat") refl, tt)))));
  }
