-- The things of a policy, and how many bytes each has at the start.
use Rattle.std.proofs.Common.{◌≡◌, ℕ, ◌-◌, ◌≤◌, true, List, [], length, map, Some, sym, ap, subst, ◌∙◌, arith, length-append}
use Rattle.std.specs.Prelude.{replicate, option_map}
use Rattle.std.specs.Option.{option_map_or}
use Rattle.std.specs.List.{find, list_any}
use Rattle.std.specs.Str.{bytes_eq}
use Rattle.std.proofs.lemmas.List.{length-replicate}
use Rattle.std.proofs.lemmas.Map.Keys.{any_passes_from_place}
use Rattle.std.proofs.lemmas.Option.{slice_get-map}
use Rattle.std.proofs.lemmas.Slice.Eq.{bytes_eq-Decides}
use Rattle.expand_grants.proofs.GrantedWindows.{IsItem, region_there}
use Rattle.muen_num.proofs.Indexed.{any_passing}
use Rattle.policy_lawful.proofs.Items.{item_of_region}
use Rattle.policy_lawful.proofs.SameThings.{same_thing_self}
use Rattle.policy_lawful.specs.Contents.{Held, content_bytes, initial_bytes, padded}
use Rattle.policy_lawful.specs.Thing.{Item, Thing, item_of, items_of, region, region_item, same_thing, things_of}
use Rattle.policy_lawful.specs.source.Content.{Content}
use Rattle.policy_lawful.specs.source.Content.TheVariants.{Zero, Fill, Inline, File}
use Rattle.policy_lawful.specs.source.Region.{Region}
use Rattle.policy_lawful.specs.source.Source.{Source}

-- ---- which things there are

module _ (p : Source) where
  -- the thing of an item
  pub item_is_thing : (i : Item) → IsItem p i → list_any (λ x. same_thing x i.thing) (things_of p) ≡ true
  unfolding things_of
  item_is_thing i it =
      any_passes_from_place (λ x. same_thing x i.thing) (map (λ (i : Item). i.thing) (items_of p)) it.number i.thing
      (slice_get-map (λ (i : Item). i.thing) (items_of p) it.number ∙ ap (option_map (λ (i : Item). i.thing)) it.at) (same_thing_self i.thing)

  -- a region of memory
  pub region_is_thing : (name : List ℕ) → list_any (λ r. bytes_eq r.name name) p.memory ≡ true → list_any (λ x. same_thing x (region name)) (things_of p) ≡ true
  region_is_thing name h =
      let f = any_passing (λ (r : Region). bytes_eq r.name name) p.memory h in
      subst (λ n. list_any (λ x. same_thing x (region n)) (things_of p) ≡ true) ((bytes_eq-Decides f.one.name name).0 f.passes) (item_is_thing (region_item f.one) (region_there p f.index f.one f.here))

-- ---- how many bytes each has

padded_long : (size : ℕ) (bytes : List ℕ) → size ≤ length (padded size bytes)
padded_long size bytes =
    let both = length-append bytes (replicate (size - length bytes) 0) in
    let behind : length {A = ℕ} (replicate (size - length bytes) 0) ≡ size - length bytes = length-replicate (size - length bytes) 0 in
    omega (arith, both, behind)

zeros_long : (size byte : ℕ) → size ≤ length (replicate size byte)
zeros_long size byte = let many : length (replicate size byte) ≡ size = length-replicate size byte in omega (arith, many)

-- a content fills its room
pub content_long : (files : Held) (size : ℕ) (c : Content) → size ≤ length (content_bytes files size c)
content_long files size Zero = zeros_long size 0
content_long files size (Fill b) = zeros_long size b
content_long files size (Inline bytes) = padded_long size bytes
content_long files size (File name offset most) = padded_long size _

module _ (p : Source) (files : Held) where
  pub item_long : (x : Thing) (i : Item) → item_of p x ≡ Some i → i.size ≤ length (initial_bytes p files x)
  unfolding initial_bytes
  item_long x i is =
      subst (λ o. i.size ≤ length {A = ℕ} (option_map_or (λ (i : Item). content_bytes files i.size i.content) o [])) (sym is) (content_long files i.size i.content)

  pub region_long : (name : List ℕ) (r : Region) → find (λ r. bytes_eq r.name name) p.memory ≡ Some r → r.size ≤ length (initial_bytes p files (region name))
  region_long name r is =
      item_long (region name) (region_item r) (item_of_region p name ∙ ap (option_map region_item) is)
