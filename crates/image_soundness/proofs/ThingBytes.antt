-- What a policy declares of a thing is that of the thing of its number: how many bytes it has, and which at the start.
use Rattle.std.proofs.Common.{◌≡◌, [], Some, sym, ap, ◌∙◌}
use Rattle.std.specs.Prelude.{option_map}
use Rattle.std.specs.Option.{option_map_or}
use Rattle.image_soundness.specs.ThingBytes.{bytes_held}
use Rattle.policy_lawful.specs.Contents.{Held, content_bytes, initial_bytes}
use Rattle.policy_lawful.specs.Resolution.{Resolution, source_of}
use Rattle.policy_lawful.specs.Thing.{Item, declared_size, item_of}
use Rattle.policy_lawful.specs.Things.{IsThingOf}
use Rattle.policy_lawful.specs.declared.thing.Thing.{Thing as NumberedThing}

module _ (r : Resolution) (i : Item) (found : item_of (source_of r) i.thing ≡ Some i) (t : NumberedThing) (h : IsThingOf r (source_of r) i t) where
  pub size_is : declared_size (source_of r) i.thing ≡ Some t.size
  unfolding declared_size
  size_is = ap (option_map (λ (i : Item). i.size)) found ∙ (λ j. Some (sym h.region j).size)

  pub bytes_are : (files : Held) → initial_bytes (source_of r) files i.thing ≡ bytes_held files r t
  unfolding initial_bytes
  bytes_are files = ap (λ o. option_map_or (λ (i : Item). content_bytes files i.size i.content) o []) found ∙ (λ j. content_bytes files (sym h.region j).size (sym h.content j))
