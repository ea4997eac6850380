-- The numbers of things: the first thing of a kind and a printed name has them, and what is declared of it stands there.
use Rattle.std.proofs.Common.{◌≡◌, ℕ, ◌+◌, Bool, true, false, List, [], ◌∷◌, cond, not, Some, refl, sym, ap, ap₂, ◌∙◌}
use Rattle.std.specs.Prelude.{◌&&◌, slice_get}
use Rattle.std.specs.List.{AllZip, position_or_len}
use Rattle.std.specs.Str.{bytes_eq}
use Rattle.expand_grants.specs.Numbered.{is_called}
use Rattle.muen_num.proofs.Lists.{position-map}
use Rattle.muen_num.proofs.Pairs.{other_at}
use Rattle.muen_num.specs.contracts.tag.TagPartPartialEq.TheImpl.{eq-value as same_part}
use Rattle.policy_lawful.proofs.ThingsByIndex.{things_by_index}
use Rattle.policy_lawful.proofs.ThingsDiffer.{thing_first}
use Rattle.policy_lawful.specs.contracts.thing.RegionKindPartialEq.TheImpl.{eq-value as same_kind}
use Rattle.policy_lawful.specs.Resolution.{IsResolved, Resolution, source_of}
use Rattle.policy_lawful.specs.Thing.{Item, Thing, channel, device_memory, items_of, provided, region, same_thing, state, thing_tag, things_of}
use Rattle.policy_lawful.specs.Things.{AreDeclared, IsThingOf, region_kind, thing_number, things_by_number}
use Rattle.policy_lawful.specs.declared.thing.Thing.{Thing as NumberedThing}

-- two lists beside one another, and two tests that agree on what stands beside
pub zipped_position : {A B : Type 0} (R : A → B → Type 0) (f : A → Bool) (g : B → Bool) → ((a : A) (b : B) → R a b → f a ≡ g b) → (xs : List A) (ys : List B) → AllZip R xs ys → position_or_len f xs ≡ position_or_len g ys
zipped_position R f g same [] [] h = refl
zipped_position R f g same [] (y ∷ ys) h = absurd h
zipped_position R f g same (x ∷ xs) [] h = absurd h
zipped_position R f g same (x ∷ xs) (y ∷ ys) h = ap₂ (λ b n. cond (not b) (1 + n) 0) (same x y h.0) (zipped_position R f g same xs ys h.1)

and_true : (b : Bool) → b ≡ (b && true)
and_true true = refl
and_true false = refl

-- two things are the same by their kinds and their printed names
same_called : (y x : Thing) → same_thing y x ≡ (same_kind.it (region_kind y) (region_kind x) && (bytes_eq (thing_tag y).owner (thing_tag x).owner && same_part.it (thing_tag y).part (thing_tag x).part))
same_called (region a) (region b) = and_true (bytes_eq a b)
same_called (region a) (channel b) = refl
same_called (region a) (provided s b) = refl
same_called (region a) (device_memory d b) = refl
same_called (region a) (state b) = refl
same_called (channel a) (region b) = refl
same_called (channel a) (channel b) = and_true (bytes_eq a b)
same_called (channel a) (provided s b) = refl
same_called (channel a) (device_memory d b) = refl
same_called (channel a) (state b) = refl
same_called (provided o a) (region b) = refl
same_called (provided o a) (channel b) = refl
same_called (provided o a) (provided s b) = refl
same_called (provided o a) (device_memory d b) = refl
same_called (provided o a) (state b) = refl
same_called (device_memory o a) (region b) = refl
same_called (device_memory o a) (channel b) = refl
same_called (device_memory o a) (provided s b) = refl
same_called (device_memory o a) (device_memory d b) = refl
same_called (device_memory o a) (state b) = refl
same_called (state a) (region b) = refl
same_called (state a) (channel b) = refl
same_called (state a) (provided s b) = refl
same_called (state a) (device_memory d b) = refl
same_called (state a) (state b) = and_true (bytes_eq a b)

-- **the number of a thing** is that of the first of its kind and printed name
pub number_is : (r : Resolution) (things : List NumberedThing) → AreDeclared r (items_of (source_of r)) things → (x : Thing)
    → position_or_len (is_called (region_kind x) (thing_tag x)) things ≡ thing_number (source_of r) x
unfolding things_of
number_is r things are x =
    sym (zipped_position (IsThingOf r (source_of r)) (λ (i : Item). same_thing i.thing x) (is_called (region_kind x) (thing_tag x))
    (λ i t h. same_called i.thing x ∙ (λ j. same_kind.it (sym h.region j).kind (region_kind x) && (bytes_eq (sym h.region j).tag.owner (thing_tag x).owner && same_part.it (sym h.region j).tag.part (thing_tag x).part)))
    (items_of (source_of r)) things are)
    ∙ sym (position-map (λ t. same_thing t x) (λ (i : Item). i.thing) (items_of (source_of r)))

module _ (r : Resolution) (q : IsResolved r) where
  -- what is declared of an item stands at the number of its thing
  pub at_number : (n : ℕ) (i : Item) → slice_get (items_of (source_of r)) n ≡ Some i → (t : NumberedThing) × (slice_get (things_by_number r) (thing_number (source_of r) i.thing) ≡ Some t) × IsThingOf r (source_of r) i t
  at_number n i at =
      let t = other_at (IsThingOf r (source_of r)) (items_of (source_of r)) (things_by_number r) n i (things_by_index r q) at in
      (t.0, ap (slice_get (things_by_number r)) (thing_first (source_of r) q.names n i at).at ∙ t.1, t.2)
