-- A span is that of a thing of the policy just where it has what is declared of the thing by number.
use Rattle.std.proofs.Common.{◌≡◌, ℕ, ◌+◌, ◌-◌, ◌*◌, true, false, All, List, ◌++◌, length, map, Option, Some, None, refl, sym, ap, subst, ◌∙◌, inl, inr, arith}
use Rattle.std.specs.Prelude.{option_map, replicate, slice_get}
use Rattle.std.specs.List.{enumerate_from, flat_map}
use Rattle.std.proofs.lemmas.Bool.{cases_lt}
use Rattle.std.proofs.lemmas.List.{length-map}
use Rattle.std.proofs.lemmas.List.Elements.{All-append, All-map, All-nil}
use Rattle.std.proofs.lemmas.Option.{same_Some, slice_get-map, slice_get_past}
use Rattle.image_checks.specs.Contents.{HasBytes, IsThingSpan, span_kind}
use Rattle.image_pack.specs.Codes.{is_device}
use Rattle.image_pack.specs.declared.parts.SpanPart.{SpanPart}
use Rattle.image_soundness.proofs.ThingBytes.{bytes_are, size_is}
use Rattle.image_soundness.specs.Memory.{bytes_of}
use Rattle.image_soundness.specs.Sound.{IsSpanOf, kind_of}
use Rattle.image_soundness.specs.ThingBytes.{bytes_held, thing_bytes}
use Rattle.muen_num.proofs.Lists.{all_at, all_flat, get_left, get_right}
use Rattle.muen_num.specs.declared.limits.TheConstants.{PAGE}
use Rattle.policy_lawful.proofs.ThingsDiffer.{item_found}
use Rattle.policy_lawful.specs.ByIndex.{provided_at}
use Rattle.policy_lawful.specs.Contents.{Held}
use Rattle.policy_lawful.specs.Resolution.{Resolution, source_of}
use Rattle.policy_lawful.specs.Rules.{offence_1}
use Rattle.policy_lawful.specs.Thing.{Item, Thing, channel, device_memory, items_of, provided, region, state}
use Rattle.policy_lawful.specs.Things.{IsThingOf, brought_by, brought_things, channel_thing, device_thing, device_things, device_things_of, own_thing, placed_things, provided_thing, region_kind, things_by_number}
use Rattle.policy_lawful.specs.declared.resolved.ComponentUse.{ComponentUse}
use Rattle.policy_lawful.specs.declared.thing.RegionKind.TheVariants.{Device as DeviceRegion}
use Rattle.policy_lawful.specs.declared.thing.Thing.{Thing as NumberedThing}

kind_declared : (x : Thing) → span_kind (region_kind x) ≡ kind_of x
kind_declared (region name) = refl
kind_declared (channel name) = refl
kind_declared (provided subject logical) = refl
kind_declared (device_memory device memory) = refl
kind_declared (state subject) = refl

-- ---- bytes

module _ (files : Held) (r : Resolution) where
  abbrev IsOwn : NumberedThing → Type 0
  IsOwn t = is_device (span_kind t.kind) ≡ false

  abbrev IsDevices : NumberedThing → Type 0
  IsDevices t = (t.kind ≡ DeviceRegion) × (bytes_held files r t ≡ replicate t.size 0)

  -- a thing has those that are handed in, or is a device's memory, which has zeros
  abbrev AreBytesOf : NumberedThing → Option (List ℕ) → Type 0
  AreBytesOf t None = IsDevices t
  AreBytesOf t (Some bytes) = IsOwn t × (bytes ≡ bytes_held files r t)

  brought_own : (subject : List ℕ) (o : Option ComponentUse) → All IsOwn (brought_by r.components subject o)
  brought_own subject None = All-nil IsOwn
  brought_own subject (Some used) = All-map IsOwn (provided_thing subject used.used) (enumerate_from 0 (provided_at r.components (Some used))) (λ k d l. refl)

  placed_own : All IsOwn (placed_things r)
  unfolding placed_things
  placed_own =
      All-append IsOwn (map own_thing (enumerate_from 0 r.memory) ++ map channel_thing r.channels) (flat_map (brought_things r.components) r.subjects)
      (All-append IsOwn (map own_thing (enumerate_from 0 r.memory)) (map channel_thing r.channels)
      (All-map IsOwn own_thing (enumerate_from 0 r.memory) (λ k d l. refl))
      (All-map IsOwn channel_thing r.channels (λ k d l. refl)))
      (all_flat IsOwn (brought_things r.components) (λ s. brought_own s.name s.component) r.subjects)

  all_devices : All IsDevices (device_things r)
  unfolding device_things
  all_devices = all_flat IsDevices device_things_of (λ d. All-map IsDevices (device_thing d.name) d.memory (λ k m l. (refl, refl))) r.devices

  given_at : (k : ℕ) (t : NumberedThing) → slice_get (things_by_number r) k ≡ Some t → AreBytesOf t (slice_get (thing_bytes files r) k)
  given_at k t at =
      let placed = placed_things r in
      elim (cases_lt k (length placed)) as (λ _. AreBytesOf t (slice_get (thing_bytes files r) k)) [
        | inl l ↦
            let here : slice_get placed k ≡ Some t = sym (get_left placed (device_things r) k l) ∙ at in
            subst (AreBytesOf t) (sym (slice_get-map (bytes_held files r) placed k ∙ ap (option_map (bytes_held files r)) here)) (all_at IsOwn placed k t placed_own here, refl)
        | inr l ↦
            let j = k - length placed in
            let is : length placed + j ≡ k = omega (arith, l) in
            let here : slice_get (device_things r) j ≡ Some t = sym (get_right placed (device_things r) j) ∙ ap (slice_get (things_by_number r)) is ∙ at in
            let none : slice_get (thing_bytes files r) k ≡ None = slice_get_past (thing_bytes files r) k (omega (arith, l, length-map placed (bytes_held files r))) in
            subst (AreBytesOf t) (sym none) (all_at IsDevices (device_things r) j t all_devices here)
      ]

  module _ (t : NumberedThing) (s : SpanPart) (held : List ℕ) (kind : span_kind t.kind ≡ s.kind) where
    held_of : is_device (span_kind t.kind) ≡ false → bytes_of (s, held) ≡ held
    held_of own = let device : is_device s.kind ≡ false = ap is_device (sym kind) ∙ own in rw device refl

    zeros_of : t.kind ≡ DeviceRegion → bytes_of (s, held) ≡ replicate (PAGE * s.pages) 0
    zeros_of is = let device : is_device s.kind ≡ true = ap is_device (sym kind ∙ ap span_kind is) in rw device refl

    bytes_from : (o : Option (List ℕ)) → AreBytesOf t o → t.size ≡ PAGE * s.pages → HasBytes o held → bytes_of (s, held) ≡ bytes_held files r t
    bytes_from None of size has = zeros_of of.0 ∙ ap (λ n. replicate n 0) (sym size) ∙ sym of.1
    bytes_from (Some bytes) of size has = held_of of.0 ∙ sym has ∙ of.1

    has_bytes : (o : Option (List ℕ)) → AreBytesOf t o → bytes_of (s, held) ≡ bytes_held files r t → HasBytes o held
    has_bytes None of is = tt
    has_bytes (Some bytes) of is = of.1 ∙ sym is ∙ held_of of.0

-- ---- the whole

module _ (files : Held) (r : Resolution) (names : offence_1 (source_of r) ≡ None) (k : ℕ) (i : Item) (t : NumberedThing) where
  module _ (there : slice_get (items_of (source_of r)) k ≡ Some i) (at : slice_get (things_by_number r) k ≡ Some t) (h : IsThingOf r (source_of r) i t) (s : SpanPart) (held : List ℕ) where
    kind_is : span_kind t.kind ≡ kind_of i.thing
    kind_is = (λ j. span_kind (h.region j).kind) ∙ kind_declared i.thing

    pub span_from : IsThingSpan t (slice_get (thing_bytes files r) k) s held → IsSpanOf (source_of r) files i.thing (s, held)
    span_from f =
        let found = item_found (source_of r) names k i there in
        record {
          tag = sym f.tag ∙ (λ j. (h.region j).tag);
          kind = sym f.kind ∙ kind_is;
          size = size_is r i found t h ∙ ap Some f.size;
          bytes = bytes_from files r t s held f.kind (slice_get (thing_bytes files r) k) (given_at files r k t at) f.size f.holds ∙ sym (bytes_are r i found t h files);
        }

    pub thing_from : IsSpanOf (source_of r) files i.thing (s, held) → IsThingSpan t (slice_get (thing_bytes files r) k) s held
    thing_from f =
        let found = item_found (source_of r) names k i there in
        let kind : span_kind t.kind ≡ s.kind = kind_is ∙ sym f.kind in
        record {
          tag = (λ j. (h.region j).tag) ∙ sym f.tag;
          kind = kind;
          size = same_Some t.size (PAGE * s.pages) (sym (size_is r i found t h) ∙ f.size);
          holds = has_bytes files r t s held kind (slice_get (thing_bytes files r) k) (given_at files r k t at) (f.bytes ∙ bytes_are r i found t h files);
        }
