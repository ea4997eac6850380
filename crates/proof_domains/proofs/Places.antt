-- Where regions lie in an image whose spans are those of a placed policy.
use Rattle.std.proofs.Common.{◌≡◌, ◌∙◌, ℕ, zero, suc, ◌+◌, ◌≤◌, Bool, true, false, cond, List, [], ◌∷◌, ◌++◌, length, map, filter, zip, Some, Ok, refl, sym, ap, arith}
use Rattle.std.specs.Prelude.{not, option_map, slice_get}
use Rattle.std.specs.List.{enumerate_from, flat_map}
use Rattle.std.proofs.lemmas.Option.{slice_get-map}
use Rattle.std.proofs.lemmas.Map.Keys.{any_passes_from_place}
use Rattle.dma_emit.specs.Regions.{region_of, regions_of}
use Rattle.dma_tables.specs.ImageConditions.{KeepsConditions}
use Rattle.dma_tables.specs.parts.Image.{Image}
use Rattle.dma_tables.specs.parts.SpanPart.{SpanPart}
use Rattle.proof_build.specs.Memory.{Span, by_number}
use Rattle.proof_build.specs.Sound.{IsSound, address_of, is_kernel, thing_spans}
use Rattle.policy_lawful.specs.Contents.{Held}
use Rattle.policy_lawful.specs.Resolution.{source_of}
use Rattle.policy_lawful.specs.Thing.{channel, component_by, device_memory, region, region_item, same_thing, things_of}
use Rattle.policy_lawful.specs.source.Region.{Region as SourceRegion}
use Rattle.policy_lawful.specs.source.Source.{Source}
use Rattle.proof_build.specs.Built.{HasSpans}
use Rattle.proof_start.proofs.OnceFacts.{thing_once}
use Rattle.proof_start.proofs.SpansOfThings.{listed_span}
use Rattle.dma_emit.specs.Placed.{IsPlaced, Placement}
use Rattle.proof_build.specs.Spans.{device_spans, region_span, region_spans}
use Rattle.policy_lawful.proofs.SameThings.{same_thing_self}
use Rattle.policy_lawful.proofs.Items.{provided_by, things_are}
use Rattle.dma_emit.proofs.OwnRegions.{region_at}
use Rattle.muen_num.proofs.Options.{from_some, one_value}
use Rattle.muen_num.proofs.Pairs.{other_at, zipped_at}
use Rattle.muen_num.proofs.Lists.{at_left, numbered_at}

-- ---- lists

front_of_four : {X : Type 0} (xs a b c : List X) (k : ℕ) (x : X) → slice_get xs k ≡ Some x → slice_get (xs ++ a ++ b ++ c) k ≡ Some x
front_of_four xs a b c k x e = at_left (xs ++ a ++ b) c k x (at_left (xs ++ a) b k x (at_left xs a k x e))

mapped_at : {X Y : Type 0} (f : X → Y) (xs : List X) (k : ℕ) (x : X) → slice_get xs k ≡ Some x → slice_get (map f xs) k ≡ Some (f x)
mapped_at f xs k x e = slice_get-map f xs k ∙ ap (option_map f) e

-- where an element and all before it pass, it stays where it is
record Passes {X : Type 0} (test : X → Bool) (xs : List X) (k : ℕ) : Type 0 where
  one : X
  here : slice_get xs k ≡ Some one
  passes : test one ≡ true

first_passes : {X : Type 0} (test : X → Bool) (x : X) (xs : List X) → Passes test (x ∷ xs) 0 → test x ≡ true
first_passes test x xs p = let first : x ≡ p.one = (let e = p.here in cc (e)) in ap test first ∙ p.passes

kept_in_front : {X : Type 0} (test : X → Bool) (xs : List X) (k : ℕ) → ((j : ℕ) → j ≤ k → Passes test xs j) → slice_get (filter test xs) k ≡ slice_get xs k
kept_in_front test [] k all = absurd (let e = (all 0 (omega arith)).here in cc (e))
kept_in_front test (x ∷ xs) zero all = ap (λ b. slice_get (cond b (x ∷ filter test xs) (filter test xs)) zero) (first_passes test x xs (all 0 (omega arith)))
kept_in_front test (x ∷ xs) (suc k) all =
    ap (λ b. slice_get (cond b (x ∷ filter test xs) (filter test xs)) (suc k)) (first_passes test x xs (all 0 (omega arith)))
    ∙ kept_in_front test xs k (λ j le. let p = all (suc j) (omega (arith, le)) in record { one = p.one; here = p.here; passes = p.passes })

there_below : {X : Type 0} (xs : List X) (j k : ℕ) (x : X) → slice_get xs k ≡ Some x → j ≤ k → (y : X) × (slice_get xs j ≡ Some y)
there_below [] j k x e le = absurd (cc)
there_below (y ∷ xs) zero k x e le = (y, refl)
there_below (y ∷ xs) (suc j) zero x e le = absurd (omega (arith, le))
there_below (y ∷ xs) (suc j) (suc k) x e le = there_below xs j k x e (omega (arith, le))

module _ (x : Placement) (placed : IsPlaced x) (files : Held) (i : Image) (keeps : KeepsConditions i) (sound : IsSound (source_of x.expanded.lawful) files i) (spans : HasSpans (source_of x.expanded.lawful) i) where
  abbrev p : Source
  p = source_of x.expanded.lawful

  same_addresses : spans.addresses ≡ x.addresses
  same_addresses = let e : Ok spans.addresses ≡ Ok x.addresses = sym spans.are ∙ placed.placement in cc (e)

  region_there : (k : ℕ) (r : SourceRegion) → slice_get p.memory k ≡ Some r → slice_get x.expanded.regions k ≡ Some (region_of (region_item r))
  unfolding source_of
  region_there = region_at x placed

  -- the span of a region of memory, among those by number
  record IsAt (k : ℕ) (r : SourceRegion) : Type 0 where
    address : ℕ
    placed_at : slice_get x.addresses k ≡ Some address
    span : Span
    here : slice_get (by_number i) k ≡ Some span
    lies : span.0.address ≡ address
    own : is_kernel span.0.kind ≡ false

  is_at : (k : ℕ) (r : SourceRegion) → slice_get p.memory k ≡ Some r → IsAt k r
  is_at k r e =
      let y = region_of (region_item r) in
      let there = region_there k r e in
      let region : slice_get (regions_of p) k ≡ Some y = sym (ap (λ rs. slice_get rs k) placed.expansion.regions) ∙ there in
      let other = other_at _ x.expanded.regions x.addresses k y placed.inside there in
      let address : ℕ = other.0 in
      let among : slice_get spans.addresses k ≡ Some address = ap (λ ns. slice_get ns k) same_addresses ∙ other.1 in
      let s : SpanPart = region_span (0 + k, (y, address)) in
      let listed : slice_get (region_spans (regions_of p) spans.addresses) k ≡ Some s =
      mapped_at region_span (enumerate_from 0 (zip (regions_of p) spans.addresses)) k (0 + k, (y, address))
      (numbered_at 0 (zip (regions_of p) spans.addresses) k (y, address) (zipped_at (regions_of p) spans.addresses k y address region among)) in
      let whole : slice_get (map (λ (e : Span). e.0) (by_number i)) k ≡ Some s = ap (λ ss. slice_get ss k) spans.spans ∙ at_left (region_spans (regions_of p) spans.addresses) (device_spans (length (regions_of p)) p.devices) k s listed in
      let found = from_some (λ (e : Span). e.0) (slice_get (by_number i) k) s (sym (slice_get-map (λ (e : Span). e.0) (by_number i) k) ∙ whole) in
      record {
        address = address;
        placed_at = other.1;
        span = found.0;
        here = found.1;
        lies = ap (λ (s : SpanPart). s.address) found.2;
        own = ap (λ (s : SpanPart). is_kernel s.kind) found.2;
      }

  in_front : (k : ℕ) (r : SourceRegion) → slice_get p.memory k ≡ Some r → (j : ℕ) → j ≤ k → Passes (λ (e : Span). not (is_kernel e.0.kind)) (by_number i) j
  in_front k r e j le =
      let q = there_below p.memory j k r e le in
      let a = is_at j q.0 q.1 in
      record { one = a.span; here = a.here; passes = ap not a.own }

  thing_at : (k : ℕ) (r : SourceRegion) → slice_get p.memory k ≡ Some r → slice_get (things_of p) k ≡ Some (region r.name)
  thing_at k r e =
      ap (λ xs. slice_get xs k) (things_are p)
      ∙ front_of_four (map (λ (r : SourceRegion). region r.name) p.memory) (map (λ c. channel c.name) p.channels)
      (flat_map (λ s. provided_by s.name (component_by p s.component)) p.subjects) (flat_map (λ d. map (λ m. device_memory d.name m.name) d.memory) p.devices) k (region r.name)
      (mapped_at (λ (r : SourceRegion). region r.name) p.memory k r e)

  -- a region of memory lies where it was placed
  pub placed_there : (k : ℕ) (r : SourceRegion) → slice_get p.memory k ≡ Some r → slice_get x.addresses k ≡ Some (address_of p i (region r.name))
  placed_there k r e =
      let a = is_at k r e in
      let thing = thing_at k r e in
      let span = listed_span p files i keeps sound (region r.name) (any_passes_from_place (λ y. same_thing y (region r.name)) (things_of p) k (region r.name) thing (same_thing_self (region r.name))) in
      let number : span.number ≡ k = thing_once p placed.lawful (region r.name) span.number k span.listed thing in
      let here : slice_get (thing_spans i) k ≡ Some a.span = kept_in_front (λ (e : Span). not (is_kernel e.0.kind)) (by_number i) k (in_front k r e) ∙ a.here in
      let same : span.span ≡ a.span = one_value (slice_get (thing_spans i) k) span.span a.span (ap (slice_get (thing_spans i)) (sym number) ∙ span.numbered) here in
      a.placed_at ∙ ap Some (sym (span.address ∙ ap (λ (e : Span). e.0.address) same ∙ a.lies))
