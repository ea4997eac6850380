-- Which thing is the first without its span.
use Rattle.std.proofs.Common.{◌≡◌, ℕ, zero, suc, ◌<◌, ◌≤◌, All, List, [], length, Some, None, sym, ap, subst, ◌∙◌, arith}
use Rattle.std.specs.Prelude.{option_map, slice_get, slice_index_or}
use Rattle.std.specs.Option.{option_map_or}
use Rattle.std.proofs.lemmas.List.{length-map}
use Rattle.std.proofs.lemmas.Option.{get_or_from_slice_get, none-some, slice_get-get_or, slice_get-map, slice_get_past, slice_get_within}
use Rattle.std.proofs.lemmas.Slice.Zip.{AllZip-long}
use Rattle.image_checks.proofs.SpansOfNumbers.{as_many, no_span, span_of, thing_spans_are}
use Rattle.image_checks.proofs.ThingSpans.{span_from, thing_from}
use Rattle.image_checks.specs.Contents.{HasSpanAt, IsFirstOther, IsThingSpan, thing_indexes}
use Rattle.image_pack.specs.Parts.{IsParts}
use Rattle.image_pack.specs.declared.parts.Image.{Image}
use Rattle.image_pack.specs.declared.parts.SpanPart.{SpanPart}
use Rattle.image_soundness.specs.Memory.{Span}
use Rattle.image_soundness.specs.Sound.{AreContents, IsSpanOf, thing_spans}
use Rattle.image_soundness.specs.ThingBytes.{thing_bytes}
use Rattle.muen_num.proofs.Lists.{there}
use Rattle.muen_num.proofs.Options.{one_value}
use Rattle.muen_num.proofs.Pairs.{first_at, zip_from}
use Rattle.policy_lawful.specs.Contents.{Held}
use Rattle.policy_lawful.specs.Resolution.{Resolution, source_of}
use Rattle.policy_lawful.specs.Rules.{offence_1}
use Rattle.policy_lawful.specs.Thing.{Item, Thing, items_of, thing_tag, things_of}
use Rattle.policy_lawful.specs.Things.{AreDeclared, IsThingOf, things_by_number}
use Rattle.policy_lawful.specs.declared.thing.Thing.{Thing as NumberedThing}

-- an element that is read
pub got : {X : Type 0} (xs : List X) (k : ℕ) (x : X) → k < length xs → x ≡ slice_index_or xs k x → slice_get xs k ≡ Some x
got xs k x l h = slice_get-get_or xs k x l ∙ ap (λ y. Some y) (sym h)

-- what the code has is what is said of it
pub record IsGiven (r : Resolution) (i : Image) (ts : List NumberedThing) (found : List ℕ) (spans : List SpanPart) : Type 0 where
  pub names : offence_1 (source_of r) ≡ None
  pub parts : IsParts i
  pub are : ts ≡ things_by_number r
  pub declared : AreDeclared r (items_of (source_of r)) ts
  pub same : spans ≡ i.spans
  pub indexes : found ≡ thing_indexes spans
  pub low : All (λ k. k < length spans) found

module _ (r : Resolution) (i : Image) (ts : List NumberedThing) (found : List ℕ) (spans : List SpanPart) (g : IsGiven r i ts found spans) where
  found_is : found ≡ thing_indexes i.spans
  found_is = g.indexes ∙ ap thing_indexes g.same

  as_many_spans : length (thing_spans i) ≡ length found
  as_many_spans = ap (λ es. length es) (thing_spans_are i g.parts) ∙ length-map (thing_indexes i.spans) (span_of i.spans i.contents) ∙ ap (λ ks. length ks) (sym found_is)

  as_many_things : length ts ≡ length (things_of (source_of r))
  unfolding things_of
  as_many_things = AllZip-long (IsThingOf r (source_of r)) (items_of (source_of r)) ts g.declared ∙ sym (length-map (items_of (source_of r)) (λ (i : Item). i.thing))

  span_there : (k index : ℕ) (s : SpanPart) (held : List ℕ) → slice_get found k ≡ Some index → slice_get spans index ≡ Some s → slice_get i.contents index ≡ Some held → slice_get (thing_spans i) k ≡ Some (s, held)
  span_there k index s held at is holds =
      ap (λ es. slice_get es k) (thing_spans_are i g.parts)
      ∙ slice_get-map (span_of i.spans i.contents) (thing_indexes i.spans) k
      ∙ ap (option_map (span_of i.spans i.contents)) (ap (λ ks. slice_get ks k) (sym found_is) ∙ at)
      ∙ (λ j. Some (get_or_from_slice_get i.spans index s no_span (ap (λ ss. slice_get ss index) (sym g.same) ∙ is) j, get_or_from_slice_get i.contents index held [] holds j))

  thing_there : (k : ℕ) (x : Item) → slice_get (items_of (source_of r)) k ≡ Some x → slice_get (things_of (source_of r)) k ≡ Some x.thing
  unfolding things_of
  thing_there k x at = slice_get-map (λ (i : Item). i.thing) (items_of (source_of r)) k ∙ ap (option_map (λ (i : Item). i.thing)) at

  module _ (files : Held) where
    abbrev HasSpan : ℕ → Type 0
    HasSpan k = HasSpanAt (source_of r) files i k

    -- no span is found there
    pub none_found : (k : ℕ) → length found ≤ k → HasSpan k → ⊥
    none_found k l h = omega (arith, slice_get_within (thing_spans i) k h.span h.at, as_many_spans, l)

    -- the first thing without its span
    pub tell_thing : (k : ℕ) (t : NumberedThing) → slice_get ts k ≡ Some t → ((j : ℕ) → j < k → HasSpan j) → (HasSpan k → ⊥) → IsFirstOther (source_of r) files i t.tag.owner
    tell_thing k t at before here =
        let x = first_at (IsThingOf r (source_of r)) (items_of (source_of r)) ts k t g.declared at in
        record {
          k = k;
          before = before;
          here = here;
          is =
              ap (λ o. option_map_or (λ y. Some (thing_tag y).owner) o (option_map_or (λ (z : Span). Some z.0.tag.owner) (slice_get (thing_spans i) k) None)) (thing_there k x.0 x.1)
              ∙ (λ j. Some (sym x.2.region j).tag.owner);
        }

    -- the first span behind them
    pub tell_span : (k index : ℕ) (s : SpanPart) → length ts ≤ k → slice_get found k ≡ Some index → slice_get spans index ≡ Some s → ((j : ℕ) → j < k → HasSpan j) → IsFirstOther (source_of r) files i s.tag.owner
    tell_span k index s l at is before =
        let none : slice_get (things_of (source_of r)) k ≡ None = slice_get_past (things_of (source_of r)) k (omega (arith, l, as_many_things)) in
        let held = there i.contents index (omega (arith, slice_get_within spans index s is, ap (λ ss. length ss) g.same, as_many i g.parts)) in
        record {
          k = k;
          before = before;
          here = λ h. none-some h.thing (sym none ∙ h.is);
          is =
              ap (λ o. option_map_or (λ y. Some (thing_tag y).owner) o (option_map_or (λ (z : Span). Some z.0.tag.owner) (slice_get (thing_spans i) k) None)) none
              ∙ ap (λ o. option_map_or (λ (z : Span). Some z.0.tag.owner) o None) (span_there k index s held.0 at is held.1);
        }

    reaches : (n : ℕ) → ((j : ℕ) → j < n → HasSpan j) → n ≤ length found
    reaches zero each = omega arith
    reaches (suc n) each =
        let h = each n (omega arith) in
        omega (arith, slice_get_within (thing_spans i) n h.span h.at, as_many_spans)

    -- each thing has its span, and there is no other
    pub tell_none : ((j : ℕ) → j < length ts → HasSpan j) → length found ≤ length ts → AreContents (source_of r) files i
    tell_none each few =
        zip_from (IsSpanOf (source_of r) files) (things_of (source_of r)) (thing_spans i) (omega (arith, reaches (length ts) each, few, as_many_spans, as_many_things)) (λ k x e a b.
        let h = each k (omega (arith, slice_get_within (things_of (source_of r)) k x a, as_many_things)) in
        subst (λ y. IsSpanOf (source_of r) files y e) (one_value (slice_get (things_of (source_of r)) k) h.thing x h.is a)
        (subst (λ y. IsSpanOf (source_of r) files h.thing y) (one_value (slice_get (thing_spans i) k) h.span e h.at b) h.of))

    module _ (given : List (List ℕ)) (same_bytes : given ≡ thing_bytes files r) (k : ℕ) (t : NumberedThing) (index : ℕ) (s : SpanPart) (held : List ℕ) where
      module _ (at : slice_get ts k ≡ Some t) (found_at : slice_get found k ≡ Some index) (is : slice_get spans index ≡ Some s) (holds : slice_get i.contents index ≡ Some held) where
        numbered : slice_get (things_by_number r) k ≡ Some t
        numbered = ap (λ xs. slice_get xs k) (sym g.are) ∙ at

        pub has_span : IsThingSpan t (slice_get given k) s held → HasSpan k
        has_span f =
            let x = first_at (IsThingOf r (source_of r)) (items_of (source_of r)) ts k t g.declared at in
            record {
              thing = x.0.thing;
              span = (s, held);
              is = thing_there k x.0 x.1;
              at = span_there k index s held found_at is holds;
              of = span_from files r g.names k x.0 t x.1 numbered x.2 s held (subst (λ bs. IsThingSpan t (slice_get bs k) s held) same_bytes f);
            }

        pub not_here : (IsThingSpan t (slice_get given k) s held → ⊥) → HasSpan k → ⊥
        not_here other h =
            let x = first_at (IsThingOf r (source_of r)) (items_of (source_of r)) ts k t g.declared at in
            let thing : h.thing ≡ x.0.thing = one_value (slice_get (things_of (source_of r)) k) h.thing x.0.thing h.is (thing_there k x.0 x.1) in
            let span : h.span ≡ (s, held) = one_value (slice_get (thing_spans i) k) h.span (s, held) h.at (span_there k index s held found_at is holds) in
            let of : IsSpanOf (source_of r) files x.0.thing (s, held) = subst (IsSpanOf (source_of r) files x.0.thing) span (subst (λ y. IsSpanOf (source_of r) files y h.span) thing h.of) in
            other (subst (λ bs. IsThingSpan t (slice_get bs k) s held) (sym same_bytes) (thing_from files r g.names k x.0 t x.1 numbered x.2 s held of))
