use Rattle.std.proofs.Common.{ℕ, ◌<◌, ◌≤◌, ◌≡◌, List, Some, length, sym, ap, subst, ◌∙◌, inl, inr, arith}
use Rattle.std.specs.Prelude.{slice_get}
use Rattle.std.proofs.lemmas.Bool.{cases_lt}
use Rattle.std.proofs.lemmas.Option.{get_or_from_slice_get}
use Rattle.image_checks.proofs.SpansOfNumbers.{as_many}
use Rattle.image_checks.proofs.Telling.{IsGiven, got, has_span, none_found, not_here, tell_none, tell_span, tell_thing}
use Rattle.image_checks.specs.Contents.{HasSpanAt, IsFirstOther, IsThingSpan}
use Rattle.image_checks.specs.Firsts.{Decides}
use Rattle.image_pack.specs.declared.parts.Image.{Image}
use Rattle.image_pack.specs.declared.parts.SpanPart.{SpanPart}
use Rattle.policy_lawful.proofs.KeptRules.{rules_of}
use Rattle.policy_lawful.specs.Lawful.{IsLawful}
use Rattle.policy_lawful.specs.Resolution.{Resolution, source_of}
use Rattle.policy_lawful.specs.Thing.{items_of}
use Rattle.policy_lawful.specs.Things.{AreDeclared, things_by_number}
use Rattle.policy_lawful.specs.declared.thing.Thing.{Thing}
use Rattle.image_checks.proofs.contents.contents_fault.Goals.{After-index-spans-index, After-items, At-loop-k}
use Rattle.image_checks.proofs.contents.contents_fault.Goals as goal

-- ---- before the loop

module _ (c : At-loop-k) where
  -- what the code has is what is said of it
  given : IsGiven c.args.expanded.now.lawful c.args.image.now c.things-wanted.result.now c.in_ok-found.found.items c.items-spans.result.now
  given =
      let policy = c.resolved.ensures.value ∙ c.lawful.ensures in
      record {
        names = (rules_of (subst (λ (x : Resolution). IsLawful (source_of x)) c.lawful.ensures c.resolved.ensures.lawful)).rule_1;
        parts = c.image.ensures.parts;
        are = c.things-wanted.ensures.value ∙ ap things_by_number policy;
        declared = subst (λ (x : Resolution). AreDeclared x (items_of (source_of x)) c.things-wanted.result.now) policy c.things-wanted.ensures.declared;
        same = c.items-spans.ensures ∙ ap (λ (x : Image). x.spans) c.image.ensures.same;
        indexes = c.in_ok-found.ensures.value;
        low = c.in_ok-found.ensures.within;
      }

-- what is found at k is the index of a span
found_inside : {r : Resolution} {i : Image} {ts : List Thing} {found : List ℕ} {spans : List SpanPart} → IsGiven r i ts found spans → (k index : ℕ) → k < length found
    → slice_get found k ≡ Some index → index < length spans
found_inside {found = found} {spans = spans} g k index low at = subst (λ n. n < length spans) (get_or_from_slice_get found k index 0 at) (g.low k 0 low)

-- ---- in the loop

-- thing k, the index that is found for it, and the span there
record IsAt (ts : List Thing) (found : List ℕ) (spans : List SpanPart) (k : ℕ) (t : Thing) (index : ℕ) (s : SpanPart) : Type 0 where
  thing : slice_get ts k ≡ Some t
  at : slice_get found k ≡ Some index
  inside : index < length spans
  is : slice_get spans index ≡ Some s

-- those of this turn
is_at : (c : After-index-spans-index)
    → IsAt c.things-wanted.result.now c.in_ok-found.found.items c.items-spans.result.now c.loop-k.k c.index-wanted-k.result c.index-index.result.now c.index-spans-index.result
is_at c =
    let before = (goal.at.After-index-spans-index c).At-loop-k in
    let ts = c.things-wanted.result.now in
    let found = c.in_ok-found.found.items in
    let k = c.loop-k.k in
    let low : k < length found = omega (arith, c.if-k-len.false, c.len.ensures, c.in_ok-found.found.ok.0) in
    let at = got found k c.index-index.result.now low c.index-index.ensures in
    let inside = found_inside (given before) k c.index-index.result.now low at in
    record {
      thing = got ts k c.index-wanted-k.result (omega (arith, c.loop-k-test.true)) c.index-wanted-k.is;
      at = at;
      inside = inside;
      is = got c.items-spans.result.now c.index-index.result.now c.index-spans-index.result inside c.index-spans-index.is;
    }

-- there are contents for the span
contents_inside : (c : After-index-spans-index) → c.index-index.result.now < length c.items-contents.result.now
contents_inside c =
    let g = given (goal.at.After-index-spans-index c).At-loop-k in
    let spans = ap (λ (ss : List SpanPart). length ss) g.same in
    let contents = ap (λ (bs : List (List ℕ)). length bs) (c.items-contents.ensures ∙ ap (λ (x : Image). x.contents) c.image-2.ensures.same) in
    omega (arith, (is_at c).inside, spans, as_many c.args.image.now g.parts, contents)

-- they are the image's
contents_are : (c : After-items) → slice_get c.args.image.now.contents c.index-index.result.now ≡ Some c.items.result.now
contents_are c =
    let index = c.index-index.result.now in
    let contents = c.items-contents.ensures ∙ ap (λ (x : Image). x.contents) c.image-2.ensures.same in
    let inside = contents_inside (goal.at.After-items c).After-index-spans-index in
    sym (ap (λ (bs : List (List ℕ)). slice_get bs index) contents)
    ∙ got c.items-contents.result.now index c.index-contents-index.result inside c.index-contents-index.is
    ∙ ap (λ (b : List ℕ). Some b) (sym c.items.ensures)

pub bounds-contents-index : goal.bounds-contents-index
bounds-contents-index c = contents_inside (goal.at.bounds-contents-index c).After-index-spans-index

-- no index is found for a thing
pub returns-then-k-len : goal.returns-then-k-len
returns-then-k-len c = λ files are.
    let g = given (goal.at.returns-then-k-len c).At-loop-k in
    let k = c.loop-k.k in
    let thing = got c.things-wanted.result.now k c.index-wanted-k.result (omega (arith, c.loop-k-test.true)) c.index-wanted-k.is in
    tell_thing _ _ _ _ _ g files k c.index-wanted-k.result thing (c.loop-k.invariant files are)
    (none_found _ _ _ _ _ g files k (omega (arith, c.if-k-len.true, c.len.ensures, c.in_ok-found.found.ok.0)))

-- the span isn't that of the thing
pub returns-then-not-fits : goal.returns-then-not-fits
returns-then-not-fits c = λ files are.
    let g = given (goal.at.returns-then-not-fits c).At-loop-k in
    let here = is_at (goal.at.returns-then-not-fits c).After-index-spans-index in
    let holds = contents_are (goal.at.returns-then-not-fits c).After-items in
    let k = c.loop-k.k in
    let t = c.index-wanted-k.result in
    let s = c.index-spans-index.result in
    let held = c.items.result.now in
    let other = subst (Decides (IsThingSpan t (slice_get c.args.things.now k) s held)) c.if-not-fits.true c.fits.ensures in
    tell_thing _ _ _ _ _ g files k t here.thing (c.loop-k.invariant files are)
    (not_here _ _ _ _ _ g files c.args.things.now are k t c.index-index.result.now s held here.thing here.at here.is holds other)

-- it is
pub loop-k-preserved : goal.loop-k-preserved
loop-k-preserved c = λ files are j l.
    let g = given (goal.at.loop-k-preserved c).At-loop-k in
    let here = is_at (goal.at.loop-k-preserved c).After-index-spans-index in
    let holds = contents_are (goal.at.loop-k-preserved c).After-items in
    let k = c.loop-k.k in
    let t = c.index-wanted-k.result in
    let s = c.index-spans-index.result in
    let held = c.items.result.now in
    elim (cases_lt j k) as (λ _. HasSpanAt (source_of c.args.expanded.now.lawful) files c.args.image.now j) [
      | inl before ↦ c.loop-k.invariant files are j before
      | inr behind ↦
          let same : k ≡ j = omega (arith, l, behind) in
          let fit = subst (Decides (IsThingSpan t (slice_get c.args.things.now k) s held)) c.if-not-fits.false c.fits.ensures in
          subst (HasSpanAt (source_of c.args.expanded.now.lawful) files c.args.image.now) same
          (has_span _ _ _ _ _ g files c.args.things.now are k t c.index-index.result.now s held here.thing here.at here.is holds fit)
    ]

-- ---- behind the loop

-- there is a span behind those of the things
pub returns-then-wanted-len : goal.returns-then-wanted-len
returns-then-wanted-len c = λ files are.
    let g = given (goal.at.returns-then-wanted-len c).At-loop-k in
    let found = c.in_ok-found.found.items in
    let spans = c.items-spans.result.now in
    let k = length c.things-wanted.result.now in
    let low : k < length found = omega (arith, c.if-wanted-len.true, c.len-2.ensures, c.in_ok-found.found.ok.0) in
    let index = c.index.result.now in
    let at = got found k index low c.index.ensures in
    let s = c.index-spans-index-then-wanted-len in
    let is = got spans index s.result (found_inside g k index low at) s.is in
    subst (λ (x : SpanPart). IsFirstOther (source_of c.args.expanded.now.lawful) files c.args.image.now x.tag.owner) s.is
    (tell_span _ _ _ _ _ g files k index s.result (omega arith) at is (λ j l. c.loop-k.invariant files are j (omega (arith, l, c.loop-k-test.false, c.loop-k.auto.k-end))))

-- each thing has its span, and there is no other
pub returns : goal.returns
returns c = λ files are.
    let g = given (goal.at.returns c).At-loop-k in
    tell_none _ _ _ _ _ g files (λ j l. c.loop-k.invariant files are j (omega (arith, l, c.loop-k-test.false, c.loop-k.auto.k-end)))
    (omega (arith, c.if-wanted-len.false, c.len-2.ensures, c.in_ok-found.found.ok.0))
