-- The things of a policy and their spans in an image for it.
use Rattle.std.proofs.Common.{◌≡◌, ℕ, ◌*◌, ◌/◌, ◌<◌, Bool, true, false, List, [], ◌∷◌, ◌++◌, length, cond, map, Option, Some, None, refl, sym, ap, ◌∙◌, arith}
use Rattle.std.specs.Prelude.{not, option_map, slice_get}
use Rattle.std.specs.List.{find, list_any, zip}
use Rattle.std.specs.Option.{option_map_or}
use Rattle.std.proofs.lemmas.Bool.{not-true}
use Rattle.image_memory.specs.Memory.{Span, by_number, span_at}
use Rattle.image_soundness.specs.Sound.{IsSound, IsSpanOf, is_kernel, kind_of, address_of, thing_spans}
use Rattle.image_pack.specs.ImageConditions.{KeepsConditions}
use Rattle.image_pack.specs.declared.parts.Image.{Image}
use Rattle.muen_num.specs.Range.{numbers_below}
use Rattle.muen_num.proofs.Pairs.{both_at, other_at, zipped_at, zipped_both}
use Rattle.policy_lawful.specs.Contents.{Held, initial_bytes}
use Rattle.policy_lawful.specs.Thing.{Thing, region, channel, provided, device_memory, state, same_thing, things_of, thing_tag}
use Rattle.policy_lawful.specs.source.Source.{Source}
use Rattle.policy_lawful.proofs.SameThings.{same_things}
use Rattle.proof_start.specs.GroundOf.{ground_of, page_count_of_thing}
use Rattle.muen_num.proofs.Indexed.{any_passing, filtered_at, found_at, found_changed, found_some, kept_at}
use Rattle.image_memory.proofs.SpanPages.{SpanIn, span_by}

-- ---- what a tag and a kind tell

-- things of one tag and one kind are the same
pub thing_by : (x y : Thing) → thing_tag x ≡ thing_tag y → kind_of x ≡ kind_of y → x ≡ y
thing_by (region c) (region d) e k = ap (λ t. region t.owner) e
thing_by (channel c) (channel d) e k = ap (λ t. channel t.owner) e
thing_by (provided s c) (provided t d) e k =
    let owner : s ≡ t = ap (λ t. t.owner) e in
    let part : c ≡ d = (let q = ap (λ t. t.part) e in cc (q)) in
    ap (λ z. provided z c) owner ∙ ap (provided t) part
thing_by (device_memory s c) (device_memory t d) e k =
    let owner : s ≡ t = ap (λ t. t.owner) e in
    let part : c ≡ d = (let q = ap (λ t. t.part) e in cc (q)) in
    ap (λ z. device_memory z c) owner ∙ ap (device_memory t) part
thing_by (state c) (state d) e k = ap (λ t. state t.owner) e
thing_by (region c) (channel d) e k = absurd (cc (k))
thing_by (region c) (provided s d) e k = absurd (cc (k))
thing_by (region c) (device_memory s d) e k = absurd (cc (k))
thing_by (region c) (state d) e k = absurd (cc (k))
thing_by (channel c) (region d) e k = absurd (cc (k))
thing_by (channel c) (provided s d) e k = absurd (cc (k))
thing_by (channel c) (device_memory s d) e k = absurd (cc (k))
thing_by (channel c) (state d) e k = absurd (cc (k))
thing_by (provided r c) (region d) e k = absurd (cc (k))
thing_by (provided r c) (channel d) e k = absurd (cc (k))
thing_by (provided r c) (device_memory s d) e k = absurd (cc (k))
thing_by (provided r c) (state d) e k = absurd (cc (k))
thing_by (device_memory r c) (region d) e k = absurd (cc (k))
thing_by (device_memory r c) (channel d) e k = absurd (cc (k))
thing_by (device_memory r c) (provided s d) e k = absurd (cc (k))
thing_by (device_memory r c) (state d) e k = absurd (cc (k))
thing_by (state c) (region d) e k = absurd (cc (k))
thing_by (state c) (channel d) e k = absurd (cc (k))
thing_by (state c) (provided s d) e k = absurd (cc (k))
thing_by (state c) (device_memory s d) e k = absurd (cc (k))

-- ---- the span of a thing

pub record ThingSpan (p : Source) (files : Held) (i : Image) (x : Thing) : Type 0 where
  pub number : ℕ
  pub listed : slice_get (things_of p) number ≡ Some x
  pub span : Span
  pub numbered : slice_get (thing_spans i) number ≡ Some span
  pub within : SpanIn i span
  pub is : IsSpanOf p files x span
  pub not_kernel : is_kernel span.0.kind ≡ false
  pub pages : (ground_of p i).pages x ≡ span.0.pages
  pub first : (ground_of p i).first x ≡ span.0.address / 4096
  pub address : address_of p i x ≡ span.0.address

-- a thing with its span
abbrev pub Listed : Type 0
Listed = Thing × Span

abbrev pub listed : Source → Image → List Listed
listed p i = zip (things_of p) (thing_spans i)

pub pages_by : (p : Source) (i : Image) (x : Thing) → page_count_of_thing p i x ≡ option_map_or (λ (e : Thing × ℕ). e.1) (option_map (λ (e : Listed). (e.0, e.1.0.pages)) (find (λ (e : Listed). same_thing e.0 x) (listed p i))) 0
pages_by p i x = ap (λ o. option_map_or (λ (e : Thing × ℕ). e.1) o 0) (found_changed (λ y. same_thing y x) (λ (e : Span). e.0.pages) (things_of p) (thing_spans i))

found_front : {X : Type 0} (test : X → Bool) (xs ys : List X) (x : X) → find test xs ≡ Some x → find test (xs ++ ys) ≡ Some x
found_front test [] ys x h = absurd (cc)
found_front test (y ∷ xs) ys x h = by_test (test y) (found_front test xs ys x) h
  where
    by_test : (b : Bool) → (find test xs ≡ Some x → find test (xs ++ ys) ≡ Some x) → cond b (Some y) (find test xs) ≡ Some x → cond b (Some y) (find test (xs ++ ys)) ≡ Some x
    by_test true later h = h
    by_test false later h = later h

address_by : (p : Source) (i : Image) (x : Thing) (e : Listed) → find (λ (e : Listed). same_thing e.0 x) (listed p i) ≡ Some e → address_of p i x ≡ e.1.0.address
unfolding address_of
address_by p i x e h =
    ap (λ o. option_map_or (λ (e : Thing × ℕ). e.1) o 0)
    (found_front (λ (e : Thing × ℕ). same_thing e.0 x) (zip (things_of p) (map (λ (e : Span). e.0.address) (thing_spans i))) _ (e.0, e.1.0.address)
    (found_changed (λ y. same_thing y x) (λ (e : Span). e.0.address) (things_of p) (thing_spans i) ∙ ap (option_map (λ (e : Listed). (e.0, e.1.0.address))) h))

pub span_of_listed : (p : Source) (files : Held) (i : Image) → KeepsConditions i → IsSound p files i → (x : Thing) (e : Listed) → find (λ (e : Listed). same_thing e.0 x) (listed p i) ≡ Some e → ThingSpan p files i x
unfolding ground_of by_number
span_of_listed p files i keeps sound x e h =
    let f = found_at (λ (e : Listed). same_thing e.0 x) (listed p i) e h in
    let both = zipped_both (things_of p) (thing_spans i) f.index e f.here in
    let same : e.0 ≡ x = same_things e.0 x f.passes in
    let at : slice_get (things_of p) f.index ≡ Some x = both.0 ∙ ap Some same in
    let kept = filtered_at (λ (e : Span). not (is_kernel e.0.kind)) (by_number i) f.index e.1 both.1 in
    let from = kept_at (span_at i) (numbers_below (length i.spans)) kept.0 e.1 kept.1 in
    record {
      number = f.index;
      listed = at;
      span = e.1;
      numbered = both.1;
      within = (span_by i keeps from.0 e.1 from.1).0;
      is = both_at (IsSpanOf p files) (things_of p) (thing_spans i) f.index x e.1 sound.contents at both.1;
      not_kernel = not-true (is_kernel e.1.0.kind) kept.2;
      pages = pages_by p i x ∙ ap (λ o. option_map_or (λ (e : Thing × ℕ). e.1) (option_map (λ (e : Listed). (e.0, e.1.0.pages)) o) 0) h;
      first = ap (λ n. n / 4096) (address_by p i x e h);
      address = address_by p i x e h;
    }

-- what has pages is a thing of the policy
pub thing_span : (p : Source) (files : Held) (i : Image) → KeepsConditions i → IsSound p files i → (x : Thing) (j : ℕ) → j < (ground_of p i).pages x → ThingSpan p files i x
unfolding ground_of
thing_span p files i keeps sound x j low = by_found (find (λ (e : Listed). same_thing e.0 x) (listed p i)) refl
  where
    by_found : (o : Option Listed) → find (λ (e : Listed). same_thing e.0 x) (listed p i) ≡ o → ThingSpan p files i x
    by_found None e = absurd (let none = pages_by p i x ∙ ap (λ o. option_map_or (λ (e : Thing × ℕ). e.1) (option_map (λ (e : Listed). (e.0, e.1.0.pages)) o) 0) e in omega (arith, low, none))
    by_found (Some e) h = span_of_listed p files i keeps sound x e h

-- a thing of the policy has a span
pub listed_span : (p : Source) (files : Held) (i : Image) → KeepsConditions i → IsSound p files i → (x : Thing) → list_any (λ y. same_thing y x) (things_of p) ≡ true → ThingSpan p files i x
listed_span p files i keeps sound x h =
    let a = any_passing (λ y. same_thing y x) (things_of p) h in
    let b = other_at (IsSpanOf p files) (things_of p) (thing_spans i) a.index a.one sound.contents a.here in
    let f = found_some (λ (e : Listed). same_thing e.0 x) (listed p i) a.index (a.one, b.0) (zipped_at (things_of p) (thing_spans i) a.index a.one b.0 a.here b.1) a.passes in
    span_of_listed p files i keeps sound x f.0 f.1

-- its pages are as many as its bytes fill
pub listed_pages : (p : Source) (files : Held) (i : Image) → KeepsConditions i → IsSound p files i → (x : Thing) → list_any (λ y. same_thing y x) (things_of p) ≡ true → 4096 * (ground_of p i).pages x ≡ length (initial_bytes p files x)
listed_pages p files i keeps sound x h =
    let t = listed_span p files i keeps sound x h in
    ap (λ n. 4096 * n) t.pages ∙ sym t.within.long ∙ ap length t.is.bytes
