-- The pages of things, states and areas: they differ, and none is one of tables or bitmaps.
use Rattle.std.proofs.Common.{◌≡◌, ℕ, ◌+◌, ◌/◌, ◌<◌, ◌≤◌, true, false, Some, refl, sym, ap, subst, ◌∙◌, arith}
use Rattle.std.specs.Prelude.{◌==◌, slice_get}
use Rattle.std.proofs.lemmas.Bool.{and_left, and_right, or_from, true≢false, ne_eqb}
use Rattle.image_soundness.proofs.SoundFacts.{own_spans_of}
use Rattle.image_soundness.specs.Sound.{IsSound, is_kernel}
use Rattle.image_pack.specs.Codes.{part_code}
use Rattle.image_pack.specs.ImageConditions.{KeepsConditions}
use Rattle.image_pack.specs.declared.parts.Image.{Image}
use Rattle.image_pack.specs.declared.parts.SpanPart.{SpanPart}
use Rattle.image_pack.specs.declared.parts.SubjectPart.{SubjectPart}
use Rattle.muen_num.specs.declared.tag.TagPart.TheVariants.{State, Msrs}
use Rattle.policy_lawful.specs.Contents.{Held}
use Rattle.policy_lawful.specs.Thing.{Thing}
use Rattle.policy_lawful.specs.source.Source.{Source}
use Rattle.proof_turns.specs.Ground.{Spot, thing_at, state_at, area_at, IsSpotAt}
use Rattle.proof_start.specs.GroundOf.{ground_of, is_kept}
use Rattle.proof_start.proofs.SpanFacts.{HasPage, first_page_in, kernel_kind, page_in, page_not_kept, same_span}
use Rattle.image_memory.proofs.SpanNumbers.{KernelSpan}
use Rattle.proof_start.proofs.SubjectFacts.{controlled, own_apart}
use Rattle.image_memory.proofs.SubjectSpans.{subject_spans}
use Rattle.proof_start.proofs.SpansOfThings.{ThingSpan, thing_by, thing_span}

-- ---- the span of a spot's page

-- page k is page j of the span of a thing
pub record ThingAt (p : Source) (files : Held) (i : Image) (x : Thing) (j k : ℕ) : Type 0 where
  pub span : ThingSpan p files i x
  pub page : HasPage k span.span.0
  pub is : (ground_of p i).first x + j ≡ k

pub thing_spot : (p : Source) (files : Held) (i : Image) → KeepsConditions i → IsSound p files i → (x : Thing) (j k : ℕ) → IsSpotAt (ground_of p i) (thing_at x j) k → ThingAt p files i x j k
thing_spot p files i keeps sound x j k at =
    let t = thing_span p files i keeps sound x j at.0 in
    let low : j < t.span.0.pages = subst (λ n. j < n) t.pages at.0 in
    let is : t.span.0.address / 4096 + j ≡ k = ap (λ n. n + j) (sym t.first) ∙ at.1 in
    record { span = t; page = subst (λ n. HasPage n t.span.0) is (page_in t.span.0 j low); is = at.1 }

-- page k is the first one of a span that the kernel has for a subject, of this code and number
pub record KernelAt (i : Image) (code n k : ℕ) : Type 0 where
  pub span : KernelSpan i.spans code 1 n
  pub page : HasPage k span.span
  pub kind : is_kernel span.span.kind ≡ true

kernel_spot : (i : Image) → KeepsConditions i → (code n : ℕ) → 2 ≤ code → (s : KernelSpan i.spans code 1 n) → (k : ℕ) → s.span.address / 4096 ≡ k → KernelAt i code n k
kernel_spot i keeps code n low s k is =
    let some = s.pages_there in
    record { span = s; page = subst (λ m. HasPage m s.span) is (first_page_in s.span (omega (arith, some))); kind = kernel_kind i.spans code 1 n keeps.spans s low }

-- with the subject whose it is
pub record OwnAt (i : Image) (code s k : ℕ) (number : SubjectPart → ℕ) : Type 0 where
  pub part : SubjectPart
  pub here : slice_get i.subjects s ≡ Some part
  pub at : KernelAt i code (number part) k

pub state_spot : (p : Source) (i : Image) → KeepsConditions i → (s k : ℕ) → IsSpotAt (ground_of p i) (state_at s) k → OwnAt i (part_code State) s k (λ q. q.state)
state_spot p i keeps s k at =
    let c = controlled p i s at.0 at.1 in
    let spans = subject_spans i keeps s c.part c.here in
    record { part = c.part; here = c.here; at = kernel_spot i keeps (part_code State) c.part.state (omega arith) spans.state k (sym spans.state.first ∙ ap (λ d. d.state) c.is ∙ at.2) }

pub area_spot : (p : Source) (i : Image) → KeepsConditions i → (s k : ℕ) → IsSpotAt (ground_of p i) (area_at s) k → OwnAt i (part_code Msrs) s k (λ q. q.area)
area_spot p i keeps s k at =
    let c = controlled p i s at.0 at.1 in
    let spans = subject_spans i keeps s c.part c.here in
    record { part = c.part; here = c.here; at = kernel_spot i keeps (part_code Msrs) c.part.area (omega arith) spans.area k (sym spans.area.first ∙ ap (λ d. d.msr_area) c.is ∙ at.2) }

-- ---- two spots

one_thing : (p : Source) (files : Held) (i : Image) → KeepsConditions i → (x y : Thing) (j l k : ℕ) → ThingAt p files i x j k → ThingAt p files i y l k → x ≡ y
one_thing p files i keeps x y j l k a b =
    let e = same_span i.spans keeps.spans a.span.within.index b.span.within.index a.span.span.0 b.span.span.0 k a.span.within.span b.span.within.span a.page b.page in
    thing_by x y (sym a.span.is.tag ∙ ap (λ s. s.tag) e ∙ b.span.is.tag) (sym a.span.is.kind ∙ ap (λ s. s.kind) e ∙ b.span.is.kind)

one_page : (f j l k : ℕ) → f + j ≡ k → f + l ≡ k → j ≡ l
one_page f j l k a b = omega (arith, a, b)

same_things_page : (p : Source) (files : Held) (i : Image) → KeepsConditions i → (x y : Thing) (j l k : ℕ) → ThingAt p files i x j k → ThingAt p files i y l k → thing_at x j ≡ thing_at y l
same_things_page p files i keeps x y j l k a b =
    let e = one_thing p files i keeps x y j l k a b in
    let f : j ≡ l = one_page ((ground_of p i).first x) j l k a.is (ap (λ z. (ground_of p i).first z + l) e ∙ b.is) in
    ap (λ z. thing_at z j) e ∙ ap (thing_at y) f

not_both : (p : Source) (files : Held) (i : Image) → KeepsConditions i → (x : Thing) (j code n k : ℕ) → ThingAt p files i x j k → KernelAt i code n k → ⊥
not_both p files i keeps x j code n k a b =
    let e = same_span i.spans keeps.spans a.span.within.index b.span.index a.span.span.0 b.span.span k a.span.within.span b.span.here a.page b.page in
    true≢false (sym b.kind ∙ (ap (λ s. is_kernel s.kind) (sym e) ∙ a.span.not_kernel))

one_kernel : (i : Image) → KeepsConditions i → (code n code' m k : ℕ) → KernelAt i code n k → KernelAt i code' m k → (code ≡ code') × (n ≡ m)
one_kernel i keeps code n code' m k a b =
    let e = same_span i.spans keeps.spans a.span.index b.span.index a.span.span b.span.span k a.span.here b.span.here a.page b.page in
    (sym a.span.part ∙ ap (λ s. part_code s.tag.part) e ∙ b.span.part, sym a.span.number ∙ ap (λ s. s.number) e ∙ b.span.number)

-- the pages of two different spots differ
pub apart : (p : Source) (files : Held) (i : Image) → KeepsConditions i → IsSound p files i → (a b : Spot) (j k : ℕ) → IsSpotAt (ground_of p i) a j → IsSpotAt (ground_of p i) b k → (a ≡ b → ⊥) → j ≡ k → ⊥
apart p files i keeps sound a b j k at to ne e = on_one a b j at (subst (IsSpotAt (ground_of p i) b) (sym e) to) ne
  where
    on_one : (a b : Spot) (k : ℕ) → IsSpotAt (ground_of p i) a k → IsSpotAt (ground_of p i) b k → (a ≡ b → ⊥) → ⊥
    on_one (thing_at x j) (thing_at y l) k at to ne = ne (same_things_page p files i keeps x y j l k (thing_spot p files i keeps sound x j k at) (thing_spot p files i keeps sound y l k to))
    on_one (thing_at x j) (state_at t) k at to ne = let b = state_spot p i keeps t k to in not_both p files i keeps x j (part_code State) b.part.state k (thing_spot p files i keeps sound x j k at) b.at
    on_one (thing_at x j) (area_at t) k at to ne = let b = area_spot p i keeps t k to in not_both p files i keeps x j (part_code Msrs) b.part.area k (thing_spot p files i keeps sound x j k at) b.at
    on_one (state_at s) (thing_at y l) k at to ne = let a = state_spot p i keeps s k at in not_both p files i keeps y l (part_code State) a.part.state k (thing_spot p files i keeps sound y l k to) a.at
    on_one (area_at s) (thing_at y l) k at to ne = let a = area_spot p i keeps s k at in not_both p files i keeps y l (part_code Msrs) a.part.area k (thing_spot p files i keeps sound y l k to) a.at
    on_one (state_at s) (state_at t) k at to ne =
        let a = state_spot p i keeps s k at in
        let b = state_spot p i keeps t k to in
        let n = (one_kernel i keeps (part_code State) a.part.state (part_code State) b.part.state k a.at b.at).1 in
        ne (ap state_at (own_apart i (own_spans_of p files i sound) s t a.part b.part 0 0 a.part.state a.here b.here refl (ap Some (sym n))))
    on_one (area_at s) (area_at t) k at to ne =
        let a = area_spot p i keeps s k at in
        let b = area_spot p i keeps t k to in
        let n = (one_kernel i keeps (part_code Msrs) a.part.area (part_code Msrs) b.part.area k a.at b.at).1 in
        ne (ap area_at (own_apart i (own_spans_of p files i sound) s t a.part b.part 3 3 a.part.area a.here b.here refl (ap Some (sym n))))
    on_one (state_at s) (area_at t) k at to ne =
        let a = state_spot p i keeps s k at in
        let b = area_spot p i keeps t k to in
        let n : 2 ≡ 6 = (one_kernel i keeps (part_code State) a.part.state (part_code Msrs) b.part.area k a.at b.at).0 in
        omega (arith, n)
    on_one (area_at s) (state_at t) k at to ne =
        let a = area_spot p i keeps s k at in
        let b = state_spot p i keeps t k to in
        let n : 6 ≡ 2 = (one_kernel i keeps (part_code Msrs) a.part.area (part_code State) b.part.state k a.at b.at).0 in
        omega (arith, n)

-- ---- pages of tables and bitmaps

other_code : (s : SpanPart) (n m : ℕ) → part_code s.tag.part ≡ n → (n ≡ m → ⊥) → (part_code s.tag.part == m) ≡ false
other_code s n m e ne = ne_eqb (part_code s.tag.part) m (λ f. ne (sym e ∙ f))

own_not_kept : (s : SpanPart) (n : ℕ) → part_code s.tag.part ≡ n → (n ≡ 3 → ⊥) → (n ≡ 4 → ⊥) → (n ≡ 5 → ⊥) → is_kept s ≡ false
own_not_kept s n e a b c =
    and_right (is_kernel s.kind) _ (or_from (part_code s.tag.part == 3) _ (other_code s n 3 e a) (or_from (part_code s.tag.part == 4) (part_code s.tag.part == 5) (other_code s n 4 e b) (other_code s n 5 e c)))

-- no page of a spot is one of tables or of bitmaps
pub aside : (p : Source) (files : Held) (i : Image) → KeepsConditions i → IsSound p files i → (a : Spot) (j : ℕ) → IsSpotAt (ground_of p i) a j → (ground_of p i).kept j ≡ false
unfolding ground_of
aside p files i keeps sound (thing_at x l) j at =
    let t = thing_spot p files i keeps sound x l j at in
    page_not_kept i.spans keeps.spans t.span.within.index t.span.span.0 j t.span.within.span (and_left (is_kernel t.span.span.0.kind) _ t.span.not_kernel) t.page
aside p files i keeps sound (state_at s) j at =
    let o = state_spot p i keeps s j at in
    let k = o.at.span in
    page_not_kept i.spans keeps.spans k.index k.span j k.here (own_not_kept k.span 2 k.part (λ e. omega (arith, e)) (λ e. omega (arith, e)) (λ e. omega (arith, e))) o.at.page
aside p files i keeps sound (area_at s) j at =
    let o = area_spot p i keeps s j at in
    let k = o.at.span in
    page_not_kept i.spans keeps.spans k.index k.span j k.here (own_not_kept k.span 6 k.part (λ e. omega (arith, e)) (λ e. omega (arith, e)) (λ e. omega (arith, e))) o.at.page
