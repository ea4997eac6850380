-- The region whose first byte chooses a major frame is where the machine's setup says.
use Rattle.std.proofs.Common.{◌≡◌, ℕ, ◌/◌, ◌<◌, true, List, length, Option, Some, None, refl, sym, ap, subst, ◌∙◌}
use Rattle.std.specs.Prelude.{not, option_map, slice_get}
use Rattle.std.specs.List.{All}
use Rattle.std.proofs.lemmas.Bool.{false≢true}
use Rattle.std.proofs.lemmas.Option.{get_or_from_slice_get, same_Some, slice_get_within}
use Rattle.std.proofs.lemmas.Map.Keys.{any_passes_from_place}
use Rattle.image_memory.specs.Memory.{page_of_span, Span, by_number, span_at}
use Rattle.image_soundness.specs.Named.{tag_at}
use Rattle.image_soundness.specs.Sound.{IsSound, IsSpanOf, is_kernel, thing_spans}
use Rattle.image_pack.specs.Codes.{is_own}
use Rattle.image_pack.specs.ImageConditions.{IsChoice, KeepsConditions}
use Rattle.image_pack.specs.declared.parts.Image.{Image}
use Rattle.image_pack.specs.declared.parts.SpanKind.{SpanKind}
use Rattle.image_pack.specs.declared.parts.SpanKind.TheVariants.{Own, Channel, Provided, Kernel, Device}
use Rattle.image_pack.specs.declared.parts.SpanPart.{SpanPart}
use Rattle.muen_num.proofs.NumbersBelow.{number_at}
use Rattle.muen_num.proofs.Options.{one_value}
use Rattle.muen_num.proofs.Pairs.{first_at}
use Rattle.muen_num.specs.Range.{numbers_below}
use Rattle.policy_lawful.specs.Contents.{Held}
use Rattle.policy_lawful.specs.Thing.{region, same_thing, things_of, thing_tag}
use Rattle.policy_lawful.specs.source.Source.{Source}
use Rattle.policy_lawful.specs.source.Tau0.{Tau0}
use Rattle.policy_lawful.proofs.SameThings.{same_thing_self}
use Rattle.proof_start.specs.GroundOf.{ground_of}
use Rattle.muen_num.proofs.Indexed.{filtered_there, kept_there}
use Rattle.image_memory.proofs.SpanPages.{by_its_number, span_with}
use Rattle.proof_start.proofs.NumberFacts.{span_of}
use Rattle.proof_start.proofs.OnceFacts.{thing_once}
use Rattle.proof_start.proofs.SpansOfThings.{listed_span, thing_by}

-- ---- the span of its tag

own_kind : (k : SpanKind) → is_own k ≡ true → k ≡ Own
own_kind Own h = refl
own_kind Channel h = absurd (false≢true h)
own_kind Provided h = absurd (false≢true h)
own_kind Kernel h = absurd (false≢true h)
own_kind Device h = absurd (false≢true h)

chosen : (p : Source) (files : Held) (i : Image) → KeepsConditions i → IsSound p files i → (n : ℕ) (r : List ℕ) → n < length i.spans → All (λ s. s.number ≡ n → is_own s.kind ≡ true) i.spans → tag_at i n ≡ Some (thing_tag (region r)) → page_of_span i.spans n ≡ (ground_of p i).first (region r)
unfolding by_number
chosen p files i keeps sound n r low own tag =
    let s = span_of i.spans keeps.spans n low in
    let b = span_with i keeps s.index s.span s.here in
    let e : Span = (s.span, b.0) in
    let found : span_at i n ≡ Some e = by_its_number i keeps n e b.1 s.number in
    let tagged : s.span.tag ≡ thing_tag (region r) = same_Some s.span.tag (thing_tag (region r)) (sym (ap (option_map (λ (u : Span). u.0.tag)) found) ∙ tag) in
    let kind : s.span.kind ≡ Own = own_kind s.span.kind (own_at i.spans s.index s.span own s.here s.number) in
    let among = kept_there (span_at i) (numbers_below (length i.spans)) n n e (number_at (length i.spans) n low) found in
    let listed = filtered_there (λ (u : Span). not (is_kernel u.0.kind)) (by_number i) among.0 e among.1 (ap (λ k. not (is_kernel k)) kind) in
    let of_thing = first_at (IsSpanOf p files) (things_of p) (thing_spans i) listed.0 e sound.contents listed.1 in
    let same : of_thing.0 ≡ region r = thing_by of_thing.0 (region r) (sym of_thing.2.tag ∙ tagged) (sym of_thing.2.kind ∙ kind) in
    let at : slice_get (things_of p) listed.0 ≡ Some (region r) = of_thing.1 ∙ ap Some same in
    let t = listed_span p files i keeps sound (region r) (any_passes_from_place (λ y. same_thing y (region r)) (things_of p) listed.0 (region r) at (same_thing_self (region r))) in
    let index : listed.0 ≡ t.number = thing_once p sound.lawful (region r) listed.0 t.number at t.listed in
    let is : e ≡ t.span = one_value (slice_get (thing_spans i) t.number) e t.span (ap (slice_get (thing_spans i)) (sym index) ∙ listed.1) t.numbered in
    s.first ∙ ap (λ (u : Span). u.0.address / 4096) is ∙ sym t.first
  where
    own_at : (xs : List SpanPart) (a : ℕ) (s : SpanPart) → All (λ s. s.number ≡ n → is_own s.kind ≡ true) xs → slice_get xs a ≡ Some s → s.number ≡ n → is_own s.kind ≡ true
    own_at xs a s h at e = subst (λ (u : SpanPart). u.number ≡ n → is_own u.kind ≡ true) (get_or_from_slice_get xs a s s at) (h a s (slice_get_within xs a s at)) e

by_both : (p : Source) (files : Held) (i : Image) → KeepsConditions i → IsSound p files i → (h : Option ℕ) (t : Option Tau0) → IsChoice i.spans h → option_map (tag_at i) h ≡ option_map (λ t. Some (thing_tag (region t.region))) t → option_map (page_of_span i.spans) h ≡ option_map (λ t. (ground_of p i).first (region t.region)) t
by_both p files i keeps sound None None choice e = refl
by_both p files i keeps sound None (Some t) choice e = absurd (cc (e))
by_both p files i keeps sound (Some n) None choice e = absurd (cc (e))
by_both p files i keeps sound (Some n) (Some t) choice e = ap Some (chosen p files i keeps sound n t.region choice.0 choice.1 (same_Some (tag_at i n) (Some (thing_tag (region t.region))) e))

-- the page whose first byte chooses a major frame is that of the policy's region
pub same_tau0_page : (p : Source) (files : Held) (i : Image) → KeepsConditions i → IsSound p files i → (ground_of p i).setup.tau0 ≡ option_map (λ t. (ground_of p i).first (region t.region)) p.scheduling.tau0
unfolding ground_of
same_tau0_page p files i keeps sound = by_both p files i keeps sound i.header.tau0 p.scheduling.tau0 keeps.choice sound.plan_and_events.tau0
