-- The state pages of subjects, which are no things of the policy, and where they lie.
use Rattle.std.proofs.Common.{◌≡◌, ℕ, ◌/◌, List, map, Option, Some, None, refl, sym, ap, ◌∙◌}
use Rattle.std.specs.Prelude.{option_map, slice_get}
use Rattle.std.specs.List.{find, zip}
use Rattle.std.specs.Option.{option_map_or}
use Rattle.std.proofs.lemmas.Bool.{true≢false}
use Rattle.std.proofs.lemmas.Option.{slice_get-map}
use Rattle.image_memory.specs.Memory.{Span, address_at}
use Rattle.image_soundness.specs.Sound.{IsSound, is_kernel, address_of, thing_spans}
use Rattle.image_pack.specs.ImageConditions.{KeepsConditions}
use Rattle.image_pack.specs.declared.parts.Image.{Image}
use Rattle.image_pack.specs.declared.parts.SubjectPart.{SubjectPart}
use Rattle.policy_lawful.specs.Contents.{Held}
use Rattle.policy_lawful.specs.Thing.{Thing, state, same_thing, things_of}
use Rattle.policy_lawful.specs.source.Source.{Source}
use Rattle.policy_lawful.specs.source.Subject.{Subject}
use Rattle.policy_lawful.proofs.SameThings.{same_things, same_thing_self, state_names}
use Rattle.vmx_machine.specs.declared.control.Control.{Control}
use Rattle.proof_start.specs.GroundOf.{ground_of}
use Rattle.muen_num.proofs.Indexed.{found_changed, found_only}
use Rattle.image_memory.proofs.SpanPages.{by_its_number, span_with}
use Rattle.proof_start.proofs.SubjectFacts.{controlled}
use Rattle.image_memory.proofs.SubjectSpans.{subject_spans}
use Rattle.proof_start.proofs.SpansOfThings.{Listed, listed, pages_by, span_of_listed}
use Rattle.muen_num.proofs.Options.{from_some}
use Rattle.muen_num.proofs.Pairs.{zipped_at, zipped_both}
use Rattle.muen_num.proofs.Lookups.{found_behind}

-- a state page is no thing of the policy
not_listed : (p : Source) (files : Held) (i : Image) → KeepsConditions i → IsSound p files i → (name : List ℕ) (o : Option Listed) → find (λ (e : Listed). same_thing e.0 (state name)) (listed p i) ≡ o → o ≡ None
not_listed p files i keeps sound name None h = refl
not_listed p files i keeps sound name (Some e) h =
    let t = span_of_listed p files i keeps sound (state name) e h in
    absurd (true≢false (sym (ap is_kernel t.is.kind) ∙ t.not_kernel))

pub no_state : (p : Source) (files : Held) (i : Image) → KeepsConditions i → IsSound p files i → (name : List ℕ) → find (λ (e : Listed). same_thing e.0 (state name)) (listed p i) ≡ None
no_state p files i keeps sound name = not_listed p files i keeps sound name _ refl

pub no_thing : (p : Source) (files : Held) (i : Image) → KeepsConditions i → IsSound p files i → (name : List ℕ) → (ground_of p i).pages (state name) ≡ 0
unfolding ground_of
no_thing p files i keeps sound name = pages_by p i (state name) ∙ ap (λ o. option_map_or (λ (e : Thing × ℕ). e.1) (option_map (λ (e : Listed). (e.0, e.1.0.pages)) o) 0) (no_state p files i keeps sound name)

-- ---- its address

-- names that are the same are at one index
abbrev NamedOnce : Source → Type 0
NamedOnce p = (s t : ℕ) (n m : Subject) → slice_get p.subjects s ≡ Some n → slice_get p.subjects t ≡ Some m → n.name ≡ m.name → s ≡ t

state_found : (p : Source) (i : Image) → NamedOnce p → (s : ℕ) (n : Subject) (q : SubjectPart) → slice_get p.subjects s ≡ Some n → slice_get i.subjects s ≡ Some q
    → find (λ (e : Thing × ℕ). same_thing e.0 (state n.name)) (zip (map (λ s. state s.name) p.subjects) (map (λ q. address_at i q.state) i.subjects)) ≡ Some (state n.name, address_at i q.state)
state_found p i once s n q at to =
    let names : List Thing = map (λ s. state s.name) p.subjects in
    let addresses : List ℕ = map (λ q. address_at i q.state) i.subjects in
    found_only (λ (e : Thing × ℕ). same_thing e.0 (state n.name)) (zip names addresses) s (state n.name, address_at i q.state)
    (zipped_at names addresses s (state n.name) (address_at i q.state) (slice_get-map (λ (s : Subject). state s.name) p.subjects s ∙ ap (option_map (λ (s : Subject). state s.name)) at) (slice_get-map (λ (q : SubjectPart). address_at i q.state) i.subjects s ∙ ap (option_map (λ (q : SubjectPart). address_at i q.state)) to))
    (same_thing_self (state n.name))
    (λ m e here passes.
    let both = zipped_both names addresses m e here in
    let o = from_some (λ (s : Subject). state s.name) (slice_get p.subjects m) e.0 (sym (slice_get-map (λ (s : Subject). state s.name) p.subjects m) ∙ both.0) in
    once m s o.0 n o.1 at (state_names o.0.name n.name (o.2 ∙ same_things e.0 (state n.name) passes)))

pub state_at_address : (p : Source) (files : Held) (i : Image) → KeepsConditions i → IsSound p files i → NamedOnce p → (s : ℕ) (n : Subject) (q : SubjectPart) → slice_get p.subjects s ≡ Some n → slice_get i.subjects s ≡ Some q → address_of p i (state n.name) ≡ address_at i q.state
unfolding address_of
state_at_address p files i keeps sound once s n q at to =
    let front = found_changed (λ y. same_thing y (state n.name)) (λ (e : Span). e.0.address) (things_of p) (thing_spans i) ∙ ap (option_map (λ (e : Listed). (e.0, e.1.0.address))) (no_state p files i keeps sound n.name) in
    ap (λ o. option_map_or (λ (e : Thing × ℕ). e.1) o 0) (found_behind (λ (e : Thing × ℕ). same_thing e.0 (state n.name)) (zip (things_of p) (map (λ (e : Span). e.0.address) (thing_spans i))) _ front ∙ state_found p i once s n q at to)

-- the state page of a subject is where its control says
pub state_pages : (p : Source) (files : Held) (i : Image) → KeepsConditions i → IsSound p files i → ((s t : ℕ) (n m : Subject) → slice_get p.subjects s ≡ Some n → slice_get p.subjects t ≡ Some m → n.name ≡ m.name → s ≡ t)
    → (s : ℕ) (n : Subject) (c : Control) → slice_get p.subjects s ≡ Some n → slice_get (ground_of p i).setup.controls s ≡ Some c → (ground_of p i).first (state n.name) ≡ c.state
unfolding ground_of
state_pages p files i keeps sound once s n c named at =
    let k = controlled p i s c at in
    let span = (subject_spans i keeps s k.part k.here).state in
    let b = span_with i keeps span.index span.span span.here in
    let address : address_at i k.part.state ≡ span.span.address = ap (λ o. option_map_or (λ (e : Span). e.0.address) o 0) (by_its_number i keeps k.part.state (span.span, b.0) b.1 span.number) in
    ap (λ m. m / 4096) (state_at_address p files i keeps sound once s n k.part named k.here ∙ address) ∙ sym span.first ∙ ap (λ d. d.state) k.is
