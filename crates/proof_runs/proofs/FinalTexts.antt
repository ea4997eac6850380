-- The final lines of an image's run are those of the abstract system.
use Rattle.std.proofs.Common.{◌≡◌, ◌∙◌, refl, ap, ℕ, zero, suc, ◌/◌, ◌==◌, Bool, true, false, List, [], ◌∷◌, ◌++◌, length, map, Option, Some, None, sym}
use Rattle.std.specs.Prelude.{not, option_map, slice_get, if◌then◌else◌}
use Rattle.std.specs.List.{AllZip, find, flat_map}
use Rattle.subject_model.specs.Sha256.{sha256}
use Rattle.muen_num.specs.Range.{numbers_below}
use Rattle.muen_num.specs.declared.limits.TheConstants.{PAGE}
use Rattle.muen_num.specs.declared.tag.Tag.{Tag}
use Rattle.subject_model.specs.Memory.{Page}
use Rattle.subject_model.specs.StatePage.{state_in}
use Rattle.subject_model.specs.SubjectState.{SubjectState}
use Rattle.image_pack.specs.ImageConditions.{IsContent, KeepsConditions}
use Rattle.image_pack.specs.declared.parts.Image.{Image}
use Rattle.image_pack.specs.declared.parts.SpanKind.{SpanKind}
use Rattle.image_pack.specs.declared.parts.SpanKind.TheVariants.{Own, Channel, Provided, Kernel as OfKernel, Device}
use Rattle.image_pack.specs.declared.parts.SpanPart.{SpanPart}
use Rattle.image_pack.specs.declared.parts.SubjectPart.{SubjectPart}
use Rattle.image_soundness.specs.Memory.{Span, by_number, span_at}
use Rattle.image_soundness.specs.Sound.{AreContents, IsSpanOf, is_kernel, kind_of, thing_spans}
use Rattle.policy_lawful.specs.Contents.{Held}
use Rattle.policy_lawful.specs.Thing.{Thing, region, channel, provided, device_memory, component_by, things_of, thing_tag}
use Rattle.policy_lawful.specs.source.Component.{Component}
use Rattle.policy_lawful.specs.source.Source.{Source}
use Rattle.policy_lawful.specs.source.Subject.{Subject}
use Rattle.subject_model.specs.ViewText.{rows_text, region_text}
use Rattle.proof_turns.specs.Machine.{page_bytes_at}
use Rattle.proof_turns.specs.Control.{Control}
use Rattle.proof_turns.specs.setup.Setup.{Setup}
use Rattle.subject_model.specs.Alone.{bytes_in}
use Rattle.subject_model.specs.System.{System, state_of}
use Rattle.subject_model.specs.Trace.{final_text as system_text, state_text, subject_text, thing_text}
use Rattle.muen_run.specs.RunText.{bytes_from, final_text, numbered_span_text, numbered_subject_text, prints_as, span_text, spans_text, states_text, machine_subject_text as part_text}
use Rattle.proof_runs.proofs.FlatLists.{AllMadeBy, each_made, first_pass, flat_kept, flat_looked, flat_numbers, flat_same, found_beside, joined_made, mapped_made, no_items, second_pass}
use Rattle.policy_lawful.proofs.Items.{provided_by, things_are}

-- ---- the states

-- each subject's state stands in the state page of the part of its number
abbrev pub HasStates : Source → Setup → List Page → System → Type 0
HasStates p setup pages y =
    (s : ℕ) (n : Subject) → slice_get p.subjects s ≡ Some n
    → (q : SubjectPart) × (c : Control) × (slice_get setup.subjects s ≡ Some q) × (slice_get setup.controls s ≡ Some c) × (q.name ≡ n.name) × (state_of y n.name ≡ Some (state_in (page_bytes_at pages c.state)))

-- the lines of a subject and of its part, over what was looked up
part_told : (pages : List Page) (o : Option SubjectPart) (q : SubjectPart) (d : Option Control) (c : Control) (name : List ℕ) (st : Option SubjectState) → o ≡ Some q → d ≡ Some c → q.name ≡ name → st ≡ Some (state_in (page_bytes_at pages c.state)) → part_text pages o d ≡ state_text name st
part_told pages o q d c name st a b e f = rw (a, b, f) (ap (λ name. rows_text name (state_in (page_bytes_at pages c.state))) e)

-- the lines of all subjects
pub states_text_is : (p : Source) (setup : Setup) (pages : List Page) (y : System) → HasStates p setup pages y → length setup.subjects ≡ length p.subjects → states_text setup pages ≡ flat_map (subject_text y) p.subjects
states_text_is p setup pages y has many =
    ap (λ n. flat_map (numbered_subject_text setup pages) (numbers_below n)) many
    ∙ flat_numbers (numbered_subject_text setup pages) (subject_text y) p.subjects
    (λ s n at.
    let h = has s n at in
    part_told pages (slice_get setup.subjects s) h.0 (slice_get setup.controls s) h.1 n.name (state_of y n.name) h.2 h.3 h.4 h.5)

-- ---- the spans by number

-- the line of a span
abbrev pub line_of : Bool → List Page → Span → List ℕ
line_of device pages e = span_text device pages (Some e.0)

-- a span is looked up by number alike with what it has and without
found_by_number : (i : Image) → KeepsConditions i → (n : ℕ) → find (λ (s : SpanPart). s.number == n) i.spans ≡ option_map (λ e. e.0) (span_at i n)
found_by_number i keeps n = found_beside IsContent (λ (s : SpanPart). s.number == n) i.spans i.contents keeps.contents

-- nothing is printed for a span of the kernel
kernel_silent : (device : Bool) (tag : Tag) (digest : List ℕ) (kind : SpanKind) → not (is_kernel kind) ≡ false → ◌≡◌ {A = List ℕ} (if prints_as device kind then region_text tag device digest else []) []
kernel_silent device tag digest Own h = absurd (cc (h))
kernel_silent device tag digest Channel h = absurd (cc (h))
kernel_silent device tag digest Provided h = absurd (cc (h))
kernel_silent device tag digest OfKernel h = refl
kernel_silent device tag digest Device h = absurd (cc (h))

-- the lines of all spans are those of the spans of things, in order
lines_in_order : (i : Image) → KeepsConditions i → (device : Bool) (pages : List Page) → spans_text device i.spans pages ≡ flat_map (line_of device pages) (thing_spans i)
unfolding by_number
lines_in_order i keeps device pages =
    flat_same (numbered_span_text device i.spans pages) (λ n. span_text device pages (option_map (λ e. e.0) (span_at i n)))
    (λ n. ap (span_text device pages) (found_by_number i keeps n)) (numbers_below (length i.spans))
    ∙ flat_looked (λ (o : Option Span). span_text device pages (option_map (λ e. e.0) o)) (span_at i) refl (numbers_below (length i.spans))
    ∙ flat_kept (line_of device pages) (λ e. not (is_kernel e.0.kind))
    (λ e. kernel_silent device e.0.tag (sha256 (bytes_from pages (e.0.address / PAGE) e.0.pages)) e.0.kind)
    (by_number i)

-- ---- the spans of things

-- the line of a thing, among the regions or among the devices' memories
abbrev pub told : Bool → System → Thing → List ℕ
told device y x = if prints_as device (kind_of x) then region_text (thing_tag x) device (sha256 (bytes_in y.things x)) else []

-- a span and its thing have one line
line_told : (device : Bool) (tag tag' : Tag) (kind kind' : SpanKind) (bytes bytes' : List ℕ) → tag ≡ tag' → kind ≡ kind' → bytes ≡ bytes'
    → ◌≡◌ {A = List ℕ} (if prints_as device kind then region_text tag device (sha256 bytes) else []) (if prints_as device kind' then region_text tag' device (sha256 bytes') else [])
line_told device tag tag' kind kind' bytes bytes' a b c = rw (a, b, c) refl

-- and so do all of them
lines_told : (p : Source) (files : Held) (pages : List Page) (y : System) (device : Bool) (xs : List Thing) (es : List Span) → AllZip (IsSpanOf p files) xs es
    → ((x : Thing) (e : Span) → IsSpanOf p files x e → (k : ℕ) → slice_get xs k ≡ Some x → slice_get es k ≡ Some e → bytes_from pages (e.0.address / PAGE) e.0.pages ≡ bytes_in y.things x)
    → flat_map (line_of device pages) es ≡ flat_map (told device y) xs
lines_told p files pages y device [] [] all same = refl
lines_told p files pages y device [] (e ∷ es) all same = absurd all
lines_told p files pages y device (x ∷ xs) [] all same = absurd all
lines_told p files pages y device (x ∷ xs) (e ∷ es) all same =
    ap (λ ls. ls ++ flat_map (line_of device pages) es)
    (line_told device e.0.tag (thing_tag x) e.0.kind (kind_of x) (bytes_from pages (e.0.address / PAGE) e.0.pages) (bytes_in y.things x) all.0.tag all.0.kind (same x e all.0 zero refl refl))
    ∙ ap (λ ls. told device y x ++ ls) (lines_told p files pages y device xs es all.1 (λ z f is k a b. same z f is (suc k) a b))

-- ---- things in order

-- what prints as a region has its line in the first pass, and none in the second
abbrev pub PrintsFirst : System → List Thing → Type 0
PrintsFirst y xs = AllMadeBy (told false y) (told true y) (thing_text y) xs

-- regions that a component brings along print first
provided_first : (y : System) (subject : List ℕ) (o : Option Component) → PrintsFirst y (provided_by subject o)
provided_first y subject None = no_items (told false y) (told true y) (thing_text y)
provided_first y subject (Some c) = mapped_made (told false y) (told true y) (thing_text y) (λ x. provided subject x.logical) (λ x. refl) (λ x. refl) c.provides

-- both passes together print each thing in order
in_two_passes : (p : Source) (y : System) → flat_map (told false y) (things_of p) ++ flat_map (told true y) (things_of p) ≡ flat_map (thing_text y) (things_of p)
in_two_passes p y =
    let first = told false y in
    let second = told true y in
    let text = thing_text y in
    let regions = map (λ r. region r.name) p.memory in
    let channels = map (λ c. channel c.name) p.channels in
    let brought = flat_map (λ s. provided_by s.name (component_by p s.component)) p.subjects in
    let devices = flat_map (λ d. map (λ m. device_memory d.name m.name) d.memory) p.devices in
    (λ i. flat_map first (things_are p i) ++ flat_map second (things_are p i))
    ∙ first_pass first second text ((regions ++ channels) ++ brought) devices
    (joined_made first second text (regions ++ channels) brought
    (joined_made first second text regions channels
    (mapped_made first second text (λ r. region r.name) (λ r. refl) (λ r. refl) p.memory)
    (mapped_made first second text (λ c. channel c.name) (λ c. refl) (λ c. refl) p.channels))
    (each_made first second text (λ s. provided_by s.name (component_by p s.component)) (λ s. provided_first y s.name (component_by p s.component)) p.subjects))
    (second_pass first second text devices
    (each_made second first text (λ d. map (λ m. device_memory d.name m.name) d.memory) (λ d. mapped_made second first text (λ m. device_memory d.name m.name) (λ m. refl) (λ m. refl) d.memory) p.devices))
    ∙ ap (flat_map text) (sym (things_are p))

-- ---- the whole

-- the pages of the span of each thing have the thing's bytes
abbrev pub HasBytes : Source → Held → Image → List Page → System → Type 0
HasBytes p files i pages y =
    (x : Thing) (e : Span) → IsSpanOf p files x e → (k : ℕ) → slice_get (things_of p) k ≡ Some x → slice_get (thing_spans i) k ≡ Some e
    → bytes_from pages (e.0.address / PAGE) e.0.pages ≡ bytes_in y.things x

-- the lines of all spans are those of all things
pub spans_text_is : (p : Source) (files : Held) (i : Image) (pages : List Page) (y : System) → KeepsConditions i → AreContents p files i → HasBytes p files i pages y
    → spans_text false i.spans pages ++ spans_text true i.spans pages ≡ flat_map (thing_text y) (things_of p)
spans_text_is p files i pages y keeps contents bytes =
    let each : (device : Bool) → spans_text device i.spans pages ≡ flat_map (told device y) (things_of p) =
    λ device. lines_in_order i keeps device pages ∙ lines_told p files pages y device (things_of p) (thing_spans i) contents bytes in
    ap (λ ls. ls ++ spans_text true i.spans pages) (each false)
    ∙ ap (λ ls. flat_map (told false y) (things_of p) ++ ls) (each true)
    ∙ in_two_passes p y

-- **the final lines** of a machine are those of a system whose states and things it shows
pub final_text_is : (p : Source) (files : Held) (i : Image) (setup : Setup) (pages : List Page) (y : System) → KeepsConditions i → AreContents p files i → length setup.subjects ≡ length p.subjects → HasStates p setup pages y → HasBytes p files i pages y
    → final_text setup i.spans pages ≡ system_text p y
unfolding system_text
final_text_is p files i setup pages y keeps contents many states bytes =
    ap (λ ls. ls ++ (spans_text false i.spans pages ++ spans_text true i.spans pages)) (states_text_is p setup pages y states many)
    ∙ ap (λ ls. flat_map (subject_text y) p.subjects ++ ls) (spans_text_is p files i pages y keeps contents bytes)
