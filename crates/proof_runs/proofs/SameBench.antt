-- The bench of an image, which says what a record may name, is the same by spans and by what is on them.
use Rattle.std.proofs.Common.{◌≡◌, ◌*◌, ◌∷◌, ◌++◌, ◌∙◌}
use Rattle.std.proofs.Common.{ℕ, Bool, true, false, cond, List, [], map, zip, Option, Some, None, find, option_and_then, option_map, refl, sym, ap, ap₂}
use Rattle.std.specs.Prelude.{◌==◌, if◌then◌else◌, option_to_list}
use Rattle.std.specs.List.{All, AllZip, cons_option, filter_map, flat_map}
use Rattle.std.proofs.lemmas.List.Elements.{All-head, All-tail}
use Rattle.muen_num.specs.declared.limits.TheConstants.{PAGE}
use Rattle.image_load.specs.Resolving.{NamedMemory, bench_device_of, image_bench, memory_of_span, memory_of_window}
use Rattle.image_soundness.specs.Memory.{Span}
use Rattle.image_soundness.specs.Named.{bench_device, bench_of, window_memory}
use Rattle.image_pack.specs.Codes.{is_device, part_name}
use Rattle.image_pack.specs.Image.{device_name, window_name}
use Rattle.image_pack.specs.ImageConditions.{IsContent, IsDevicePart, IsWindow, KeepsConditions}
use Rattle.image_pack.specs.declared.parts.DevicePart.{DevicePart}
use Rattle.image_pack.specs.declared.parts.Image.{Image}
use Rattle.image_pack.specs.declared.parts.SpanPart.{SpanPart}
use Rattle.image_pack.specs.declared.parts.WindowPart.{WindowPart}

-- the first of some spans, or what is found of the others
found_if : (b : Bool) (s : SpanPart) (c : List ℕ) (o : Option Span) (p : Option SpanPart) → option_map (λ (e : Span). e.0) o ≡ p
    → option_map (λ (e : Span). e.0) (cond b (Some (s, c)) o) ≡ cond b (Some s) p
found_if true s c o p h = refl
found_if false s c o p h = h

-- a span is found with what it has
found_span : (n : ℕ) (spans : List SpanPart) (contents : List (List ℕ)) → AllZip IsContent spans contents
    → option_map (λ (e : Span). e.0) (find (λ e. e.0.number == n) (zip spans contents)) ≡ find (λ s. s.number == n) spans
found_span n [] [] h = refl
found_span n [] (c ∷ cs) h = absurd h
found_span n (s ∷ ss) [] h = absurd h
found_span n (s ∷ ss) (c ∷ cs) h =
    found_if (s.number == n) s c (find (λ e. e.0.number == n) (zip ss cs)) (find (λ s. s.number == n) ss) (found_span n ss cs h.1)

-- what a record knows of a memory
abbrev pub name_and_size : NamedMemory → List ℕ × ℕ
name_and_size m = (m.name, m.bytes)

-- a memory of a device that lies in a span: its name, and how long it is
abbrev memory_in : SpanPart → Option (List ℕ × ℕ)
memory_in s = option_map (λ text. (text, PAGE * s.pages)) (part_name s.tag.part)

-- .. with the content of the span, or without
memory_with : (o : Option Span)
    → option_and_then (λ e. option_map (λ text. (text, PAGE * e.0.pages)) (part_name e.0.tag.part)) o
    ≡ option_and_then memory_in (option_map (λ (e : Span). e.0) o)
memory_with None = refl
memory_with (Some e) = refl

-- a memory by its name and its span
abbrev pub memory_from : SpanPart → List ℕ → NamedMemory
memory_from s name = record { name = name; address = s.address; bytes = PAGE * s.pages }

-- .. has that name, and is as long
named_in : (s : SpanPart) (o : Option (List ℕ)) → option_map name_and_size (option_map (memory_from s) o) ≡ option_map (λ text. (text, PAGE * s.pages)) o
named_in s None = refl
named_in s (Some text) = refl

-- .. also where only spans of devices have one
named_if : (s : SpanPart) (text : List ℕ) (b : Bool) → (if b then part_name s.tag.part else None) ≡ Some text
    → option_map name_and_size (option_map (memory_from s) (if b then part_name s.tag.part else None)) ≡ memory_in s
named_if s text true h = named_in s (part_name s.tag.part)
named_if s text false h = cc

-- .. of whatever span
named_memory : (text : List ℕ) (o : Option SpanPart) → option_and_then device_name o ≡ Some text
    → option_map name_and_size (option_and_then memory_of_span o) ≡ option_and_then memory_in o
named_memory text None h = refl
named_memory text (Some s) h = named_if s text (is_device s.kind) h

-- a window shows the same memory either way
window_same : (i : Image) (w : WindowPart) (text : List ℕ) → AllZip IsContent i.spans i.contents → IsWindow i.spans w text
    → option_map name_and_size (memory_of_window i.spans w) ≡ window_memory i w
unfolding window_name
window_same i w text contents h =
    named_memory text (find (λ s. s.number == w.span) i.spans) h
    ∙ ap (option_and_then memory_in) (sym (found_span w.span i.spans i.contents contents))
    ∙ sym (memory_with (find (λ e. e.0.number == w.span) (zip i.spans i.contents)))

-- one more element, if it is there
one_more : {X Y : Type 0} (f : X → Y) (o : Option X) (xs : List X) → map f (option_to_list o ++ xs) ≡ cons_option (option_map f o) (map f xs)
one_more f None xs = refl
one_more f (Some x) xs = refl

-- so do the windows of a device
windows_same : (i : Image) → AllZip IsContent i.spans i.contents → (ws : List WindowPart) (names : List (List ℕ))
    → AllZip (IsWindow i.spans) ws names → map name_and_size (flat_map (λ w. option_to_list (memory_of_window i.spans w)) ws) ≡ filter_map (window_memory i) ws
windows_same i contents [] [] h = refl
windows_same i contents [] (n ∷ ns) h = absurd h
windows_same i contents (w ∷ ws) [] h = absurd h
windows_same i contents (w ∷ ws) (n ∷ ns) h =
    one_more name_and_size (memory_of_window i.spans w) (flat_map (λ w. option_to_list (memory_of_window i.spans w)) ws)
    ∙ ap₂ cons_option (window_same i w n contents h.0) (windows_same i contents ws ns h.1)

-- and a device is the same
device_same : (i : Image) (d : DevicePart) → AllZip IsContent i.spans i.contents → IsDevicePart i d → bench_device_of i.spans d ≡ bench_device i d
device_same i d contents h =
    ap (λ ms. record { name = d.name; ports = map (λ r. (r.start, r.end)) d.ports; memories = ms; irqs = map (λ q. q.name) d.irqs })
    (windows_same i contents d.windows h.names h.windows)

-- .. and so are all
devices_same : (i : Image) → AllZip IsContent i.spans i.contents → (ds : List DevicePart) → All (IsDevicePart i) ds
    → map (bench_device_of i.spans) ds ≡ map (bench_device i) ds
devices_same i contents [] h = refl
devices_same i contents (d ∷ ds) h =
    ap₂ (λ b bs. b ∷ bs) (device_same i d contents (All-head (IsDevicePart i) d ds h)) (devices_same i contents ds (All-tail (IsDevicePart i) d ds h))

-- what a record may name of an image is written in two ways
pub same_bench : (i : Image) → KeepsConditions i → image_bench i ≡ bench_of i
unfolding bench_of
same_bench i keeps = ap (λ ds. record { cpus = i.header.cpus; devices = ds }) (devices_same i keeps.contents i.devices keeps.devices)
