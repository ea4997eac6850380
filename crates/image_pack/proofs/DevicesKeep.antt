-- Devices that fit the form of an image keep its conditions.
use Rattle.std.proofs.Common.{◌≡◌, ◌∙◌, refl, sym, subst, ap, arith, ℕ, ◌<◌, ◌^◌, ◌&&◌, not, cond, Bool, true, false, true≢false, List, [], ◌∷◌, ◌++◌, get_or, length, map, nat_le, nat_lt, ◌==◌, Option, Some, None}
use Rattle.std.specs.Prelude.{option_to_list}
use Rattle.std.specs.Option.{option_map_or}
use Rattle.std.specs.Str.{bytes_eq}
use Rattle.std.specs.List.{All, AllZip}
use Rattle.std.proofs.lemmas.Bool.{and_parts, leb-true, ltb-true, not-true, or_parts}
use Rattle.std.proofs.lemmas.List.Elements.{All-cons, All-nil}
use Rattle.std.proofs.lemmas.List.Kept.{AllPairs-cons}
use Rattle.std.proofs.lemmas.List.Folds.{list_any-append}
use Rattle.binary_form.specs.Form.{all_fit, field, only, gap, done, number, byte, items}
use Rattle.binary_form.proofs.NameLaws.{name_kept}
use Rattle.muen_num.specs.declared.limits.TheConstants.{FIRST_VECTOR, MOST_PER_DEVICE}
use Rattle.image_pack.specs.Codes.{irq_vector_code, is_target_code, nobody, subject_code, target_of}
use Rattle.image_pack.specs.Image.{after_device, after_irq, after_window, device, irq, is_listed_name, is_window, nothing_left, outline, range, window_form, window_name}
use Rattle.image_pack.specs.ImageConditions.{AreDistinct, IsDevicePart, IsIrqPart, IsRange, IsReached, IsWindow}
use Rattle.image_pack.specs.declared.outline.Header.{Header}
use Rattle.image_pack.specs.declared.outline.Outline.{Outline}
use Rattle.image_pack.specs.declared.parts.DevicePart.{DevicePart}
use Rattle.image_pack.specs.declared.parts.Image.{Image}
use Rattle.image_pack.specs.declared.parts.IrqPart.{IrqPart}
use Rattle.muen_num.specs.declared.devices.IrqTarget.{IrqTarget}
use Rattle.muen_num.specs.declared.devices.PortSpan.{PortSpan}
use Rattle.image_pack.specs.declared.parts.WindowPart.{WindowPart}
use Rattle.image_pack.proofs.SubjectsKeep.{each_kept}
use Rattle.image_pack.proofs.DevicesFit.{AreNew}

-- ---- names that differ

-- names that differ, and from those listed
pub record Differ (names texts : List (List ℕ)) : Type 0 where
  pub new : AreNew names texts
  pub distinct : AreDistinct texts

no_names : (names : List (List ℕ)) → Differ names []
no_names names = record { new = λ k d l. absurd (omega (arith, l)); distinct = λ i j d lt l. absurd (omega (arith, l)) }

-- a new name is put before names that are new where it is listed too
pub name_before : (names : List (List ℕ)) (t : List ℕ) (texts : List (List ℕ)) → is_listed_name names t ≡ false → Differ (names ++ t ∷ []) texts → Differ names (t ∷ texts)
name_before names t texts new rest =
    let parts : (k : ℕ) (d : List ℕ) → k < length texts → (is_listed_name names (get_or texts k d) ≡ false) × (is_listed_name (t ∷ []) (get_or texts k d) ≡ false) =
    λ k d l. or_parts (is_listed_name names (get_or texts k d)) (is_listed_name (t ∷ []) (get_or texts k d)) (sym (list_any-append (λ m. bytes_eq m (get_or texts k d)) names (t ∷ [])) ∙ rest.new k d l) in
    record {
      new = All-cons (λ n. is_listed_name names n ≡ false) t texts new (λ k d l. (parts k d l).0);
      distinct = AllPairs-cons (λ a b. bytes_eq a b ≡ false) t texts (λ k d l. (or_parts (bytes_eq t (get_or texts k d)) false (parts k d l).1).0) rest.distinct;
    }

-- ---- ranges

one_range : (h : Header) (b : ℕ) (r : PortSpan) → (range h b).fits r → IsRange r
unfolding range field only done number
one_range h b r f = record { some = leb-true r.start r.end f.1.0.1; last = f.1.0.0 }

-- ---- windows

-- the name of a window that is one
named_window : (names : List (List ℕ)) (o : Option (List ℕ)) → option_map_or (λ t. not (is_listed_name names t)) o false ≡ true → (t : List ℕ) × (o ≡ Some t) × (is_listed_name names t ≡ false)
named_window names None h = absurd (true≢false (sym h))
named_window names (Some t) h = (t, refl, not-true (is_listed_name names t) h)

one_window : (o : Outline) (names : List (List ℕ)) (w : WindowPart) → (window_form o names).fits w → (t : List ℕ) × (window_name o.spans w.span ≡ Some t) × (is_listed_name names t ≡ false)
unfolding window_form field only done number is_window
one_window o names w f = named_window names (window_name o.spans w.span) f.0.1

-- the windows of a device with the names of its memories
record Named (o : Outline) (names : List (List ℕ)) (ws : List WindowPart) : Type 0 where
  texts : List (List ℕ)
  windows : AllZip (IsWindow o.spans) ws texts
  differ : Differ names texts

windows_named : (o : Outline) (names : List (List ℕ)) (ws : List WindowPart) → all_fit (after_window o) (λ n. (window_form o n).fits) names ws → Named o names ws
unfolding all_fit after_window
windows_named o names [] f = record { texts = []; windows = tt; differ = no_names names }
windows_named o names (w ∷ ws) f =
    let one = one_window o names w f.0 in
    let later = subst (λ (m : Option (List ℕ)). all_fit (after_window o) (λ n. (window_form o n).fits) (names ++ option_to_list m) ws) one.1 f.1 in
    let rest = windows_named o (names ++ one.0 ∷ []) ws later in
    record { texts = one.0 ∷ rest.texts; windows = (one.1, rest.windows); differ = name_before names one.0 rest.texts one.2 rest.differ }

-- ---- interrupts

-- a target that is read as it was written is one of the subjects
some_target : (a b c : Bool) → a ≡ false → cond a b c ≡ true → c ≡ true
some_target true b c e h = absurd (true≢false e)
some_target false b c e h = h

-- the number of nobody is no target's
somebody : (b : Bool) (x y : IrqTarget) → cond b None (Some x) ≡ Some y → b ≡ false
somebody true x y h = absurd (cc (h))
somebody false x y h = refl

target_kept : (subjects : ℕ) (t : Option IrqTarget) → t ≡ target_of (subject_code t) (irq_vector_code t) → irq_vector_code t < 2 ^ 8 → is_target_code subjects (subject_code t) (irq_vector_code t) ≡ true → IsReached subjects t
target_kept subjects None back small h = tt
target_kept subjects (Some t) back small h =
    let there : (t.subject == nobody) ≡ false = somebody (t.subject == nobody) (record { subject = t.subject; vector = t.vector }) t (sym back) in
    let two = and_parts (nat_lt t.subject subjects) (nat_le FIRST_VECTOR t.vector) (some_target (t.subject == nobody) (t.vector == 0) (nat_lt t.subject subjects && nat_le FIRST_VECTOR t.vector) there h) in
    (ltb-true t.subject subjects two.0, leb-true FIRST_VECTOR t.vector two.1, small)

record OneIrq (h : Header) (names : List (List ℕ)) (q : IrqPart) : Type 0 where
  is : IsIrqPart h.subjects q
  new : is_listed_name names q.name ≡ false

one_irq : (h : Header) (names : List (List ℕ)) (q : IrqPart) → (irq h names).fits q → OneIrq h names q
unfolding irq field only gap done byte
one_irq h names q f = record {
  is = record {
    called = name_kept q.name f.0.0;
    reached = target_kept h.subjects q.target (ap (λ (x : IrqPart). x.target) f.1.1.1) f.1.1.0.0 f.1.1.0.1;
  };
  new = not-true (is_listed_name names q.name) f.0.1;
}

record Irqs (h : Header) (names : List (List ℕ)) (qs : List IrqPart) : Type 0 where
  each : All (IsIrqPart h.subjects) qs
  differ : Differ names (map (λ q. q.name) qs)

irqs_kept : (h : Header) (names : List (List ℕ)) (qs : List IrqPart) → all_fit (after_irq h) (λ n. (irq h n).fits) names qs → Irqs h names qs
unfolding all_fit
irqs_kept h names [] f = record { each = All-nil (IsIrqPart h.subjects); differ = no_names names }
irqs_kept h names (q ∷ qs) f =
    let one = one_irq h names q f.0 in
    let rest = irqs_kept h (names ++ q.name ∷ []) qs f.1 in
    record { each = All-cons (IsIrqPart h.subjects) q qs one.is rest.each; differ = name_before names q.name (map (λ x. x.name) qs) one.new rest.differ }

-- ---- devices

record OneDevice (i : Image) (names : List (List ℕ)) (d : DevicePart) : Type 0 where
  is : IsDevicePart i d
  new : is_listed_name names d.name ≡ false

one_device : (i : Image) (names : List (List ℕ)) (d : DevicePart) → (device (outline i.header i.spans i.plan.groups) names).fits d → OneDevice i names d
unfolding device field only gap done byte items
one_device i names d f =
    let windows = windows_named (outline i.header i.spans i.plan.groups) [] d.windows f.1.1.1.1.1.0.1 in
    let irqs = irqs_kept i.header [] d.irqs f.1.1.1.1.1.1.0.1 in
    record {
      is = record {
        called = name_kept d.name f.0.0;
        few_ports = leb-true (length d.ports) MOST_PER_DEVICE f.1.0.1;
        few_windows = leb-true (length d.windows) MOST_PER_DEVICE f.1.1.0.1;
        few_irqs = leb-true (length d.irqs) MOST_PER_DEVICE f.1.1.1.0.1;
        ports = each_kept (nothing_left i.header) (λ b. (range i.header b).fits) IsRange (one_range i.header) 0 d.ports f.1.1.1.1.0.1;
        names = windows.texts;
        windows = windows.windows;
        windows_differ = windows.differ.distinct;
        irqs = irqs.each;
        irqs_differ = irqs.differ.distinct;
      };
      new = not-true (is_listed_name names d.name) f.0.1;
    }

-- devices that keep the conditions, with names that differ
record Devices (i : Image) (names : List (List ℕ)) (ds : List DevicePart) : Type 0 where
  each : All (IsDevicePart i) ds
  differ : Differ names (map (λ d. d.name) ds)

devices_from : (i : Image) (names : List (List ℕ)) (ds : List DevicePart) → all_fit (after_device (outline i.header i.spans i.plan.groups)) (λ n. (device (outline i.header i.spans i.plan.groups) n).fits) names ds → Devices i names ds
unfolding all_fit
devices_from i names [] f = record { each = All-nil (IsDevicePart i); differ = no_names names }
devices_from i names (d ∷ ds) f =
    let one = one_device i names d f.0 in
    let rest = devices_from i (names ++ d.name ∷ []) ds f.1 in
    record { each = All-cons (IsDevicePart i) d ds one.is rest.each; differ = name_before names d.name (map (λ x. x.name) ds) one.new rest.differ }

pub devices_kept : (i : Image) (ds : List DevicePart) → all_fit (after_device (outline i.header i.spans i.plan.groups)) (λ n. (device (outline i.header i.spans i.plan.groups) n).fits) [] ds → All (IsDevicePart i) ds × AreDistinct (map (λ d. d.name) ds)
devices_kept i ds f = let r = devices_from i [] ds f in (r.each, r.differ.distinct)
