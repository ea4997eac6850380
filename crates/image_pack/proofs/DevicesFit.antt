-- Devices that keep the conditions of an image fit its form.
use Rattle.std.proofs.Common.{◌≡◌, ◌∙◌, refl, sym, ap, arith, ℕ, suc, ◌<◌, ◌≤◌, ◌^◌, not, true, false, List, [], inl, inr, ◌∷◌, ◌++◌, get_or, length, map, ne_eqb, le-leb, lt-ltb, Option, Some, None}
use Rattle.std.specs.Str.{bytes_eq}
use Rattle.std.specs.List.{All, AllZip, list_any}
use Rattle.std.proofs.lemmas.Bool.{and_from, cases_eq, or_from}
use Rattle.std.proofs.lemmas.List.Elements.{All-head, All-tail}
use Rattle.std.proofs.lemmas.List.Folds.{list_any-append}
use Rattle.binary_form.specs.Form.{all_fit, field, only, gap, done, number, byte, items}
use Rattle.binary_form.proofs.NameLaws.{name_fits}
use Rattle.image_pack.specs.Codes.{irq_vector_code, is_target_code, subject_code, target_of}
use Rattle.image_pack.specs.Image.{after_device, after_irq, after_window, device, irq, is_listed_name, is_window, nothing_left, outline, range, window_form, window_name}
use Rattle.image_pack.specs.ImageConditions.{AreDistinct, IsDevicePart, IsIrqPart, IsRange, IsReached, IsWindow}
use Rattle.image_pack.specs.declared.outline.Header.{Header}
use Rattle.image_pack.specs.declared.outline.Outline.{Outline}
use Rattle.image_pack.specs.declared.parts.DevicePart.{DevicePart}
use Rattle.image_pack.specs.declared.parts.Image.{Image}
use Rattle.image_pack.specs.declared.parts.IrqPart.{IrqPart}
use Rattle.muen_num.specs.declared.devices.IrqTarget.{IrqTarget}
use Rattle.muen_num.specs.declared.devices.PortSpan.{PortSpan}
use Rattle.image_pack.specs.declared.parts.SpanPart.{SpanPart}
use Rattle.image_pack.specs.declared.parts.WindowPart.{WindowPart}
use Rattle.image_pack.proofs.SubjectsFit.{each_fits}

-- ---- names that differ

-- none of these names is listed
abbrev pub AreNew : List (List ℕ) → List (List ℕ) → Type 0
AreNew names texts = All (λ t. is_listed_name names t ≡ false) texts

-- those behind a name are new where it is listed too
pub still_new : (names : List (List ℕ)) (t : List ℕ) (texts : List (List ℕ)) → AreNew names (t ∷ texts) → AreDistinct (t ∷ texts) → AreNew (names ++ t ∷ []) texts
still_new names t texts new differ k d l =
    list_any-append (λ m. bytes_eq m (get_or texts k d)) names (t ∷ [])
    ∙ or_from (list_any (λ m. bytes_eq m (get_or texts k d)) names) (list_any (λ m. bytes_eq m (get_or texts k d)) (t ∷ [])) (new (suc k) d (omega (arith, l))) (or_from (bytes_eq t (get_or texts k d)) false (differ 0 (suc k) d (omega arith) (omega (arith, l))) refl)

pub distinct_behind : (t : List ℕ) (texts : List (List ℕ)) → AreDistinct (t ∷ texts) → AreDistinct texts
distinct_behind t texts h = λ i j d lt l. h (suc i) (suc j) d (omega (arith, lt)) (omega (arith, l))

-- ---- ranges

one_range : (h : Header) (b : ℕ) (r : PortSpan) → IsRange r → (range h b).fits r
unfolding range field only done number
one_range h b r k =
    let some : r.start ≤ r.end = k.some in
    let last : r.end < 65536 = k.last in
    (omega (arith, some, last), ((last, le-leb _ _ k.some), refl))

-- ---- windows

window_there : (spans : List SpanPart) (n m : ℕ) (t : List ℕ) → All (λ s. s.number < m) spans → window_name spans n ≡ Some t → n < m
unfolding window_name
window_there [] n m t all h = absurd cc
window_there (s ∷ ss) n m t all h =
    elim (cases_eq s.number n) [
      | inl e ↦ let low : s.number < m = All-head (λ x. x.number < m) s ss all in omega (arith, e, low)
      | inr ne ↦ window_there ss n m t (All-tail (λ x. x.number < m) s ss all) (rw (ne_eqb s.number n ne) at h)
    ]

one_window : (o : Outline) (names : List (List ℕ)) (w : WindowPart) (t : List ℕ) → All (λ s. s.number < 2 ^ 16) o.spans → IsWindow o.spans w t → is_listed_name names t ≡ false → (window_form o names).fits w
unfolding window_form field only done number is_window
one_window o names w t low h new = ((window_there o.spans w.span (2 ^ 16) t low h, rw (h, new) refl), refl)

windows_fit : (o : Outline) (names : List (List ℕ)) (ws : List WindowPart) (ts : List (List ℕ)) → All (λ s. s.number < 2 ^ 16) o.spans → AllZip (IsWindow o.spans) ws ts → AreDistinct ts → AreNew names ts
    → all_fit (after_window o) (λ n. (window_form o n).fits) names ws
unfolding all_fit after_window
windows_fit o names [] ts low zip differ new = tt
windows_fit o names (w ∷ ws) [] low zip differ new = absurd zip
windows_fit o names (w ∷ ws) (t ∷ ts) low zip differ new = (
  one_window o names w t low zip.0 (All-head (λ n. is_listed_name names n ≡ false) t ts new),
  rw zip.0 (windows_fit o (names ++ t ∷ []) ws ts low zip.1 (distinct_behind t ts differ) (still_new names t ts new differ)),
)

-- ---- interrupts

reached_passes : (subjects : ℕ) (t : Option IrqTarget) → subjects ≤ 32 → IsReached subjects t → is_target_code subjects (subject_code t) (irq_vector_code t) ≡ true
reached_passes subjects None few h = refl
reached_passes subjects (Some t) few h = let low : t.subject < subjects = h.0 in rw (ne_eqb t.subject 255 (λ e. absurd (omega (arith, e, low, few)))) (and_from _ _ (lt-ltb _ _ h.0) (le-leb 32 t.vector h.1))

reached_decodes : (subjects : ℕ) (t : Option IrqTarget) → subjects ≤ 32 → IsReached subjects t → target_of (subject_code t) (irq_vector_code t) ≡ t
reached_decodes subjects None few h = refl
reached_decodes subjects (Some t) few h = let low : t.subject < subjects = h.0 in rw (ne_eqb t.subject 255 (λ e. absurd (omega (arith, e, low, few)))) refl

code_small : (subjects : ℕ) (t : Option IrqTarget) → subjects ≤ 32 → IsReached subjects t → subject_code t < 256
code_small subjects None few h = omega arith
code_small subjects (Some t) few h = let low : t.subject < subjects = h.0 in omega (arith, low, few)

vector_small : (subjects : ℕ) (t : Option IrqTarget) → IsReached subjects t → irq_vector_code t < 256
vector_small subjects None h = omega arith
vector_small subjects (Some t) h = h.2

one_irq : (h : Header) (names : List (List ℕ)) (q : IrqPart) → h.subjects ≤ 32 → IsIrqPart h.subjects q → is_listed_name names q.name ≡ false → (irq h names).fits q
unfolding irq field only gap done byte
one_irq h names q few k new = (
  (name_fits q.name k.called, ap not new),
  (
    code_small h.subjects q.target few k.reached,
    (
      (vector_small h.subjects q.target k.reached, reached_passes h.subjects q.target few k.reached),
      ap (λ t. record { name = q.name; target = t }) (sym (reached_decodes h.subjects q.target few k.reached)),
    ),
  ),
)

irqs_fit : (h : Header) (names : List (List ℕ)) (qs : List IrqPart) → h.subjects ≤ 32 → All (IsIrqPart h.subjects) qs → AreDistinct (map (λ q. q.name) qs) → AreNew names (map (λ q. q.name) qs)
    → all_fit (after_irq h) (λ n. (irq h n).fits) names qs
unfolding all_fit
irqs_fit h names [] few all differ new = tt
irqs_fit h names (q ∷ qs) few all differ new = (
  one_irq h names q few (All-head (IsIrqPart h.subjects) q qs all) (All-head (λ n. is_listed_name names n ≡ false) q.name (map (λ x. x.name) qs) new),
  irqs_fit h (names ++ q.name ∷ []) qs few (All-tail (IsIrqPart h.subjects) q qs all) (distinct_behind q.name (map (λ x. x.name) qs) differ) (still_new names q.name (map (λ x. x.name) qs) new differ),
)

-- ---- devices

-- what the parts of an image before its devices are
pub record FewBefore (i : Image) : Type 0 where
  pub subjects : i.header.subjects ≤ 32
  pub spans : All (λ s. s.number < 2 ^ 16) i.spans

one_device : (i : Image) (names : List (List ℕ)) (d : DevicePart) → FewBefore i → IsDevicePart i d → is_listed_name names d.name ≡ false → (device (outline i.header i.spans i.plan.groups) names).fits d
unfolding device field only gap done byte items
one_device i names d few k new =
    let ports : length d.ports ≤ 16 = k.few_ports in
    let windows : length d.windows ≤ 16 = k.few_windows in
    let irqs : length d.irqs ≤ 16 = k.few_irqs in
    let o = outline i.header i.spans i.plan.groups in (
      (name_fits d.name k.called, ap not new),
      (
        (omega (arith, ports), le-leb _ _ k.few_ports),
        (
          (omega (arith, windows), le-leb _ _ k.few_windows),
          (
            (omega (arith, irqs), le-leb _ _ k.few_irqs),
            (
              (refl, each_fits (nothing_left i.header) (λ b. (range i.header b).fits) IsRange (λ b r e. one_range i.header b r e) 0 d.ports k.ports),
              (
                (refl, windows_fit o [] d.windows k.names few.spans k.windows k.windows_differ (λ n e l. refl)),
                (
                  (refl, irqs_fit i.header [] d.irqs few.subjects k.irqs k.irqs_differ (λ n e l. refl)),
                  refl,
                ),
              ),
            ),
          ),
        ),
      ),
    )

pub devices_fit : (i : Image) (names : List (List ℕ)) (ds : List DevicePart) → FewBefore i → All (IsDevicePart i) ds → AreDistinct (map (λ d. d.name) ds) → AreNew names (map (λ d. d.name) ds)
    → all_fit (after_device (outline i.header i.spans i.plan.groups)) (λ n. (device (outline i.header i.spans i.plan.groups) n).fits) names ds
unfolding all_fit
devices_fit i names [] few all differ new = tt
devices_fit i names (d ∷ ds) few all differ new = (
  one_device i names d few (All-head (IsDevicePart i) d ds all) (All-head (λ n. is_listed_name names n ≡ false) d.name (map (λ x. x.name) ds) new),
  devices_fit i (names ++ d.name ∷ []) ds few (All-tail (IsDevicePart i) d ds all) (distinct_behind d.name (map (λ x. x.name) ds) differ) (still_new names d.name (map (λ x. x.name) ds) new differ),
)
