-- A device agrees with what the policy has at its index just where it is that of the policy.
use Rattle.std.proofs.Common.{◌≡◌, ◌∙◌, refl, sym, ap, ap₂, subst, arith, ℕ, zero, suc, ◌+◌, ◌*◌, ◌<◌, Bool, List, [], ◌∷◌, length, map, get_or, Option, Some, None}
use Rattle.std.specs.Prelude.{option_and_then, option_map}
use Rattle.std.specs.List.{AllZip, filter_map, sum_by}
use Rattle.std.proofs.lemmas.Option.{same_Some}
use Rattle.image_soundness.proofs.DevicesOf.{irqs_named}
use Rattle.image_soundness.specs.TablesOf.{AreDevices, IsDevice, IsIrq, span_ends}
use Rattle.image_checks.proofs.Places.{agrees_there, same_unmapped}
use Rattle.image_checks.proofs.SubjectsTold.{one_target, same_reached}
use Rattle.image_checks.proofs.Decided.{decided}
use Rattle.image_checks.specs.Agreement.{AreMade, DeviceAgrees, IsWindowOf}
use Rattle.image_checks.specs.Firsts.{Decides}
use Rattle.image_checks.specs.PlanFault.{AgreesAt}
use Rattle.image_pack.specs.Codes.{part_name}
use Rattle.image_pack.specs.declared.parts.DevicePart.{DevicePart}
use Rattle.image_pack.specs.declared.parts.Image.{Image}
use Rattle.image_pack.specs.declared.parts.IrqPart.{IrqPart}
use Rattle.image_pack.specs.declared.parts.WindowPart.{WindowPart}
use Rattle.image_soundness.specs.Memory.{Span, span_at}
use Rattle.image_soundness.specs.Named.{tag_at, window_memory}
use Rattle.image_soundness.specs.Sound.{IsDeviceOf, IsIrqOf}
use Rattle.image_soundness.specs.Targets.{target_index}
use Rattle.muen_num.specs.declared.devices.PortSpan.{PortSpan}
use Rattle.muen_num.specs.declared.limits.TheConstants.{PAGE}
use Rattle.muen_num.specs.declared.tag.Tag.{Tag}
use Rattle.policy_lawful.proofs.KeptLimits.{limits_kept}
use Rattle.policy_lawful.proofs.KeptRules.{rules_of}
use Rattle.policy_lawful.specs.Lawful.{IsLawful}
use Rattle.policy_lawful.specs.Resolution.{IsResolved, Resolution, source_of}
use Rattle.policy_lawful.specs.Thing.{device_memory, thing_tag}
use Rattle.policy_lawful.specs.source.Device.{Device}
use Rattle.policy_lawful.specs.source.DeviceMemory.{DeviceMemory}
use Rattle.policy_lawful.specs.source.Irq.{Irq}
use Rattle.record_text.specs.Bench.{BenchDevice}

-- ---- windows

-- the memory of a span, by its name and its size
abbrev memory_of : Option Span → Option (List ℕ × ℕ)
memory_of o = option_and_then (λ e. option_map (λ text. (text, PAGE * e.0.pages)) (part_name e.0.tag.part)) o

by_span : (o : Option Span) (owner text : List ℕ) (size : ℕ) → option_map (λ e. e.0.tag) o ≡ Some (thing_tag (device_memory owner text)) → option_map (λ e. PAGE * e.0.pages) o ≡ Some size → memory_of o ≡ Some (text, size)
by_span None owner text size tag many = absurd (cc (tag))
by_span (Some e) owner text size tag many =
    let is : e.0.tag ≡ thing_tag (device_memory owner text) = same_Some e.0.tag (thing_tag (device_memory owner text)) tag in
    let bytes : PAGE * e.0.pages ≡ size = same_Some (PAGE * e.0.pages) size many in
    ap (λ (t : Tag). option_map (λ x. (x, PAGE * e.0.pages)) (part_name t.part)) is ∙ ap (λ n. Some (text, n)) bytes

-- a span that has a printed name has a size
by_tag : (o : Option Span) (t : Tag) → option_map (λ e. e.0.tag) o ≡ Some t → (n : ℕ) × (option_map (λ e. PAGE * e.0.pages) o ≡ Some n)
by_tag None t tag = absurd (cc (tag))
by_tag (Some e) t tag = (PAGE * e.0.pages, refl)

abbrev tags : Image → List WindowPart → List (Option Tag)
tags i ws = map (λ (w : WindowPart). tag_at i w.span) ws

abbrev named_tags : List ℕ → List DeviceMemory → List (Option Tag)
named_tags owner ms = map (λ (m : DeviceMemory). Some (thing_tag (device_memory owner m.name))) ms

abbrev sizes : List DeviceMemory → List (List ℕ × ℕ)
sizes ms = map (λ (m : DeviceMemory). (m.name, m.size)) ms

-- what is told of the first and of the others
heads : {X : Type 0} (a b : X) (xs ys : List X) → a ∷ xs ≡ b ∷ ys → (a ≡ b) × (xs ≡ ys)
heads a b xs ys h = (cc (h), cc (h))

pairs : (a b : List ℕ) (m n : ℕ) → let p : List ℕ × ℕ = (a, m) in let q : List ℕ × ℕ = (b, n) in p ≡ q → m ≡ n
pairs a b m n e = ap (λ (p : List ℕ × ℕ). p.1) e

module _ (i : Image) (owner : List ℕ) where
  tags_are : (ms : List DeviceMemory) (ws : List WindowPart) → AllZip (IsWindowOf i owner) ms ws → tags i ws ≡ named_tags owner ms
  tags_are [] [] h = refl
  tags_are [] (w ∷ ws) h = absurd h
  tags_are (m ∷ ms) [] h = absurd h
  tags_are (m ∷ ms) (w ∷ ws) h = ap₂ (λ t ts. t ∷ ts) h.0.tag (tags_are ms ws h.1)

  memories_are : (ms : List DeviceMemory) (ws : List WindowPart) → AllZip (IsWindowOf i owner) ms ws → filter_map (window_memory i) ws ≡ sizes ms
  memories_are [] [] h = refl
  memories_are [] (w ∷ ws) h = absurd h
  memories_are (m ∷ ms) [] h = absurd h
  memories_are (m ∷ ms) (w ∷ ws) h =
      let here : window_memory i w ≡ Some (m.name, m.size) = by_span (span_at i w.span) owner m.name m.size h.0.tag h.0.size in
      rw here (ap (λ xs. (m.name, m.size) ∷ xs) (memories_are ms ws h.1))

  windows_are : (ms : List DeviceMemory) (ws : List WindowPart) → tags i ws ≡ named_tags owner ms → filter_map (window_memory i) ws ≡ sizes ms → AllZip (IsWindowOf i owner) ms ws
  windows_are [] [] t s = tt
  windows_are [] (w ∷ ws) t s = absurd (cc (t))
  windows_are (m ∷ ms) [] t s = absurd (cc (t))
  windows_are (m ∷ ms) (w ∷ ws) t s =
      let tag = heads (tag_at i w.span) (Some (thing_tag (device_memory owner m.name))) (tags i ws) (named_tags owner ms) t in
      let size = by_tag (span_at i w.span) (thing_tag (device_memory owner m.name)) tag.0 in
      let here : window_memory i w ≡ Some (m.name, size.0) = by_span (span_at i w.span) owner m.name size.0 tag.0 size.1 in
      let both : (m.name, size.0) ∷ filter_map (window_memory i) ws ≡ sizes (m ∷ ms) = rw here at s in
      let parts = heads (m.name, size.0) (m.name, m.size) (filter_map (window_memory i) ws) (sizes ms) both in
      (record { tag = tag.0; size = size.1 ∙ ap Some (pairs m.name m.name size.0 m.size parts.0) }, windows_are ms ws tag.1 parts.1)

-- ---- ports

one_range : (a b : PortSpan) → span_ends a ≡ span_ends b → a ≡ b
one_range a b e =
    let start : a.start ≡ b.start = ap (λ (p : ℕ × ℕ). p.0) e in
    let end : a.end ≡ b.end = ap (λ (p : ℕ × ℕ). p.1) e in
    (λ t. record { start = start t; end = end t })

-- ---- interrupts

module _ (r : Resolution) (resolved : IsResolved r) (d : Device) where
  reaches : (j : Irq) (q : IrqPart) → IsIrq r d j q → IsIrqOf (source_of r) d j q
  reaches j q is = same_reached r resolved q.target is.granted ∙ ap (option_map (target_index (source_of r))) is.target

  irqs_reach : (irqs : List Irq) (parts : List IrqPart) → AllZip (IsIrq r d) irqs parts → AllZip (IsIrqOf (source_of r) d) irqs parts
  irqs_reach [] [] are = tt
  irqs_reach [] (q ∷ qs) are = absurd are
  irqs_reach (j ∷ js) [] are = absurd are
  irqs_reach (j ∷ js) (q ∷ qs) are = (reaches j q are.0, irqs_reach js qs are.1)

  one_irqs : (irqs : List Irq) (made parts : List IrqPart) → AllZip (IsIrq r d) irqs made → map (λ q. q.name) parts ≡ map (λ j. j.name) irqs → AllZip (IsIrqOf (source_of r) d) irqs parts → parts ≡ made
  one_irqs [] [] [] are names h = refl
  one_irqs [] [] (q ∷ qs) are names h = absurd h
  one_irqs [] (m ∷ ms) qs are names h = absurd are
  one_irqs (j ∷ js) [] qs are names h = absurd are
  one_irqs (j ∷ js) (m ∷ ms) [] are names h = absurd h
  one_irqs (j ∷ js) (m ∷ ms) (q ∷ qs) are names h =
      let both = heads q.name j.name (map (λ q. q.name) qs) (map (λ j. j.name) js) names in
      let name : q.name ≡ m.name = both.0 ∙ sym are.0.name in
      let target : q.target ≡ m.target = one_target q.target m.target (h.0 ∙ sym (reaches j m are.0)) in
      let here : q ≡ m = (λ t. record { name = name t; target = target t }) in
      ap₂ (λ z zs. z ∷ zs) here (one_irqs js ms qs are.1 both.1 h.1)

-- ---- a device

module _ (r : Resolution) (resolved : IsResolved r) (i : Image) (first : ℕ) (d : Device) (made q : DevicePart) (is : IsDevice r first d made) where
  -- **a device that agrees** is that of the policy
  device_is : DeviceAgrees i d made q → IsDeviceOf (source_of r) i d q
  device_is h =
      let name = h.name in
      let ports = ap (map span_ends) h.ports ∙ is.ports in
      let memories = memories_are i d.name d.memory q.windows h.windows in
      let irqs = ap (map (λ (x : IrqPart). x.name)) h.irqs ∙ irqs_named r d d.irqs made.irqs is.irqs in
      record {
        may = (λ t. record { name = name t; ports = ports t; memories = memories t; irqs = irqs t });
        windows = tags_are i d.name d.memory q.windows h.windows;
        irqs = subst (AllZip (IsIrqOf (source_of r) d) d.irqs) (sym h.irqs) (irqs_reach r resolved d d.irqs made.irqs is.irqs);
      }

  -- and the other way round
  device_agrees : IsDeviceOf (source_of r) i d q → DeviceAgrees i d made q
  device_agrees h = record {
    name = ap (λ (b : BenchDevice). b.name) h.may;
    ports = same_unmapped span_ends one_range q.ports made.ports (ap (λ (b : BenchDevice). b.ports) h.may ∙ sym is.ports);
    irqs = one_irqs r resolved d d.irqs made.irqs q.irqs is.irqs (ap (λ (b : BenchDevice). b.irqs) h.may) h.irqs;
    windows = windows_are i d.name d.memory q.windows h.windows (ap (λ (b : BenchDevice). b.memories) h.may);
  }

-- ---- devices by index

made_at : (r : Resolution) (first : ℕ) (ds : List Device) (qs : List DevicePart) → AreDevices r first ds qs → (k : ℕ) → k < length ds → (d : Device) (q : DevicePart) → (n : ℕ) × IsDevice r n (get_or ds k d) (get_or qs k q)
unfolding AreDevices
made_at r first [] qs h k l d q = absurd (omega (arith, l))
made_at r first (x ∷ ds) [] h k l d q = absurd h
made_at r first (x ∷ ds) (y ∷ qs) h zero l d q = (first, h.0)
made_at r first (x ∷ ds) (y ∷ qs) h (suc k) l d q = made_at r (first + length x.memory) ds qs h.1 k (omega (arith, l)) d q

-- the device at an index, where what was made stands at its index
pub device_told : (r : Resolution) → IsResolved r → (i : Image) (made : List DevicePart) → AreMade r made → (k : ℕ) → k < length r.devices → k < length i.devices
    → (d : Device) (m q : DevicePart) → d ≡ get_or r.devices k d → m ≡ get_or made k m → q ≡ get_or i.devices k q
    → (b : Bool) → Decides (DeviceAgrees i d m q) b → Decides (AgreesAt (IsDeviceOf (source_of r) i) r.devices i.devices k) b
device_told r resolved i made are k low there d m q at_d at_m at_q b t =
    let is = made_at r 0 r.devices made are k low d m in
    let here : IsDevice r is.0 d m = subst (λ x. IsDevice r is.0 x m) (sym at_d) (subst (λ y. IsDevice r is.0 (get_or r.devices k d) y) (sym at_m) is.1) in
    let Holds : Device → DevicePart → Type 0 = IsDeviceOf (source_of r) i in
    decided (DeviceAgrees i d m q) (AgreesAt Holds r.devices i.devices k) b
    (λ h. agrees_there Holds r.devices i.devices k d q low there
    (subst (λ x. Holds x (get_or i.devices k q)) at_d (subst (Holds d) at_q (device_is r resolved i is.0 d m q here h))))
    (λ h. device_agrees r resolved i is.0 d m q here (subst (λ x. Holds x q) (sym at_d) (subst (Holds (get_or r.devices k d)) (sym at_q) (h d q))))
    t

-- ---- the whole

-- the devices of the source policy are those of the resolved one
pub same_devices : (r : Resolution) → r.devices ≡ (source_of r).devices
unfolding source_of
same_devices r = refl

-- a lawful policy has few windows of devices
pub few_windows : (r : Resolution) → IsLawful (source_of r) → 0 + sum_by (λ d. length d.memory) r.devices < 65536
unfolding source_of
few_windows r h = let kept = (limits_kept (source_of r) (rules_of h).rule_20).device_windows in omega (arith, kept)
