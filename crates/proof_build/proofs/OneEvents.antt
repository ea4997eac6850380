-- The tables of events of subjects, and the devices of an image, are one: what they say by names is all of them.
use Rattle.std.proofs.Common.{◌≡◌, ℕ, ◌+◌, ◌<◌, List, [], ◌∷◌, length, get_or, Option, Some, None, refl, sym, ap, ap₂, ◌∙◌, arith}
use Rattle.std.specs.Prelude.{option_map}
use Rattle.std.specs.List.{AllZip}
use Rattle.std.proofs.lemmas.List.{get_or_default, same_lists}
use Rattle.std.proofs.lemmas.Option.{same_Some}
use Rattle.event_emit.specs.Tables.{AreTables}
use Rattle.event_emit.specs.declared.event_tables.EventTables.{EventTables}
use Rattle.expand_kernel.specs.Grants.{target_named}
use Rattle.image_pack.specs.ImageConditions.{IsReached}
use Rattle.image_pack.specs.declared.parts.DevicePart.{DevicePart}
use Rattle.image_pack.specs.declared.parts.EventPart.{EventPart}
use Rattle.image_pack.specs.declared.parts.IrqPart.{IrqPart}
use Rattle.image_pack.specs.declared.parts.WindowPart.{WindowPart}
use Rattle.image_soundness.specs.TablesOf.{AreDevices, IsDevice, IsEntry, IsIrq, IsTable, irq_named, part_raised, span_ends}
use Rattle.muen_num.specs.declared.devices.IrqTarget.{IrqTarget}
use Rattle.muen_num.specs.declared.devices.PortSpan.{PortSpan}
use Rattle.policy_lawful.proofs.UniqueNames.{subjects_unique}
use Rattle.policy_lawful.specs.Events.{Raised, Target}
use Rattle.policy_lawful.specs.Resolution.{IsResolved, Resolution}
use Rattle.policy_lawful.specs.declared.resolved.Subject.{Subject}
use Rattle.policy_lawful.specs.source.Device.{Device}
use Rattle.policy_lawful.specs.source.Irq.{Irq}
use Rattle.policy_lawful.specs.source.SourceWay.{SourceWay}
use Rattle.policy_lawful.specs.source.SourceWay.TheVariants.{Call, Trap}
use Rattle.image_soundness.proofs.ListsTold.{beside_one, mapped_one, named_one}

module _ (r : Resolution) (h : IsResolved r) where
  -- a subject by its name
  subject_one : (j k : ℕ) (u v : Option ℕ) → j < length r.subjects → k < length r.subjects → target_named r j u ≡ target_named r k v → j ≡ k
  subject_one j k u v a b e = named_one (λ (s : Subject). s.name) r.subjects (subjects_unique r h.names) j k a b (ap (λ (t : Target). t.subject) e)

  -- ---- events

  entry_one : (a b : Option EventPart) → IsEntry (length r.subjects) a → IsEntry (length r.subjects) b → option_map (part_raised r) a ≡ option_map (part_raised r) b → a ≡ b
  entry_one None None x y e = refl
  entry_one None (Some b) x y e = absurd (cc)
  entry_one (Some a) None x y e = absurd (cc)
  entry_one (Some a) (Some b) x y e =
      let same = same_Some (part_raised r a) (part_raised r b) e in
      let mode = ap (λ (t : Raised). t.mode) same in
      let target = subject_one a.target b.target a.vector b.vector x.0 y.0 (ap (λ (t : Raised). t.target) same) in
      let vector = ap (λ (t : Raised). t.target.vector) same in
      λ i. Some (record { mode = mode i; target = target i; vector = vector i })

  table_one : (s : Subject) (way : ℕ → SourceWay) (t u : List (Option EventPart)) → IsTable r s way t → IsTable r s way u → t ≡ u
  table_one s way t u x y =
      let many = x.many in
      let as_many = y.many in
      same_lists t u (x.many ∙ sym y.many)
      (λ k d l.
      let within : k < length u = omega (arith, l, many, as_many) in
      get_or_default t k d None l
      ∙ entry_one (get_or t k None) (get_or u k None) (x.entries k None l) (y.entries k None within) (x.raises k (omega (arith, l, many)) ∙ sym (y.raises k (omega (arith, l, many))))
      ∙ sym (get_or_default u k d None within))

  pair_one : (s : Subject) (t u : EventTables) → AreTables r s t → AreTables r s u → t ≡ u
  pair_one s t u x y =
      let calls = table_one s Call t.calls u.calls x.calls y.calls in
      let traps = table_one s Trap t.traps u.traps x.traps y.traps in
      λ i. record { calls = calls i; traps = traps i }

  -- **the tables of events**
  pub tables_are_one : (ts us : List EventTables) → AllZip (AreTables r) r.subjects ts → AllZip (AreTables r) r.subjects us → ts ≡ us
  tables_are_one ts us x y = beside_one (AreTables r) pair_one r.subjects ts us x y

  -- ---- devices

  target_one : (a b : Option IrqTarget) → IsReached (length r.subjects) a → IsReached (length r.subjects) b → option_map (irq_named r) a ≡ option_map (irq_named r) b → a ≡ b
  target_one None None x y e = refl
  target_one None (Some b) x y e = absurd (cc)
  target_one (Some a) None x y e = absurd (cc)
  target_one (Some a) (Some b) x y e =
      let same = same_Some (irq_named r a) (irq_named r b) e in
      let subject = subject_one a.subject b.subject (Some a.vector) (Some b.vector) x.0 y.0 same in
      let vector = same_Some a.vector b.vector (ap (λ (t : Target). t.vector) same) in
      λ i. Some (record { subject = subject i; vector = vector i })

  irq_one : (d : Device) (i : Irq) (p q : IrqPart) → IsIrq r d i p → IsIrq r d i q → p ≡ q
  irq_one d i p q x y =
      let name = x.name ∙ sym y.name in
      let target = target_one p.target q.target x.granted y.granted (x.target ∙ sym y.target) in
      λ j. record { name = name j; target = target j }

  abbrev span_of : ℕ × ℕ → PortSpan
  span_of e = record { start = e.0; end = e.1 }

  abbrev window_of : ℕ → WindowPart
  window_of n = record { span = n }

  device_one : (first : ℕ) (d : Device) (p q : DevicePart) → IsDevice r first d p → IsDevice r first d q → p ≡ q
  device_one first d p q x y =
      let name = x.name ∙ sym y.name in
      let ports = mapped_one span_ends span_of (λ s. refl) p.ports q.ports (x.ports ∙ sym y.ports) in
      let windows = mapped_one (λ (w : WindowPart). w.span) window_of (λ w. refl) p.windows q.windows (x.windows ∙ sym y.windows) in
      let irqs = beside_one (IsIrq r d) (irq_one d) d.irqs p.irqs q.irqs x.irqs y.irqs in
      λ i. record { name = name i; ports = ports i; windows = windows i; irqs = irqs i }

  -- **the devices**
  pub devices_are_one : (first : ℕ) (ds : List Device) (ps qs : List DevicePart) → AreDevices r first ds ps → AreDevices r first ds qs → ps ≡ qs
  unfolding AreDevices
  devices_are_one first [] [] [] x y = refl
  devices_are_one first [] [] (q ∷ qs) x y = absurd y
  devices_are_one first [] (p ∷ ps) qs x y = absurd x
  devices_are_one first (d ∷ ds) [] qs x y = absurd x
  devices_are_one first (d ∷ ds) (p ∷ ps) [] x y = absurd y
  devices_are_one first (d ∷ ds) (p ∷ ps) (q ∷ qs) x y =
      ap₂ (λ z zs. z ∷ zs) (device_one first d p q x.0 y.0) (devices_are_one (first + length d.memory) ds ps qs x.1 y.1)
