-- What an address may touch by a window counts as a flow.
use Rattle.std.proofs.Common.{arith, ◌≡◌, ℕ, Bool, true, false, List, [], ◌∷◌, length, map, filter, Some, None, refl, ap, subst, ◌∙◌}
use Rattle.std.specs.Prelude.{◌==◌, ◌&&◌, ◌||◌, ◌-◌, not, if◌then◌else◌}
use Rattle.std.specs.List.{find, flat_map, list_any}
use Rattle.std.specs.Str.{bytes_eq}
use Rattle.std.proofs.lemmas.Bool.{and_from, and_parts, or_left, or_right}
use Rattle.std.proofs.lemmas.Bool.Decides.{nat_tests}
use Rattle.muen_num.specs.declared.access.AccessKind.{AccessKind}
use Rattle.muen_num.specs.declared.access.AccessKind.TheVariants.{Read, Write}
use Rattle.muen_num.proofs.Lookups.{same_names, same_self}
use Rattle.muen_num.proofs.Members.{In, all_from, any_in, any_some, at_in, filter_some, find_in, flat_some, map_some}
use Rattle.policy_lawful.proofs.SameThings.{same_thing_self}
use Rattle.policy_lawful.specs.Dma.{dma_windows}
use Rattle.policy_lawful.specs.Events.{Target, irq_of}
use Rattle.policy_lawful.specs.Lawful.{IsLawful}
use Rattle.policy_lawful.specs.Rights.{allows}
use Rattle.policy_lawful.specs.Thing.{Thing, device_memory, same_thing}
use Rattle.policy_lawful.specs.Windows.{Window, access_by, access_of, byte, holds, violation, windows_of}
use Rattle.policy_lawful.specs.source.Device.{Device}
use Rattle.policy_lawful.specs.source.DeviceUse.{DeviceUse}
use Rattle.policy_lawful.specs.source.IrqUse.{IrqUse}
use Rattle.policy_lawful.specs.source.Source.{Source}
use Rattle.policy_lawful.specs.source.Subject.{Subject}
use Rattle.device_flows.specs.Accesses.{EveryAccessCounts, LeadBothWays}
use Rattle.device_flows.specs.Ends.{subject, device, by_dma, by_interrupt, by_ports, by_registers, hears, is_memory_of, leads_to, tells}
use Rattle.device_flows.proofs.HeldFlows.{names_unique}

-- ---- windows by what an address may touch

-- a window with the right on this thing
record WindowOn (ws : List (Window Thing)) (kind : AccessKind) (thing : Thing) : Type 0 where
  one : Window Thing
  within : In one ws
  right : allows one.rights kind ≡ true
  on : one.thing ≡ thing

touched : (w : Window Thing) (address offset : ℕ) (kind : AccessKind) (thing : Thing) (b : Bool) → (if b then byte w.thing (address - w.guest) else violation (Some w.rights)) ≡ byte thing offset → (b ≡ true) × (w.thing ≡ thing)
touched w address offset kind thing true h = (refl, cc)
touched w address offset kind thing false h = absurd (cc)

window_on : (ws : List (Window Thing)) (address offset : ℕ) (kind : AccessKind) (thing : Thing) → access_of ws address kind ≡ byte thing offset → WindowOn ws kind thing
window_on ws address offset kind thing h =
    elim (find (λ w. holds w address) ws) as (λ o. find (λ w. holds w address) ws ≡ o → access_by o address kind ≡ byte thing offset → WindowOn ws kind thing) [
      | None ↦ λ e t. absurd (cc)
      | Some w ↦ λ e t.
          let both = touched w address offset kind thing (allows w.rights kind) t in
          record { one = w; within = (find_in (λ w. holds w address) ws w e).0; right = both.0; on = both.1 }
    ] refl h

module _ (p : Source) where
  -- ---- how a subject and a device come together

  both_by_ports : (s : Subject) (d : Device) → by_ports s d ≡ true → LeadBothWays p s d
  unfolding tells hears
  both_by_ports s d h =
      let first = or_left (by_ports s d) (by_registers p s d) h in
      record {
        tells = or_left (by_ports s d || by_registers p s d) (by_dma p Read Write s d) first;
        hears = or_left (by_ports s d || by_registers p s d || by_interrupt s d) (by_dma p Write Read s d) (or_left (by_ports s d || by_registers p s d) (by_interrupt s d) first);
      }

  both_by_registers : (s : Subject) (d : Device) → by_registers p s d ≡ true → LeadBothWays p s d
  unfolding tells hears
  both_by_registers s d h =
      let second = or_right (by_ports s d) (by_registers p s d) h in
      record {
        tells = or_left (by_ports s d || by_registers p s d) (by_dma p Read Write s d) second;
        hears = or_left (by_ports s d || by_registers p s d || by_interrupt s d) (by_dma p Write Read s d) (or_left (by_ports s d || by_registers p s d) (by_interrupt s d) second);
      }

  hears_by_interrupt : (s : Subject) (d : Device) → by_interrupt s d ≡ true → hears p s d ≡ true
  unfolding hears
  hears_by_interrupt s d h =
      or_left (by_ports s d || by_registers p s d || by_interrupt s d) (by_dma p Write Read s d) (or_right (by_ports s d || by_registers p s d) (by_interrupt s d) h)

  hears_by_dma : (s : Subject) (d : Device) → by_dma p Write Read s d ≡ true → hears p s d ≡ true
  unfolding hears
  hears_by_dma s d h = or_right (by_ports s d || by_registers p s d || by_interrupt s d) (by_dma p Write Read s d) h

  tells_by_dma : (s : Subject) (d : Device) → by_dma p Read Write s d ≡ true → tells p s d ≡ true
  unfolding tells
  tells_by_dma s d h = or_right (by_ports s d || by_registers p s d) (by_dma p Read Write s d) h

  -- ---- each kind of access

  not_none : {X : Type 0} (xs : List X) (x : X) → In x xs → not (length xs == 0) ≡ true
  not_none [] x i = absurd i
  not_none (y ∷ ys) x i = grind (arith, nat_tests)

  of_ports : (s : Subject) (d : Device) (port : List ℕ) → list_any (λ x. bytes_eq x.device d.name && list_any (λ name. bytes_eq name port) x.io_ports) s.devices ≡ true → by_ports s d ≡ true
  of_ports s d port h =
      let x = any_some (λ (x : DeviceUse). bytes_eq x.device d.name && list_any (λ name. bytes_eq name port) x.io_ports) s.devices h in
      let both = and_parts (bytes_eq x.one.device d.name) (list_any (λ name. bytes_eq name port) x.one.io_ports) x.passes in
      let name = any_some (λ name. bytes_eq name port) x.one.io_ports both.1 in
      any_in (λ (x : DeviceUse). bytes_eq x.device d.name && not (length x.io_ports == 0)) s.devices x.one x.within
      (and_from (bytes_eq x.one.device d.name) (not (length x.one.io_ports == 0)) both.0 (not_none x.one.io_ports name.one name.within))

  of_memory : (s : Subject) (d : Device) (name : List ℕ) (address offset : ℕ) (kind : AccessKind) → access_of (windows_of p s) address kind ≡ byte (device_memory d.name name) offset → by_registers p s d ≡ true
  of_memory s d name address offset kind h =
      let w = window_on (windows_of p s) address offset kind (device_memory d.name name) h in
      any_in (λ (v : Window Thing). is_memory_of d.name v.thing) (windows_of p s) w.one w.within (ap (is_memory_of d.name) w.on ∙ same_self d.name)

  of_dma : (own other : AccessKind) (s : Subject) (d : Device) (thing : Thing) → WindowOn (dma_windows p d.name) own thing → WindowOn (windows_of p s) other thing → by_dma p own other s d ≡ true
  of_dma own other s d thing w v =
      let same : same_thing w.one.thing v.one.thing ≡ true = ap (λ t. same_thing t v.one.thing) w.on ∙ ap (same_thing thing) v.on ∙ same_thing_self thing in
      any_in (λ (w : Window Thing). allows w.rights own && list_any (λ v. allows v.rights other && same_thing w.thing v.thing) (windows_of p s)) (dma_windows p d.name) w.one w.within
      (and_from (allows w.one.rights own) (list_any (λ v. allows v.rights other && same_thing w.one.thing v.thing) (windows_of p s)) w.right
      (any_in (λ (v : Window Thing). allows v.rights other && same_thing w.one.thing v.thing) (windows_of p s) v.one v.within
      (and_from (allows v.one.rights other) (same_thing w.one.thing v.one.thing) v.right same)))

  module _ (lawful : IsLawful p) where
    of_interrupt : (s : Subject) → In s p.subjects → (d : Device) (irq : List ℕ) (t : Target) → irq_of p d.name irq ≡ Some t → bytes_eq t.subject s.name ≡ true → by_interrupt s d ≡ true
    unfolding irq_of
    of_interrupt s i d irq t h named =
        let granted : IrqUse → DeviceUse → Bool = λ i x. bytes_eq x.device d.name && bytes_eq i.irq irq in
        let to : List ℕ → IrqUse → Target = λ name i. record { subject = name; vector = Some i.vector } in
        let of_use : Subject → DeviceUse → List Target = λ s x. map (to s.name) (filter (λ i. granted i x) x.irqs) in
        let part = flat_some (λ (s : Subject). flat_map (of_use s) s.devices) p.subjects t (at_in (flat_map (λ (s : Subject). flat_map (of_use s) s.devices) p.subjects) 0 t h) in
        let use_ = flat_some (of_use part.one) part.one.devices t part.part in
        let source = map_some (to part.one.name) (filter (λ i. granted i use_.one) use_.one.irqs) t use_.part in
        let kept = filter_some (λ i. granted i use_.one) use_.one.irqs source.one source.within in
        let both = and_parts (bytes_eq use_.one.device d.name) (bytes_eq source.one.irq irq) kept.1 in
        let name : part.one.name ≡ s.name = ap (λ (t : Target). t.subject) source.image ∙ same_names t.subject s.name named in
        let same : part.one ≡ s = (names_unique p lawful).same part.one s part.within i name in
        subst (λ s. by_interrupt s d ≡ true) same
        (any_in (λ (x : DeviceUse). bytes_eq x.device d.name && not (length x.irqs == 0)) part.one.devices use_.one use_.within
        (and_from (bytes_eq use_.one.device d.name) (not (length use_.one.irqs == 0)) both.0 (not_none use_.one.irqs source.one kept.0)))

pub every_access : (p : Source) → IsLawful p → EveryAccessCounts p
every_access p lawful = record {
  ports = λ s d port h. both_by_ports p s d (of_ports p s d port h);
  memory = λ s d name address offset kind h. both_by_registers p s d (of_memory p s d name address offset kind h);
  interrupts = all_from (λ s. (d : Device) (irq : List ℕ) (t : Target) → irq_of p d.name irq ≡ Some t → bytes_eq t.subject s.name ≡ true → leads_to p (device d) (subject s) ≡ true) p.subjects
      (λ s i d irq t h named. hears_by_interrupt p s d (of_interrupt p lawful s i d irq t h named));
  read_by_device = λ s d thing address offset own other h k.
      tells_by_dma p s d (of_dma p Read Write s d thing (window_on (dma_windows p d.name) own other Read thing k) (window_on (windows_of p s) address offset Write thing h));
  written_by_device = λ s d thing address offset own other kind h k.
      hears_by_dma p s d (of_dma p Write Read s d thing (window_on (dma_windows p d.name) own other Write thing k)
      (let v = window_on (windows_of p s) address offset kind thing h in record { one = v.one; within = v.within; right = refl; on = v.on }));
}
