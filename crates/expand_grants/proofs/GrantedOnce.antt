-- Rule 9: an interrupt of a device is granted once at most.
use Rattle.std.proofs.Common.{◌≡◌, ℕ, true, false, cond, List, length, map, None, Some, sym, ap, ◌∙◌}
use Rattle.std.specs.Prelude.{◌&&◌, filter, nat_le}
use Rattle.std.specs.List.{count_by, flat_map, list_all, sum_by}
use Rattle.std.specs.Str.{bytes_eq}
use Rattle.std.proofs.lemmas.List.{length-map}
use Rattle.std.proofs.lemmas.List.Concat.{length-flat_map}
use Rattle.std.proofs.lemmas.List.Sums.{length-filter}
use Rattle.muen_num.specs.Search.{first_in}
use Rattle.muen_num.proofs.Lists.{all_true, sum_by-map}
use Rattle.muen_num.proofs.SameAnswers.{sum_by_same}
use Rattle.muen_num.proofs.SearchLaws.{all_none, all_pass, none_both}
use Rattle.policy_lawful.specs.MoreRules.{device_offence, granted_once, offence_9, times_granted}
use Rattle.policy_lawful.specs.Offences.{two}
use Rattle.policy_lawful.specs.Events.{Target}
use Rattle.policy_lawful.specs.source.Device.{Device}
use Rattle.policy_lawful.specs.source.DeviceUse.{DeviceUse}
use Rattle.policy_lawful.specs.source.Irq.{Irq}
use Rattle.policy_lawful.specs.source.IrqUse.{IrqUse}
use Rattle.policy_lawful.specs.source.Source.{Source}
use Rattle.policy_lawful.specs.source.Subject.{Subject}
use Rattle.expand_grants.proofs.Counted.{none_kept, sum_kept}

-- the names of the interrupts that a use of a device grants
abbrev pub irqs_used : DeviceUse → List (List ℕ)
irqs_used u = map (λ i. i.irq) u.irqs

-- the rule, of each interrupt of each device
pub irqs_once : (p : Source) → offence_9 p ≡ None → list_all (λ (d : Device). list_all (λ (i : Irq). nat_le (times_granted p d.name irqs_used i.name) 1) d.irqs) p.devices ≡ true
unfolding offence_9
irqs_once p lawful =
    all_none (λ (d : Device). list_all (λ (i : Irq). nat_le (times_granted p d.name irqs_used i.name) 1) d.irqs) (device_offence p)
    (λ d h.
    let memory = none_both (first_in (λ x. granted_once p d (λ u. map (λ m. m.memory) u.memory) x.name) d.memory) _ h in
    let ports = none_both (first_in (λ x. granted_once p d (λ u. u.io_ports) x.name) d.io_ports) _ memory.1 in
    let irqs = none_both (first_in (λ x. granted_once p d irqs_used x.name) d.irqs) _ ports.1 in
    all_pass (λ (i : Irq). nat_le (times_granted p d.name irqs_used i.name) 1) (λ i. two d.name i.name) d.irqs irqs.0)
    p.devices lawful

-- ---- whom an interrupt reaches

module _ (device irq : List ℕ) where
  abbrev goes_to : List ℕ → IrqUse → Target
  goes_to subject i = record { subject = subject; vector = Some i.vector }

  abbrev used_for : List ℕ → DeviceUse → List Target
  used_for subject u = map (goes_to subject) (filter (λ i. bytes_eq u.device device && bytes_eq i.irq irq) u.irqs)

  -- the subject, once for each time that it is granted the interrupt
  abbrev pub reached_by : Subject → List Target
  reached_by s = flat_map (used_for s.name) s.devices

  times : DeviceUse → ℕ
  times u = count_by (λ n. bytes_eq n irq) (irqs_used u)

  use_counted : (subject : List ℕ) (u : DeviceUse) → length (used_for subject u) ≡ cond (bytes_eq u.device device) (times u) 0
  unfolding times
  use_counted subject u =
      elim (bytes_eq u.device device) as (λ b. length (map (goes_to subject) (filter (λ (i : IrqUse). b && bytes_eq i.irq irq) u.irqs)) ≡ cond b (count_by (λ n. bytes_eq n irq) (map (λ (i : IrqUse). i.irq) u.irqs)) 0) [
        | true ↦
            length-map (filter (λ (i : IrqUse). bytes_eq i.irq irq) u.irqs) (goes_to subject)
            ∙ length-filter (λ (i : IrqUse). bytes_eq i.irq irq) u.irqs
            ∙ sym (sum_by-map (λ n. cond (bytes_eq n irq) 1 0) (λ (i : IrqUse). i.irq) u.irqs)
        | false ↦ length-map (filter (λ _. false) u.irqs) (goes_to subject) ∙ ap length (none_kept u.irqs)
      ]

  subject_counted : (s : Subject) → length (reached_by s) ≡ sum_by times (filter (λ u. bytes_eq u.device device) s.devices)
  subject_counted s =
      length-flat_map (used_for s.name) s.devices
      ∙ sum_by_same (λ u. length (used_for s.name u)) (λ (u : DeviceUse). cond (bytes_eq u.device device) (times u) 0) (λ _. true) (λ u _. use_counted s.name u) s.devices (all_true s.devices)
      ∙ sym (sum_kept times (λ u. bytes_eq u.device device) s.devices)

  -- it reaches a subject as often as it is granted
  pub reached_counted : (p : Source) → length (flat_map reached_by p.subjects) ≡ times_granted p device irqs_used irq
  unfolding times
  reached_counted p =
      length-flat_map reached_by p.subjects
      ∙ sum_by_same (λ s. length (reached_by s)) (λ (s : Subject). sum_by times (filter (λ u. bytes_eq u.device device) s.devices)) (λ _. true) (λ s _. subject_counted s) p.subjects (all_true p.subjects)
