-- The devices by the routes of an expansion are those of the policy.
use Rattle.std.proofs.Common.{◌≡◌, ℕ, suc, ◌+◌, ◌<◌, true, List, [], ◌∷◌, length, map, Some, None, refl, sym, ap, subst, ◌∙◌, arith}
use Rattle.std.specs.Prelude.{option_map, slice_get, IfSome}
use Rattle.std.specs.List.{AllZip, enumerate_from, list_all}
use Rattle.event_emit.specs.ByIndex.{DeviceRoutesFew, RouteFew, device_part, device_parts, has_name, irq_part, route_irq_target, port_span, window_parts}
use Rattle.image_soundness.specs.TablesOf.{AreDevices, IsDevice, IsIrq, irq_named, span_ends}
use Rattle.image_pack.specs.ImageConditions.{IsReached}
use Rattle.event_emit.proofs.EntriesReach.{few_subjects, route_found}
use Rattle.expand_grants.specs.Grants.{AreRoutes, route_for}
use Rattle.expand_grants.specs.declared.granted.Route.{Route}
use Rattle.image_pack.specs.declared.parts.DevicePart.{DevicePart}
use Rattle.muen_num.specs.Range.{numbers_below}
use Rattle.muen_num.proofs.Lists.{map-map, option_map-option_map, there}
use Rattle.policy_lawful.specs.Lawful.{IsLawful}
use Rattle.policy_lawful.specs.Resolution.{Resolution, source_of}
use Rattle.policy_lawful.specs.source.Device.{Device}
use Rattle.policy_lawful.specs.source.Irq.{Irq}

module _ (r : Resolution) (names : list_all has_name r.subjects ≡ true) (lawful : IsLawful (source_of r)) (routes : List Route) (are : AreRoutes r routes) where
  -- ---- interrupts of a device

  module _ (device : ℕ) (d : Device) (is : slice_get r.devices device ≡ Some d) where
    irq_is : (index : ℕ) (i : Irq) → slice_get d.irqs index ≡ Some i → IsIrq r d i (irq_part routes device (index, i))
    irq_is index i at = record {
      name = refl;
      granted = route_found r names lawful routes device index d i are is at;
      target = option_map-option_map (irq_named r) route_irq_target (route_for routes device index) ∙ are.each device index d i is at;
    }

    irqs_are : (from : ℕ) (irqs : List Irq) → ((k : ℕ) (i : Irq) → slice_get irqs k ≡ Some i → slice_get d.irqs (from + k) ≡ Some i)
        → AllZip (IsIrq r d) irqs (map (irq_part routes device) (enumerate_from from irqs))
    irqs_are from [] at = tt
    irqs_are from (i ∷ is) at =
        let here : from + 0 ≡ from = omega arith in (
          irq_is from i (ap (slice_get d.irqs) (sym here) ∙ at 0 i refl),
          irqs_are (from + 1) is (λ k j h. let e : from + 1 + k ≡ from + suc k = omega arith in ap (slice_get d.irqs) e ∙ at (suc k) j h),
        )

    device_is : (first : ℕ) → IsDevice r first d (device_part routes device first d)
    unfolding window_parts
    device_is first = record {
      name = refl;
      ports = map-map span_ends port_span d.io_ports;
      windows = map-map (λ w. w.span) (λ k. record { span = first + k }) (numbers_below (length d.memory));
      irqs = irqs_are 0 d.irqs (λ k i h. let e : 0 + k ≡ k = omega arith in ap (slice_get d.irqs) e ∙ h);
    }

    route_few : RouteFew routes device (length d.irqs)
    route_few irq l =
        let at = there d.irqs irq l in
        elim (route_for routes device irq) as (λ o. IsReached (length r.subjects) (option_map route_irq_target o) → IfSome o (λ t. t.subject < 256)) [
          | None ↦ λ _. tt
          | Some t ↦ λ h. let there = h.0 in let few = few_subjects r names lawful in omega (arith, there, few)
        ] (route_found r names lawful routes device irq d at.0 are is at.1)

  pub are_few : DeviceRoutesFew routes r.devices
  are_few device d is = route_few device d is

  -- ---- all devices

  each_is : (index first : ℕ) (ds : List Device) → ((k : ℕ) (d : Device) → slice_get ds k ≡ Some d → slice_get r.devices (index + k) ≡ Some d) → AreDevices r first ds (device_parts routes index first ds)
  unfolding AreDevices device_parts
  each_is index first [] at = tt
  each_is index first (d ∷ ds) at =
      let here : index + 0 ≡ index = omega arith in (
        device_is index d (ap (slice_get r.devices) (sym here) ∙ at 0 d refl) first,
        each_is (index + 1) (first + length d.memory) ds (λ k x h. let e : index + 1 + k ≡ index + suc k = omega arith in ap (slice_get r.devices) e ∙ at (suc k) x h),
      )

  pub are_devices : (first : ℕ) (parts : List DevicePart) → parts ≡ device_parts routes 0 first r.devices → AreDevices r first r.devices parts
  are_devices first parts is =
      subst (AreDevices r first r.devices) (sym is) (each_is 0 first r.devices (λ k d h. let e : 0 + k ≡ k = omega arith in ap (slice_get r.devices) e ∙ h))
