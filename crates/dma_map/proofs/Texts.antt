-- The text of devices' windows, by a policy and where its regions lie.
use Rattle.std.proofs.Common.{◌≡◌, ◌∙◌, refl, sym, ap, arith, ℕ, ◌+◌, List, map}
use Rattle.std.specs.List.{flat_map}
use Rattle.expand_kernel.specs.Grants.{is_lower}
use Rattle.expand_kernel.specs.Ordered.{in_order}
use Rattle.dma_emit.specs.Domains.{region_address_of}
use Rattle.policy_lawful.specs.Dma.{dma_windows}
use Rattle.policy_lawful.specs.Resolution.{source_of}
use Rattle.policy_lawful.specs.Thing.{Thing, region, channel, provided, device_memory, state, thing_tag}
use Rattle.policy_lawful.specs.Windows.{Window}
use Rattle.region_alloc.specs.Placed.{IsPlaced, Placement}
use Rattle.dma_map.specs.DmaMapText.{begins_at, device_windows, dma_map_text_of, rising_windows, shown_at, thing_address, window_shown, windows_text}
use Rattle.dma_map.specs.Told.{HaveTextOf}
use Rattle.dma_map.specs.declared.window.DeviceWindow.{DeviceWindow}

module _ (x : Placement) where
  begins_so : (thing : Thing) → thing_address x thing ≡ begins_at (source_of x.expanded.lawful) x.addresses thing
  unfolding source_of
  begins_so (region name) = omega arith
  begins_so (channel name) = refl
  begins_so (provided subject logical) = refl
  begins_so (device_memory device memory) = refl
  begins_so (state subject) = refl

  shown_so : (device : List ℕ) (w : Window Thing) → window_shown x device w ≡ shown_at (source_of x.expanded.lawful) x.addresses device w
  shown_so device w i = record { device = device; addr = w.guest; physical = begins_so w.thing i; size = w.size; rights = w.rights; region = thing_tag w.thing }

  -- where the regions lie where they are placed
  pub text_is : windows_text (device_windows x) ≡ dma_map_text_of (source_of x.expanded.lawful) x.addresses
  unfolding device_windows rising_windows dma_map_text_of source_of
  text_is i = windows_text (flat_map (λ d. map (λ w. shown_so d.name w i) (in_order is_lower (dma_windows (source_of x.expanded.lawful) d.name))) x.expanded.lawful.devices)

  -- .. of these windows
  pub has_text : IsPlaced x → (windows : List DeviceWindow) → windows ≡ device_windows x → HaveTextOf x windows
  has_text placed windows are addresses is =
      let same : x.addresses ≡ addresses = cc (sym placed.placement ∙ is) in
      ap windows_text are ∙ text_is ∙ ap (dma_map_text_of (source_of x.expanded.lawful)) same
