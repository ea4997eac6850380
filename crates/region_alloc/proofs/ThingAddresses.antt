-- Where things lie, by number: a thing that is placed at the address of its region, a device's memory where it has to be.
use Rattle.std.proofs.Common.{◌≡◌, ℕ, ◌+◌, ◌-◌, ◌<◌, ◌++◌, inl, inr, length, map, take, Some, refl, sym, ap, subst, ◌∙◌, arith}
use Rattle.std.specs.Prelude.{option_map, slice_get, slice_index, unwrap_or}
use Rattle.std.proofs.lemmas.Bool.{cases_lt}
use Rattle.std.proofs.lemmas.List.{get_or-append-add, get_or-take, get_or_append_left, length-take-le}
use Rattle.std.proofs.lemmas.Option.{get_or_from_slice_get, slice_get-map}
use Rattle.expand_kernel.proofs.Numbering.{kernel_region_at}
use Rattle.expand_kernel.specs.ByIndex.{kernel_first}
use Rattle.expand_kernel.specs.Grants.{AreGrantsOf}
use Rattle.expand_kernel.specs.Numbered.{thing_size}
use Rattle.expand_kernel.specs.Regions.{anywhere}
use Rattle.expand_kernel.specs.thing.RegionKind.TheVariants.{Kernel}
use Rattle.expand_kernel.specs.thing.Thing.{Thing}
use Rattle.expand_kernel.specs.thing.ThingIndex.{ThingIndex}
use Rattle.expand_kernel.specs.thing.ThingIndex.TheVariants.{Declared, State as StatePage}
use Rattle.muen_num.proofs.Lists.{get_left, get_right}
use Rattle.muen_num.proofs.Options.{from_some}
use Rattle.muen_num.proofs.Pairs.{other_at}
use Rattle.muen_num.specs.declared.limits.TheConstants.{PAGE}
use Rattle.muen_num.specs.declared.tag.TagPart.TheVariants.{State as StatePart}
use Rattle.policy_lawful.specs.Resolution.{Resolution}
use Rattle.policy_lawful.specs.Things.{device_things, placed_things, things_by_number}
use Rattle.policy_lawful.specs.declared.resolved.Subject.{Subject}
use Rattle.region_alloc.specs.Placed.{IsPlaced, Placement, address_of}
use Rattle.region_alloc.proofs.OwnRegions.{placed_within}

module _ (x : Placement) (placed : IsPlaced x) where
  pub placed_address : (n : ℕ) → n < length (placed_things x.expanded.lawful) → address_of x (Declared n) ≡ slice_index x.addresses n
  placed_address n within =
      let many = length (placed_things x.expanded.lawful) in
      let long = length-take-le many x.addresses (placed_within x placed) in
      get_or_append_left (take many x.addresses) (map (λ (t : Thing). unwrap_or t.fixed 0) (device_things x.expanded.lawful)) 0 n (omega (arith, long))
      ∙ get_or-take many x.addresses n 0 within

  pub device_address : (n : ℕ) (t : Thing) → slice_get (device_things x.expanded.lawful) n ≡ Some t → address_of x (Declared (length (placed_things x.expanded.lawful) + n)) ≡ unwrap_or t.fixed 0
  device_address n t at =
      let many = length (placed_things x.expanded.lawful) in
      let fixed = map (λ (t : Thing). unwrap_or t.fixed 0) (device_things x.expanded.lawful) in
      let long = length-take-le many x.addresses (placed_within x placed) in
      let number : many + n ≡ length (take many x.addresses) + n = omega (arith, long) in
      ap (slice_index (take many x.addresses ++ fixed)) number
      ∙ get_or-append-add (take many x.addresses) fixed n 0
      ∙ get_or_from_slice_get fixed n (unwrap_or t.fixed 0) 0 (slice_get-map (λ (t : Thing). unwrap_or t.fixed 0) (device_things x.expanded.lawful) n ∙ ap (option_map (λ (t : Thing). unwrap_or t.fixed 0)) at)

-- ---- all that has a number

module _ (x : Placement) (placed : IsPlaced x) (P : ℕ → ℕ → Type 0) where
  abbrev r : Resolution
  r = x.expanded.lawful

  -- it holds of where each lies and how many bytes it has
  pub record HoldsOfEach : Type 0 where
    pub thing : (n : ℕ) (t : Thing) → slice_get (placed_things r) n ≡ Some t → P (slice_index x.addresses n) t.size
    pub device : (n : ℕ) (t : Thing) → slice_get (device_things r) n ≡ Some t → P (unwrap_or t.fixed 0) t.size
    pub state : (k : ℕ) (s : Subject) → slice_get x.expanded.regions (kernel_first r k) ≡ Some (anywhere Kernel s.name StatePart PAGE) → P (slice_index x.addresses (kernel_first r k)) PAGE

  module _ (holds : HoldsOfEach) where
    of_thing : (n : ℕ) (t : Thing) → slice_get (things_by_number r) n ≡ Some t → P (address_of x (Declared n)) t.size
    of_thing n t at =
        let front = placed_things r in
        let back = device_things r in
        elim (cases_lt n (length front)) [
          | inl here ↦ subst (λ a. P a t.size) (sym (placed_address x placed n here)) (holds.thing n t (sym (get_left front back n here) ∙ at))
          | inr behind ↦
              let m : ℕ = n - length front in
              let number : n ≡ length front + m = omega arith in
              let there : slice_get back m ≡ Some t = sym (get_right front back m) ∙ sym (ap (slice_get (things_by_number r)) number) ∙ at in
              subst (λ n. P (address_of x (Declared n)) t.size) (sym number)
              (subst (λ a. P a t.size) (sym (device_address x placed m t there)) (holds.device m t there))
        ]

    of_state : (k : ℕ) (s : Subject) → slice_get r.subjects k ≡ Some s → P (address_of x (StatePage k)) PAGE
    of_state k s at =
        let g = other_at (AreGrantsOf r) r.subjects x.expanded.grants k s placed.expansion.grants at in
        let number : kernel_first r k + 0 ≡ kernel_first r k = omega arith in
        holds.state k s
        (ap (slice_get x.expanded.regions) (sym number)
        ∙ kernel_region_at r placed.resolved x.expanded.grants placed.expansion.grants x.expanded.regions placed.expansion.regions k 0 s g.0 (anywhere Kernel s.name StatePart PAGE) at g.1 refl)

    -- **so it holds of what has a number**
    pub each_number : (thing : ThingIndex) (size : ℕ) → thing_size r thing ≡ Some size → P (address_of x thing) size
    each_number (Declared n) size e =
        let t = from_some (λ (t : Thing). t.size) (slice_get (things_by_number r) n) size e in
        subst (P (address_of x (Declared n))) t.2 (of_thing n t.0 t.1)
    each_number (StatePage k) size e =
        let s = from_some (λ _. PAGE) (slice_get r.subjects k) size e in
        subst (P (address_of x (StatePage k))) s.2 (of_state k s.0 s.1)
