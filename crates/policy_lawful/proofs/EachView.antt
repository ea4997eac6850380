-- What holds of each kind of view holds of each view of a subject.
use Rattle.std.proofs.Common.{◌≡◌, ℕ, ◌+◌, All, List, [], ◌∷◌, ◌++◌, map, Option, Some, None, refl, subst, ap, ◌∙◌, arith}
use Rattle.std.specs.Prelude.{IfSome, option_and_then, option_map, slice_get, unwrap_or}
use Rattle.std.specs.Option.{option_map_or}
use Rattle.std.specs.List.{cons_option, enumerate_from, filter_map, flat_map}
use Rattle.std.proofs.lemmas.List.Elements.{All-append, All-cons, All-map, All-nil}
use Rattle.muen_num.specs.declared.limits.TheConstants.{PAGE}
use Rattle.muen_num.proofs.Lists.{all_flat, each_numbered}
use Rattle.policy_lawful.specs.ByIndex.{provided_at}
use Rattle.policy_lawful.specs.Resolution.{Resolution}
use Rattle.policy_lawful.specs.Views.{channel_view, component_channel_view, component_views, device_view, entry_for, monitor_view, provided_view, region_view, required_view, use_views, view, views_of}
use Rattle.policy_lawful.specs.Windows.{role_rights}
use Rattle.policy_lawful.specs.declared.resolved.ComponentUse.{ComponentUse}
use Rattle.policy_lawful.specs.declared.resolved.DeviceMapping.{DeviceMapping}
use Rattle.policy_lawful.specs.declared.resolved.MapEntry.{MapEntry}
use Rattle.policy_lawful.specs.declared.resolved.Monitor.{Monitor}
use Rattle.policy_lawful.specs.declared.resolved.Subject.{Subject}
use Rattle.policy_lawful.specs.declared.resolved.Wanted.TheVariants.{Memory as WantedMemory, Channel as WantedChannel}
use Rattle.policy_lawful.specs.declared.view.Shown.TheVariants.{Memory, Channel, Device, State}
use Rattle.policy_lawful.specs.declared.view.View.{View}
use Rattle.policy_types.specs.declared.rights.Rights.{Rights}
use Rattle.policy_types.specs.declared.rights.Role.{Role}
use Rattle.policy_types.specs.declared.source.Channel.{Channel as SomeChannel}
use Rattle.policy_types.specs.declared.source.Component.{Component}
use Rattle.policy_types.specs.declared.source.ComponentChannel.{ComponentChannel}
use Rattle.policy_types.specs.declared.source.Device.{Device as SomeDevice}
use Rattle.policy_types.specs.declared.source.DeviceMemory.{DeviceMemory}
use Rattle.policy_types.specs.declared.source.Provided.{Provided}
use Rattle.policy_types.specs.declared.source.Region.{Region}
use Rattle.policy_types.specs.declared.source.Required.{Required}

-- ---- lists

each_filtered : {X V : Type 0} (P : V → Type 0) (g : X → Option V) → ((x : X) → IfSome (g x) P) → (xs : List X) → All P (filter_map g xs)
each_filtered P g h [] = All-nil P
each_filtered {X} {V} P g h (x ∷ xs) =
    elim (g x) as (λ o. IfSome o P → All P (cons_option o (filter_map g xs))) [
      | None ↦ λ k. each_filtered P g h xs
      | Some v ↦ λ k. All-cons P v (filter_map g xs) k (each_filtered P g h xs)
    ] (h x)

-- ---- views

module _ (r : Resolution) (P : View → Type 0) where
  -- it holds of each view on something that is there, where the subject's component brings these regions along
  pub record HoldsOfKinds (brought : List Provided) : Type 0 where
    pub region : (k guest : ℕ) (rights : Rights) (x : Region) → slice_get r.memory k ≡ Some x → P (view x.name guest x.size rights (Memory k))
    pub channel : (k guest : ℕ) (role : Role) (x : SomeChannel) → slice_get r.channels k ≡ Some x → P (view x.name guest x.size (role_rights role) (Channel k))
    pub device : (k : ℕ) (m : DeviceMapping) (d : SomeDevice) (x : DeviceMemory) → slice_get r.devices k ≡ Some d → slice_get d.memory m.memory ≡ Some x
        → P (view x.name m.virtual_address x.size m.rights (Device k m.memory))
    pub provided : (k : ℕ) (x : Provided) → slice_get brought k ≡ Some x → P (provided_view (k, x))
    pub monitored : (m : Monitor) (x : Subject) → slice_get r.subjects m.subject ≡ Some x → P (view x.name m.virtual_address PAGE m.rights (State m.subject))

  module _ (brought : List Provided) (holds : HoldsOfKinds brought) where
    of_region : (k guest : ℕ) (rights : Rights) → IfSome (region_view r k guest rights) P
    of_region k guest rights =
        elim (slice_get r.memory k) as (λ o. slice_get r.memory k ≡ o → IfSome (option_map (λ x. view x.name guest x.size rights (Memory k)) o) P) [
          | None ↦ λ e. tt
          | Some x ↦ λ e. holds.region k guest rights x e
        ] refl

    of_channel : (k guest : ℕ) (role : Role) → IfSome (channel_view r k guest role) P
    of_channel k guest role =
        elim (slice_get r.channels k) as (λ o. slice_get r.channels k ≡ o → IfSome (option_map (λ x. view x.name guest x.size (role_rights role) (Channel k)) o) P) [
          | None ↦ λ e. tt
          | Some x ↦ λ e. holds.channel k guest role x e
        ] refl

    of_memory : (k : ℕ) (m : DeviceMapping) (d : SomeDevice) → slice_get r.devices k ≡ Some d
        → IfSome (option_map (λ x. view x.name m.virtual_address x.size m.rights (Device k m.memory)) (slice_get d.memory m.memory)) P
    of_memory k m d at =
        elim (slice_get d.memory m.memory) as (λ o. slice_get d.memory m.memory ≡ o → IfSome (option_map (λ x. view x.name m.virtual_address x.size m.rights (Device k m.memory)) o) P) [
          | None ↦ λ e. tt
          | Some x ↦ λ e. holds.device k m d x at e
        ] refl

    of_device : (k : ℕ) (m : DeviceMapping) → IfSome (device_view r k m) P
    of_device k m =
        elim (slice_get r.devices k) as (λ o. slice_get r.devices k ≡ o → IfSome (option_and_then (λ (d : SomeDevice). option_map (λ x. view x.name m.virtual_address x.size m.rights (Device k m.memory)) (slice_get d.memory m.memory)) o) P) [
          | None ↦ λ e. tt
          | Some d ↦ λ e. of_memory k m d e
        ] refl

    of_monitor : (m : Monitor) → IfSome (monitor_view r m) P
    of_monitor m =
        elim (slice_get r.subjects m.subject) as (λ o. slice_get r.subjects m.subject ≡ o → IfSome (option_map (λ s. view s.name m.virtual_address PAGE m.rights (State m.subject)) o) P) [
          | None ↦ λ e. tt
          | Some x ↦ λ e. holds.monitored m x e
        ] refl

    of_required : (entries : List MapEntry) (x : ℕ × Required) → IfSome (required_view r entries x) P
    of_required entries (k, x) =
        elim (entry_for entries (WantedMemory k)) as (λ o. IfSome (option_and_then (λ (e : MapEntry). region_view r e.physical x.virtual_address (unwrap_or e.rights x.rights)) o) P) [
          | None ↦ tt
          | Some e ↦ of_region e.physical x.virtual_address (unwrap_or e.rights x.rights)
        ]

    of_component_channel : (entries : List MapEntry) (x : ℕ × ComponentChannel) → IfSome (component_channel_view r entries x) P
    of_component_channel entries (k, x) =
        elim (entry_for entries (WantedChannel k)) as (λ o. IfSome (option_and_then (λ (e : MapEntry). channel_view r e.physical x.virtual_address x.role) o) P) [
          | None ↦ tt
          | Some e ↦ of_channel e.physical x.virtual_address x.role
        ]

    of_component : (entries : List MapEntry) (c : Component) → brought ≡ c.provides → All P (component_views r entries c)
    of_component entries c is =
        let a = map provided_view (enumerate_from 0 c.provides) in
        let b = filter_map (required_view r entries) (enumerate_from 0 c.memory) in
        All-append P (a ++ b) (filter_map (component_channel_view r entries) (enumerate_from 0 c.channels))
        (All-append P a b
        (All-map P provided_view (enumerate_from 0 c.provides)
        (each_numbered (λ x. P (provided_view x)) 0 c.provides
        (λ k x e.
        let n : k ≡ 0 + k = omega arith in
        subst (λ j. P (provided_view (j, x))) n (holds.provided k x (ap (λ xs. slice_get xs k) is ∙ e)))))
        (each_filtered P (required_view r entries) (of_required entries) (enumerate_from 0 c.memory)))
        (each_filtered P (component_channel_view r entries) (of_component_channel entries) (enumerate_from 0 c.channels))

    of_use : (o : Option ComponentUse) → brought ≡ provided_at r.components o → All P (use_views r o)
    of_use None is = All-nil P
    of_use (Some used) is =
        elim (slice_get r.components used.used) as (λ o. slice_get r.components used.used ≡ o → All P (option_map_or (component_views r used.map) o [])) [
          | None ↦ λ e. All-nil P
          | Some c ↦ λ e. of_component used.map c (is ∙ ap (λ o. option_map_or (λ (c : Component). c.provides) o []) e)
        ] refl

  pub each_view : (s : Subject) → HoldsOfKinds (provided_at r.components s.component) → All P (views_of r s)
  unfolding views_of
  each_view s holds =
      let brought = provided_at r.components s.component in
      let a = filter_map (λ m. region_view r m.region m.virtual_address m.rights) s.memory in
      let b = filter_map (λ c. channel_view r c.channel c.virtual_address c.role) s.channels in
      let c = flat_map (λ d. filter_map (device_view r d.device) d.memory) s.devices in
      let d = use_views r s.component in
      let e = filter_map (monitor_view r) s.monitors in
      All-append P (a ++ b ++ c ++ d) e
      (All-append P (a ++ b ++ c) d
      (All-append P (a ++ b) c
      (All-append P a b
      (each_filtered P (λ m. region_view r m.region m.virtual_address m.rights) (λ m. of_region brought holds m.region m.virtual_address m.rights) s.memory)
      (each_filtered P (λ c. channel_view r c.channel c.virtual_address c.role) (λ c. of_channel brought holds c.channel c.virtual_address c.role) s.channels))
      (all_flat P (λ d. filter_map (device_view r d.device) d.memory) (λ d. each_filtered P (device_view r d.device) (of_device brought holds d.device) d.memory) s.devices))
      (of_use brought holds s.component refl))
      (each_filtered P (monitor_view r) (of_monitor brought holds) s.monitors)
