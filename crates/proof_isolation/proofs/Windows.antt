-- What the windows of a subject are on, by the kind of the thing.
use Rattle.std.proofs.Common.{◌≡◌, ℕ, List, [], ◌∷◌, ◌++◌, map, Option, Some, None, refl, sym, ap, subst, ◌∙◌, inl, inr}
use Rattle.std.specs.Prelude.{option_and_then, option_map, unwrap_or}
use Rattle.std.specs.List.{cons_option, filter_map, find, flat_map}
use Rattle.std.specs.Str.{bytes_eq}
use Rattle.std.proofs.lemmas.Slice.Eq.{bytes_eq-Decides}
use Rattle.muen_num.proofs.Members.{In, append_some, filter_map_in, find_in, flat_some, left_in, map_in, map_some, right_in}
use Rattle.policy_lawful.specs.Events.{ChannelEnd, channel_ends, component_ends}
use Rattle.policy_lawful.specs.Thing.{Thing, channel, component_by, device_memory, provided, region, state}
use Rattle.policy_lawful.specs.Windows.{Window, channel_window, component_channel_window, component_windows, device_window, entry_of, monitor_window, region_window, required_window, role_rights, window, windows_of}
use Rattle.policy_lawful.specs.rights.Rights.{Rights}
use Rattle.policy_lawful.specs.source.Channel.{Channel}
use Rattle.policy_lawful.specs.source.ChannelUse.{ChannelUse}
use Rattle.policy_lawful.specs.source.Component.{Component}
use Rattle.policy_lawful.specs.source.ComponentChannel.{ComponentChannel}
use Rattle.policy_lawful.specs.source.Device.{Device}
use Rattle.policy_lawful.specs.source.DeviceMapping.{DeviceMapping}
use Rattle.policy_lawful.specs.source.DeviceMemory.{DeviceMemory}
use Rattle.policy_lawful.specs.source.DeviceUse.{DeviceUse}
use Rattle.policy_lawful.specs.source.MapEntry.{MapEntry}
use Rattle.policy_lawful.specs.source.Mapping.{Mapping}
use Rattle.policy_lawful.specs.source.Monitor.{Monitor}
use Rattle.policy_lawful.specs.source.Provided.{Provided}
use Rattle.policy_lawful.specs.source.Region.{Region}
use Rattle.policy_lawful.specs.source.Required.{Required}
use Rattle.policy_lawful.specs.source.Source.{Source}
use Rattle.policy_lawful.specs.source.Subject.{Subject}

-- ---- lists

-- what is kept of a list comes of one of its elements
record Made {X Y : Type 0} (f : X → Option Y) (xs : List X) (y : Y) : Type 0 where
  pub one : X
  pub within : In one xs
  pub made : f one ≡ Some y

made_here : {X Y : Type 0} (f : X → Option Y) (xs : List X) (y : Y) → In y (filter_map f xs) → Made f xs y
made_here f [] y h = absurd h
made_here {X} {Y} f (x ∷ xs) y h =
    let later : In y (filter_map f xs) → Made f (x ∷ xs) y = λ k. let at = made_here f xs y k in record { one = at.one; within = inr at.within; made = at.made } in
    elim (f x) as (λ o. f x ≡ o → In y (cons_option o (filter_map f xs)) → Made f (x ∷ xs) y) [
      | None ↦ λ is k. later k
      | Some z ↦ λ is k. elim k as (λ _. Made f (x ∷ xs) y) [ inl same ↦ record { one = x; within = inl refl; made = is ∙ ap Some same } | inr k ↦ later k ]
    ] refl h

-- ---- what a window is on

-- a channel at an end of which it stands
pub record OnChannel (p : Source) (u : Subject) (name : List ℕ) (rights : Rights) : Type 0 where
  pub channel : Channel
  pub declared : In channel p.channels
  pub called : channel.name ≡ name
  pub channel_end : ChannelEnd
  pub its : In channel_end (channel_ends p u)
  pub of : channel_end.channel ≡ name
  pub by : role_rights channel_end.role ≡ rights

-- a memory of a device that is granted to it
pub record OnDevice (p : Source) (u : Subject) (device memory : List ℕ) : Type 0 where
  pub which : Device
  pub declared : In which p.devices
  pub called : which.name ≡ device
  pub part : DeviceMemory
  pub has : In part which.memory
  pub named : part.name ≡ memory
  pub grant : DeviceUse
  pub its : In grant u.devices
  pub of : grant.device ≡ device
  pub mapping : DeviceMapping
  pub maps : In mapping grant.memory
  pub shows : mapping.memory ≡ memory

-- the state page of one whom it monitors
pub record OnState (u : Subject) (name : List ℕ) (rights : Rights) : Type 0 where
  pub monitor : Monitor
  pub its : In monitor u.monitors
  pub of : monitor.subject ≡ name
  pub by : monitor.rights ≡ rights

abbrev pub IsOn : Source → Subject → Rights → Thing → Type 0
IsOn p u rights (region name) = Unit {0}
IsOn p u rights (channel name) = OnChannel p u name rights
IsOn p u rights (provided subject logical) = subject ≡ u.name
IsOn p u rights (device_memory device memory) = OnDevice p u device memory
IsOn p u rights (state name) = OnState u name rights

abbrev pub IsWindow : Source → Subject → Window Thing → Type 0
IsWindow p u w = IsOn p u w.rights w.thing

module _ (p : Source) (u : Subject) where
  -- ---- by the part of the policy that declares it

  on_region : (name : List ℕ) (guest : ℕ) (rights : Rights) (w : Window Thing) → region_window p name guest rights ≡ Some w → IsWindow p u w
  on_region name guest rights w h = by_found (find (λ r. bytes_eq r.name name) p.memory) h
    where
      by_found : (o : Option Region) → option_map (λ (r : Region). window guest r.size rights (region r.name)) o ≡ Some w → IsWindow p u w
      by_found None k = absurd (cc (k))
      by_found (Some r) k = let same : window guest r.size rights (region r.name) ≡ w = cc (k) in subst (IsWindow p u) same tt

  on_channel : (channel_end : ChannelEnd) → In channel_end (channel_ends p u) → (guest : ℕ) (w : Window Thing) → channel_window p channel_end.channel guest channel_end.role ≡ Some w → IsWindow p u w
  on_channel channel_end its guest w h = by_found (find (λ c. bytes_eq c.name channel_end.channel) p.channels) refl h
    where
      by_found : (o : Option Channel) → find (λ c. bytes_eq c.name channel_end.channel) p.channels ≡ o → option_map (λ (c : Channel). window guest c.size (role_rights channel_end.role) (channel c.name)) o ≡ Some w → IsWindow p u w
      by_found None is k = absurd (cc (k))
      by_found (Some c) is k =
          let same : window guest c.size (role_rights channel_end.role) (channel c.name) ≡ w = cc (k) in
          let at = find_in (λ c. bytes_eq c.name channel_end.channel) p.channels c is in
          subst (IsWindow p u) same (record { channel = c; declared = at.0; called = refl; channel_end = channel_end; its = its; of = sym ((bytes_eq-Decides c.name channel_end.channel).0 at.1); by = refl })

  on_device : (grant : DeviceUse) → In grant u.devices → (m : DeviceMapping) → In m grant.memory → (w : Window Thing) → device_window p grant.device m ≡ Some w → IsWindow p u w
  on_device grant its m maps w h = by_device (find (λ d. bytes_eq d.name grant.device) p.devices) refl h
    where
      by_memory : (d : Device) → In d p.devices → d.name ≡ grant.device → (o : Option DeviceMemory) → find (λ x. bytes_eq x.name m.memory) d.memory ≡ o
          → option_map (λ (x : DeviceMemory). window m.virtual_address x.size m.rights (device_memory d.name x.name)) o ≡ Some w → IsWindow p u w
      by_memory d declared called None is k = absurd (cc (k))
      by_memory d declared called (Some x) is k =
          let same : window m.virtual_address x.size m.rights (device_memory d.name x.name) ≡ w = cc (k) in
          let at = find_in (λ x. bytes_eq x.name m.memory) d.memory x is in
          subst (IsWindow p u) same (record {
            which = d;
            declared = declared;
            called = refl;
            part = x;
            has = at.0;
            named = refl;
            grant = grant;
            its = its;
            of = sym called;
            mapping = m;
            maps = maps;
            shows = sym ((bytes_eq-Decides x.name m.memory).0 at.1);
          })

      by_device : (o : Option Device) → find (λ d. bytes_eq d.name grant.device) p.devices ≡ o
          → option_and_then (λ (d : Device). option_map (λ (x : DeviceMemory). window m.virtual_address x.size m.rights (device_memory d.name x.name)) (find (λ x. bytes_eq x.name m.memory) d.memory)) o ≡ Some w → IsWindow p u w
      by_device None is k = absurd (cc (k))
      by_device (Some d) is k =
          let at = find_in (λ d. bytes_eq d.name grant.device) p.devices d is in
          by_memory d at.0 ((bytes_eq-Decides d.name grant.device).0 at.1) (find (λ x. bytes_eq x.name m.memory) d.memory) refl k

  -- ---- those of its component

  on_required : (x : Required) (w : Window Thing) → required_window p u x ≡ Some w → IsWindow p u w
  on_required x w h = by_entry (entry_of u.component x.logical) h
    where
      by_entry : (o : Option MapEntry) → option_and_then (λ (e : MapEntry). region_window p e.physical x.virtual_address (unwrap_or e.rights x.rights)) o ≡ Some w → IsWindow p u w
      by_entry None k = absurd (cc (k))
      by_entry (Some e) k = on_region e.physical x.virtual_address (unwrap_or e.rights x.rights) w k

  on_component_channel : (c : Component) → component_by p u.component ≡ Some c → (x : ComponentChannel) → In x c.channels → (w : Window Thing) → component_channel_window p u x ≡ Some w → IsWindow p u w
  on_component_channel c is x within w h = by_entry (entry_of u.component x.logical) refl h
    where
      its_channel_end : (e : MapEntry) → entry_of u.component x.logical ≡ Some e → In (record { channel = e.physical; role = x.role; call = x.call; vector = x.vector }) (channel_ends p u)
      its_channel_end e there =
          right_in (map (λ (c : ChannelUse). record { channel = c.channel; role = c.role; call = c.call; vector = c.vector }) u.channels) (component_ends u (component_by p u.component)) (record { channel = e.physical; role = x.role; call = x.call; vector = x.vector })
          (subst (λ o. In (record { channel = e.physical; role = x.role; call = x.call; vector = x.vector }) (component_ends u o)) (sym is)
          (filter_map_in (λ (x : ComponentChannel). option_map (λ (e : MapEntry). record { channel = e.physical; role = x.role; call = x.call; vector = x.vector }) (entry_of u.component x.logical)) c.channels x (record { channel = e.physical; role = x.role; call = x.call; vector = x.vector }) within
          (ap (option_map (λ (e : MapEntry). record { channel = e.physical; role = x.role; call = x.call; vector = x.vector })) there)))

      by_entry : (o : Option MapEntry) → entry_of u.component x.logical ≡ o → option_and_then (λ (e : MapEntry). channel_window p e.physical x.virtual_address x.role) o ≡ Some w → IsWindow p u w
      by_entry None there k = absurd (cc (k))
      by_entry (Some e) there k = on_channel (record { channel = e.physical; role = x.role; call = x.call; vector = x.vector }) (its_channel_end e there) x.virtual_address w k

  on_component : (o : Option Component) → component_by p u.component ≡ o → (w : Window Thing) → In w (component_windows p u o) → IsWindow p u w
  on_component None is w h = absurd h
  on_component (Some c) is w h =
      let provides = map (λ (x : Provided). window x.virtual_address x.size x.rights (provided u.name x.logical)) c.provides in
      let memory = filter_map (required_window p u) c.memory in
      let channels = filter_map (component_channel_window p u) c.channels in
      elim (append_some (provides ++ memory) channels w h) as (λ _. IsWindow p u w) [
        | inl front ↦ elim (append_some provides memory w front) as (λ _. IsWindow p u w) [
          | inl its ↦
              let at = map_some (λ (x : Provided). window x.virtual_address x.size x.rights (provided u.name x.logical)) c.provides w its in
              subst (IsWindow p u) at.image refl
          | inr its ↦ let at = made_here (required_window p u) c.memory w its in on_required at.one w at.made
        ]
        | inr its ↦ let at = made_here (component_channel_window p u) c.channels w its in on_component_channel c is at.one at.within w at.made
      ]

  -- ---- all of them

  pub window_is : (w : Window Thing) → In w (windows_of p u) → IsWindow p u w
  unfolding windows_of
  window_is w h =
      let memory = filter_map (λ (m : Mapping). region_window p m.region m.virtual_address m.rights) u.memory in
      let channels = filter_map (λ (c : ChannelUse). channel_window p c.channel c.virtual_address c.role) u.channels in
      let devices = flat_map (λ (d : DeviceUse). filter_map (device_window p d.device) d.memory) u.devices in
      let component = component_windows p u (component_by p u.component) in
      elim (append_some (memory ++ channels ++ devices ++ component) (map monitor_window u.monitors) w h) as (λ _. IsWindow p u w) [
        | inl front ↦ elim (append_some (memory ++ channels ++ devices) component w front) as (λ _. IsWindow p u w) [
          | inl front ↦ elim (append_some (memory ++ channels) devices w front) as (λ _. IsWindow p u w) [
            | inl front ↦ elim (append_some memory channels w front) as (λ _. IsWindow p u w) [
              | inl its ↦
                  let at = made_here (λ (m : Mapping). region_window p m.region m.virtual_address m.rights) u.memory w its in
                  on_region at.one.region at.one.virtual_address at.one.rights w at.made
              | inr its ↦
                  let at = made_here (λ (c : ChannelUse). channel_window p c.channel c.virtual_address c.role) u.channels w its in
                  let channel_end : ChannelEnd = record { channel = at.one.channel; role = at.one.role; call = at.one.call; vector = at.one.vector } in
                  let here = map_in (λ (c : ChannelUse). record { channel = c.channel; role = c.role; call = c.call; vector = c.vector }) u.channels at.one at.within in
                  on_channel channel_end (left_in (map (λ (c : ChannelUse). record { channel = c.channel; role = c.role; call = c.call; vector = c.vector }) u.channels) (component_ends u (component_by p u.component)) channel_end here) at.one.virtual_address w at.made
            ]
            | inr its ↦
                let grant = flat_some (λ (d : DeviceUse). filter_map (device_window p d.device) d.memory) u.devices w its in
                let at = made_here (device_window p grant.one.device) grant.one.memory w grant.part in
                on_device grant.one grant.within at.one at.within w at.made
          ]
          | inr its ↦ on_component (component_by p u.component) refl w its
        ]
        | inr its ↦
            let at = map_some monitor_window u.monitors w its in
            subst (IsWindow p u) at.image (record { monitor = at.one; its = at.within; of = refl; by = refl })
      ]
