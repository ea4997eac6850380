-- A subject whose monitors may not write a state page has no other window through which it could; so it doesn't store there.
use Rattle.std.proofs.Common.{◌≡◌, ℕ, ◌-◌, Bool, true, false, cond, List, [], ◌∷◌, ◌++◌, map, Option, Some, None, refl, sym, subst, ◌∙◌}
use Rattle.std.specs.Prelude.{option_map, unwrap_or}
use Rattle.std.specs.List.{AllByRecursion, filter_map, find, flat_map, list_any}
use Rattle.std.specs.Option.{IfSome}
use Rattle.std.specs.Str.{bytes_eq}
use Rattle.std.proofs.lemmas.Bool.{and_from, or_parts, true≢false}
use Rattle.std.proofs.lemmas.Slice.Eq.{bytes_eq-Decides}
use Rattle.subject_model.specs.Step.{Answer, Stored, step}
use Rattle.subject_model.specs.reach.Reach.TheVariants.{Reached}
use Rattle.muen_num.specs.declared.access.AccessKind.TheVariants.{Write}
use Rattle.policy_lawful.specs.Thing.{Thing, channel, component_by, device_memory, provided, region, state}
use Rattle.policy_lawful.specs.Windows.{Access, Window, access_by, access_of, byte, channel_window, component_channel_window, component_windows, device_window, entry_of, holds, monitor_window, region_window, required_window, role_rights, violation, window, windows_of}
use Rattle.policy_lawful.specs.Rights.{allows}
use Rattle.policy_lawful.specs.rights.Rights.{Rights}
use Rattle.policy_lawful.specs.rights.Role.{Role}
use Rattle.policy_lawful.specs.source.Channel.{Channel}
use Rattle.policy_lawful.specs.source.ChannelUse.{ChannelUse}
use Rattle.policy_lawful.specs.source.Component.{Component}
use Rattle.policy_lawful.specs.source.ComponentChannel.{ComponentChannel}
use Rattle.policy_lawful.specs.source.Device.{Device}
use Rattle.policy_lawful.specs.source.DeviceMapping.{DeviceMapping}
use Rattle.policy_lawful.specs.source.DeviceMemory.{DeviceMemory}
use Rattle.policy_lawful.specs.source.DeviceUse.{DeviceUse}
use Rattle.policy_lawful.specs.source.MapEntry.{MapEntry}
use Rattle.policy_lawful.specs.source.Mapping.{Mapping}
use Rattle.policy_lawful.specs.source.Monitor.{Monitor}
use Rattle.policy_lawful.specs.source.Provided.{Provided}
use Rattle.policy_lawful.specs.source.Region.{Region}
use Rattle.policy_lawful.specs.source.Required.{Required}
use Rattle.policy_lawful.specs.source.Source.{Source}
use Rattle.policy_lawful.specs.source.Subject.{Subject}
use Rattle.subject_model.specs.SubjectState.{SubjectState}
use Rattle.subject_model.specs.Alone.{Inbox, Own, OwnState, alone, own_of, reach_by, solo_turn, stepped, unless_delivered, vector_for, waits}
use Rattle.subject_model.specs.Laws.{StoresElsewhere}
use Rattle.subject_model.specs.System.{subject_named}
use Rattle.subject_model.proofs.StepLaws.{step_stored}
use Rattle.policy_lawful.proofs.NoPages.{NoPage}
use Rattle.muen_num.proofs.Each.{chained, each_append, each_flat, each_map, each_some, found, mapped}
use Rattle.proof_views.specs.AloneRun.{alters, is_altered}

-- a window on none
abbrev pub ShowsNoPage : Window Thing → Type 0
ShowsNoPage w = NoPage w.thing

-- a window through which the state page of this name can't be written
abbrev pub SparesPage : List ℕ → Window Thing → Type 0
SparesPage name w = allows w.rights Write ≡ true → w.thing ≡ state name → ⊥

-- ---- the windows of a subject

module _ (p : Source) where
  on_region : (name : List ℕ) (guest : ℕ) (rights : Rights) → IfSome (region_window p name guest rights) ShowsNoPage
  on_region name guest rights =
      mapped ShowsNoPage (λ (r : Region). window guest r.size rights (region r.name)) (λ r n e. cc (e)) (find (λ r. bytes_eq r.name name) p.memory)

  on_channel : (name : List ℕ) (guest : ℕ) (role : Role) → IfSome (channel_window p name guest role) ShowsNoPage
  on_channel name guest role =
      mapped ShowsNoPage (λ (c : Channel). window guest c.size (role_rights role) (channel c.name)) (λ c n e. cc (e)) (find (λ c. bytes_eq c.name name) p.channels)

  on_device : (name : List ℕ) (m : DeviceMapping) → IfSome (device_window p name m) ShowsNoPage
  on_device name m =
      chained ShowsNoPage (λ (d : Device). option_map (λ (x : DeviceMemory). window m.virtual_address x.size m.rights (device_memory d.name x.name)) (find (λ x. bytes_eq x.name m.memory) d.memory))
      (λ d. mapped ShowsNoPage (λ (x : DeviceMemory). window m.virtual_address x.size m.rights (device_memory d.name x.name)) (λ x n e. cc (e)) (find (λ x. bytes_eq x.name m.memory) d.memory))
      (find (λ d. bytes_eq d.name name) p.devices)

  on_required : (s : Subject) (x : Required) → IfSome (required_window p s x) ShowsNoPage
  on_required s x =
      chained ShowsNoPage (λ (e : MapEntry). region_window p e.physical x.virtual_address (unwrap_or e.rights x.rights))
      (λ e. on_region e.physical x.virtual_address (unwrap_or e.rights x.rights)) (entry_of s.component x.logical)

  on_its_channel : (s : Subject) (x : ComponentChannel) → IfSome (component_channel_window p s x) ShowsNoPage
  on_its_channel s x =
      chained ShowsNoPage (λ (e : MapEntry). channel_window p e.physical x.virtual_address x.role)
      (λ e. on_channel e.physical x.virtual_address x.role) (entry_of s.component x.logical)

  on_component : (s : Subject) (o : Option Component) → AllByRecursion ShowsNoPage (component_windows p s o)
  on_component s None = tt
  on_component s (Some c) =
      let provides = map (λ (x : Provided). window x.virtual_address x.size x.rights (provided s.name x.logical)) c.provides in
      let memory = filter_map (required_window p s) c.memory in
      let channels = filter_map (component_channel_window p s) c.channels in
      each_append ShowsNoPage (provides ++ memory) channels
      (each_append ShowsNoPage provides memory
      (each_map ShowsNoPage (λ (x : Provided). window x.virtual_address x.size x.rights (provided s.name x.logical)) (λ x n e. cc (e)) c.provides)
      (each_some ShowsNoPage (required_window p s) (on_required s) c.memory))
      (each_some ShowsNoPage (component_channel_window p s) (on_its_channel s) c.channels)

  -- but those of its monitors
  others_no_page : (s : Subject) → AllByRecursion ShowsNoPage (filter_map (λ m. region_window p m.region m.virtual_address m.rights) s.memory ++ filter_map (λ c. channel_window p c.channel c.virtual_address c.role) s.channels
      ++ flat_map (λ d. filter_map (device_window p d.device) d.memory) s.devices
      ++ component_windows p s (component_by p s.component))
  others_no_page s =
      let memory = filter_map (λ (m : Mapping). region_window p m.region m.virtual_address m.rights) s.memory in
      let channels = filter_map (λ (c : ChannelUse). channel_window p c.channel c.virtual_address c.role) s.channels in
      let devices = flat_map (λ (d : DeviceUse). filter_map (device_window p d.device) d.memory) s.devices in
      each_append ShowsNoPage (memory ++ channels ++ devices) (component_windows p s (component_by p s.component))
      (each_append ShowsNoPage (memory ++ channels) devices
      (each_append ShowsNoPage memory channels
      (each_some ShowsNoPage (λ (m : Mapping). region_window p m.region m.virtual_address m.rights) (λ m. on_region m.region m.virtual_address m.rights) s.memory)
      (each_some ShowsNoPage (λ (c : ChannelUse). channel_window p c.channel c.virtual_address c.role) (λ c. on_channel c.channel c.virtual_address c.role) s.channels))
      (each_flat ShowsNoPage (λ (d : DeviceUse). filter_map (device_window p d.device) d.memory) (λ d. each_some ShowsNoPage (device_window p d.device) (on_device d.device) d.memory) s.devices))
      (on_component s (component_by p s.component))

spared : (name : List ℕ) (ws : List (Window Thing)) → AllByRecursion ShowsNoPage ws → AllByRecursion (SparesPage name) ws
spared name [] h = tt
spared name (w ∷ ws) h = (λ _. h.0 name, spared name ws h.1)

by_monitors : (name : List ℕ) (ms : List Monitor) → list_any (alters name) ms ≡ false → AllByRecursion (SparesPage name) (map monitor_window ms)
by_monitors name [] h = tt
by_monitors name (m ∷ ms) h =
    let parts = or_parts (alters name m) (list_any (alters name) ms) h in (
      λ writable same.
          let named : m.subject ≡ name = cc (same) in
          let it : alters name m ≡ true = and_from (bytes_eq m.subject name) (allows m.rights Write) ((bytes_eq-Decides m.subject name).1 named) writable in
          true≢false (sym it ∙ parts.0),
      by_monitors name ms parts.1,
    )

-- where none of its monitors may write that page
pub windows_spare : (p : Source) (name : List ℕ) (q : Subject) → list_any (alters name) q.monitors ≡ false → AllByRecursion (SparesPage name) (windows_of p q)
unfolding windows_of
windows_spare p name q none =
    each_append (SparesPage name) _ (map monitor_window q.monitors) (spared name _ (others_no_page p q)) (by_monitors name q.monitors none)

-- ---- what a turn stores

-- what an access touches isn't the state page of this name
abbrev Spared : List ℕ → Access Thing → Type 0
Spared name (byte x offset) = x ≡ state name → ⊥
Spared name (violation rights) = Unit {0}

module _ (s : Subject) where
  by_window : (o : Option (Window Thing)) (addr : ℕ) → IfSome o (SparesPage s.name) → Spared s.name (access_by o addr Write)
  by_window None addr h = tt
  by_window (Some w) addr h =
      elim (allows w.rights Write) as (λ b. allows w.rights Write ≡ b → Spared s.name (cond b (byte w.thing (addr - w.guest)) (violation (Some w.rights)))) [ true ↦ λ e. h e | false ↦ λ _. tt ] refl

  reached : (addr : ℕ) (a : Access Thing) (x : Thing) (offset : ℕ) → Spared s.name a → reach_by Write addr a ≡ Reached x offset → x ≡ state s.name → ⊥
  reached addr (byte z o) x offset h e = let same : z ≡ x = cc (e) in subst (λ z. z ≡ state s.name → ⊥) same h
  reached addr (violation rights) x offset h e = absurd (cc (e))

  elsewhere : (o : Option (Stored Thing)) → ((w : Stored Thing) → o ≡ Some w → w.target ≡ state s.name → ⊥) → StoresElsewhere s o
  elsewhere None h = tt
  elsewhere (Some w) h = h w refl

  module _ (own : Own) (mine : OwnState) (inbox : Inbox) (windows : AllByRecursion (SparesPage s.name) own.windows) where
    looked : (addr : ℕ) (x : Thing) (offset : ℕ) → (alone own mine.msrs inbox).look Write addr ≡ Reached x offset → x ≡ state s.name → ⊥
    looked addr x offset e =
        reached addr (access_of own.windows addr Write) x offset
        (by_window (find (λ w. holds w addr) own.windows) addr (found (SparesPage s.name) (λ w. holds w addr) own.windows windows)) e

    step_elsewhere : StoresElsewhere s (step (alone own mine.msrs inbox) mine.state).stored
    step_elsewhere =
        elsewhere (step (alone own mine.msrs inbox) mine.state).stored
        (λ w e. let at = step_stored (alone own mine.msrs inbox) mine.state w e in looked at.addr w.target w.offset at.looked)

    -- by whether it is stopped, whether a vector is delivered, and whether it is halted
    by_cases : (stopped : Bool) (vector : Option ℕ) (halted : Bool) (st : SubjectState) (traps : List ℕ) (a : Answer Thing) → StoresElsewhere s a.stored
        → StoresElsewhere s (cond stopped (waits st) (unless_delivered st vector (cond halted (waits st) (stepped traps a)))).stored
    by_cases true vector halted st traps a h = tt
    by_cases false (Some v) halted st traps a h = tt
    by_cases false None true st traps a h = tt
    by_cases false None false st traps a h = h

    pub turn_elsewhere : StoresElsewhere s (solo_turn own mine inbox).stored
    unfolding solo_turn
    turn_elsewhere =
        by_cases mine.state.stopped (vector_for mine.state inbox) mine.state.halted mine.state own.traps (step (alone own mine.msrs inbox) mine.state) step_elsewhere

-- ---- a subject that no other one's monitor may write

none_found : {X : Type 0} (test u : X → Bool) (xs : List X) (x : X) → list_any test xs ≡ false → find u xs ≡ Some x → test x ≡ false
none_found test u [] x none h = absurd (cc (h))
none_found test u (y ∷ ys) x none h =
    let parts = or_parts (test y) (list_any test ys) none in
    elim (u y) as (λ b. cond b (Some y) (find u ys) ≡ Some x → test x ≡ false) [
      | true ↦ λ e. let same : y ≡ x = cc (e) in subst (λ z. test z ≡ false) same parts.0
      | false ↦ λ e. none_found test u ys x parts.1 e
    ] h

pub solo_spares : (p : Source) (s q : Subject) → list_any (alters s.name) q.monitors ≡ false → (mine : OwnState) (inbox : Inbox) → StoresElsewhere s (solo_turn (own_of p q) mine inbox).stored
unfolding own_of
solo_spares p s q none mine inbox = turn_elsewhere s (own_of p q) mine inbox (windows_spare p s.name q none)

pub solo_elsewhere : (p : Source) (s : Subject) → is_altered p s ≡ false → (q : Subject) (member : List ℕ) → subject_named p member ≡ Some q → (mine : OwnState) (inbox : Inbox) → StoresElsewhere s (solo_turn (own_of p q) mine inbox).stored
solo_elsewhere p s none q member is mine inbox =
    solo_spares p s q (none_found (λ q. list_any (alters s.name) q.monitors) (λ q. bytes_eq q.name member) p.subjects q none is) mine inbox
