-- A channel is private memory of its writer: nobody else may change it.
use Rattle.std.proofs.Common.{◌≡◌, ℕ, Bool, true, false, List, [], ◌∷◌, ◌++◌, length, map, Option, Some, None, refl, sym, ap, subst, ◌∙◌, inl, inr}
use Rattle.std.specs.Prelude.{◌==◌, ◌&&◌, ◌||◌, filter, nat_le, not, option_and_then, option_map, unwrap_or}
use Rattle.std.specs.List.{AllByRecursion, filter_map, find, flat_map, list_all, list_any}
use Rattle.std.specs.Option.{IfSome}
use Rattle.std.specs.Str.{bytes_eq}
use Rattle.std.proofs.lemmas.Bool.{and_from, and_parts, eqb-true, false_from_ne_true, or_from, or_parts}
use Rattle.std.proofs.lemmas.List.Folds.{list_any-append}
use Rattle.std.proofs.lemmas.Slice.Eq.{bytes_eq-Decides}
use Rattle.std.proofs.Math.Bool.{and-false}
use Rattle.muen_num.proofs.Each.{chained, each_append, each_cons, each_flat, each_map, each_some, mapped}
use Rattle.muen_num.proofs.Lists.{found_among, none_cons}
use Rattle.muen_num.proofs.Members.{In, any_some, filter_in, find_in, flat_in, map_in}
use Rattle.muen_num.proofs.SearchLaws.{all_pass}
use Rattle.muen_num.proofs.Lookups.{found_passes}
use Rattle.muen_num.specs.declared.access.AccessKind.TheVariants.{Write}
use Rattle.policy_lawful.proofs.KeptRules.{rules_of}
use Rattle.policy_lawful.specs.Dma.{domain_windows}
use Rattle.policy_lawful.specs.Events.{ChannelEnd, channel_ends, component_ends}
use Rattle.policy_lawful.specs.MoreRules.{ends_of_channel, fits_event, is_connected, is_writer, offence_6, readers_of, writers_of}
use Rattle.policy_lawful.specs.Offences.{alone}
use Rattle.policy_lawful.specs.Rights.{allows}
use Rattle.policy_lawful.specs.Thing.{Thing, channel, component_by, device_memory, provided, region, same_thing}
use Rattle.policy_lawful.specs.Windows.{Window, channel_window, component_channel_window, component_windows, device_window, entry_of, monitor_window, region_window, required_window, role_rights, window, windows_of}
use Rattle.policy_lawful.specs.rights.Rights.{Rights}
use Rattle.policy_lawful.specs.rights.Role.{Role}
use Rattle.policy_lawful.specs.rights.Role.TheVariants.{Reader, Writer}
use Rattle.policy_lawful.specs.source.Channel.{Channel}
use Rattle.policy_lawful.specs.source.ChannelUse.{ChannelUse}
use Rattle.policy_lawful.specs.source.Component.{Component}
use Rattle.policy_lawful.specs.source.ComponentChannel.{ComponentChannel}
use Rattle.policy_lawful.specs.source.Device.{Device}
use Rattle.policy_lawful.specs.source.DeviceMapping.{DeviceMapping}
use Rattle.policy_lawful.specs.source.DeviceMemory.{DeviceMemory}
use Rattle.policy_lawful.specs.source.DeviceUse.{DeviceUse}
use Rattle.policy_lawful.specs.source.Domain.{Domain}
use Rattle.policy_lawful.specs.source.MapEntry.{MapEntry}
use Rattle.policy_lawful.specs.source.Mapping.{Mapping}
use Rattle.policy_lawful.specs.source.Monitor.{Monitor}
use Rattle.policy_lawful.specs.source.Provided.{Provided}
use Rattle.policy_lawful.specs.source.Region.{Region}
use Rattle.policy_lawful.specs.source.Required.{Required}
use Rattle.policy_lawful.specs.source.Source.{Source}
use Rattle.policy_lawful.specs.source.Subject.{Subject}
use Rattle.proof_views.specs.Changes.{are_writable, may_change}
use Rattle.proof_views.specs.Laws.{ChannelsArePrivate}
use Rattle.proof_views.specs.Writers.{is_writer_of}

-- ---- lists in which none passes, or each does

module _ {X : Type 0} (test : X → Bool) where
  none_any : (xs : List X) → AllByRecursion (λ x. test x ≡ false) xs → list_any test xs ≡ false
  none_any [] h = refl
  none_any (x ∷ xs) h = or_from (test x) (list_any test xs) h.0 (none_any xs h.1)

  each_all : (xs : List X) → ((x : X) → In x xs → test x ≡ true) → list_all test xs ≡ true
  each_all [] h = refl
  each_all (x ∷ xs) h = and_from (test x) (list_all test xs) (h x (inl refl)) (each_all xs (λ y i. h y (inr i)))

  any_none : {Y : Type 0} (f : Y → X) (ys : List Y) → list_any test (map f ys) ≡ false → AllByRecursion (λ y. test (f y) ≡ false) ys
  any_none f [] h = tt
  any_none f (y ∷ ys) h = let parts = or_parts (test (f y)) (list_any test (map f ys)) h in (parts.0, any_none f ys parts.1)

  some_none : {Y : Type 0} (f : Y → Option X) (ys : List Y) → list_any test (filter_map f ys) ≡ false → AllByRecursion (λ y. IfSome (f y) (λ x. test x ≡ false)) ys
  some_none f [] h = tt
  some_none f (y ∷ ys) h = let parts = none_cons test (f y) (filter_map f ys) h in (parts.0, some_none f ys parts.1)

each_made : {X Y : Type 0} (P : X → Type 0) (Q : Y → Type 0) (f : Y → Option X) → ((y : Y) → Q y → IfSome (f y) P) → (ys : List Y) → AllByRecursion Q ys → AllByRecursion P (filter_map f ys)
each_made P Q f h [] all = tt
each_made P Q f h (y ∷ ys) all = each_cons P (f y) (filter_map f ys) (h y all.0) (each_made P Q f h ys all.1)

one_alone : {X : Type 0} (xs : List X) → length xs ≡ 1 → (a b : X) → In a xs → In b xs → a ≡ b
one_alone [] l a b i j = absurd i
one_alone (x ∷ []) l a b (inl e) (inl g) = sym e ∙ g
one_alone (x ∷ []) l a b (inl e) (inr j) = absurd j
one_alone (x ∷ []) l a b (inr i) j = absurd i
one_alone (x ∷ y ∷ ys) l a b i j = absurd (cc (l))

-- ---- the windows of a subject that isn't its writer

module _ (p : Source) (name : List ℕ) where
  -- a window through which the channel can't be written
  abbrev Spares : Window Thing → Type 0
  Spares w = (allows w.rights Write && same_thing w.thing (channel name)) ≡ false

  -- an end that isn't a writer's end of it
  abbrev is_end : ChannelEnd → Bool
  is_end e = is_writer e.role && bytes_eq e.channel name

  on_region : (of : List ℕ) (guest : ℕ) (rights : Rights) → IfSome (region_window p of guest rights) Spares
  on_region of guest rights =
      mapped Spares (λ (r : Region). window guest r.size rights (region r.name)) (λ r. and-false (allows rights Write)) (find (λ r. bytes_eq r.name of) p.memory)

  on_device : (of : List ℕ) (m : DeviceMapping) → IfSome (device_window p of m) Spares
  on_device of m =
      chained Spares (λ (d : Device). option_map (λ (x : DeviceMemory). window m.virtual_address x.size m.rights (device_memory d.name x.name)) (find (λ x. bytes_eq x.name m.memory) d.memory))
      (λ d. mapped Spares (λ (x : DeviceMemory). window m.virtual_address x.size m.rights (device_memory d.name x.name)) (λ x. and-false (allows m.rights Write)) (find (λ x. bytes_eq x.name m.memory) d.memory))
      (find (λ d. bytes_eq d.name of) p.devices)

  by_role : (role : Role) (of : List ℕ) (guest : ℕ) (c : Channel) → c.name ≡ of → (is_writer role && bytes_eq of name) ≡ false → Spares (window guest c.size (role_rights role) (channel c.name))
  by_role Writer of guest c same h = ap (λ n. bytes_eq n name) same ∙ h
  by_role Reader of guest c same h = refl

  on_channel : (of : List ℕ) (guest : ℕ) (role : Role) → (is_writer role && bytes_eq of name) ≡ false → IfSome (channel_window p of guest role) Spares
  on_channel of guest role h = by (find (λ c. bytes_eq c.name of) p.channels) refl
    where
      by : (o : Option Channel) → find (λ c. bytes_eq c.name of) p.channels ≡ o → IfSome (option_map (λ (c : Channel). window guest c.size (role_rights role) (channel c.name)) o) Spares
      by None is = tt
      by (Some c) is = by_role role of guest c ((bytes_eq-Decides c.name of).0 (found_passes (λ c. bytes_eq c.name of) p.channels c is)) h

  on_required : (s : Subject) (x : Required) → IfSome (required_window p s x) Spares
  on_required s x =
      chained Spares (λ (e : MapEntry). region_window p e.physical x.virtual_address (unwrap_or e.rights x.rights))
      (λ e. on_region e.physical x.virtual_address (unwrap_or e.rights x.rights)) (entry_of s.component x.logical)

  abbrev end_of : ComponentChannel → MapEntry → ChannelEnd
  end_of x e = record { channel = e.physical; role = x.role; call = x.call; vector = x.vector }

  on_its_channel : (s : Subject) (x : ComponentChannel) → IfSome (option_map (end_of x) (entry_of s.component x.logical)) (λ e. is_end e ≡ false) → IfSome (component_channel_window p s x) Spares
  on_its_channel s x h = by (entry_of s.component x.logical) h
    where
      by : (o : Option MapEntry) → IfSome (option_map (end_of x) o) (λ e. is_end e ≡ false) → IfSome (option_and_then (λ (e : MapEntry). channel_window p e.physical x.virtual_address x.role) o) Spares
      by None h = tt
      by (Some e) h = on_channel e.physical x.virtual_address x.role h

  on_component : (s : Subject) (o : Option Component) → list_any is_end (component_ends s o) ≡ false → AllByRecursion Spares (component_windows p s o)
  on_component s None h = tt
  on_component s (Some c) h =
      let provides = map (λ (x : Provided). window x.virtual_address x.size x.rights (provided s.name x.logical)) c.provides in
      let memory = filter_map (required_window p s) c.memory in
      let channels = filter_map (component_channel_window p s) c.channels in
      each_append Spares (provides ++ memory) channels
      (each_append Spares provides memory
      (each_map Spares (λ (x : Provided). window x.virtual_address x.size x.rights (provided s.name x.logical)) (λ x. and-false (allows x.rights Write)) c.provides)
      (each_some Spares (required_window p s) (on_required s) c.memory))
      (each_made Spares (λ (x : ComponentChannel). IfSome (option_map (end_of x) (entry_of s.component x.logical)) (λ e. is_end e ≡ false)) (component_channel_window p s) (on_its_channel s) c.channels
      (some_none is_end (λ (x : ComponentChannel). option_map (end_of x) (entry_of s.component x.logical)) c.channels h))

  abbrev end_by : ChannelUse → ChannelEnd
  end_by c = record { channel = c.channel; role = c.role; call = c.call; vector = c.vector }

  not_written : (q : Subject) → is_writer_of p q name ≡ false → are_writable (windows_of p q) (channel name) ≡ false
  unfolding windows_of
  not_written q none =
      let memory = filter_map (λ (m : Mapping). region_window p m.region m.virtual_address m.rights) q.memory in
      let channels = filter_map (λ (c : ChannelUse). channel_window p c.channel c.virtual_address c.role) q.channels in
      let devices = flat_map (λ (d : DeviceUse). filter_map (device_window p d.device) d.memory) q.devices in
      let brought = component_windows p q (component_by p q.component) in
      let ends = or_parts (list_any is_end (map end_by q.channels)) (list_any is_end (component_ends q (component_by p q.component)))
      (sym (list_any-append is_end (map end_by q.channels) (component_ends q (component_by p q.component))) ∙ none) in
      none_any (λ w. allows w.rights Write && same_thing w.thing (channel name)) (memory ++ channels ++ devices ++ brought ++ map monitor_window q.monitors)
      (each_append Spares (memory ++ channels ++ devices ++ brought) (map monitor_window q.monitors)
      (each_append Spares (memory ++ channels ++ devices) brought
      (each_append Spares (memory ++ channels) devices
      (each_append Spares memory channels
      (each_some Spares (λ (m : Mapping). region_window p m.region m.virtual_address m.rights) (λ m. on_region m.region m.virtual_address m.rights) q.memory)
      (each_made Spares (λ (c : ChannelUse). is_end (end_by c) ≡ false) (λ (c : ChannelUse). channel_window p c.channel c.virtual_address c.role) (λ c h. on_channel c.channel c.virtual_address c.role h) q.channels (any_none is_end end_by q.channels ends.0)))
      (each_flat Spares (λ (d : DeviceUse). filter_map (device_window p d.device) d.memory) (λ d. each_some Spares (device_window p d.device) (on_device d.device) d.memory) q.devices))
      (on_component q (component_by p q.component) ends.1))
      (each_map Spares monitor_window (λ (m : Monitor). and-false (allows m.rights Write)) q.monitors))

  in_domains : (ds : List Domain) → list_any (λ d. are_writable (domain_windows p d) (channel name)) ds ≡ false
  in_domains [] = refl
  in_domains (d ∷ ds) =
      or_from (are_writable (domain_windows p d) (channel name)) (list_any (λ d. are_writable (domain_windows p d) (channel name)) ds)
      (none_any (λ w. allows w.rights Write && same_thing w.thing (channel name)) (domain_windows p d)
      (each_some Spares (λ (m : Mapping). region_window p m.region m.virtual_address m.rights) (λ m. on_region m.region m.virtual_address m.rights) d.memory))
      (in_domains ds)

  -- ---- one writer

  its_end : (q : Subject) → In q p.subjects → is_writer_of p q name ≡ true → (e : ChannelEnd) × In (q.name, e) (writers_of p name)
  its_end q within writes =
      let some = any_some is_end (channel_ends p q) writes in
      let parts = and_parts (is_writer some.one.role) (bytes_eq some.one.channel name) some.passes in
      let there = filter_in (λ e. bytes_eq e.channel name) (channel_ends p q) some.one some.within parts.1 in (
        some.one,
        filter_in (λ (e : List ℕ × ChannelEnd). is_writer e.1.role) (ends_of_channel p name) (q.name, some.one)
            (flat_in (λ (s : Subject). map (λ (e : ChannelEnd). (s.name, e)) (filter (λ e. bytes_eq e.channel name) (channel_ends p s))) p.subjects q (q.name, some.one) within
            (map_in (λ (e : ChannelEnd). (q.name, e)) (filter (λ e. bytes_eq e.channel name) (channel_ends p q)) some.one there)) parts.0,
      )

  same_writer : length (writers_of p name) ≡ 1 → (q w : Subject) → In q p.subjects → In w p.subjects → is_writer_of p q name ≡ true → is_writer_of p w name ≡ true → q.name ≡ w.name
  same_writer one q w q_in w_in q_writes w_writes =
      let a = its_end q q_in q_writes in
      let b = its_end w w_in w_writes in
      ap (λ (e : List ℕ × ChannelEnd). e.0) (one_alone (writers_of p name) one (q.name, a.0) (w.name, b.0) a.1 b.1)

connected : (p : Source) → offence_6 p ≡ None → (name : List ℕ) (c : Channel) → find (λ c. bytes_eq c.name name) p.channels ≡ Some c → length (writers_of p name) ≡ 1
unfolding offence_6
connected p none name c is =
    let kept = found_among (λ c. bytes_eq c.name name) (is_connected p) p.channels c is (all_pass (is_connected p) (λ c. alone c.name) p.channels none) in
    let named : c.name ≡ name = (bytes_eq-Decides c.name name).0 (found_passes (λ c. bytes_eq c.name name) p.channels c is) in
    let one = length (writers_of p c.name) == 1 in
    let read = nat_le 1 (length (readers_of p c.name)) in
    let apart = list_all (λ w. list_all (λ r. not (bytes_eq r.0 w.0)) (readers_of p c.name)) (writers_of p c.name) in
    let fits = fits_event (writers_of p c.name) (readers_of p c.name) c.has_event in
    subst (λ n. length (writers_of p n) ≡ 1) named (eqb-true (length (writers_of p c.name)) 1 (and_parts one read (and_parts (one && read) apart (and_parts (one && read && apart) fits kept).0).0).0)

pub channel_private : ChannelsArePrivate
channel_private p w name c lawful is there writes = record {
  subjects = each_all (λ q. bytes_eq q.name w.name || not (may_change p q (channel name))) p.subjects (λ q within. by q within (bytes_eq q.name w.name) refl);
  domains = in_domains p name p.device_domains;
  device = refl;
  page = refl;
}
  where
    other : (q : Subject) → In q p.subjects → bytes_eq q.name w.name ≡ false → is_writer_of p q name ≡ false
    other q within apart =
        false_from_ne_true (is_writer_of p q name) (λ its.
        let same = same_writer p name (connected p (rules_of lawful).rule_6 name c there) q w within (find_in (λ s. bytes_eq s.name w.name) p.subjects w is).0 its writes in
        let t : true ≡ false = sym ((bytes_eq-Decides q.name w.name).1 same) ∙ apart in
        absurd (cc (t)))

    by : (q : Subject) → In q p.subjects → (b : Bool) → bytes_eq q.name w.name ≡ b → (b || not (may_change p q (channel name))) ≡ true
    by q within true e = refl
    by q within false e = ap (λ b. not (b || false)) (not_written p name q (other q within e))
