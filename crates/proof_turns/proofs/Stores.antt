-- A store changes bytes of a thing, or of the state page of a subject that is on no CPU: the machine stands for the system still.
use Rattle.std.proofs.Common.{◌≡◌, ◌⊎◌, ℕ, ◌+◌, ◌/◌, ◌%◌, ◌<◌, ◌≤◌, false, Option, Some, None, List, length, refl, sym, ap, ◌∙◌, subst, inl, inr, arith}
use Rattle.std.specs.Prelude.{option_map, slice_get}
use Rattle.std.specs.List.{All}
use Rattle.machine_layout.specs.Memory.{Page, page_of, change, over}
use Rattle.machine_layout.proofs.PageLaws.{page_of-change_same, page_of-change_other}
use Rattle.policy_lawful.specs.Thing.{Thing, state, same_thing}
use Rattle.policy_lawful.specs.source.Subject.{Subject}
use Rattle.image_pack.specs.declared.parts.SubjectPart.{SubjectPart}
use Rattle.muen_num.proofs.Options.{one_value}
use Rattle.guest_isa.specs.Step.{Stored}
use Rattle.guest_isa.specs.Named.{renamed_store}
use Rattle.vmx_machine.specs.declared.control.Control.{Control}
use Rattle.kernel_core.specs.Kernel.{Live}
use Rattle.subject_model.specs.Alone.{Things}
use Rattle.subject_model.specs.System.{System, change_thing, with_bytes, with_store}
use Rattle.proof_turns.specs.Ground.{Ground, Joined, Spot, thing_at, state_at, area_at, IsSpotAt, page_and_offset}
use Rattle.proof_turns.specs.Fixed.{IsFixed, Watches}
use Rattle.guest_isa.specs.Words.{IsByte}
use Rattle.proof_turns.specs.Held.{Held, held, is_subject_entered, on_pages, IsOwn}
use Rattle.proof_turns.specs.Stands.{HasStateAndMsrArea, StandsFor}
use Rattle.guest_isa.proofs.StateLaws.{over_small}
use Rattle.subject_model.proofs.KeyLaws.{value_changed, value_other, things_apart}
use Rattle.policy_lawful.proofs.SameThings.{state_names}
use Rattle.proof_turns.proofs.FrameLaws.{change_elsewhere, thing_changes}
use Rattle.proof_turns.proofs.Holds.{not_some, not_on, held_off, held_same, own_same, each_subject}
use Rattle.proof_turns.proofs.LeftPages.{pages_stay, state_spot}
use Rattle.proof_turns.proofs.Changes.{names_differ, no_state, with_page_of, with_pages}

module _ (g : Ground) (fixed : IsFixed g) where
  -- ---- the bytes of a thing
  -- its pages are no page of a state or of an area
  other_spot : (x : Thing) (i s : ℕ) → (thing_at x i ≡ state_at s → ⊥) × (thing_at x i ≡ area_at s → ⊥)
  other_spot x i s = (λ e. cc (e), λ e. cc (e))

  -- a change of a page at one spot keeps the page at any other
  other_page : (pages : List Page) (f : List ℕ → List ℕ) (a b : Spot) (j page : ℕ) → IsSpotAt g a j → IsSpotAt g b page → (a ≡ b → ⊥)
      → page_of (change pages page f) j ≡ page_of pages j
  other_page pages f a b j page at is ne = page_of-change_other pages page f j (fixed.apart a b j page at is ne)

  -- bytes of a thing change in its page and in the system
  pub bytes_stand : (k : Live) (y : System) (x : Thing) (offset : ℕ) (new : List ℕ) → offset / 4096 < g.pages x → offset % 4096 + length new ≤ 4096 → All IsByte new
      → StandsFor g k y → StandsFor g (with_page_of (g.first x + offset / 4096) (λ old. over old (offset % 4096) new) k) (with_bytes x offset new y)
  bytes_stand k y x offset new h room small stands =
      let page : ℕ = g.first x + offset / 4096 in
      let f : List ℕ → List ℕ = λ old. over old (offset % 4096) new in
      let pages : List Page = k.machine.pages in
      let later : List Page = change pages page f in
      let things : Things = change_thing x (λ old. over old offset new) y.things in
      let spot : IsSpotAt g (thing_at x (offset / 4096)) page = (h, refl) in
      let states : (s : ℕ) (c : Control) → slice_get g.setup.controls s ≡ Some c → page_of later c.state ≡ page_of pages c.state = λ s c e.
      other_page pages f (state_at s) (thing_at x (offset / 4096)) c.state page (c, e, refl) spot (λ i. (other_spot x (offset / 4096) s).0 (sym i)) in
      let areas : (s : ℕ) (c : Control) → slice_get g.setup.controls s ≡ Some c → page_of later c.msr_area ≡ page_of pages c.msr_area = λ s c e.
      other_page pages f (area_at s) (thing_at x (offset / 4096)) c.msr_area page (c, e, refl) spot (λ i. (other_spot x (offset / 4096) s).1 (sym i)) in
      record {
        shows = thing_changes g fixed pages y.things x offset new h room small stands.shows;
        pages = λ s n q c j. pages_stay pages later n c (states s c j.control) (areas s c j.control) (stands.pages s n q c j);
        owns = λ s n q c j but. own_same n y.things things y.msrs y.msrs (held k s q c) (held (with_page_of page f k) s q c)
            (value_other same_thing x (state n.name) (λ old. over old offset new) y.things (things_apart x (state n.name) (no_state g fixed x n.name (omega (arith, h)))))
            refl
            (held_same s c.msrs (page_of pages c.state) (page_of pages c.msr_area) (page_of later c.state) (page_of later c.msr_area)
            (slice_get k.on q.cpu) (slice_get k.machine.cpus q.cpu) (states s c j.control) (areas s c j.control))
            (stands.owns s n q c j but);
        router = stands.router;
        cpus = stands.cpus;
        ports = stands.ports;
        many_ports = stands.many_ports;
        small_ports = stands.small_ports;
        frame = stands.frame;
      }

  -- ---- .. of the state page of a subject that is on no CPU

  module _ (k : Live) (y : System) (t : ℕ) (m : Subject) (r : SubjectPart) (d : Control) (offset : ℕ) (new : List ℕ) (i : Joined g t m r d) (small : All IsByte new)
      (away : (who : Option ℕ) → slice_get k.on r.cpu ≡ Some who → is_subject_entered t who ≡ false) (stands : StandsFor g k y) where
    -- what the change makes of the page, and memory after it
    abbrev changed : List ℕ → List ℕ
    changed old = over old offset new

    abbrev after : List Page
    after = change k.machine.pages d.state changed

    abbrev live_after : Live
    live_after = with_page_of d.state changed k

    -- the system's things after it
    abbrev things_after : Things
    things_after = change_thing (state m.name) changed y.things

    at_spot : IsSpotAt g (state_at t) d.state
    at_spot = (d, i.control, refl)

    -- the state pages of others stay
    states_stay : (s : ℕ) (c : Control) → slice_get g.setup.controls s ≡ Some c → (s ≡ t → ⊥) → page_of after c.state ≡ page_of k.machine.pages c.state
    states_stay s c e ne = other_page k.machine.pages changed (state_at s) (state_at t) c.state d.state (c, e, refl) at_spot (state_spot s t ne)

    -- and the pages of all areas
    areas_stay : (s : ℕ) (c : Control) → slice_get g.setup.controls s ≡ Some c → page_of after c.msr_area ≡ page_of k.machine.pages c.msr_area
    areas_stay s c e = other_page k.machine.pages changed (area_at s) (state_at t) c.msr_area d.state (c, e, refl) at_spot (λ z. cc (z))

    -- what the subject has was on its pages
    held_before : held k t r d ≡ on_pages d.msrs (page_of k.machine.pages d.state) (page_of k.machine.pages d.msr_area)
    held_before = held_off t d.msrs (page_of k.machine.pages d.state) (page_of k.machine.pages d.msr_area) (slice_get k.on r.cpu) (slice_get k.machine.cpus r.cpu) away

    -- and is there, changed
    held_after : held live_after t r d ≡ on_pages d.msrs (option_map changed (page_of k.machine.pages d.state)) (page_of k.machine.pages d.msr_area)
    held_after =
        held_off t d.msrs (page_of after d.state) (page_of after d.msr_area) (slice_get k.on r.cpu) (slice_get k.machine.cpus r.cpu) away
        ∙ rw (page_of-change_same k.machine.pages d.state changed, areas_stay t d i.control) refl

    -- it has its pages still
    its_pages : HasStateAndMsrArea after m d
    its_pages =
        let e = stands.pages t m r d i in
        record {
          state = changed e.state;
          state_is = page_of-change_same k.machine.pages d.state changed ∙ ap (option_map changed) e.state_is;
          area = e.area;
          area_is = areas_stay t d i.control ∙ e.area_is;
          full = e.full;
          room = e.room;
          entries = e.entries;
        }

    -- the system has the same of it
    its_own : IsOwn m things_after y.msrs (held live_after t r d)
    its_own =
        let o = stands.owns t m r d i (λ z. not_some t z) in
        record {
          page = value_changed same_thing (state m.name) changed y.things
              ∙ (ap (option_map changed) (o.page ∙ ap (λ (h : Held). h.page) held_before) ∙ ap (λ (h : Held). h.page) (sym held_after));
          values = record {
            values = o.values.values;
            at = o.values.at;
            same = λ index h. ap (λ (x : Held). x.msr index) held_after ∙ (sym (ap (λ (x : Held). x.msr index) held_before) ∙ o.values.same index h);
          };
        }

    -- and of every other one
    others_own : (s : ℕ) (n : Subject) (q : SubjectPart) (c : Control) → Joined g s n q c → (s ≡ t → ⊥) → IsOwn n things_after y.msrs (held live_after s q c)
    others_own s n q c j ne =
        own_same n y.things things_after y.msrs y.msrs (held k s q c) (held live_after s q c)
        (value_other same_thing (state m.name) (state n.name) changed y.things
        (things_apart (state m.name) (state n.name) (λ e. names_differ g fixed s t n m q r c d j i ne (sym (state_names m.name n.name e)))))
        refl
        (held_same s c.msrs (page_of k.machine.pages c.state) (page_of k.machine.pages c.msr_area) (page_of after c.state) (page_of after c.msr_area)
        (slice_get k.on q.cpu) (slice_get k.machine.cpus q.cpu) (states_stay s c j.control ne) (areas_stay s c j.control))
        (stands.owns s n q c j (λ z. not_some s z))

    -- so the machine stands for the system
    pub page_stands : StandsFor g live_after (with_bytes (state m.name) offset new y)
    page_stands = record {
      shows = change_elsewhere g fixed k.machine.pages y.things things_after d.state changed (state_at t) at_spot (λ x b e. cc (e))
          (λ x hx. value_other same_thing (state m.name) x changed y.things (things_apart (state m.name) x (λ e. no_state g fixed x m.name hx (sym e))))
          (λ old h. over_small old offset new h small) stands.shows;
      pages = each_subject g (λ s n q c. HasStateAndMsrArea after n c) t m r d i its_pages
          (λ s n q c j ne. pages_stay k.machine.pages after n c (states_stay s c j.control ne) (areas_stay s c j.control) (stands.pages s n q c j));
      owns = λ s n q c j but. each_subject g (λ s n q c. IsOwn n things_after y.msrs (held live_after s q c)) t m r d i its_own others_own s n q c j;
      router = stands.router;
      cpus = stands.cpus;
      ports = stands.ports;
      many_ports = stands.many_ports;
      small_ports = stands.small_ports;
      frame = stands.frame;
    }

  -- who is watched is not on the CPU
  pub watched_away : (k : Live) (cpu s : ℕ) (n : Subject) (q : SubjectPart) (c : Control) (x : Thing) → Joined g s n q c → q.cpu ≡ cpu
      → slice_get k.on cpu ≡ Some (Some s) → (w : Watches g s n x) → (who : Option ℕ) → slice_get k.on w.part.cpu ≡ Some who → is_subject_entered w.number who ≡ false
  watched_away k cpu s n q c x j its on w who at =
      let same : w.part.cpu ≡ cpu = w.joined.cpu ∙ (w.cpu ∙ (sym j.cpu ∙ its)) in
      not_on w.number s who (one_value _ who (Some s) (ap (slice_get k.on) (sym same) ∙ at) on) w.other

  -- ---- a store, of the subject that is on the CPU
  seen_stands : (k : Live) (y : System) (cpu s : ℕ) (n : Subject) (q : SubjectPart) (c : Control) → Joined g s n q c → q.cpu ≡ cpu
      → slice_get k.on cpu ≡ Some (Some s) → (x : Thing) (offset : ℕ) (new : List ℕ) → offset % 4096 + length new ≤ 4096 → All IsByte new
      → (offset / 4096 < g.pages x) ⊎ ((offset < 4096) × Watches g s n x) → StandsFor g k y
      → StandsFor g (with_page_of (g.first x + offset / 4096) (λ old. over old (offset % 4096) new) k) (with_bytes x offset new y)
  seen_stands k y cpu s n q c j its on x offset new room small (inl h) stands = bytes_stand k y x offset new h room small stands
  seen_stands k y cpu s n q c j its on x offset new room small (inr h) stands =
      let w = h.1 in
      let done = page_stands k y w.number w.subject w.part w.control offset new w.joined small (watched_away k cpu s n q c x j its on w) stands in
      let there : w.control.state ≡ g.first x = sym (fixed.state_pages w.number w.subject w.control w.joined.subject w.joined.control) ∙ ap g.first w.page in
      let page : w.control.state ≡ g.first x + offset / 4096 = omega (arith, there, h.0) in
      let off : offset ≡ offset % 4096 = omega (arith, h.0) in
      subst (λ i. StandsFor g (with_page_of (g.first x + offset / 4096) (λ old. over old i new) k) (with_bytes x offset new y)) off
      (subst (λ b. StandsFor g (with_page_of b (λ old. over old offset new) k) (with_bytes x offset new y)) page
      (subst (λ b. StandsFor g (with_page_of w.control.state (λ old. over old offset new) k) (with_bytes b offset new y)) w.page done))

  -- what a store needs: where it goes is seen, and it stays in its page
  pub record IsStoreOf (s : ℕ) (n : Subject) (w : Stored Thing) : Type 0 where
    pub there : (w.offset / 4096 < g.pages w.target) ⊎ ((w.offset < 4096) × Watches g s n w.target)
    pub room : w.offset % 4096 + length w.bytes ≤ 4096
    pub small : All IsByte w.bytes

  -- a store, or none
  pub store_stands : (k : Live) (y : System) (cpu s : ℕ) (n : Subject) (q : SubjectPart) (c : Control) → Joined g s n q c → q.cpu ≡ cpu
      → slice_get k.on cpu ≡ Some (Some s) → (o : Option (Stored Thing)) → ((w : Stored Thing) → o ≡ Some w → IsStoreOf s n w) → StandsFor g k y
      → StandsFor g (with_pages (option_map (renamed_store (page_and_offset g.first)) o) k) (with_store o y)
  store_stands k y cpu s n q c j its on None h stands = stands
  store_stands k y cpu s n q c j its on (Some w) h stands =
      let is = h w refl in
      seen_stands k y cpu s n q c j its on w.target w.offset w.bytes is.room is.small is.there stands
