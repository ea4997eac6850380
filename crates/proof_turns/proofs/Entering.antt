-- A subject that enters its CPU, or is on it already, runs: it has the state and the MSRs that the system says.
use Rattle.std.proofs.Common.{◌≡◌, ℕ, Some, None, List, [], refl, sym, ap, ◌∙◌, subst}
use Rattle.std.specs.Prelude.{option_map, slice_get, unwrap_or}
use Rattle.std.specs.List.{All}
use Rattle.machine_layout.specs.Exits.{AreaEntry}
use Rattle.machine_layout.specs.Memory.{page_of}
use Rattle.policy_lawful.specs.Thing.{state}
use Rattle.policy_lawful.specs.source.Subject.{Subject}
use Rattle.image_pack.specs.declared.parts.SubjectPart.{SubjectPart}
use Rattle.muen_num.specs.ListChange.{change_at}
use Rattle.muen_num.proofs.ChangeLaws.{element_changes}
use Rattle.muen_num.proofs.Options.{one_value}
use Rattle.subject_model.specs.StatePage.{state_in}
use Rattle.vmx_machine.specs.Machine.{entries_in, put_on, entered, page_bytes_at}
use Rattle.vmx_machine.specs.MsrFile.{value_in}
use Rattle.vmx_machine.specs.declared.control.Control.{Control}
use Rattle.vmx_machine.specs.declared.cpu.Cpu.{Cpu}
use Rattle.vmx_machine.specs.declared.cpu.Entered.{Entered}
use Rattle.kernel_core.specs.Kernel.{Live}
use Rattle.subject_model.specs.Alone.{thing_in}
use Rattle.subject_model.specs.System.{System}
use Rattle.proof_turns.specs.Ground.{Ground, Joined}
use Rattle.proof_turns.specs.Fixed.{IsFixed}
use Rattle.guest_isa.specs.Words.{IsByte}
use Rattle.proof_turns.specs.Held.{Held, held, on_pages, is_subject_entered, AreEntries, IsOwn, MsrsAre}
use Rattle.proof_turns.specs.Stands.{HasStateAndMsrArea, SameEntered, FitsCpu, FitsEntered, CpusStand, StandsFor, Running}
use Rattle.proof_turns.proofs.AreaLaws.{filled_value, entries_fit, filled_fits}
use Rattle.guest_isa.proofs.StateLaws.{state_law, read_fits}
use Rattle.proof_turns.proofs.Holds.{not_some, found_before, some_changed, not_on, held_off, held_apart, own_same}
use Rattle.proof_turns.proofs.Leaving.{held_there, page_on_cpu, same_entered}
use Rattle.proof_turns.proofs.Residents.{Present, Resident}

-- the subject is entered on the CPU, by the machine and by the kernel
abbrev pub entered_live : ℕ → ℕ → Control → Live → Live
entered_live cpu s c k = record k { machine = entered cpu c k.machine; on = change_at cpu (λ _. Some s) k.on }

module _ (g : Ground) (fixed : IsFixed g) where
  -- ---- a CPU on which nobody is

  module _ (k : Live) (y : System) (stands : StandsFor g k y) (cpu : ℕ) (enters : Resident g cpu)
      (nobody : slice_get k.on cpu ≡ Some None) (v : Cpu) (at : slice_get k.machine.cpus cpu ≡ Some v) where
    -- its number, what it is in the policy, and its part and its control in the machine
    abbrev s : ℕ
    s = enters.number

    abbrev n : Subject
    n = enters.is.subject

    abbrev q : SubjectPart
    q = enters.is.part

    abbrev c : Control
    c = enters.is.control

    abbrev j : Joined g s n q c
    j = enters.is.joined

    -- the CPU with it, and its entry there
    abbrev now_on : Cpu
    now_on = put_on k.machine.pages c v

    abbrev entry_now : Entered
    entry_now = record { control = c; state = state_in (page_bytes_at k.machine.pages c.state) }

    entered_there : slice_get (change_at cpu (put_on k.machine.pages c) k.machine.cpus) cpu ≡ Some now_on
    entered_there = element_changes cpu (put_on k.machine.pages c) k.machine.cpus ∙ ap (option_map (put_on k.machine.pages c)) at

    on_there : slice_get (change_at cpu (λ _. Some s) k.on) cpu ≡ Some (Some s)
    on_there = element_changes cpu (λ _. Some s) k.on ∙ ap (option_map (λ _. Some s)) nobody

    its_pages : HasStateAndMsrArea k.machine.pages n c
    its_pages = stands.pages s n q c j

    its_own : IsOwn n y.things y.msrs (held k s q c)
    its_own = stands.owns s n q c j (λ x. not_some s x)

    -- what it had was on its pages
    was_off : held k s q c ≡ on_pages c.msrs (page_of k.machine.pages c.state) (page_of k.machine.pages c.msr_area)
    was_off =
        held_off s c.msrs (page_of k.machine.pages c.state) (page_of k.machine.pages c.msr_area) (slice_get k.on q.cpu) (slice_get k.machine.cpus q.cpu)
        (λ who w. ap (is_subject_entered s) (one_value _ who None (ap (slice_get k.on) (sym enters.its) ∙ w) nobody))

    area_at_hand : page_bytes_at k.machine.pages c.msr_area ≡ its_pages.area
    area_at_hand = ap (λ x. unwrap_or x []) its_pages.area_is

    -- its MSRs on the CPU are those of its area
    entered_msrs : MsrsAre n y.msrs (value_in now_on.file)
    entered_msrs =
        let es : List AreaEntry = entries_in c.msrs (page_bytes_at k.machine.pages c.msr_area) in
        let ok : AreEntries n es = subst (λ x. AreEntries n (entries_in c.msrs x)) (sym area_at_hand) its_pages.entries in
        record {
          values = its_own.values.values;
          at = its_own.values.at;
          same = λ index h.
              filled_value es v.file index (stands.cpus.fits cpu v at).file.length ok.distinct (ok.covers index h) (fixed.in_file s n index h.0 j.subject h.1)
              ∙ (sym (ap (λ (x : Held). x.msr index) was_off) ∙ its_own.values.same index h);
        }

    -- its page in memory is the page in the system, whoever wrote it
    entered_state : option_map state_in (thing_in y.things (state n.name)) ≡ Some entry_now.state
    entered_state =
        ap (option_map state_in) (its_own.page ∙ (ap (λ (x : Held). x.page) was_off ∙ its_pages.state_is))
        ∙ ap (λ x. Some (state_in (unwrap_or x []))) (sym its_pages.state_is)

    -- its state and its MSRs fit
    entered_fits : FitsCpu now_on
    entered_fits =
        let state_bytes = stands.shows.small c.state its_pages.state its_pages.state_is in
        let area_bytes = stands.shows.small c.msr_area its_pages.area its_pages.area_is in
        record {
          entered = read_fits (page_bytes_at k.machine.pages c.state) (subst (λ x. All IsByte (unwrap_or x [])) (sym its_pages.state_is) state_bytes);
          file = filled_fits (entries_in c.msrs (page_bytes_at k.machine.pages c.msr_area)) v.file
              (entries_fit c.msrs (page_bytes_at k.machine.pages c.msr_area) (subst (All IsByte) (sym area_at_hand) area_bytes)) (stands.cpus.fits cpu v at).file;
        }

    -- it is on the CPU by the kernel and by the machine
    is_entered : (b : ℕ) → b ≡ cpu → SameEntered g b (Some s) (Some entry_now)
    is_entered b e = record { is = enters.is; there = enters.its ∙ sym e; control = refl }

    -- the CPUs stand as they did
    entered_cpus : CpusStand g (change_at cpu (λ _. Some s) k.on) (change_at cpu (put_on k.machine.pages c) k.machine.cpus)
    entered_cpus = record {
      on_there = λ b. some_changed cpu (λ _. Some s) k.on b ∙ stands.cpus.on_there b;
      cpus_there = λ b. some_changed cpu (put_on k.machine.pages c) k.machine.cpus b ∙ stands.cpus.cpus_there b;
      entered = λ b who u wat there.
          found_before cpu (λ _. Some s) k.on b who wat
          (λ x e xat is. found_before cpu (put_on k.machine.pages c) k.machine.cpus b u there
          (λ w f _ isw. same_entered g b (Some s) who (Some entry_now) u.entered (sym is) (ap (λ (z : Cpu). z.entered) (sym isw)) (is_entered b e))
          (λ ne _. absurd (ne e)))
          (λ ne xat. found_before cpu (put_on k.machine.pages c) k.machine.cpus b u there (λ w f _ isw. absurd (ne f)) (λ _ w. stands.cpus.entered b who u xat w));
      fits = λ b u there. found_before cpu (put_on k.machine.pages c) k.machine.cpus b u there
          (λ w f wat isw. subst FitsCpu isw (subst (λ x. FitsCpu (put_on k.machine.pages c x)) (one_value _ v w at (ap (slice_get k.machine.cpus) (sym f) ∙ wat)) entered_fits))
          (λ ne w. stands.cpus.fits b u w);
    }

    -- another subject has what it had
    others_own : (t : ℕ) (m : Subject) (r : SubjectPart) (d : Control) → Joined g t m r d → (t ≡ s → ⊥) → IsOwn m y.things y.msrs (held (entered_live cpu s c k) t r d)
    others_own t m r d i ne =
        own_same m y.things y.things y.msrs y.msrs (held k t r d) (held (entered_live cpu s c k) t r d) refl refl
        (held_apart (put_on k.machine.pages c) (λ _. Some s) t d.msrs (page_of k.machine.pages d.state) (page_of k.machine.pages d.msr_area) k.on k.machine.cpus cpu r.cpu
        (λ who wat. (ap (is_subject_entered t) (one_value _ who None wat nobody), not_on t s (Some s) refl ne)))
        (stands.owns t m r d i (λ x. not_some t x))

    -- so it runs
    pub entered_runs : Running g (entered_live cpu s c k) y cpu s n c
    entered_runs = record {
      stands = record {
        shows = stands.shows;
        pages = stands.pages;
        owns = λ t m r d i but. others_own t m r d i (λ e. but (ap Some (sym e)));
        router = stands.router;
        cpus = entered_cpus;
        ports = stands.ports;
        many_ports = stands.many_ports;
        small_ports = stands.small_ports;
        frame = stands.frame;
      };
      on = on_there;
      unit = now_on;
      at = entered_there;
      entry = entry_now;
      entered = refl;
      control = refl;
      state = entered_state;
      msrs = entered_msrs;
    }

  -- ---- who is on its CPU already: its page in the system is a written one

  pub stays_runs : (k : Live) (y : System) → StandsFor g k y → (cpu : ℕ) (here : Present g k cpu) → here.entry.control ≡ here.who.is.control
      → Running g k y cpu here.who.number here.who.is.subject here.who.is.control
  stays_runs k y stands cpu here same =
      let x = here.who.is in
      let o = stands.owns here.who.number x.subject x.part x.control x.joined (λ e. not_some here.who.number e) in
      let was = held_there g fixed k y stands cpu here in
      let page = page_on_cpu g fixed k y stands cpu here in
      record {
        stands = record {
          shows = stands.shows;
          pages = stands.pages;
          owns = λ t m r d i but. stands.owns t m r d i (λ e. not_some t e);
          router = stands.router;
          cpus = stands.cpus;
          ports = stands.ports;
          many_ports = stands.many_ports;
          small_ports = stands.small_ports;
          frame = stands.frame;
        };
        on = here.on;
        unit = here.unit;
        at = here.at;
        entry = here.entry;
        entered = here.entered;
        control = same;
        state = ap (option_map state_in) (o.page ∙ (ap (λ (h : Held). h.page) was ∙ page))
            ∙ ap Some (state_law here.entry.state (subst FitsEntered here.entered (stands.cpus.fits cpu here.unit here.at).entered));
        msrs = record { values = o.values.values; at = o.values.at; same = λ index h. sym (ap (λ (z : Held). z.msr index) was) ∙ o.values.same index h };
      }
