-- The state of who is on a CPU, and what it wrote into an MSR, change on both sides: the machine stands for the system still.
use Rattle.std.proofs.Common.{◌≡◌, ℕ, ◌<◌, eqb, Option, Some, None, List, refl, sym, ap, ◌∙◌, subst, inl, inr, arith}
use Rattle.std.specs.Prelude.{option_map, option_and_then, slice_get}
use Rattle.std.specs.Str.{bytes_eq}
use Rattle.std.proofs.lemmas.Bool.{cases_eq, eq-eqb}
use Rattle.machine_layout.specs.Memory.{Page, page_of, change}
use Rattle.policy_lawful.specs.Thing.{Thing, state, same_thing}
use Rattle.policy_lawful.specs.source.Subject.{Subject}
use Rattle.image_pack.specs.declared.parts.SubjectPart.{SubjectPart}
use Rattle.muen_num.specs.ListChange.{change_at}
use Rattle.muen_num.proofs.ChangeLaws.{element_changes}
use Rattle.muen_num.proofs.Options.{one_value}
use Rattle.guest_isa.specs.Step.{MsrWrite, Stored}
use Rattle.subject_model.specs.StatePage.{page_bytes, state_in}
use Rattle.subject_model.specs.SubjectState.{SubjectState}
use Rattle.vmx_machine.specs.Machine.{with_store as with_page, msr_file_with_write as with_file}
use Rattle.vmx_machine.specs.MsrFile.{msr_slot_of, put_at, value_in, with_msr}
use Rattle.vmx_machine.specs.declared.control.Control.{Control}
use Rattle.vmx_machine.specs.declared.cpu.Cpu.{Cpu}
use Rattle.vmx_machine.specs.declared.cpu.Entered.{Entered}
use Rattle.kernel_core.specs.Kernel.{Live}
use Rattle.subject_model.specs.Alone.{MsrValues, Things, msr_value, thing_in}
use Rattle.subject_model.specs.System.{Named, System, change_named, change_thing, with_own, with_write}
use Rattle.proof_turns.specs.Ground.{Ground, Joined}
use Rattle.proof_turns.specs.Fixed.{IsFixed}
use Rattle.guest_isa.specs.Words.{FitsState, IsWord}
use Rattle.proof_turns.specs.Held.{Held, held_by, held, on_cpu, FitsFile, IsOwn}
use Rattle.proof_turns.specs.Stands.{ShowsThings, SameEntered, FitsCpu, FitsEntered, StandsFor, Running}
use Rattle.proof_turns.proofs.AreaLaws.{with_msr_fits, with_msr_other}
use Rattle.subject_model.proofs.KeyLaws.{value_changed, value_other, names_apart, numbers_apart, things_apart}
use Rattle.policy_lawful.proofs.SameThings.{state_names}
use Rattle.proof_turns.proofs.Holds.{found_before, some_changed, not_on, held_apart_on, own_same, each_subject}

-- ---- MSR values, by index on both sides

-- a value that is written is read
value_written : (index v : ℕ) (file : List ℕ) → value_in (with_msr index v file) index ≡ option_map (λ _. v) (value_in file index)
value_written index v file = by_slot (msr_slot_of index)
  where
    by_slot : (o : Option ℕ) → option_and_then (slice_get (put_at o v file)) o ≡ option_map (λ _. v) (option_and_then (slice_get file) o)
    by_slot None = refl
    by_slot (Some i) = element_changes i (λ _. v) file

-- a write of an MSR is the same in both
msr_alike : (m : Option MsrWrite) (file : List ℕ) (values : MsrValues) (index : ℕ) → value_in file index ≡ msr_value values index
    → value_in (with_file m file) index ≡ msr_value (with_write m values) index
msr_alike None file values index h = h
msr_alike (Some w) file values index h =
    elim (cases_eq index w.index) [
      | inl e ↦
          ap (λ i. value_in (with_msr w.index w.value file) i) e
          ∙ (value_written w.index w.value file
          ∙ (ap (λ i. option_map (λ _. w.value) (value_in file i)) (sym e)
          ∙ (ap (option_map (λ _. w.value)) h
          ∙ (ap (λ i. option_map (λ _. w.value) (msr_value values i)) e
          ∙ (sym (value_changed eqb w.index (λ _. w.value) values) ∙ ap (λ i. msr_value (with_write (Some w) values) i) (sym e))))))
      | inr ne ↦ with_msr_other w.index w.value index file ne ∙ (h ∙ sym (value_other eqb w.index index (λ _. w.value) values (numbers_apart w.index index (λ e. ne (sym e)))))
    ]

-- what is written is a word
abbrev pub WritesWord : Option MsrWrite → Type 0
WritesWord None = Unit {0}
WritesWord (Some w) = IsWord w.value

-- such a write keeps the MSRs' values words
file_fits : (m : Option MsrWrite) (file : List ℕ) → WritesWord m → FitsFile file → FitsFile (with_file m file)
file_fits None file h f = f
file_fits (Some w) file h f = with_msr_fits w.index w.value file h f

-- ---- the state and the MSRs of who is on a CPU

-- who is entered has this state, and the CPU what it wrote into an MSR
abbrev pub with_entered : SubjectState → Option MsrWrite → Cpu → Cpu
with_entered st m u = record { entered = option_map (λ e. record { control = e.control; state = st }) u.entered; file = with_file m u.file }

-- .. in the machine
abbrev pub with_cpu : ℕ → SubjectState → Option MsrWrite → Live → Live
with_cpu cpu st m k = record k { machine = record { pages = k.machine.pages; cpus = change_at cpu (with_entered st m) k.machine.cpus } }

-- a page of memory is changed
abbrev pub with_page_of : ℕ → (List ℕ → List ℕ) → Live → Live
with_page_of page f k = record k { machine = record { pages = change k.machine.pages page f; cpus = k.machine.cpus } }

-- something is stored, or nothing
abbrev pub with_pages : Option (Stored ℕ) → Live → Live
with_pages w k = record k { machine = record { pages = with_page w k.machine.pages; cpus = k.machine.cpus } }

module _ (g : Ground) (fixed : IsFixed g) where
  -- no thing with pages is a state page
  pub no_state : (x : Thing) (name : List ℕ) → 0 < g.pages x → x ≡ state name → ⊥
  no_state x name h e = let z : g.pages x ≡ 0 = ap g.pages e ∙ fixed.no_thing name in absurd (omega (arith, h, z))

  -- memory shows things that are the same where they have pages
  shows_things : (pages : List Page) (things later : Things) → ((x : Thing) → 0 < g.pages x → thing_in later x ≡ thing_in things x) → ShowsThings g pages things → ShowsThings g pages later
  shows_things pages things later same shows = record {
    bytes = λ x j h. shows.bytes x j h ∙ ap (option_map _) (sym (same x (omega (arith, h))));
    kept = shows.kept;
    there = shows.there;
    small = shows.small;
  }

  -- two subjects have two names
  pub names_differ : (s t : ℕ) (n m : Subject) (q r : SubjectPart) (c d : Control) → Joined g s n q c → Joined g t m r d → (s ≡ t → ⊥) → n.name ≡ m.name → ⊥
  names_differ s t n m q r c d j i ne e = ne (fixed.names s t n m j.subject i.subject e)

  -- ---- its own state
  module _ (k : Live) (y : System) (cpu s : ℕ) (n : Subject) (q : SubjectPart) (c : Control)
      (run : Running g k y cpu s n c) (j : Joined g s n q c) (its : q.cpu ≡ cpu)
      (st : SubjectState) (m : Option MsrWrite) (fits : FitsState st) (word : WritesWord m) where
    -- the CPUs after it, and what the system has then
    abbrev cpus_then : List Cpu
    cpus_then = change_at cpu (with_entered st m) k.machine.cpus

    abbrev things_then : Things
    things_then = change_thing (state n.name) (λ _. page_bytes st) y.things

    abbrev msrs_then : Named MsrValues
    msrs_then = change_named n.name (with_write m) y.msrs

    -- its entry, and its CPU
    abbrev entry_then : Entered
    entry_then = record { control = run.entry.control; state = st }

    abbrev unit_then : Cpu
    unit_then = with_entered st m run.unit

    -- the CPU has that entry
    then_entered : unit_then.entered ≡ Some entry_then
    then_entered = ap (option_map (λ (e : Entered). record { control = e.control; state = st })) run.entered

    -- it is there
    own_there : slice_get cpus_then cpu ≡ Some unit_then
    own_there = element_changes cpu (with_entered st m) k.machine.cpus ∙ ap (option_map (with_entered st m)) run.at

    -- the system's page is that of the state
    page_there : thing_in things_then (state n.name) ≡ Some (page_bytes st)
    page_there = value_changed same_thing (state n.name) (λ _. page_bytes st) y.things ∙ is_there (thing_in y.things (state n.name)) run.entry.state run.state
      where
        is_there : (o : Option (List ℕ)) (z : SubjectState) → option_map state_in o ≡ Some z → option_map (λ _. page_bytes st) o ≡ Some (page_bytes st)
        is_there None z h = absurd (cc (h))
        is_there (Some page) z h = refl

    -- what it has is on the CPU
    held_then : held (with_cpu cpu st m k) s q c ≡ on_cpu unit_then
    held_then =
        ap (λ b. held_by s c.msrs (page_of k.machine.pages c.state) (page_of k.machine.pages c.msr_area) (slice_get k.on b) (slice_get cpus_then b)) its
        ∙ rw (run.on, own_there, eq-eqb s s refl) refl

    -- .. and is what the system has of it
    own_after : IsOwn n things_then msrs_then (held (with_cpu cpu st m k) s q c)
    own_after = record {
      page = page_there ∙ (sym (ap (option_map (λ (e : Entered). page_bytes e.state)) then_entered) ∙ ap (λ (h : Held). h.page) (sym held_then));
      values = record {
        values = with_write m run.msrs.values;
        at = value_changed bytes_eq n.name (with_write m) y.msrs ∙ ap (option_map (with_write m)) run.msrs.at;
        same = λ index h. ap (λ (x : Held). x.msr index) held_then ∙ msr_alike m run.unit.file run.msrs.values index (run.msrs.same index h);
      };
    }

    -- another subject has what it had
    other_after : (t : ℕ) (n' : Subject) (r : SubjectPart) (d : Control) → Joined g t n' r d → (t ≡ s → ⊥) → IsOwn n' things_then msrs_then (held (with_cpu cpu st m k) t r d)
    other_after t n' r d i ne =
        own_same n' y.things things_then y.msrs msrs_then (held k t r d) (held (with_cpu cpu st m k) t r d)
        (value_other same_thing (state n.name) (state n'.name) (λ _. page_bytes st) y.things
        (things_apart (state n.name) (state n'.name) (λ e. names_differ t s n' n r q d c i j ne (sym (state_names n.name n'.name e)))))
        (value_other bytes_eq n.name n'.name (with_write m) y.msrs (names_apart n.name n'.name (λ e. names_differ t s n' n r q d c i j ne (sym e))))
        (held_apart_on (with_entered st m) t d.msrs (page_of k.machine.pages d.state) (page_of k.machine.pages d.msr_area) k.on k.machine.cpus cpu r.cpu
        (λ who at. not_on t s who (one_value _ who (Some s) at run.on) ne))
        (run.stands.owns t n' r d i (λ e. ne (some_same t s e)))
      where
        some_same : (t s : ℕ) → Some s ≡ Some t → t ≡ s
        some_same t s e = cc (e)

    -- who was on a CPU by both still is
    entered_stays : (b : ℕ) (who : Option ℕ) (o : Option Entered) → SameEntered g b who o → SameEntered g b who (option_map (λ e. record { control = e.control; state = st }) o)
    entered_stays b None None h = h
    entered_stays b (Some t) (Some e) h = record { is = h.is; there = h.there; control = h.control }
    entered_stays b None (Some e) h = h
    entered_stays b (Some t) None h = h

    -- the state of who is on it fits
    entered_fit : (o : Option Entered) → FitsEntered (option_map (λ e. record { control = e.control; state = st }) o)
    entered_fit None = tt
    entered_fit (Some e) = fits

    -- the things of memory are those of the system: no page of a state is one
    things_shown : ShowsThings g k.machine.pages things_then
    things_shown =
        shows_things k.machine.pages y.things things_then
        (λ x h. value_other same_thing (state n.name) x (λ _. page_bytes st) y.things (things_apart (state n.name) x (λ e. no_state x n.name h (sym e)))) run.stands.shows

    -- so the machine stands for the system
    pub own_stands : StandsFor g (with_cpu cpu st m k) (with_own n.name st m y)
    own_stands = record {
      shows = things_shown;
      pages = run.stands.pages;
      owns = λ t m' r d i but. each_subject g (λ t n' r d. IsOwn n' things_then msrs_then (held (with_cpu cpu st m k) t r d)) s n q c j own_after other_after t m' r d i;
      router = run.stands.router;
      cpus = record {
        on_there = run.stands.cpus.on_there;
        cpus_there = λ b. some_changed cpu (with_entered st m) k.machine.cpus b ∙ run.stands.cpus.cpus_there b;
        entered = λ b who u at there. found_before cpu (with_entered st m) k.machine.cpus b u there
            (λ w e wat is. subst (λ (x : Cpu). SameEntered g b who x.entered) is (entered_stays b who w.entered (run.stands.cpus.entered b who w at wat)))
            (λ ne wat. run.stands.cpus.entered b who u at wat);
        fits = λ b u there. found_before cpu (with_entered st m) k.machine.cpus b u there
            (λ w e wat is. subst FitsCpu is (record { entered = entered_fit w.entered; file = file_fits m w.file word (run.stands.cpus.fits b w wat).file }))
            (λ ne wat. run.stands.cpus.fits b u wat);
      };
      ports = run.stands.ports;
      many_ports = run.stands.many_ports;
      small_ports = run.stands.small_ports;
      frame = run.stands.frame;
    }
