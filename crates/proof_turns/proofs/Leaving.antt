-- A CPU that is left keeps what the machine stands for.
use Rattle.std.proofs.Common.{◌≡◌, ℕ, Option, Some, None, List, refl, sym, ap, ◌∙◌, arith}
use Rattle.std.specs.Prelude.{option_map, slice_get}
use Rattle.std.proofs.lemmas.Bool.{eq-eqb}
use Rattle.machine_layout.specs.Memory.{Page, page_of}
use Rattle.policy_lawful.specs.source.Subject.{Subject}
use Rattle.image_pack.specs.declared.parts.SubjectPart.{SubjectPart}
use Rattle.muen_num.specs.ListChange.{change_at}
use Rattle.muen_num.proofs.Options.{one_value}
use Rattle.subject_model.specs.StatePage.{page_bytes}
use Rattle.subject_model.specs.SubjectState.{SubjectState}
use Rattle.vmx_machine.specs.Machine.{MachineState, entries_in, put_off_by, left, left_by}
use Rattle.vmx_machine.specs.declared.control.Control.{Control}
use Rattle.vmx_machine.specs.declared.cpu.Cpu.{Cpu}
use Rattle.vmx_machine.specs.declared.cpu.Entered.{Entered}
use Rattle.kernel_core.specs.Kernel.{Live}
use Rattle.subject_model.specs.System.{System}
use Rattle.proof_turns.specs.Ground.{Ground, IsSubject, Joined}
use Rattle.proof_turns.specs.Fixed.{IsFixed}
use Rattle.proof_turns.specs.Held.{entry_value, Held, held_by, held, on_cpu, on_pages, is_subject_entered, FitsFile, IsOwn}
use Rattle.proof_turns.specs.Stands.{HasStateAndMsrArea, SameEntered, FitsCpu, FitsEntered, CpusStand, StandsFor}
use Rattle.proof_turns.proofs.AreaLaws.{saved_page, entries_saved, refreshed_value}
use Rattle.proof_turns.proofs.Holds.{not_some, found_before, some_changed, not_on, held_off, held_apart, held_same, own_same, each_subject}
use Rattle.proof_turns.proofs.LeftPages.{area_stays, left_area, left_other_pages, left_own_pages, left_pages, left_shows, left_state, state_stays}
use Rattle.proof_turns.proofs.Residents.{Present}

-- ---- nobody is on a CPU that is left

-- the CPU after that
abbrev pub off : List Page → Cpu → Cpu
off pages v = (put_off_by pages v v.entered).cpu

-- by who was on it
off_by : (pages : List Page) (v : Cpu) (o : Option Entered) → v.entered ≡ o → ((put_off_by pages v o).cpu.entered ≡ None) × ((put_off_by pages v o).cpu.file ≡ v.file)
off_by pages v None e = (e, refl)
off_by pages v (Some w) e = (refl, refl)

-- nobody is on it
pub off_entered : (pages : List Page) (v : Cpu) → (off pages v).entered ≡ None
off_entered pages v = (off_by pages v v.entered refl).0

-- its MSRs stay
off_file : (pages : List Page) (v : Cpu) → (off pages v).file ≡ v.file
off_file pages v = (off_by pages v v.entered refl).1

-- who is entered by the kernel is entered by the machine, as it was with the same two
pub same_entered : (g : Ground) (cpu : ℕ) (who who' : Option ℕ) (o o' : Option Entered) → who' ≡ who → o' ≡ o → SameEntered g cpu who o → SameEntered g cpu who' o'
same_entered g cpu who who' o o' e f h = rw (e, f) h

-- who is entered fits
fits_entered : (o o' : Option Entered) → o' ≡ o → FitsEntered o → FitsEntered o'
fits_entered o o' e h = rw e h

-- the values of MSRs fit
fits_file : (file file' : List ℕ) → file' ≡ file → FitsFile file → FitsFile file'
fits_file file file' e h = rw e h

-- the machine is left, and memory has these pages
abbrev pub machine_off : ℕ → List Page → MachineState → MachineState
machine_off cpu later m = record { pages = later; cpus = change_at cpu (off m.pages) m.cpus }

-- .. and the kernel has nobody on the CPU
abbrev pub left_with : ℕ → List Page → Live → Live
left_with cpu later k = record k { machine = machine_off cpu later k.machine; on = change_at cpu (λ _. None) k.on }

-- lives with the same machine and list
pub same_live : (k : Live) (m m' : MachineState) (on on' : List (Option ℕ)) → m ≡ m' → on ≡ on'
    → ◌≡◌ {A = Live} (record k { machine = m; on = on }) (record k { machine = m'; on = on' })
same_live k m m' on on' e f = rw (e, f) refl

-- what is left of a CPU that is there
pub machine_left : (cpu : ℕ) (m : MachineState) (u : Cpu) → slice_get m.cpus cpu ≡ Some u → (o : Option Entered) → u.entered ≡ o
    → left cpu m ≡ machine_off cpu (put_off_by m.pages u o).pages m
machine_left cpu m u at o e = ap (left_by cpu m.pages m.cpus) at ∙ ap (λ x. machine_off cpu (put_off_by m.pages u x).pages m) e

-- .. if this one was on it
pub machine_left_by : (cpu : ℕ) (m : MachineState) (u : Cpu) (e : Entered) (d : Control) → slice_get m.cpus cpu ≡ Some u → u.entered ≡ Some e → e.control ≡ d
    → left cpu m ≡ machine_off cpu (left_pages d e.state u.file m.pages) m
machine_left_by cpu m u e d at is same = machine_left cpu m u at (Some e) is ∙ ap (λ (c : Control). machine_off cpu (left_pages c e.state u.file m.pages) m) same

module _ (g : Ground) (fixed : IsFixed g) where
  -- the CPUs stand as they did
  left_cpus : (pages : List Page) (on : List (Option ℕ)) (cpus : List Cpu) (cpu : ℕ) → CpusStand g on cpus → CpusStand g (change_at cpu (λ _. None) on) (change_at cpu (off pages) cpus)
  left_cpus pages on cpus cpu stands = record {
    on_there = λ b. some_changed cpu (λ _. None) on b ∙ stands.on_there b;
    cpus_there = λ b. some_changed cpu (off pages) cpus b ∙ stands.cpus_there b;
    entered = λ b who u at there.
        found_before cpu (λ _. None) on b who at
        (λ v e vat is. found_before cpu (off pages) cpus b u there
        (λ w f wat isw. same_entered g b None who None u.entered (sym is) (ap (λ (x : Cpu). x.entered) (sym isw) ∙ off_entered pages w) tt)
        (λ ne wat. absurd (ne e)))
        (λ ne vat. found_before cpu (off pages) cpus b u there (λ w f wat isw. absurd (ne f)) (λ _ wat. stands.entered b who u vat wat));
    fits = λ b u there. found_before cpu (off pages) cpus b u there
        (λ w f wat isw. record {
          entered = fits_entered None u.entered (ap (λ (x : Cpu). x.entered) (sym isw) ∙ off_entered pages w) tt;
          file = fits_file w.file u.file (ap (λ (x : Cpu). x.file) (sym isw) ∙ off_file pages w) (stands.fits b w wat).file;
        })
        (λ ne wat. stands.fits b u wat);
  }

  -- nobody was on it
  pub left_by_nobody : (k : Live) (y : System) (stands : StandsFor g k y) (cpu : ℕ) → slice_get k.on cpu ≡ Some None → StandsFor g (left_with cpu k.machine.pages k) y
  left_by_nobody k y stands cpu nobody = record {
    shows = stands.shows;
    pages = stands.pages;
    owns = λ s n q c j but. own_same n y.things y.things y.msrs y.msrs (held k s q c) (held (left_with cpu k.machine.pages k) s q c) refl refl
        (held_apart (off k.machine.pages) (λ _. None) s c.msrs (page_of k.machine.pages c.state) (page_of k.machine.pages c.msr_area) k.on k.machine.cpus cpu q.cpu
        (λ who at. (ap (is_subject_entered s) (one_value _ who None at nobody), refl)))
        (stands.owns s n q c j but);
    router = stands.router;
    cpus = left_cpus k.machine.pages k.on k.machine.cpus cpu stands.cpus;
    ports = stands.ports;
    many_ports = stands.many_ports;
    small_ports = stands.small_ports;
    frame = stands.frame;
  }

  -- a subject was on it
  module _ (k : Live) (y : System) (stands : StandsFor g k y) (cpu : ℕ) (here : Present g k cpu) where
    -- its number, what it is in the policy, and its part and its control in the machine
    abbrev t : ℕ
    t = here.who.number

    abbrev x : IsSubject g t
    x = here.who.is

    abbrev m : Subject
    m = x.subject

    abbrev r : SubjectPart
    r = x.part

    abbrev d : Control
    d = x.control

    -- the CPU, and its state there
    abbrev u : Cpu
    u = here.unit

    abbrev st : SubjectState
    st = here.entry.state

    -- memory after it was left
    abbrev later : List Page
    later = left_pages d st u.file k.machine.pages

    has : HasStateAndMsrArea k.machine.pages m d
    has = stands.pages t m r d x.joined

    fit : FitsCpu u
    fit = stands.cpus.fits cpu u here.at

    -- what it had on the CPU
    pub held_there : held k t r d ≡ on_cpu u
    held_there =
        ap (λ b. held_by t d.msrs (page_of k.machine.pages d.state) (page_of k.machine.pages d.msr_area) (slice_get k.on b) (slice_get k.machine.cpus b)) here.who.its
        ∙ rw (here.on, here.at, eq-eqb t t refl) refl

    -- its page there is that of its state
    pub page_on_cpu : (on_cpu u).page ≡ Some (page_bytes st)
    page_on_cpu = ap (option_map (λ e. page_bytes e.state)) here.entered

    -- what it has then is on its pages
    now_off : held (left_with cpu later k) t r d ≡ on_pages d.msrs (Some (page_bytes st)) (Some (saved_page d.msrs u.file has.area))
    now_off =
        held_off t d.msrs (page_of later d.state) (page_of later d.msr_area) (slice_get (change_at cpu (λ _. None) k.on) r.cpu) (slice_get (change_at cpu (off k.machine.pages) k.machine.cpus) r.cpu)
        (λ who w. found_before cpu (λ _. None) k.on r.cpu who w (λ v f vat isv. ap (is_subject_entered t) (sym isv)) (λ ne vat. absurd (ne here.who.its)))
        ∙ rw (left_state g fixed t x st u.file k.machine.pages has, left_area g fixed t x st u.file k.machine.pages has) refl

    -- that is what it had
    own : IsOwn m y.things y.msrs (held (left_with cpu later k) t r d)
    own =
        let o = stands.owns t m r d x.joined (λ e. not_some t e) in
        record {
          page = o.page ∙ (ap (λ (h : Held). h.page) held_there ∙ (page_on_cpu ∙ ap (λ (h : Held). h.page) (sym now_off)));
          values = record {
            values = o.values.values;
            at = o.values.at;
            same = λ index h.
                ap (λ (z : Held). z.msr index) now_off
                ∙ (ap (λ es. entry_value es index) (entries_saved d.msrs u.file has.area (omega (arith, has.room, has.full)) fit.file)
                ∙ (refreshed_value u.file (entries_in d.msrs has.area) index fit.file.length (fixed.in_file t m index h.0 x.joined.subject h.1) (has.entries.covers index h)
                ∙ (sym (ap (λ (z : Held). z.msr index) held_there) ∙ o.values.same index h)));
          };
        }

    -- another subject has what it had
    other_own : (s : ℕ) (n : Subject) (q : SubjectPart) (c : Control) → Joined g s n q c → (s ≡ t → ⊥) → IsOwn n y.things y.msrs (held (left_with cpu later k) s q c)
    other_own s n q c j ne =
        own_same n y.things y.things y.msrs y.msrs (held k s q c) (held (left_with cpu later k) s q c) refl refl
        (held_same s c.msrs (page_of k.machine.pages c.state) (page_of k.machine.pages c.msr_area) (page_of later c.state) (page_of later c.msr_area)
        (slice_get (change_at cpu (λ _. None) k.on) q.cpu) (slice_get (change_at cpu (off k.machine.pages) k.machine.cpus) q.cpu)
        (state_stays g fixed t x st u.file k.machine.pages has s c j.control ne) (area_stays g fixed t x st u.file k.machine.pages has s c j.control ne)
        ∙ held_apart (off k.machine.pages) (λ _. None) s c.msrs (page_of k.machine.pages c.state) (page_of k.machine.pages c.msr_area) k.on k.machine.cpus cpu q.cpu
        (λ who wat. (not_on s t who (one_value _ who (Some t) wat here.on) ne, refl)))
        (stands.owns s n q c j (λ e. not_some s e))

    -- so the machine stands for the same system
    pub left_by_subject : StandsFor g (left_with cpu later k) y
    left_by_subject = record {
      shows = left_shows g fixed t x st u.file k.machine.pages has y.things stands.shows;
      pages = each_subject g (λ s n q c. HasStateAndMsrArea later n c) t m r d x.joined (left_own_pages g fixed t x st u.file k.machine.pages has fit.file)
          (λ s n q c j ne. left_other_pages g fixed t x st u.file k.machine.pages has s n c j.control ne (stands.pages s n q c j));
      owns = λ s n q c j but. each_subject g (λ s n q c. IsOwn n y.things y.msrs (held (left_with cpu later k) s q c)) t m r d x.joined own other_own s n q c j;
      router = stands.router;
      cpus = left_cpus k.machine.pages k.on k.machine.cpus cpu stands.cpus;
      ports = stands.ports;
      many_ports = stands.many_ports;
      small_ports = stands.small_ports;
      frame = stands.frame;
    }
