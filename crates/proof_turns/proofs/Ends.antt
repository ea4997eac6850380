-- The end of a run: all CPUs are left, and memory shows the states and the things; and a run keeps how long each thing is.
use Rattle.std.proofs.Common.{◌≡◌, ◌+◌, ◌*◌, ◌<◌, ◌≤◌, ◌∷◌, ◌++◌, ◌∙◌, ℕ, zero, suc, Bool, true, List, [], length, take, drop, replicate, Option, Some, None, refl, sym, ap, subst, inl, inr, arith}
use Rattle.std.specs.Prelude.{if◌then◌else◌, false, option_map, slice_get, is_some, unwrap_or, nat_lt}
use Rattle.std.specs.List.{flat_map, list_all}
use Rattle.std.proofs.lemmas.Bool.{cases_lt, lt-ltb, le-ltb, true≢false, false≢true}
use Rattle.std.proofs.lemmas.Grind.{flat_map-append}
use Rattle.std.proofs.lemmas.List.{append-nil, take_all}
use Rattle.std.proofs.lemmas.Option.{slice_get_past}
use Rattle.std.proofs.Math.Seq.{drop-length, take-add}
use Rattle.muen_num.specs.Range.{numbers_below}
use Rattle.muen_num.specs.ListChange.{change_at}
use Rattle.machine_layout.specs.Memory.{Page, page_of, over}
use Rattle.machine_layout.proofs.StoreLaws.{length-over}
use Rattle.guest_isa.specs.Step.{Stored}
use Rattle.image_pack.specs.declared.parts.SubjectPart.{SubjectPart}
use Rattle.frame_clock.specs.Slot.{Slot}
use Rattle.policy_lawful.specs.Events.{Target, irq_of}
use Rattle.policy_lawful.specs.Frames.{frames_of}
use Rattle.policy_lawful.specs.Thing.{Thing, device_memory, same_thing, state}
use Rattle.policy_lawful.specs.source.Source.{Source}
use Rattle.policy_lawful.specs.source.Subject.{Subject}
use Rattle.subject_model.specs.DeviceRecord.{NamedInput, port_input, memory_input, irq_input, dma_input}
use Rattle.frame_clock.specs.Frames.{slot_in}
use Rattle.subject_model.specs.StatePage.{page_bytes, state_in}
use Rattle.subject_model.specs.SubjectState.{SubjectState}
use Rattle.frame_clock.specs.Run.{all_taken, begun, turns, tick_ran, run_to}
use Rattle.vmx_machine.specs.Machine.{MachineState, left, left_by, page_bytes_at}
use Rattle.vmx_machine.specs.declared.control.Control.{Control}
use Rattle.vmx_machine.specs.declared.cpu.Cpu.{Cpu}
use Rattle.vmx_machine.specs.declared.cpu.Entered.{Entered}
use Rattle.kernel_core.specs.Kernel.{Live}
use Rattle.kernel_core.specs.Ticks.{all_left, ended}
use Rattle.subject_model.specs.Alone.{MsrValues, Things, TurnAnswer, own_of, solo_turn, thing_in}
use Rattle.subject_model.specs.System.{System, answered, change_thing, inbox_of, named, state_of, subject_named, system_turn, turn_from, turn_in_slot, turn_of_member, turn_of_subject, with_bytes, with_own, with_store}
use Rattle.subject_model.specs.Clock.{ByteWrite, begins, irq_reaches, line_writes, system, takes, with_byte, with_each, with_line}
use Rattle.proof_turns.specs.Ground.{Ground, Joined, part}
use Rattle.proof_turns.specs.Fixed.{IsFixed}
use Rattle.proof_turns.specs.Held.{Held, held, is_subject_entered, on_pages}
use Rattle.proof_turns.specs.Stands.{SameEntered, StandsFor}
use Rattle.subject_model.proofs.KeyLaws.{things_apart, value_changed, value_other}
use Rattle.policy_lawful.proofs.SameThings.{cases_thing}
use Rattle.subject_model.proofs.SystemLaws.{raised_things}
use Rattle.proof_turns.proofs.Holds.{held_off, not_some}
use Rattle.proof_turns.proofs.LeftPages.{left_pages}
use Rattle.proof_turns.proofs.Leaving.{left_by_nobody, left_by_subject, left_with, machine_left, machine_left_by, machine_off, same_live}
use Rattle.proof_turns.proofs.Residents.{Present}
use Rattle.policy_lawful.proofs.NoPages.{NoPage}

-- ---- lists

-- a change of what isn't there
unchanged : {X : Type 0} (i : ℕ) (f : X → X) (xs : List X) → slice_get xs i ≡ None → change_at i f xs ≡ xs
unchanged i f [] h = refl
unchanged zero f (x ∷ xs) h = absurd (cc (h))
unchanged (suc i) f (x ∷ xs) h = ap (λ ys. x ∷ ys) (unchanged i f xs h)

-- a list that has an element at each number below n and at no other has n elements
length_there : {X : Type 0} (xs : List X) (n : ℕ) → ((i : ℕ) → is_some (slice_get xs i) ≡ nat_lt i n) → length xs ≡ n
length_there xs n h =
    elim (cases_lt (length xs) n) [
      | inl l ↦ absurd (false≢true (sym (ap is_some (slice_get_past xs (length xs) (omega arith))) ∙ (h (length xs) ∙ lt-ltb (length xs) n l)))
      | inr g ↦ elim (cases_lt n (length xs)) [
        | inl l ↦ absurd (true≢false (sym (there xs n l) ∙ (h n ∙ le-ltb n n (omega arith))))
        | inr e ↦ omega (arith, g, e)
      ]
    ]
  where
    there : {X : Type 0} (xs : List X) (i : ℕ) → i < length xs → is_some (slice_get xs i) ≡ true
    there [] i l = absurd (omega (arith, l))
    there (x ∷ xs) zero l = refl
    there (x ∷ xs) (suc i) l = there xs i (omega (arith, l))

-- each element of a list of one element many times is that one
of_many : {X : Type 0} (n i : ℕ) (x y : X) → slice_get (replicate n x) i ≡ Some y → y ≡ x
of_many zero i x y h = absurd (cc (h))
of_many (suc n) zero x y h = cc (h)
of_many (suc n) (suc i) x y h = of_many n i x y h

-- what is made of the numbers below a bound looks at these alone
flat_map_below : {X : Type 0} (f h : ℕ → List X) (m : ℕ) → ((j : ℕ) → j < m → f j ≡ h j) → flat_map f (numbers_below m) ≡ flat_map h (numbers_below m)
flat_map_below f h zero same = refl
flat_map_below f h (suc m) same =
    flat_map-append f (numbers_below m) (m ∷ [])
    ∙ (ap (λ xs. xs ++ (f m ++ [])) (flat_map_below f h m (λ j l. same j (omega (arith, l))))
    ∙ (ap (λ xs. flat_map h (numbers_below m) ++ (xs ++ [])) (same m (omega arith)) ∙ sym (flat_map-append h (numbers_below m) (m ∷ []))))

-- the first parts are the first bytes
first_parts : (m : ℕ) (bytes : List ℕ) → flat_map (λ j. part j bytes) (numbers_below m) ≡ take (4096 * m) bytes
first_parts zero bytes = refl
first_parts (suc m) bytes =
    let more : 4096 * m + 4096 ≡ 4096 * suc m = omega arith in
    flat_map-append (λ j. part j bytes) (numbers_below m) (m ∷ [])
    ∙ (ap (λ xs. xs ++ (part m bytes ++ [])) (first_parts m bytes)
    ∙ (ap (λ xs. take (4096 * m) bytes ++ xs) (append-nil (part m bytes))
    ∙ (sym (take-add (4096 * m) 4096 bytes) ∙ ap (λ i. take i bytes) more)))

-- all parts together are the bytes
pub parts_join : (m : ℕ) (bytes : List ℕ) → length bytes ≡ 4096 * m → flat_map (λ j. part j bytes) (numbers_below m) ≡ bytes
parts_join m bytes h = first_parts m bytes ∙ take_all (4096 * m) bytes (omega (arith, h))

-- ---- nobody is on a CPU that is left

-- the CPU is left, and the kernel has nobody on it
abbrev pub left_live : ℕ → Live → Live
left_live cpu k = record k { machine = left cpu k.machine; on = change_at cpu (λ _. None) k.on }

-- and so are some, one after another
abbrev pub all_left_live : List ℕ → Live → Live
all_left_live [] k = k
all_left_live (cpu ∷ cpus) k = all_left_live cpus (left_live cpu k)

-- the kernel's own list after these CPUs were left
abbrev pub nobody_on : List ℕ → List (Option ℕ) → List (Option ℕ)
nobody_on [] on = on
nobody_on (cpu ∷ cpus) on = nobody_on cpus (change_at cpu (λ _. None) on)

-- the machine and the kernel's list after that
pub all_left_is : (cpus : List ℕ) (k : Live) → all_left_live cpus k ≡ record k { machine = all_left cpus k.machine; on = nobody_on cpus k.on }
all_left_is [] k = refl
all_left_is (cpu ∷ cpus) k = all_left_is cpus (left_live cpu k)

-- some, and then more
nobody_joins : (cpus more : List ℕ) (on : List (Option ℕ)) → nobody_on (cpus ++ more) on ≡ nobody_on more (nobody_on cpus on)
nobody_joins [] more on = refl
nobody_joins (cpu ∷ cpus) more on = nobody_joins cpus more (change_at cpu (λ _. None) on)

-- where the first n elements are None, the next one is too
one_more : (n : ℕ) (on : List (Option ℕ)) → n < length on → change_at n (λ _. None) (replicate n None ++ drop n on) ≡ replicate (suc n) None ++ drop (suc n) on
one_more n [] h = absurd (omega (arith, h))
one_more zero (x ∷ xs) h = refl
one_more (suc n) (x ∷ xs) h = ap (λ ys. None ∷ ys) (one_more n xs (omega (arith, h)))

-- the first n CPUs are left
first_left : (n : ℕ) (on : List (Option ℕ)) → n ≤ length on → nobody_on (numbers_below n) on ≡ replicate n None ++ drop n on
first_left zero on h = refl
first_left (suc n) on h =
    nobody_joins (numbers_below n) (n ∷ []) on
    ∙ (ap (change_at n (λ _. None)) (first_left n on (omega (arith, h))) ∙ one_more n on (omega (arith, h)))

-- after all were left nobody is on any
pub nobody_left : (n : ℕ) (on : List (Option ℕ)) → length on ≡ n → nobody_on (numbers_below n) on ≡ replicate n None
nobody_left n on h =
    first_left n on (omega (arith, h))
    ∙ (ap (λ i. replicate n None ++ drop i on) (sym h) ∙ (ap (λ xs. replicate n None ++ xs) (drop-length on) ∙ append-nil (replicate n None)))

module _ (g : Ground) (fixed : IsFixed g) where
  -- a live with such a machine is left
  live_left : (cpu : ℕ) (k : Live) (later : List Page) → left cpu k.machine ≡ machine_off cpu later k.machine → left_with cpu later k ≡ left_live cpu k
  live_left cpu k later e =
      same_live k (machine_off cpu later k.machine) (left cpu k.machine) (change_at cpu (λ _. None) k.on) (change_at cpu (λ _. None) k.on) (sym e) refl

  -- by who is on the CPU
  leaves_by : (k : Live) (y : System) → StandsFor g k y → (cpu : ℕ) (u : Cpu) → slice_get k.machine.cpus cpu ≡ Some u → (who : Option ℕ) (o : Option Entered)
      → slice_get k.on cpu ≡ Some who → u.entered ≡ o → SameEntered g cpu who o → StandsFor g (left_live cpu k) y
  leaves_by k y stands cpu u at None None on is same =
      subst (λ x. StandsFor g x y) (live_left cpu k k.machine.pages (machine_left cpu k.machine u at None is)) (left_by_nobody g fixed k y stands cpu on)
  leaves_by k y stands cpu u at None (Some e) on is same = absurd same
  leaves_by k y stands cpu u at (Some t) None on is same = absurd same
  leaves_by k y stands cpu u at (Some t) (Some e) on is same =
      let here : Present g k cpu =
      record { who = record { number = t; is = same.is; its = same.there }; on = on; unit = u; at = at; entry = e; entered = is } in
      subst (λ x. StandsFor g x y)
      (live_left cpu k (left_pages same.is.control e.state u.file k.machine.pages) (machine_left_by cpu k.machine u e same.is.control at is same.control))
      (left_by_subject g fixed k y stands cpu here)

  machine_same : (cpu : ℕ) (m : MachineState) → slice_get m.cpus cpu ≡ None → left cpu m ≡ m
  machine_same cpu m at = ap (left_by cpu m.pages m.cpus) at

  -- by whether the CPU is there
  leaves_from : (k : Live) (y : System) → StandsFor g k y → (cpu : ℕ) (o : Option Cpu) (p : Option (Option ℕ)) → slice_get k.machine.cpus cpu ≡ o
      → slice_get k.on cpu ≡ p → is_some p ≡ is_some o → StandsFor g (left_live cpu k) y
  leaves_from k y stands cpu (Some u) (Some who) at on both =
      leaves_by k y stands cpu u at who u.entered on refl (stands.cpus.entered cpu who u on at)
  leaves_from k y stands cpu None None at on both =
      subst (λ x. StandsFor g x y)
      (same_live k k.machine (left cpu k.machine) k.on (change_at cpu (λ _. None) k.on) (sym (machine_same cpu k.machine at)) (sym (unchanged cpu (λ _. None) k.on on)))
      stands
  leaves_from k y stands cpu None (Some who) at on both = absurd (true≢false both)
  leaves_from k y stands cpu (Some u) None at on both = absurd (false≢true both)

  -- a CPU is left
  pub left_stands : (k : Live) (y : System) (cpu : ℕ) → StandsFor g k y → StandsFor g (left_live cpu k) y
  left_stands k y cpu stands =
      leaves_from k y stands cpu (slice_get k.machine.cpus cpu) (slice_get k.on cpu) refl refl
      (stands.cpus.on_there cpu ∙ sym (stands.cpus.cpus_there cpu))

  -- and so are some
  pub all_left_stand : (cpus : List ℕ) (k : Live) (y : System) → StandsFor g k y → StandsFor g (all_left_live cpus k) y
  all_left_stand [] k y stands = stands
  all_left_stand (cpu ∷ cpus) k y stands = all_left_stand cpus (left_live cpu k) y (left_stands k y cpu stands)

  -- ---- the end
  module _ (cpus : ℕ) (many : cpus ≡ g.policy.processor.logical_cpus) (k : Live) (y : System) (stands : StandsFor g k y) where
    on_many : length k.on ≡ cpus
    on_many = length_there k.on cpus (λ i. stands.cpus.on_there i ∙ ap (nat_lt i) (sym many))

    ended_is : all_left_live (numbers_below cpus) k ≡ ended cpus k
    ended_is =
        all_left_is (numbers_below cpus) k
        ∙ same_live k (all_left (numbers_below cpus) k.machine) (all_left (numbers_below cpus) k.machine) (nobody_on (numbers_below cpus) k.on) (replicate cpus None)
        refl (nobody_left cpus k.on on_many)

    -- the machine at its end stands for the system still
    pub ended_stands : StandsFor g (ended cpus k) y
    ended_stands = subst (λ x. StandsFor g x y) ended_is (all_left_stand (numbers_below cpus) k y stands)

    -- what each subject has is on its pages
    pub final_held : (s : ℕ) (q : SubjectPart) (c : Control)
        → held (ended cpus k) s q c ≡ on_pages c.msrs (page_of (ended cpus k).machine.pages c.state) (page_of (ended cpus k).machine.pages c.msr_area)
    final_held s q c =
        held_off s c.msrs (page_of (ended cpus k).machine.pages c.state) (page_of (ended cpus k).machine.pages c.msr_area)
        (slice_get (replicate cpus None) q.cpu) (slice_get (ended cpus k).machine.cpus q.cpu)
        (λ who at. ap (is_subject_entered s) (of_many cpus q.cpu None who at))

    -- a subject's page in the system is its state page
    pub final_state_page : (s : ℕ) (n : Subject) (q : SubjectPart) (c : Control) → Joined g s n q c → thing_in y.things (state n.name) ≡ page_of (ended cpus k).machine.pages c.state
    final_state_page s n q c j = (ended_stands.owns s n q c j (λ e. not_some s e)).page ∙ ap (λ (h : Held). h.page) (final_held s q c)

    -- and so its state is what that page says
    pub final_state : (s : ℕ) (n : Subject) (q : SubjectPart) (c : Control) → Joined g s n q c
        → option_map state_in (thing_in y.things (state n.name)) ≡ Some (state_in (page_bytes_at (ended cpus k).machine.pages c.state))
    final_state s n q c j =
        let has = (ended_stands.pages s n q c j).state_is in
        ap (option_map state_in) (final_state_page s n q c j)
        ∙ (ap (option_map state_in) has ∙ ap (λ o. Some (state_in (unwrap_or o []))) (sym has))

    -- a page of a thing has its part of the thing's bytes
    pub final_page : (x : Thing) (j : ℕ) → j < g.pages x → page_bytes_at (ended cpus k).machine.pages (g.first x + j) ≡ unwrap_or (option_map (part j) (thing_in y.things x)) []
    final_page x j l = ap (λ o. unwrap_or o []) (ended_stands.shows.bytes x j l)

    -- the pages of a thing are its bytes
    pub final_bytes : (x : Thing) (bytes : List ℕ) → thing_in y.things x ≡ Some bytes → length bytes ≡ 4096 * g.pages x
        → flat_map (λ j. page_bytes_at (ended cpus k).machine.pages (g.first x + j)) (numbers_below (g.pages x)) ≡ bytes
    final_bytes x bytes at many =
        flat_map_below (λ j. page_bytes_at (ended cpus k).machine.pages (g.first x + j)) (λ j. part j bytes) (g.pages x) (λ j l. final_page x j l ∙ ap (λ o. unwrap_or (option_map (part j) o) []) at)
        ∙ parts_join (g.pages x) bytes many

-- ---- how long things are

-- each thing that is no state page is as long in both
abbrev pub SameLengths : Things → Things → Type 0
SameLengths a b = (x : Thing) → NoPage x → option_map length (thing_in a x) ≡ option_map length (thing_in b x)

length_mapped : (f : List ℕ → List ℕ) (o : Option (List ℕ)) → ((old : List ℕ) → length (f old) ≡ length old) → option_map length o ≡ option_map length (option_map f o)
length_mapped f None h = refl
length_mapped f (Some old) h = ap Some (sym (h old))

-- a change of one thing that keeps lengths
change_lengths : (z : Thing) (f : List ℕ → List ℕ) (things : Things) → ((old : List ℕ) → length (f old) ≡ length old) → SameLengths things (change_thing z f things)
change_lengths z f things h x away =
    elim (cases_thing x z) [
      | inl e ↦
          rw e (length_mapped f (thing_in things z) h ∙ ap (option_map length) (sym (value_changed same_thing z f things)))
      | inr ne ↦ ap (option_map length) (sym (value_other same_thing z x f things (things_apart z x (λ e. ne (sym e)))))
    ]

-- a change of a state page
state_lengths : (name : List ℕ) (f : List ℕ → List ℕ) (things : Things) → SameLengths things (change_thing (state name) f things)
state_lengths name f things x away =
    ap (option_map length) (sym (value_other same_thing (state name) x f things (things_apart (state name) x (λ e. away name (sym e)))))

bytes_lengths : (x : Thing) (offset : ℕ) (bytes : List ℕ) (y : System) → SameLengths y.things (with_bytes x offset bytes y).things
bytes_lengths x offset bytes y = change_lengths x (λ old. over old offset bytes) y.things (λ old. length-over old offset bytes)

store_lengths : (w : Option (Stored Thing)) (y : System) → SameLengths y.things (with_store w y).things
store_lengths None y x away = refl
store_lengths (Some w) y x away = bytes_lengths w.target w.offset w.bytes y x away

answered_lengths : (p : Source) (n : Subject) (a : TurnAnswer) (y : System) → SameLengths y.things (answered p n a y).things
answered_lengths p n a y x away =
    state_lengths n.name (λ _. page_bytes a.state) y.things x away
    ∙ (store_lengths a.stored (with_own n.name a.state a.msr y) x away
    ∙ ap (λ things. option_map length (thing_in things x)) (sym (raised_things p n a.raised _)))

-- ---- a turn
from_lengths : (p : Source) (cpu tick : ℕ) (first : Bool) (n : Subject) (st : Option SubjectState) (values : Option MsrValues) (y : System)
    → SameLengths y.things (turn_from p cpu tick first n st values y).state.things
from_lengths p cpu tick first n (Some st) (Some values) y x away =
    answered_lengths p n (solo_turn (own_of p n) (record { state = st; msrs = values }) (inbox_of p y n first tick)) y x away
from_lengths p cpu tick first n (Some st) None y x away = refl
from_lengths p cpu tick first n None values y x away = refl

subject_lengths : (p : Source) (cpu tick : ℕ) (first : Bool) (o : Option Subject) (y : System) → SameLengths y.things (turn_of_subject p cpu tick first o y).state.things
subject_lengths p cpu tick first None y x away = refl
subject_lengths p cpu tick first (Some n) y x away = from_lengths p cpu tick first n (state_of y n.name) (named y.msrs n.name) y x away

member_lengths : (p : Source) (cpu tick : ℕ) (first : Bool) (o : Option (List ℕ)) (y : System) → SameLengths y.things (turn_of_member p cpu tick first o y).state.things
member_lengths p cpu tick first None y x away = refl
member_lengths p cpu tick first (Some name) y x away = subject_lengths p cpu tick first (subject_named p name) y x away

slot_lengths : (p : Source) (cpu tick : ℕ) (o : Option Slot) (y : System) → SameLengths y.things (turn_in_slot p cpu tick o y).state.things
slot_lengths p cpu tick None y x away = refl
slot_lengths p cpu tick (Some slot) y x away = member_lengths p cpu tick slot.first (slice_get y.active slot.group) y x away

-- a turn keeps how long things are
pub turn_lengths : (p : Source) (cpu tick : ℕ) (y : System) → SameLengths y.things (system_turn p cpu tick y).state.things
turn_lengths p cpu tick y x away = slot_lengths p cpu tick (slot_in (frames_of p cpu) y.frame tick) y x away

-- so does the begin of a tick
pub begins_lengths : (p : Source) (tick : ℕ) (y : System) → SameLengths y.things (begins p tick y).things
begins_lengths p tick y x away = refl

irq_things : (o : Option Target) (y : System) → (irq_reaches o y).things ≡ y.things
irq_things None y = refl
irq_things (Some t) y = refl

byte_lengths : (w : Option ByteWrite) (y : System) → SameLengths y.things (with_byte w y).things
byte_lengths None y x away = refl
byte_lengths (Some w) y x away = bytes_lengths w.thing w.offset (w.value ∷ []) y x away

each_lengths : (ws : List (Option ByteWrite)) (y : System) → SameLengths y.things (with_each ws y).things
each_lengths [] y x away = refl
each_lengths (w ∷ ws) y x away = byte_lengths w y x away ∙ each_lengths ws (with_byte w y) x away

line_lengths : (ws : List (Option ByteWrite)) (y : System) → SameLengths y.things (with_line ws y).things
line_lengths ws y x away =
    elim (list_all is_some ws) as (λ b. option_map length (thing_in y.things x) ≡ option_map length (thing_in (if b then with_each ws y else y).things x)) [
      | true ↦ each_lengths ws y x away
      | false ↦ refl
    ]

-- and an input
pub takes_lengths : (p : Source) (i : NamedInput) (y : System) → SameLengths y.things (takes p i y).things
takes_lengths p (port_input device port value) y x away = refl
takes_lengths p (memory_input device memory offset bytes) y x away = bytes_lengths (device_memory device memory) offset bytes y x away
takes_lengths p (irq_input device irq) y x away =
    ap (λ things. option_map length (thing_in things x)) (sym (irq_things (irq_of p device irq) y))
takes_lengths p (dma_input device address bytes) y x away = line_lengths (line_writes p device address bytes) y x away

-- ---- a run
module _ (p : Source) where
  inputs_lengths : (is : List NamedInput) (y : System) → SameLengths y.things (all_taken (system p) is y).things
  inputs_lengths [] y x away = refl
  inputs_lengths (i ∷ is) y x away = takes_lengths p i y x away ∙ inputs_lengths is (takes p i y) x away

  turns_lengths : (tick : ℕ) (cpus : List ℕ) (y : System) → SameLengths y.things (turns (system p) tick cpus y).state.things
  turns_lengths tick [] y x away = refl
  turns_lengths tick (cpu ∷ cpus) y x away = turn_lengths p cpu tick y x away ∙ turns_lengths tick cpus (system_turn p cpu tick y).state x away

  tick_lengths : (tick : ℕ) (is : List NamedInput) (order : List ℕ) (y : System) → SameLengths y.things (tick_ran (system p) tick is order y).state.things
  tick_lengths tick is order y x away =
      begins_lengths p tick y x away
      ∙ (inputs_lengths is (begins p tick y) x away ∙ turns_lengths tick order (begun (system p) tick is y) x away)

  -- and so a run does
  pub run_lengths : (ins : ℕ → List NamedInput) (order : ℕ → List ℕ) (n : ℕ) (y : System) → SameLengths y.things (run_to (system p) ins order n y).state.things
  run_lengths ins order zero y x away = refl
  run_lengths ins order (suc n) y x away =
      run_lengths ins order n y x away ∙ tick_lengths n (ins n) (order n) (run_to (system p) ins order n y).state x away
