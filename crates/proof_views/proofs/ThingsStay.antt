-- What a turn, an input and a run leave of a thing that they may not change.
use Rattle.std.proofs.Common.{◌≡◌, ℕ, zero, suc, ◌-◌, ◌<◌, ◌≤◌, Bool, true, false, cond, List, [], ◌∷◌, Option, Some, None, refl, sym, ap, subst, ◌∙◌, inl, inr, arith}
use Rattle.std.specs.Prelude.{◌==◌, ◌&&◌, filter, option_and_then, option_map, slice_get}
use Rattle.std.specs.List.{find, list_any}
use Rattle.std.specs.Option.{IfSome}
use Rattle.std.specs.Str.{bytes_eq}
use Rattle.std.proofs.lemmas.Bool.{and_from, cases_Bool, cases_eq, eq-eqb, false_from_ne_true, or_left, or_parts, or_right, true≢false}
use Rattle.subject_model.proofs.StepLaws.{step_stored}
use Rattle.subject_model.specs.Step.{Answer, Stored, step}
use Rattle.subject_model.specs.reach.Reach.TheVariants.{Reached}
use Rattle.machine_layout.specs.Memory.{over}
use Rattle.muen_num.proofs.Each.{if_some}
use Rattle.muen_num.proofs.Members.{In, any_in, find_in}
use Rattle.muen_num.proofs.Lists.{none_cons}
use Rattle.muen_num.specs.declared.access.AccessKind.TheVariants.{Write}
use Rattle.policy_lawful.proofs.KeptMajors.{MajorsKept}
use Rattle.policy_lawful.proofs.KeptMembers.{MembersKept}
use Rattle.policy_lawful.specs.Contents.{Held}
use Rattle.policy_lawful.specs.Events.{irq_of}
use Rattle.policy_lawful.specs.Rights.{allows}
use Rattle.policy_lawful.specs.Thing.{Thing, device_memory, same_thing, state}
use Rattle.policy_lawful.specs.Windows.{Window, access_by, byte, holds, violation, windows_of}
use Rattle.policy_lawful.specs.source.Source.{Source}
use Rattle.policy_lawful.specs.source.Subject.{Subject}
use Rattle.subject_model.specs.Run.{Turned, all_taken, begun, run_to, turns}
use Rattle.subject_model.specs.Slot.{Slot}
use Rattle.subject_model.proofs.DeviceWrites.{IsWritable, unwritten_stays}
use Rattle.subject_model.proofs.KeyLaws.{things_apart, value_changed, value_other}
use Rattle.policy_lawful.proofs.SameThings.{same_thing_self, same_things}
use Rattle.subject_model.specs.Alone.{Inbox, Own, OwnState, Things, TurnAnswer, alone, own_of, reach_by, solo_turn, stepped, thing_in, unless_delivered, vector_for, waits}
use Rattle.subject_model.specs.Clock.{begins, inputs_at, order_at, system, takes}
use Rattle.subject_model.specs.DeviceRecord.{DeviceRecord, NamedInput, port_input, memory_input, irq_input, dma_input}
use Rattle.subject_model.specs.Laws.{IsTurnOf}
use Rattle.subject_model.specs.StatePage.{page_bytes}
use Rattle.subject_model.specs.SubjectState.{SubjectState}
use Rattle.subject_model.specs.System.{System, answered, change_thing, inbox_of, is_shown, named, shown_to, start_of, subject_named, system_turn, took, turn_answered, turn_from, turn_in_slot, turn_of_member, turn_of_subject, with_own, with_store}
use Rattle.subject_model.specs.TurnLine.{TurnLine}
use Rattle.proof_views.specs.Changes.{IsSpared, acting, after_store, are_writable, input_changes, may_change, may_change_on, whose_turn}
use Rattle.proof_views.specs.Laws.{InputsSpareOtherThings, TurnsChangeByTheirStore, TurnsSpareOtherThings}
use Rattle.proof_views.specs.Members.{AreListed, HasTurn}
use Rattle.proof_views.proofs.ActiveMembers.{turn_listed}
use Rattle.proof_views.proofs.Kept.{turn_cases}
use Rattle.proof_views.proofs.OwnLines.{turn_on}
use Rattle.proof_views.proofs.Unmoved.{by_irq, by_raised}

-- ---- a turn stores through windows with write

module _ (own : Own) (mine : OwnState) (inbox : Inbox) where
  by_rights : (addr : ℕ) (x : Thing) (offset : ℕ) (w : Window Thing) → In w own.windows → (b : Bool) → allows w.rights Write ≡ b → reach_by Write addr (cond b (byte w.thing (addr - w.guest)) (violation (Some w.rights))) ≡ Reached x offset → IsWritable own.windows x
  by_rights addr x offset w within true writes e =
      let same : w.thing ≡ x = cc (e) in
      record { window = w; its = within; writes = writes; shows = same }
  by_rights addr x offset w within false writes e = absurd (cc (e))

  by_window : (addr : ℕ) (x : Thing) (offset : ℕ) (o : Option (Window Thing)) → find (λ w. holds w addr) own.windows ≡ o → reach_by Write addr (access_by o addr Write) ≡ Reached x offset → IsWritable own.windows x
  by_window addr x offset None is e = absurd (cc (e))
  by_window addr x offset (Some w) is e =
      by_rights addr x offset w (find_in (λ w. holds w addr) own.windows w is).0 (allows w.rights Write) refl e

  step_through : IfSome (step (alone own mine.msrs inbox) mine.state).stored (λ w. IsWritable own.windows w.target)
  step_through =
      if_some (λ (w : Stored Thing). IsWritable own.windows w.target) (step (alone own mine.msrs inbox) mine.state).stored
      (λ w e. let at = step_stored (alone own mine.msrs inbox) mine.state w e in by_window at.addr w.target w.offset (find (λ w. holds w at.addr) own.windows) refl at.looked)

  -- by whether it is stopped, whether a vector is delivered, and whether it is halted
  by_cases : (stopped : Bool) (vector : Option ℕ) (halted : Bool) (st : SubjectState) (traps : List ℕ) (a : Answer Thing) → IfSome a.stored (λ w. IsWritable own.windows w.target)
      → IfSome (cond stopped (waits st) (unless_delivered st vector (cond halted (waits st) (stepped traps a)))).stored (λ w. IsWritable own.windows w.target)
  by_cases true vector halted st traps a h = tt
  by_cases false (Some v) halted st traps a h = tt
  by_cases false None true st traps a h = tt
  by_cases false None false st traps a h = h

  pub stored_through : IfSome (solo_turn own mine inbox).stored (λ w. IsWritable own.windows w.target)
  unfolding solo_turn
  stored_through =
      by_cases mine.state.stopped (vector_for mine.state inbox) mine.state.halted mine.state own.traps (step (alone own mine.msrs inbox) mine.state) step_through

-- ---- where no window with write shows it

not_writable : (windows : List (Window Thing)) (x y : Thing) → are_writable windows x ≡ false → IsWritable windows y → y ≡ x → ⊥
not_writable windows x y none at same =
    let shows : same_thing at.window.thing x ≡ true = ap (λ z. same_thing z x) (at.shows ∙ same) ∙ same_thing_self x in
    true≢false (sym (any_in (λ w. allows w.rights Write && same_thing w.thing x) windows at.window at.its (and_from (allows at.window.rights Write) (same_thing at.window.thing x) at.writes shows)) ∙ none)

stored_elsewhere : (windows : List (Window Thing)) (x : Thing) → are_writable windows x ≡ false → (o : Option (Stored Thing)) → IfSome o (λ w. IsWritable windows w.target) → IfSome o (λ w. w.target ≡ x → ⊥)
stored_elsewhere windows x none None h = tt
stored_elsewhere windows x none (Some w) h = not_writable windows x w.target none h

store_spares : (x : Thing) (o : Option (Stored Thing)) (y : System) → IfSome o (λ w. w.target ≡ x → ⊥) → thing_in (with_store o y).things x ≡ thing_in y.things x
store_spares x None y h = refl
store_spares x (Some w) y h = value_other same_thing w.target x (λ old. over old w.offset w.bytes) y.things (things_apart w.target x h)

-- its own page aside, an answer changes what it stores into alone
pub answer_spares : (p : Source) (q : Subject) (a : TurnAnswer) (y : System) (x : Thing) → (state q.name ≡ x → ⊥) → IfSome a.stored (λ w. w.target ≡ x → ⊥) → thing_in (answered p q a y).things x ≡ thing_in y.things x
answer_spares p q a y x ne elsewhere =
    let own : System = with_own q.name a.state a.msr y in
    let rest = by_raised p q a.raised (took q.name a.taken (with_store a.stored own)) in
    ap (λ things. thing_in things x) rest.things
    ∙ store_spares x a.stored own elsewhere
    ∙ value_other same_thing (state q.name) x (λ _. page_bytes a.state) y.things (things_apart (state q.name) x ne)

pub not_same : (x y : Thing) → same_thing x y ≡ false → x ≡ y → ⊥
not_same x y n e = true≢false (sym (ap (λ z. same_thing z y) e ∙ same_thing_self y) ∙ n)

-- the answer of a subject that may not change it
pub others_answer : (p : Source) (q : Subject) (x : Thing) → may_change p q x ≡ false → (mine : OwnState) (inbox : Inbox) (y : System) → thing_in (answered p q (solo_turn (own_of p q) mine inbox) y).things x ≡ thing_in y.things x
unfolding own_of
others_answer p q x may mine inbox y =
    let parts = or_parts (are_writable (windows_of p q) x) (same_thing (state q.name) x) may in
    let answer : TurnAnswer = solo_turn (own_of p q) mine inbox in
    answer_spares p q answer y x (not_same (state q.name) x parts.1) (stored_elsewhere (windows_of p q) x parts.0 answer.stored (stored_through (own_of p q) mine inbox))

-- ---- a turn

pub has_whose : (p : Source) (cpu tick : ℕ) (y : System) (slot : Slot) (member : List ℕ) (q : Subject) → HasTurn p cpu tick y slot member q → whose_turn p cpu tick y ≡ Some q
has_whose p cpu tick y slot member q has =
    ap (option_and_then (λ (slot : Slot). option_and_then (subject_named p) (slice_get y.active slot.group))) has.in_slot ∙ ap (option_and_then (subject_named p)) has.active ∙ has.is

pub turn_leaves : TurnsSpareOtherThings
turn_leaves p cpu tick y x may =
    turn_cases p cpu tick y (λ t. thing_in t.state.things x ≡ thing_in y.things x) refl (λ slot member q st values has.
    let its : may_change p q x ≡ false = subst (λ o. IfSome o (λ q. may_change p q x ≡ false)) (has_whose p cpu tick y slot member q has) may in
    others_answer p q x its (record { state = st; msrs = values }) (inbox_of p y q slot.first tick) y)

-- ---- what it stores

pub map_same : (o : Option (List ℕ)) → option_map (λ bytes. bytes) o ≡ o
map_same None = refl
map_same (Some bytes) = refl

store_lands : (x : Thing) (o : Option (Stored Thing)) (y : System) → thing_in (with_store o y).things x ≡ option_map (after_store o x) (thing_in y.things x)
store_lands x None y = sym (map_same (thing_in y.things x))
store_lands x (Some w) y =
    let f : List ℕ → List ℕ = λ old. over old w.offset w.bytes in
    elim (same_thing w.target x) as (λ b. same_thing w.target x ≡ b → thing_in (change_thing w.target f y.things) x ≡ option_map (λ bytes. cond b (f bytes) bytes) (thing_in y.things x)) [
      | true ↦ λ e. subst (λ z. thing_in (change_thing w.target f y.things) z ≡ option_map f (thing_in y.things z)) (same_things w.target x e) (value_changed same_thing w.target f y.things)
      | false ↦ λ e. value_other same_thing w.target x f y.things (things_apart w.target x (not_same w.target x e)) ∙ sym (map_same (thing_in y.things x))
    ] refl

pub own_lands : (p : Source) (s : Subject) (x : Thing) → same_thing (state s.name) x ≡ false → (a : TurnAnswer) (y : System) → thing_in (answered p s a y).things x ≡ option_map (after_store a.stored x) (thing_in y.things x)
own_lands p s x page a y =
    let own : System = with_own s.name a.state a.msr y in
    ap (λ things. thing_in things x) (by_raised p s a.raised (took s.name a.taken (with_store a.stored own))).things
    ∙ store_lands x a.stored own
    ∙ ap (option_map (after_store a.stored x)) (value_other same_thing (state s.name) x (λ _. page_bytes a.state) y.things (things_apart (state s.name) x (not_same (state s.name) x page)))

-- the turn of this subject
turn_is : (p : Source) (cpu tick : ℕ) (y : System) (s : Subject) (first : Bool) (st : SubjectState) (h : IsTurnOf p cpu tick y s first st)
    → system_turn p cpu tick y ≡ turn_answered p cpu tick s st.pc (solo_turn (own_of p s) (record { state = st; msrs = h.values }) (inbox_of p y s first tick)) y
turn_is p cpu tick y s first st h =
    ap (λ o. turn_in_slot p cpu tick o y) h.in_slot
    ∙ ap (λ o. turn_of_member p cpu tick h.slot.first o y) h.active
    ∙ ap (λ o. turn_of_subject p cpu tick h.slot.first o y) h.is
    ∙ ap (λ o. turn_from p cpu tick h.slot.first s o (named y.msrs s.name) y) h.stands
    ∙ ap (λ o. turn_from p cpu tick h.slot.first s (Some st) o y) h.has
    ∙ ap (λ b. turn_answered p cpu tick s st.pc (solo_turn (own_of p s) (record { state = st; msrs = h.values }) (inbox_of p y s b tick)) y) h.begins

pub turn_stores : TurnsChangeByTheirStore
turn_stores p cpu tick y s first st h x page =
    ap (λ (t : Turned System TurnLine). thing_in t.state.things x) (turn_is p cpu tick y s first st h)
    ∙ own_lands p s x page (solo_turn (own_of p s) (record { state = st; msrs = h.values }) (inbox_of p y s first tick)) y

pub turns_leave : (p : Source) (tick : ℕ) (x : Thing) (cpus : List ℕ) (y : System) → list_any (λ q. may_change p q x) (acting p tick cpus y) ≡ false → thing_in (turns (system p) tick cpus y).state.things x ≡ thing_in y.things x
turns_leave p tick x [] y h = refl
turns_leave p tick x (cpu ∷ cpus) y h =
    let next : System = (system_turn p cpu tick y).state in
    let parts = none_cons (λ q. may_change p q x) (whose_turn p cpu tick y) (acting p tick cpus next) h in
    turns_leave p tick x cpus next parts.1 ∙ turn_leaves p cpu tick y x parts.0

-- ---- inputs

pub input_leaves : InputsSpareOtherThings
input_leaves p (port_input device port value) y x h = refl
input_leaves p (memory_input device memory offset bytes) y x h =
    value_other same_thing (device_memory device memory) x (λ old. over old offset bytes) y.things (things_apart (device_memory device memory) x (not_same (device_memory device memory) x h))
input_leaves p (irq_input device irq) y x h = ap (λ things. thing_in things x) (by_irq (irq_of p device irq) y).things
input_leaves p (dma_input device address bytes) y x h = unwritten_stays p device address bytes y x h

inputs_leave : (p : Source) (x : Thing) (is : List NamedInput) (y : System) → list_any (λ i. input_changes p i x) is ≡ false → thing_in (all_taken (system p) is y).things x ≡ thing_in y.things x
inputs_leave p x [] y h = refl
inputs_leave p x (i ∷ is) y h =
    let parts = or_parts (input_changes p i x) (list_any (λ i. input_changes p i x) is) h in
    inputs_leave p x is (takes p i y) parts.1 ∙ input_leaves p i y x parts.0

pub begun_leaves : (p : Source) (x : Thing) (tick : ℕ) (is : List NamedInput) (y : System) → list_any (λ i. input_changes p i x) is ≡ false → thing_in (begun (system p) tick is y).things x ≡ thing_in y.things x
begun_leaves p x tick is y h = inputs_leave p x is (begins p tick y) h

-- ---- ticks of a run

module _ (p : Source) (files : Held) (r : DeviceRecord) (x : Thing) where
  abbrev after : ℕ → System
  after n = (run_to (system p) (inputs_at r) (order_at p r) n (start_of p files)).state

  tick_leaves : (n : ℕ) → IsSpared p files r x n → thing_in (after (suc n)).things x ≡ thing_in (after n).things x
  tick_leaves n h =
      turns_leave p n x (order_at p r n) (begun (system p) n (inputs_at r n) (after n)) h.turns ∙ begun_leaves p x n (inputs_at r n) (after n) h.inputs

  pub ticks_leave : (m n : ℕ) → m ≤ n → ((k : ℕ) → m ≤ k → k < n → IsSpared p files r x k) → thing_in (after n).things x ≡ thing_in (after m).things x
  ticks_leave m zero l each = let same : m ≡ 0 = omega (arith, l) in ap (λ k. thing_in (after k).things x) (sym same)
  ticks_leave m (suc n) l each =
      elim (cases_eq m (suc n)) as (λ _. thing_in (after (suc n)).things x ≡ thing_in (after m).things x) [
        | inl same ↦ ap (λ k. thing_in (after k).things x) (sym same)
        | inr ne ↦
            let earlier : m ≤ n = omega (arith, l, ne) in
            tick_leaves n (each n earlier (omega arith)) ∙ ticks_leave m n earlier (λ k a b. each k a (omega (arith, b)))
      ]

-- ---- turns of CPUs whose subjects may not change it

module _ (p : Source) (majors : MajorsKept p) (members : MembersKept p) (tick : ℕ) (x : Thing) where
  -- none of those subjects that are of one of these CPUs
  abbrev pub Spare : List ℕ → Type 0
  Spare cpus = (member : List ℕ) (q : Subject) → subject_named p member ≡ Some q → list_any (λ c. c == q.cpu) cpus ≡ true → may_change p q x ≡ false

  pub cpu_leaves : (cpu : ℕ) (y : System) → AreListed p y.active → ((member : List ℕ) (q : Subject) → subject_named p member ≡ Some q → q.cpu ≡ cpu → may_change p q x ≡ false) → thing_in (system_turn p cpu tick y).state.things x ≡ thing_in y.things x
  cpu_leaves cpu y listed may =
      turn_cases p cpu tick y (λ t. thing_in t.state.things x ≡ thing_in y.things x) refl (λ slot member q st values has.
      others_answer p q x (may member q has.is (turn_on p majors members cpu tick y listed slot member q has)) (record { state = st; msrs = values }) (inbox_of p y q slot.first tick) y)

  pub cpus_leave : (cpus : List ℕ) (y : System) → AreListed p y.active → Spare cpus → thing_in (turns (system p) tick cpus y).state.things x ≡ thing_in y.things x
  cpus_leave [] y listed may = refl
  cpus_leave (c ∷ cs) y listed may =
      let next : System = (system_turn p c tick y).state in
      cpus_leave cs next (turn_listed p c tick y listed) (λ member q is on. may member q is (or_right (c == q.cpu) (list_any (λ c. c == q.cpu) cs) on))
      ∙ cpu_leaves c y listed (λ member q is on. may member q is (or_left (c == q.cpu) (list_any (λ c. c == q.cpu) cs) (eq-eqb c q.cpu (sym on))))

none_may : (p : Source) (cpus : List ℕ) (x : Thing) → may_change_on p cpus x ≡ false → (member : List ℕ) (q : Subject) → subject_named p member ≡ Some q → list_any (λ c. c == q.cpu) cpus ≡ true → may_change p q x ≡ false
none_may p cpus x none member q is on =
    let within = (find_in (λ s. bytes_eq s.name member) p.subjects q is).0 in
    false_from_ne_true (may_change p q x) (λ may.
    true≢false (sym (any_in (λ q. list_any (λ c. c == q.cpu) cpus && may_change p q x) p.subjects q within (and_from (list_any (λ c. c == q.cpu) cpus) (may_change p q x) on may)) ∙ none))

pub behind_leave : (p : Source) → MajorsKept p → MembersKept p → (tick : ℕ) (x : Thing) (cpus : List ℕ) (y : System) → AreListed p y.active → may_change_on p cpus x ≡ false → thing_in (turns (system p) tick cpus y).state.things x ≡ thing_in y.things x
behind_leave p majors members tick x cpus y listed none = cpus_leave p majors members tick x cpus y listed (none_may p cpus x none)

-- ---- what windows show

-- of a thing, all that there is of it, or nothing
pub shown_part : (test : Thing → Bool) (things : Things) (x : Thing) → thing_in (filter (λ e. test e.0) things) x ≡ cond (test x) (thing_in things x) None
shown_part test [] x = elim (test x) as (λ b. thing_in [] x ≡ cond b (thing_in [] x) None) [ true ↦ refl | false ↦ refl ]
shown_part test (e ∷ es) x =
    let later = shown_part test es x in
    elim (cases_Bool (same_thing e.0 x)) [
      | inl s ↦
          let is : test e.0 ≡ test x = ap test (same_things e.0 x s) in
          elim (cases_Bool (test x)) [
            | inl t ↦ let there : test e.0 ≡ true = is ∙ t in rw (there, s, t) refl
            | inr n ↦ let gone : test e.0 ≡ false = is ∙ n in rw (gone, n) (later ∙ rw n refl)
          ]
      | inr o ↦ elim (cases_Bool (test e.0)) [ inl t ↦ rw (t, o) later | inr n ↦ rw (n, o) later ]
    ]

pub shown_same : (p : Source) (s : Subject) (x : Thing) (y z : System) → thing_in y.things x ≡ thing_in z.things x → thing_in (shown_to p s y) x ≡ thing_in (shown_to p s z) x
shown_same p s x y z same =
    shown_part (is_shown (windows_of p s)) y.things x
    ∙ ap (λ o. cond (is_shown (windows_of p s) x) o None) same
    ∙ sym (shown_part (is_shown (windows_of p s)) z.things x)

pub shown_all : (p : Source) (s : Subject) (x : Thing) (y : System) → is_shown (windows_of p s) x ≡ true → thing_in (shown_to p s y) x ≡ thing_in y.things x
shown_all p s x y shown =
    shown_part (is_shown (windows_of p s)) y.things x ∙ ap (λ b. cond b (thing_in y.things x) None) shown
