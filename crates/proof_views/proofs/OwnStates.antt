-- The own state of a subject: what its turn makes of it, and who else leaves it.
use Rattle.std.proofs.Common.{◌≡◌, ℕ, Bool, false, List, [], ◌∷◌, map, Option, Some, None, refl, ap, ◌∙◌, inl, inr}
use Rattle.std.specs.Prelude.{◌==◌, option_map}
use Rattle.std.specs.List.{list_any}
use Rattle.std.specs.Option.{IfSome}
use Rattle.std.specs.Str.{bytes_eq}
use Rattle.std.proofs.lemmas.Bool.{eqb-false}
use Rattle.subject_model.specs.Step.{Stored}
use Rattle.machine_layout.specs.Memory.{over}
use Rattle.policy_lawful.proofs.KeptMajors.{MajorsKept}
use Rattle.policy_lawful.proofs.KeptMembers.{MembersKept}
use Rattle.policy_lawful.specs.Contents.{Held}
use Rattle.policy_lawful.specs.Events.{irq_of}
use Rattle.policy_lawful.specs.Thing.{Thing, device_memory, same_thing, state}
use Rattle.policy_lawful.specs.source.Source.{Source}
use Rattle.policy_lawful.specs.source.Subject.{Subject}
use Rattle.subject_model.specs.DeviceRecord.{NamedInput, port_input, memory_input, irq_input, dma_input}
use Rattle.subject_model.specs.Resources.{msrs_of}
use Rattle.subject_model.specs.StatePage.{page_bytes, state_in}
use Rattle.subject_model.specs.SubjectState.{SubjectState}
use Rattle.subject_model.specs.Run.{Turned, all_taken, begun}
use Rattle.subject_model.specs.TurnLine.{TurnLine}
use Rattle.subject_model.specs.Alone.{MsrValues, OwnState, TurnAnswer, own_of, solo_turn, thing_in}
use Rattle.subject_model.specs.Clock.{begins, line_writes, system, takes}
use Rattle.subject_model.specs.Laws.{StoresElsewhere}
use Rattle.subject_model.specs.System.{System, answered, change_thing, inbox_of, named, start_of, state_of, subject_named, system_turn, took, with_own, with_store, with_write}
use Rattle.subject_model.proofs.DeviceWrites.{line_things, page_stays}
use Rattle.subject_model.proofs.StartLists.{named_map, state_started}
use Rattle.subject_model.proofs.KeyLaws.{names_apart, things_apart, value_changed, value_other}
use Rattle.policy_lawful.proofs.SameThings.{cases_thing}
use Rattle.subject_model.proofs.SystemLaws.{stored_elsewhere}
use Rattle.proof_views.specs.AloneRun.{alters, on_page, started_alone}
use Rattle.proof_views.specs.Members.{AreListed}
use Rattle.proof_views.proofs.Kept.{acted, turn_cases}
use Rattle.proof_views.proofs.OwnLines.{not_of, other_name, turn_on}
use Rattle.proof_views.proofs.Unmoved.{by_irq, by_raised}
use Rattle.proof_views.proofs.MonitorCpus.{MonitorsKept, spares_others}
use Rattle.proof_views.proofs.Untouched.{solo_spares}

-- this is a subject's own state, with its MSRs
pub record IsOwn (s : Subject) (y : System) (mine : OwnState) : Type 0 where
  pub state : state_of y s.name ≡ Some mine.state
  pub msrs : named y.msrs s.name ≡ Some mine.msrs

-- its page and its MSRs stay
pub record StaysOwn (s : Subject) (y z : System) : Type 0 where
  pub page : thing_in z.things (state s.name) ≡ thing_in y.things (state s.name)
  pub msrs : named z.msrs s.name ≡ named y.msrs s.name

pub own_stays : (s : Subject) (y z : System) (mine : OwnState) → StaysOwn s y z → IsOwn s y mine → IsOwn s z mine
own_stays s y z mine stays h = record { state = ap (option_map state_in) stays.page ∙ h.state; msrs = stays.msrs ∙ h.msrs }

-- ---- the start

pub started_own : (p : Source) (s : Subject) → subject_named p s.name ≡ Some s → (files : Held) → IsOwn s (start_of p files) (started_alone s)
unfolding start_of
started_own p s is files =
    record { state = ap (option_map state_in) (state_started p files s is); msrs = named_map (λ n. map (λ m. (m.index, 0)) (msrs_of n)) p.subjects s.name ∙ ap (option_map (λ n. map (λ m. (m.index, 0)) (msrs_of n))) is }

-- ---- a store

pub store_msrs : (o : Option (Stored Thing)) (y : System) → (with_store o y).msrs ≡ y.msrs
store_msrs None y = refl
store_msrs (Some w) y = refl

-- ---- the answer of another subject, and its own

other_msrs : (p : Source) (s q : Subject) (a : TurnAnswer) (y : System) → (q.name ≡ s.name → ⊥) → named (answered p q a y).msrs s.name ≡ named y.msrs s.name
other_msrs p s q a y ne =
    let own : System = with_own q.name a.state a.msr y in
    ap (λ ms. named ms s.name) (by_raised p q a.raised (took q.name a.taken (with_store a.stored own))).msrs
    ∙ ap (λ ms. named ms s.name) (store_msrs a.stored own)
    ∙ value_other bytes_eq q.name s.name (with_write a.msr) y.msrs (names_apart q.name s.name ne)

own_page_stays : (s q : Subject) (a : TurnAnswer) (y : System) → (q.name ≡ s.name → ⊥) → thing_in (with_own q.name a.state a.msr y).things (state s.name) ≡ thing_in y.things (state s.name)
own_page_stays s q a y ne =
    value_other same_thing (state q.name) (state s.name) (λ _. page_bytes a.state) y.things (things_apart (state q.name) (state s.name) (λ e. ne (cc (e))))

pub other_answer : (p : Source) (s q : Subject) (a : TurnAnswer) (y : System) → (q.name ≡ s.name → ⊥) → StoresElsewhere s a.stored → StaysOwn s y (answered p q a y)
other_answer p s q a y ne elsewhere =
    let own : System = with_own q.name a.state a.msr y in
    record {
      page = ap (λ things. thing_in things (state s.name)) (by_raised p q a.raised (took q.name a.taken (with_store a.stored own))).things
          ∙ stored_elsewhere s a.stored own elsewhere
          ∙ own_page_stays s q a y ne;
      msrs = other_msrs p s q a y ne;
    }

-- wherever it stores, the page is there, with some state
abbrev HasPage : Subject → System → Type 0
HasPage s y = (page : List ℕ) × (thing_in y.things (state s.name) ≡ Some page)

store_has : (s : Subject) (o : Option (Stored Thing)) (y : System) → HasPage s y → HasPage s (with_store o y)
store_has s None y h = h
store_has s (Some w) y h =
    elim (cases_thing w.target (state s.name)) as (λ _. HasPage s (with_store (Some w) y)) [
      | inl e ↦ (
        over h.0 w.offset w.bytes,
        ap (λ (x : Thing). thing_in (change_thing x (λ old. over old w.offset w.bytes) y.things) (state s.name)) e
            ∙ value_changed same_thing (state s.name) (λ old. over old w.offset w.bytes) y.things
            ∙ ap (option_map (λ old. over old w.offset w.bytes)) h.1,
      )
      | inr ne ↦ (h.0, value_other same_thing w.target (state s.name) (λ old. over old w.offset w.bytes) y.things (things_apart w.target (state s.name) ne) ∙ h.1)
    ]

other_has : (p : Source) (s q : Subject) (a : TurnAnswer) (y : System) → (q.name ≡ s.name → ⊥) → HasPage s y → HasPage s (answered p q a y)
other_has p s q a y ne h =
    let own : System = with_own q.name a.state a.msr y in
    let has = store_has s a.stored own (h.0, own_page_stays s q a y ne ∙ h.1) in
    (has.0, ap (λ things. thing_in things (state s.name)) (by_raised p q a.raised (took q.name a.taken (with_store a.stored own))).things ∙ has.1)

page_there : (o : Option (List ℕ)) (st : SubjectState) → option_map state_in o ≡ Some st → (page : List ℕ) × (o ≡ Some page)
page_there None st h = absurd (cc (h))
page_there (Some page) st h = (page, refl)

-- another one's answer leaves some state on it
pub other_left : (p : Source) (s q : Subject) (a : TurnAnswer) (y : System) (mine : OwnState) → (q.name ≡ s.name → ⊥) → IsOwn s y mine → (st : SubjectState) × IsOwn s (answered p q a y) (record mine { state = st })
other_left p s q a y mine ne h =
    let page = page_there (thing_in y.things (state s.name)) mine.state h.state in
    let has = other_has p s q a y ne (page.0, page.1) in
    (state_in has.0, record { state = ap (option_map state_in) has.1; msrs = other_msrs p s q a y ne ∙ h.msrs })

pub own_answer : (p : Source) (s : Subject) (a : TurnAnswer) (y : System) (mine : OwnState) → IsOwn s y mine → StoresElsewhere s a.stored → IsOwn s (answered p s a y) (record { state = on_page a.state; msrs = with_write a.msr mine.msrs })
own_answer p s a y mine h elsewhere =
    let own : System = with_own s.name a.state a.msr y in
    let rest = by_raised p s a.raised (took s.name a.taken (with_store a.stored own)) in
    let page = page_there (thing_in y.things (state s.name)) mine.state h.state in
    record {
      state = ap (λ things. option_map state_in (thing_in things (state s.name))) rest.things
          ∙ ap (option_map state_in) (stored_elsewhere s a.stored own elsewhere
          ∙ value_changed same_thing (state s.name) (λ _. page_bytes a.state) y.things
          ∙ ap (option_map (λ _. page_bytes a.state)) page.1);
      msrs = ap (λ ms. named ms s.name) rest.msrs
          ∙ ap (λ ms. named ms s.name) (store_msrs a.stored own)
          ∙ value_changed bytes_eq s.name (with_write a.msr) y.msrs
          ∙ ap (option_map (with_write a.msr)) h.msrs;
    }

-- ---- the beginning of a tick

input_stays : (p : Source) (s : Subject) (i : NamedInput) (y : System) → StaysOwn s y (takes p i y)
input_stays p s (port_input device port value) y = record { page = refl; msrs = refl }
input_stays p s (memory_input device memory offset bytes) y =
    record { page = value_other same_thing (device_memory device memory) (state s.name) (λ old. over old offset bytes) y.things (things_apart (device_memory device memory) (state s.name) (λ e. cc (e))); msrs = refl }
input_stays p s (irq_input device irq) y =
    let same = by_irq (irq_of p device irq) y in
    record { page = ap (λ things. thing_in things (state s.name)) same.things; msrs = ap (λ ms. named ms s.name) same.msrs }
input_stays p s (dma_input device address bytes) y =
    record { page = page_stays p device address bytes y s.name; msrs = ap (λ z. named z.msrs s.name) (line_things (line_writes p device address bytes) y) }

inputs_stay : (p : Source) (s : Subject) (is : List NamedInput) (y : System) (mine : OwnState) → IsOwn s y mine → IsOwn s (all_taken (system p) is y) mine
inputs_stay p s [] y mine h = h
inputs_stay p s (i ∷ is) y mine h = inputs_stay p s is (takes p i y) mine (own_stays s y (takes p i y) mine (input_stays p s i y) h)

pub begun_stays : (p : Source) (s : Subject) (tick : ℕ) (is : List NamedInput) (y : System) (mine : OwnState) → IsOwn s y mine → IsOwn s (begun (system p) tick is y) mine
begun_stays p s tick is y mine h = inputs_stay p s is (begins p tick y) mine (record { state = h.state; msrs = h.msrs })

-- ---- the turn of another subject

-- it leaves this one's own state, and prints nothing of it
pub record IsOthers (s : Subject) (y : System) (t : Turned System TurnLine) : Type 0 where
  pub stays : StaysOwn s y t.state
  pub line : IfSome t.line (λ l. bytes_eq l.subject s.name ≡ false)

pub nothing_done : (s : Subject) (y : System) → StaysOwn s y y
nothing_done s y = record { page = refl; msrs = refl }

pub stays_through : (s : Subject) (x y z : System) → StaysOwn s x y → StaysOwn s y z → StaysOwn s x z
stays_through s x y z a b = record { page = b.page ∙ a.page; msrs = b.msrs ∙ a.msrs }

module _ (p : Source) (s : Subject) (cpu tick : ℕ) (y : System) where
  -- of one that may not write its page
  pub others_acted : (first : Bool) (q : Subject) → list_any (alters s.name) q.monitors ≡ false → (q.name ≡ s.name → ⊥) → (st : SubjectState) (values : MsrValues) → IsOthers s y (acted p cpu tick first q st values y)
  others_acted first q spares ne st values =
      let mine : OwnState = record { state = st; msrs = values } in
      let answer : TurnAnswer = solo_turn (own_of p q) mine (inbox_of p y q first tick) in
      record {
        stays = other_answer p s q answer y ne (solo_spares p s q spares mine (inbox_of p y q first tick));
        line = not_of tick cpu st.pc s.name q.name ne answer.what;
      }

  -- of one on another CPU
  pub others_turn : MajorsKept p → MembersKept p → MonitorsKept p → subject_named p s.name ≡ Some s → AreListed p y.active → (cpu == s.cpu) ≡ false → IsOthers s y (system_turn p cpu tick y)
  others_turn majors members monitors is h apart =
      turn_cases p cpu tick y (IsOthers s y) (record { stays = nothing_done s y; line = tt }) (λ slot member q st values has.
      let on = turn_on p majors members cpu tick y h slot member q has in
      let elsewhere : (q.cpu == s.cpu) ≡ false = ap (λ c. c == s.cpu) on ∙ apart in
      others_acted slot.first q (spares_others p monitors member q has.is s is (eqb-false q.cpu s.cpu elsewhere)) (other_name p s q member is has.is elsewhere) st values)
