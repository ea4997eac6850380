-- The joint run is put together of the runs of its subjects alone.
use Rattle.std.proofs.Common.{◌≡◌, ℕ, zero, suc, true, false, List, [], ◌∷◌, Option, Some, None, refl, sym, ap, subst, ◌∙◌}
use Rattle.std.specs.Prelude.{◌==◌, IsTrue, not, slice_get}
use Rattle.std.specs.List.{All, cons_option, find, list_any}
use Rattle.std.proofs.lemmas.Bool.{and_parts, eq-eqb, eqb-true, false_from_ne_true, not-true, or_left, or_right, true≢false}
use Rattle.std.proofs.lemmas.List.Elements.{recursion_from_All}
use Rattle.subject_model.specs.Frames.{slot_in}
use Rattle.subject_model.specs.Run.{Ran, Turned, after_lines, all_taken, begun, run_to, tick_ran, turns}
use Rattle.subject_model.specs.Slot.{Slot}
use Rattle.muen_num.proofs.Each.{found}
use Rattle.policy_lawful.proofs.KeptMajors.{MajorsKept, majors_kept}
use Rattle.policy_lawful.proofs.KeptMembers.{MembersKept, members_kept}
use Rattle.policy_lawful.proofs.KeptRules.{rules_of}
use Rattle.policy_lawful.specs.Contents.{Held}
use Rattle.policy_lawful.specs.Frames.{frames_of}
use Rattle.policy_lawful.specs.Lawful.{IsLawful}
use Rattle.policy_lawful.specs.source.Source.{Source}
use Rattle.policy_lawful.specs.source.Subject.{Subject}
use Rattle.subject_model.specs.DeviceRecord.{DeviceRecord, NamedInput}
use Rattle.subject_model.specs.Law.{NamesEachOnce}
use Rattle.muen_num.specs.Numbers.{are_distinct}
use Rattle.subject_model.specs.Alone.{OwnState, own_of}
use Rattle.subject_model.specs.Clock.{begins, inputs_at, order_at, run_of, system, takes}
use Rattle.subject_model.specs.System.{System, start_of, subject_named, system_turn, turn_from, turn_in_slot, turn_of_member, turn_of_subject}
use Rattle.subject_model.specs.TurnLine.{TurnLine}
use Rattle.proof_views.specs.AloneRun.{after_tick, alone_to, before, reaching, reaching_at, started_alone}
use Rattle.proof_views.specs.Composed.{AreFed, alone_in_run, composed, composed_in_slot, composed_of_member, composed_of_subject, composed_turn, fed_at}
use Rattle.proof_views.specs.Laws.{OneRunAloneIsFed, OneRunIsComposed, RunsAloneAreFed, RunsAreComposed, TicksAreComposed}
use Rattle.proof_views.specs.Members.{AreListed}
use Rattle.proof_views.proofs.ActiveMembers.{begun_listed, turn_listed}
use Rattle.proof_views.proofs.AloneViews.{each_once, run_alone}
use Rattle.proof_views.proofs.LinesOfViews.{order_distinct}
use Rattle.proof_views.proofs.MonitorCpus.{MonitorsKept, monitors_kept}
use Rattle.proof_views.proofs.OwnLines.{found_so, turn_on}
use Rattle.proof_views.proofs.OwnStates.{IsOwn, begun_stays, others_turn, own_stays}
use Rattle.proof_views.proofs.TickParts.{before_distinct}

module _ (p : Source) (alone : Subject → ℕ → OwnState) where
  -- ---- a tick up to its turns

  inputs_composed : (is : List NamedInput) (y : System) → all_taken (composed alone p) is y ≡ all_taken (system p) is y
  inputs_composed [] y = refl
  inputs_composed (i ∷ is) y = inputs_composed is (takes p i y)

  begun_composed : (tick : ℕ) (is : List NamedInput) (y : System) → begun (composed alone p) tick is y ≡ begun (system p) tick is y
  begun_composed tick is y = inputs_composed is (begins p tick y)

  module _ (majors : MajorsKept p) (members : MembersKept p) (monitors : MonitorsKept p) (tick : ℕ) where
    -- ---- a turn

    -- by own states that the system has of the subjects of the CPU
    module _ (cpu : ℕ) (y : System) (listed : AreListed p y.active) (own : (s : Subject) → subject_named p s.name ≡ Some s → s.cpu ≡ cpu → IsOwn s y (alone s tick)) where
      same_subject : (slot : Slot) → slot_in (frames_of p cpu) y.frame tick ≡ Some slot → (member : List ℕ) → slice_get y.active slot.group ≡ Some member → (o : Option Subject) → subject_named p member ≡ o
          → composed_of_subject alone p cpu tick slot.first o y ≡ turn_of_subject p cpu tick slot.first o y
      same_subject slot in_slot member active None is = refl
      same_subject slot in_slot member active (Some q) is =
          let on : q.cpu ≡ cpu = turn_on p majors members cpu tick y listed slot member q (record { in_slot = in_slot; active = active; is = is }) in
          let its : IsOwn q y (alone q tick) = own q (found_so p member q is) on in
          sym (λ i. turn_from p cpu tick slot.first q (its.state i) (its.msrs i) y)

      same_member : (slot : Slot) → slot_in (frames_of p cpu) y.frame tick ≡ Some slot → (o : Option (List ℕ)) → slice_get y.active slot.group ≡ o → composed_of_member alone p cpu tick slot.first o y ≡ turn_of_member p cpu tick slot.first o y
      same_member slot in_slot None active = refl
      same_member slot in_slot (Some member) active = same_subject slot in_slot member active (subject_named p member) refl

      same_slot : (o : Option Slot) → slot_in (frames_of p cpu) y.frame tick ≡ o → composed_in_slot alone p cpu tick o y ≡ turn_in_slot p cpu tick o y
      same_slot None in_slot = refl
      same_slot (Some slot) in_slot = same_member slot in_slot (slice_get y.active slot.group) refl

      turn_composed : composed_turn alone p cpu tick y ≡ system_turn p cpu tick y
      turn_composed = same_slot (slot_in (frames_of p cpu) y.frame tick) refl

    -- ---- the turns of a tick

    -- one that is named later isn't this one
    apart : (c : ℕ) (cs : List ℕ) (cpu : ℕ) → list_any (λ m. m == c) cs ≡ false → list_any (λ m. m == cpu) cs ≡ true → (c == cpu) ≡ false
    apart c cs cpu out there =
        false_from_ne_true (c == cpu) (λ e.
        true≢false (sym there ∙ subst (λ n. list_any (λ m. m == n) cs ≡ false) (eqb-true c cpu e) out))

    turns_composed : (cpus : List ℕ) (y : System) → AreListed p y.active → are_distinct cpus ≡ true
        → ((s : Subject) → subject_named p s.name ≡ Some s → list_any (λ c. c == s.cpu) cpus ≡ true → IsOwn s y (alone s tick))
        → turns (composed alone p) tick cpus y ≡ turns (system p) tick cpus y
    turns_composed [] y listed once own = refl
    turns_composed (c ∷ cs) y listed once own =
        let parts = and_parts (not (list_any (λ m. m == c) cs)) (are_distinct cs) once in
        let out = not-true (list_any (λ m. m == c) cs) parts.0 in
        let turned : Turned System TurnLine = system_turn p c tick y in
        let same = turn_composed c y listed (λ s is on. own s is (or_left (c == s.cpu) (list_any (λ c. c == s.cpu) cs) (eq-eqb c s.cpu (sym on)))) in
        let rest = turns_composed cs turned.state (turn_listed p c tick y listed) parts.1 (λ s is there.
        own_stays s y turned.state (alone s tick) (others_turn p s c tick y majors members monitors is listed (apart c cs s.cpu out there)).stays
        (own s is (or_right (c == s.cpu) (list_any (λ c. c == s.cpu) cs) there))) in
        ap (λ (t : Turned System TurnLine). record { lines = cons_option t.line (turns (composed alone p) tick cs t.state).lines; state = (turns (composed alone p) tick cs t.state).state }) same
        ∙ ap (λ (b : Ran System TurnLine). record { lines = cons_option turned.line b.lines; state = b.state }) rest

-- ---- a run

module _ (p : Source) (files : Held) (r : DeviceRecord) (lawful : IsLawful p) (orders : All (λ e. NamesEachOnce p.processor.logical_cpus e.1) r.orders) where
  abbrev joint : ℕ → Ran System TurnLine
  joint n = run_to (system p) (inputs_at r) (order_at p r) n (start_of p files)

  once : (n : ℕ) → are_distinct (order_at p r n) ≡ true
  once n =
      order_distinct (find (λ e. e.0 == n) r.orders) p.processor.logical_cpus
      (found (λ (e : ℕ × List ℕ). IsTrue (are_distinct e.1)) (λ e. e.0 == n) r.orders (recursion_from_All (λ (e : ℕ × List ℕ). IsTrue (are_distinct e.1)) r.orders (each_once p r orders)))

  -- each subject's own state in the joint run is that of its run alone
  alone_there : (n : ℕ) (s : Subject) → subject_named p s.name ≡ Some s → IsOwn s (joint n).state (alone_in_run p files r s n)
  alone_there n s is =
      run_alone p s is lawful files r (recursion_from_All (λ (e : ℕ × List ℕ). NamesEachOnce p.processor.logical_cpus e.1) r.orders orders) n

  module _ (alone : Subject → ℕ → OwnState) where
    -- the run of the subjects put together
    abbrev together : ℕ → Ran System TurnLine
    together n = run_to (composed alone p) (inputs_at r) (order_at p r) n (start_of p files)

    tick_composed : (n : ℕ) → ((s : Subject) → subject_named p s.name ≡ Some s → IsOwn s (joint n).state (alone s n)) → (cpus : List ℕ) → are_distinct cpus ≡ true
        → tick_ran (composed alone p) n (inputs_at r n) cpus (joint n).state ≡ tick_ran (system p) n (inputs_at r n) cpus (joint n).state
    tick_composed n own cpus distinct =
        let members : MembersKept p = members_kept p (rules_of lawful).rule_17 in
        let y : System = begun (system p) n (inputs_at r n) (joint n).state in
        ap (turns (composed alone p) n cpus) (begun_composed p alone n (inputs_at r n) (joint n).state)
        ∙ turns_composed p alone (majors_kept p (rules_of lawful).rule_16) members (monitors_kept p (rules_of lawful).rule_24) n cpus y (begun_listed p files members (inputs_at r) (order_at p r) n) distinct
        (λ s is _. begun_stays p s n (inputs_at r n) (joint n).state (alone s n) (own s is))

    next_composed : (n : ℕ) → ((s : Subject) → subject_named p s.name ≡ Some s → IsOwn s (joint n).state (alone s n)) → together n ≡ joint n → together (suc n) ≡ joint (suc n)
    next_composed n own same =
        ap (λ (b : Ran System TurnLine). after_lines b.lines (tick_ran (composed alone p) n (inputs_at r n) (order_at p r n) b.state)) same
        ∙ ap (after_lines (joint n).lines) (tick_composed n own (order_at p r n) (once n))

    -- what reaches a subject in it
    fed_same : (n : ℕ) → ((s : Subject) → subject_named p s.name ≡ Some s → IsOwn s (joint n).state (alone s n)) → together n ≡ joint n → (s : Subject) → fed_at alone p files r s n ≡ reaching_at p files r s n
    fed_same n own same s =
        let front : List ℕ = before s.cpu (order_at p r n) in
        ap (λ (b : Ran System TurnLine). reaching p s n (tick_ran (composed alone p) n (inputs_at r n) front b.state).state) same
        ∙ ap (λ (b : Ran System TurnLine). reaching p s n b.state) (tick_composed n own front (before_distinct s.cpu (order_at p r n) (once n)))

    -- where it feeds the subjects' runs alone, it is the joint run, and they are those of the joint run
    only_so : AreFed alone p files r → (n : ℕ) → (together n ≡ joint n) × ((s : Subject) → subject_named p s.name ≡ Some s → alone s n ≡ alone_in_run p files r s n)
    only_so fed zero = (refl, λ s is. fed s is 0)
    only_so fed (suc n) =
        let earlier = only_so fed n in
        let own : (s : Subject) → subject_named p s.name ≡ Some s → IsOwn s (joint n).state (alone s n) = λ s is. subst (IsOwn s (joint n).state) (sym (earlier.1 s is)) (alone_there n s is) in (
          next_composed n own earlier.0,
          λ s is. fed s is (suc n)
              ∙ ap (λ arrival. after_tick (own_of p s) arrival (alone_to (own_of p s) (fed_at alone p files r s) n (started_alone s))) (fed_same n own earlier.0 s)
              ∙ ap (after_tick (own_of p s) (reaching_at p files r s n)) (sym (fed s is n) ∙ earlier.1 s is),
        )

  run_composed : (n : ℕ) → together (alone_in_run p files r) n ≡ joint n
  run_composed zero = refl
  run_composed (suc n) = next_composed (alone_in_run p files r) n (alone_there n) (run_composed n)

  run_feeds : AreFed (alone_in_run p files r) p files r
  run_feeds s is zero = refl
  run_feeds s is (suc n) =
      ap (after_tick (own_of p s) (reaching_at p files r s n)) (run_feeds s is n)
      ∙ ap (λ arrival. after_tick (own_of p s) arrival (alone_to (own_of p s) (fed_at (alone_in_run p files r) p files r s) n (started_alone s))) (sym (fed_same (alone_in_run p files r) n (alone_there n) (run_composed n) s))

pub runs_composed : RunsAreComposed
unfolding run_of
runs_composed p files r run = run_composed p files r run.policy run.orders r.end

pub ticks_composed : TicksAreComposed
ticks_composed p files r n run = run_composed p files r run.policy run.orders n

pub runs_feed : RunsAloneAreFed
runs_feed p files r run = run_feeds p files r run.policy run.orders

pub only_run : OneRunIsComposed
only_run p files r alone n run fed = (only_so p files r run.policy run.orders alone fed n).0

pub only_parts : OneRunAloneIsFed
only_parts p files r alone s n run is fed = (only_so p files r run.policy run.orders alone fed n).1 s is
