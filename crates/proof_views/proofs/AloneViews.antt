-- The view of a subject is that of the subject by itself, on what reaches it.
use Rattle.std.proofs.Common.{◌≡◌, ℕ, zero, suc, ◌<◌, Bool, true, false, cond, List, [], ◌∷◌, map, Option, Some, None, refl, sym, ap, subst, ◌∙◌}
use Rattle.std.specs.Prelude.{◌==◌, ◌||◌, IsTrue, nat_lt, not, option_map}
use Rattle.std.specs.Option.{IfSome, option_map_or}
use Rattle.std.specs.List.{All, AllByRecursion, cons_option, find, list_any}
use Rattle.std.specs.Str.{bytes_eq}
use Rattle.std.proofs.lemmas.Bool.{and_parts, eqb-true, eq-eqb, ltb-true, not-true}
use Rattle.std.proofs.lemmas.List.Elements.{All-from_recursion, recursion_from_All}
use Rattle.muen_num.proofs.Lists.{found_among, map-map}
use Rattle.muen_num.specs.Range.{numbers_below}
use Rattle.policy_lawful.proofs.KeptCpus.{cpus_kept}
use Rattle.policy_lawful.proofs.KeptMajors.{MajorsKept, majors_kept}
use Rattle.policy_lawful.proofs.KeptMembers.{MembersKept, members_kept}
use Rattle.policy_lawful.proofs.KeptRules.{rules_of}
use Rattle.policy_lawful.specs.Lawful.{IsLawful}
use Rattle.policy_lawful.specs.Contents.{Held}
use Rattle.policy_lawful.specs.source.Source.{Source}
use Rattle.policy_lawful.specs.source.Subject.{Subject}
use Rattle.subject_model.specs.DeviceRecord.{DeviceRecord}
use Rattle.subject_model.specs.Law.{NamesEachOnce}
use Rattle.muen_num.specs.Numbers.{are_distinct}
use Rattle.subject_model.specs.SubjectState.{SubjectState}
use Rattle.subject_model.specs.Run.{Turned, begun, run_to, turns}
use Rattle.subject_model.specs.TurnLine.{TurnLine}
use Rattle.subject_model.specs.Alone.{MsrValues, OwnState, TurnAnswer, own_of, solo_turn}
use Rattle.subject_model.specs.Clock.{inputs_at, order_at, system}
use Rattle.subject_model.specs.System.{System, idle, inbox_of, line_at, start_of, state_of, subject_named, system_turn}
use Rattle.subject_model.specs.View.{ran_through, seen_in, through, view_of}
use Rattle.proof_views.specs.AloneRun.{Arrival, nothing, at_turn, after_tick, alone_in, alone_to, before, left_there, own_part, reaching, reaching_at, says_in, started_alone}
use Rattle.muen_num.proofs.Each.{found, mapped}
use Rattle.muen_num.proofs.Lookups.{same_self}
use Rattle.muen_num.proofs.NumbersBelow.{any_below}
use Rattle.proof_views.specs.Laws.{SubjectsActAlone}
use Rattle.proof_views.specs.Members.{AreListed}
use Rattle.proof_views.proofs.Arrivals.{IsOther, arrival_cases}
use Rattle.proof_views.proofs.ActiveMembers.{begun_listed, turn_listed}
use Rattle.proof_views.proofs.Kept.{acted}
use Rattle.proof_views.proofs.LinesOfViews.{find_other, numbers_distinct}
use Rattle.proof_views.proofs.Orders.{names_all}
use Rattle.proof_views.proofs.MonitorCpus.{MonitorsKept, monitors_kept, spares_itself}
use Rattle.proof_views.proofs.OwnLines.{not_of}
use Rattle.proof_views.proofs.OwnStates.{IsOthers, IsOwn, begun_stays, nothing_done, other_left, others_acted, others_turn, own_answer, own_stays, started_own}
use Rattle.proof_views.proofs.TickParts.{none_before, rest_stays, through_its, turns_joined}
use Rattle.proof_views.proofs.Untouched.{solo_spares}

module _ (p : Source) (monitors : MonitorsKept p) (s : Subject) (is : subject_named p s.name ≡ Some s) where
  -- ---- its own turn

  -- after a turn of its CPU it is as by itself, and the turn prints of it what it says by itself
  record IsAlone (tick : ℕ) (arrival : Arrival) (mine : OwnState) (t : Turned System TurnLine) : Type 0 where
    pub own : IsOwn s t.state (after_tick (own_of p s) arrival mine)
    pub line : find (λ l. bytes_eq l.subject s.name) (cons_option t.line []) ≡ option_map (line_at tick s.cpu s.name mine.state.pc) (says_in (own_of p s) arrival mine)

  -- nothing of it
  quiet : (tick : ℕ) (mine : OwnState) (y : System) → IsOwn s y mine → (t : Turned System TurnLine) → IsOthers s y t → IsAlone tick nothing mine t
  quiet tick mine y h t others =
      record { own = own_stays s y t.state mine others.stays h; line = find_other (λ l. bytes_eq l.subject s.name) t.line [] others.line }

  -- its page has some state
  by_left : (tick : ℕ) (mine : OwnState) (t : Turned System TurnLine) → (st : SubjectState) × IsOwn s t.state (record mine { state = st }) → IfSome t.line (λ l. bytes_eq l.subject s.name ≡ false)
      → IsAlone tick (left_there (state_of t.state s.name)) mine t
  by_left tick mine t left line =
      subst (λ o. IsAlone tick (left_there o) mine t) (sym left.1.state) (record { own = left.1; line = find_other (λ l. bytes_eq l.subject s.name) t.line [] line })

  -- its own line
  own_line : (o : Option TurnLine) → IfSome o (λ l. bytes_eq l.subject s.name ≡ true) → find (λ l. bytes_eq l.subject s.name) (cons_option o []) ≡ o
  own_line None h = refl
  own_line (Some l) h = ap (λ b. cond b (Some l) None) h

  module _ (tick : ℕ) (y : System) (mine : OwnState) (h : IsOwn s y mine) where
    itself : (first : Bool) → IsAlone tick (at_turn (inbox_of p y s first tick)) mine (acted p s.cpu tick first s mine.state mine.msrs y)
    itself first =
        let answer : TurnAnswer = solo_turn (own_of p s) mine (inbox_of p y s first tick) in
        record {
          own = own_answer p s answer y mine h (solo_spares p s s (spares_itself p monitors s.name s is) mine (inbox_of p y s first tick));
          line = own_line (option_map (line_at tick s.cpu s.name mine.state.pc) answer.what)
              (mapped (λ (l : TurnLine). bytes_eq l.subject s.name ≡ true) (line_at tick s.cpu s.name mine.state.pc) (λ w. same_self s.name) answer.what);
        }

    altering : (first : Bool) (q : Subject) → IsOther p s q → (st : SubjectState) (values : MsrValues) → IsAlone tick (left_there (state_of (acted p s.cpu tick first q st values y).state s.name)) mine (acted p s.cpu tick first q st values y)
    altering first q other st values =
        let answer : TurnAnswer = solo_turn (own_of p q) (record { state = st; msrs = values }) (inbox_of p y q first tick) in
        by_left tick mine (acted p s.cpu tick first q st values y) (other_left p s q answer y mine other.apart h) (not_of tick s.cpu st.pc s.name q.name other.apart answer.what)

    own_turn : IsAlone tick (reaching p s tick y) mine (system_turn p s.cpu tick y)
    own_turn =
        arrival_cases p s is tick y mine h (λ arrival t. IsAlone tick arrival mine t)
        (quiet tick mine y h (idle y) (record { stays = nothing_done s y; line = tt })) (by_left tick mine (idle y) (mine.state, h) tt) itself
        (λ first q other spares st values. quiet tick mine y h (acted p s.cpu tick first q st values y) (others_acted p s s.cpu tick y first q spares other.apart st values)) altering

  -- ---- the turns of a tick

  module _ (majors : MajorsKept p) (members : MembersKept p) (tick : ℕ) where
    record IsAloneIn (arrival : Arrival) (mine : OwnState) (front order : List ℕ) (y : System) : Type 0 where
      pub own : IsOwn s (turns (system p) tick front y).state (after_tick (own_of p s) arrival mine)
      pub line : find (λ l. bytes_eq l.subject s.name) (turns (system p) tick front y).lines ≡ option_map (line_at tick s.cpu s.name mine.state.pc) (says_in (own_of p s) arrival mine)
      pub after : IsOwn s (turns (system p) tick order y).state (after_tick (own_of p s) arrival mine)

    at_its : (cs : List ℕ) (y : System) (mine : OwnState) → AreListed p y.active → IsOwn s y mine → list_any (λ m. m == s.cpu) cs ≡ false → IsAloneIn (reaching p s tick y) mine (s.cpu ∷ []) (s.cpu ∷ cs) y
    at_its cs y mine listed h apart =
        let turn = own_turn tick y mine h in
        let next : System = (system_turn p s.cpu tick y).state in
        record {
          own = turn.own;
          line = turn.line;
          after = own_stays s next (turns (system p) tick cs next).state (after_tick (own_of p s) (reaching p s tick y) mine)
              (rest_stays p majors members monitors s is tick cs next (turn_listed p s.cpu tick y listed) apart) turn.own;
        }

    in_turns : (order : List ℕ) (y : System) (mine : OwnState) → AreListed p y.active → IsOwn s y mine → are_distinct order ≡ true → list_any (λ c. c == s.cpu) order ≡ true
        → IsAloneIn (reaching p s tick (turns (system p) tick (before s.cpu order) y).state) mine (through s.cpu order) order y
    in_turns [] y mine listed h once there = absurd (cc (there))
    in_turns (c ∷ cs) y mine listed h once there =
        let parts = and_parts (not (list_any (λ m. m == c) cs)) (are_distinct cs) once in
        let apart = not-true (list_any (λ m. m == c) cs) parts.0 in
        let turned = system_turn p c tick y in
        elim (c == s.cpu) as (λ b. (c == s.cpu) ≡ b → (b || list_any (λ c. c == s.cpu) cs) ≡ true
        → IsAloneIn (reaching p s tick (turns (system p) tick (cond b [] (c ∷ before s.cpu cs)) y).state) mine (cond b (c ∷ []) (c ∷ through s.cpu cs)) (c ∷ cs) y) [
          | true ↦ λ e _.
              let same : c ≡ s.cpu = eqb-true c s.cpu e in
              let out : list_any (λ m. m == s.cpu) cs ≡ false = subst (λ n. list_any (λ m. m == n) cs ≡ false) same apart in
              subst (λ n. IsAloneIn (reaching p s tick y) mine (n ∷ []) (n ∷ cs) y) (sym same) (at_its cs y mine listed h out)
          | false ↦ λ e later.
              let others = others_turn p s c tick y majors members monitors is listed e in
              let rest = in_turns cs turned.state mine (turn_listed p c tick y listed) (own_stays s y turned.state mine others.stays h) parts.1 later in
              record {
                own = rest.own;
                line = find_other (λ l. bytes_eq l.subject s.name) turned.line (turns (system p) tick (through s.cpu cs) turned.state).lines others.line ∙ rest.line;
                after = rest.after;
              }
        ] refl there

-- ---- each CPU has its turn

orders_there : (p : Source) (o : Option (ℕ × List ℕ)) → IfSome o (λ e. NamesEachOnce p.processor.logical_cpus e.1) → (cpu : ℕ) → cpu < p.processor.logical_cpus
    → (are_distinct (option_map_or (λ e. e.1) o (numbers_below p.processor.logical_cpus)) ≡ true) × (list_any (λ c. c == cpu) (option_map_or (λ e. e.1) o (numbers_below p.processor.logical_cpus)) ≡ true)
orders_there p None h cpu low = (numbers_distinct p.processor.logical_cpus, any_below (λ n. n == cpu) p.processor.logical_cpus cpu low (eq-eqb cpu cpu refl))
orders_there p (Some e) h cpu low = (h.distinct, names_all p.processor.logical_cpus e.1 h cpu low)

-- so none is named twice
once_each : (cpus : ℕ) (orders : List (ℕ × List ℕ)) → AllByRecursion (λ (e : ℕ × List ℕ). NamesEachOnce cpus e.1) orders → AllByRecursion (λ (e : ℕ × List ℕ). IsTrue (are_distinct e.1)) orders
once_each cpus [] h = tt
once_each cpus (e ∷ es) h = (h.0.distinct, once_each cpus es h.1)

pub each_once : (p : Source) (r : DeviceRecord) → All (λ e. NamesEachOnce p.processor.logical_cpus e.1) r.orders → All (λ e. IsTrue (are_distinct e.1)) r.orders
each_once p r all =
    All-from_recursion (λ (e : ℕ × List ℕ). IsTrue (are_distinct e.1)) r.orders
    (once_each p.processor.logical_cpus r.orders (recursion_from_All (λ (e : ℕ × List ℕ). NamesEachOnce p.processor.logical_cpus e.1) r.orders all))

-- ---- a run

module _ (p : Source) (s : Subject) (is : subject_named p s.name ≡ Some s) (lawful : IsLawful p) (files : Held) (r : DeviceRecord) (orders : AllByRecursion (λ (e : ℕ × List ℕ). NamesEachOnce p.processor.logical_cpus e.1) r.orders) where
  own_number : s.cpu < p.processor.logical_cpus
  own_number =
      ltb-true s.cpu p.processor.logical_cpus (found_among (λ q. bytes_eq q.name s.name) (λ q. nat_lt q.cpu p.processor.logical_cpus) p.subjects s is (cpus_kept p (rules_of lawful).rule_3).subjects)

  abbrev alone_after : ℕ → OwnState
  alone_after n = alone_to (own_of p s) (reaching_at p files r s) n (started_alone s)

  abbrev pub after : ℕ → System
  after n = (run_to (system p) (inputs_at r) (order_at p r) n (start_of p files)).state

  there : (n : ℕ) → (are_distinct (order_at p r n) ≡ true) × (list_any (λ c. c == s.cpu) (order_at p r n) ≡ true)
  there n =
      orders_there p (find (λ e. e.0 == n) r.orders) (found (λ (e : ℕ × List ℕ). NamesEachOnce p.processor.logical_cpus e.1) (λ e. e.0 == n) r.orders orders) s.cpu own_number

  in_tick : (n : ℕ) (mine : OwnState) → IsOwn s (after n) mine
      → IsAloneIn p (monitors_kept p (rules_of lawful).rule_24) s is (majors_kept p (rules_of lawful).rule_16) (members_kept p (rules_of lawful).rule_17) n (reaching_at p files r s n) mine (through s.cpu (order_at p r n)) (order_at p r n) (begun (system p) n (inputs_at r n) (after n))
  in_tick n mine h =
      in_turns p (monitors_kept p (rules_of lawful).rule_24) s is (majors_kept p (rules_of lawful).rule_16) (members_kept p (rules_of lawful).rule_17) n (order_at p r n) (begun (system p) n (inputs_at r n) (after n)) mine
      (begun_listed p files (members_kept p (rules_of lawful).rule_17) (inputs_at r) (order_at p r) n) (begun_stays p s n (inputs_at r n) (after n) mine h) (there n).0 (there n).1

  pub run_alone : (n : ℕ) → IsOwn s (after n) (alone_after n)
  run_alone zero = started_own p s is files
  run_alone (suc n) = let before = in_tick n (alone_after n) (run_alone n) in record { state = before.after.state; msrs = before.after.msrs }

  -- at its turn
  abbrev pub here : ℕ → System
  here n = (turns (system p) n (before s.cpu (order_at p r n)) (begun (system p) n (inputs_at r n) (after n))).state

  pub own_here : (n : ℕ) → IsOwn s (here n) (alone_after n)
  own_here n =
      let y : System = begun (system p) n (inputs_at r n) (after n) in
      own_stays s y (here n) (alone_after n)
      (rest_stays p (majors_kept p (rules_of lawful).rule_16) (members_kept p (rules_of lawful).rule_17) (monitors_kept p (rules_of lawful).rule_24) s is n (before s.cpu (order_at p r n)) y
      (begun_listed p files (members_kept p (rules_of lawful).rule_17) (inputs_at r) (order_at p r) n) (none_before s.cpu (order_at p r n)))
      (begun_stays p s n (inputs_at r n) (after n) (alone_after n) (run_alone n))

  pub turn_through : (n : ℕ) → (ran_through p files r s.cpu n).state ≡ (system_turn p s.cpu n (here n)).state
  turn_through n =
      let y : System = begun (system p) n (inputs_at r n) (after n) in
      ap (λ order. (turns (system p) n order y).state) (through_its s.cpu (order_at p r n) (there n).1) ∙ turns_joined p n (before s.cpu (order_at p r n)) (s.cpu ∷ []) y

  seen_alone : (n : ℕ) → own_part (seen_in p s (ran_through p files r s.cpu n)) ≡ alone_in (own_of p s) (reaching_at p files r s n) n (alone_after n)
  unfolding own_of
  seen_alone n =
      let at = in_tick n (alone_after n) (run_alone n) in
      λ i. record { line = at.line i; state = at.own.state i; msrs = at.own.msrs i }

pub views_alone : SubjectsActAlone
unfolding view_of
views_alone p files r s run is =
    let each = recursion_from_All (λ (e : ℕ × List ℕ). NamesEachOnce p.processor.logical_cpus e.1) r.orders run.orders in
    map-map own_part (λ tick. seen_in p s (ran_through p files r s.cpu tick)) (numbers_below r.end)
    ∙ (λ i. map (λ tick. seen_alone p s is run.policy files r each tick i) (numbers_below r.end))
