-- The turns of a tick in parts: those through a subject's CPU, and those behind, which leave its own state.
use Rattle.std.proofs.Common.{◌≡◌, ℕ, Bool, true, false, cond, List, [], ◌∷◌, ◌++◌, Some, refl, sym, ap, subst, ◌∙◌}
use Rattle.std.specs.Prelude.{◌==◌, ◌||◌, not}
use Rattle.std.specs.List.{list_any}
use Rattle.std.proofs.lemmas.Bool.{and_from, and_parts, eqb-true, not-true, or_from, or_parts}
use Rattle.subject_model.specs.Run.{turns}
use Rattle.policy_lawful.proofs.KeptMajors.{MajorsKept}
use Rattle.policy_lawful.proofs.KeptMembers.{MembersKept}
use Rattle.policy_lawful.specs.source.Source.{Source}
use Rattle.policy_lawful.specs.source.Subject.{Subject}
use Rattle.subject_model.specs.Clock.{system}
use Rattle.muen_num.specs.Numbers.{are_distinct}
use Rattle.subject_model.specs.System.{System, subject_named, system_turn}
use Rattle.subject_model.specs.View.{through}
use Rattle.proof_views.specs.AloneRun.{before}
use Rattle.proof_views.specs.LastViews.{behind}
use Rattle.proof_views.specs.Members.{AreListed}
use Rattle.proof_views.proofs.ActiveMembers.{turn_listed}
use Rattle.proof_views.proofs.MonitorCpus.{MonitorsKept}
use Rattle.proof_views.proofs.OwnStates.{StaysOwn, nothing_done, others_turn, stays_through}

-- ---- an order in parts

pub through_behind : (cpu : ℕ) (order : List ℕ) → through cpu order ++ behind cpu order ≡ order
through_behind cpu [] = refl
through_behind cpu (c ∷ cs) =
    let later = through_behind cpu cs in
    elim (c == cpu) as (λ b. cond b (c ∷ []) (c ∷ through cpu cs) ++ cond b cs (behind cpu cs) ≡ c ∷ cs) [
      | true ↦ refl
      | false ↦ ap (λ xs. c ∷ xs) later
    ]

-- a CPU that is named once isn't behind itself
pub none_behind : (cpu : ℕ) (order : List ℕ) → are_distinct order ≡ true → list_any (λ c. c == cpu) (behind cpu order) ≡ false
none_behind cpu [] once = refl
none_behind cpu (c ∷ cs) once =
    let parts = and_parts (not (list_any (λ m. m == c) cs)) (are_distinct cs) once in
    let later = none_behind cpu cs parts.1 in
    elim (c == cpu) as (λ b. (c == cpu) ≡ b → list_any (λ c. c == cpu) (cond b cs (behind cpu cs)) ≡ false) [
      | true ↦ λ e. subst (λ n. list_any (λ m. m == n) cs ≡ false) (eqb-true c cpu e) (not-true (list_any (λ m. m == c) cs) parts.0)
      | false ↦ λ _. later
    ] refl

-- a CPU isn't among those before it
pub none_before : (cpu : ℕ) (order : List ℕ) → list_any (λ c. c == cpu) (before cpu order) ≡ false
none_before cpu [] = refl
none_before cpu (c ∷ cs) =
    let later = none_before cpu cs in
    elim (c == cpu) as (λ b. (c == cpu) ≡ b → list_any (λ c. c == cpu) (cond b [] (c ∷ before cpu cs)) ≡ false) [
      | true ↦ λ _. refl
      | false ↦ λ e. or_from (c == cpu) (list_any (λ c. c == cpu) (before cpu cs)) e later
    ] refl

-- those through a CPU that is there are those before it, and it
pub through_its : (cpu : ℕ) (order : List ℕ) → list_any (λ c. c == cpu) order ≡ true → through cpu order ≡ before cpu order ++ cpu ∷ []
through_its cpu [] there = absurd (cc (there))
through_its cpu (c ∷ cs) there =
    elim (c == cpu) as (λ b. (c == cpu) ≡ b → (b || list_any (λ c. c == cpu) cs) ≡ true → cond b (c ∷ []) (c ∷ through cpu cs) ≡ cond b [] (c ∷ before cpu cs) ++ cpu ∷ []) [
      | true ↦ λ e _. ap (λ n. n ∷ []) (eqb-true c cpu e)
      | false ↦ λ _ later. ap (λ xs. c ∷ xs) (through_its cpu cs later)
    ] refl there

-- of the CPUs before one
pub before_none : (test : ℕ → Bool) (cpu : ℕ) (order : List ℕ) → list_any test order ≡ false → list_any test (before cpu order) ≡ false
before_none test cpu [] none = refl
before_none test cpu (c ∷ cs) none =
    let parts = or_parts (test c) (list_any test cs) none in
    let later = before_none test cpu cs parts.1 in
    elim (c == cpu) as (λ b. list_any test (cond b [] (c ∷ before cpu cs)) ≡ false) [
      | true ↦ refl
      | false ↦ or_from (test c) (list_any test (before cpu cs)) parts.0 later
    ]

pub before_distinct : (cpu : ℕ) (order : List ℕ) → are_distinct order ≡ true → are_distinct (before cpu order) ≡ true
before_distinct cpu [] once = refl
before_distinct cpu (c ∷ cs) once =
    let parts = and_parts (not (list_any (λ m. m == c) cs)) (are_distinct cs) once in
    let later = before_distinct cpu cs parts.1 in
    let none = before_none (λ m. m == c) cpu cs (not-true (list_any (λ m. m == c) cs) parts.0) in
    elim (c == cpu) as (λ b. are_distinct (cond b [] (c ∷ before cpu cs)) ≡ true) [
      | true ↦ refl
      | false ↦ and_from (not (list_any (λ m. m == c) (before cpu cs))) (are_distinct (before cpu cs)) (ap not none) later
    ]

-- those through one that comes before another
pub through_front : (its other : ℕ) (order : List ℕ) → list_any (λ c. c == its) (before other order) ≡ true → through its (before other order) ≡ through its order
through_front its other [] there = absurd (cc (there))
through_front its other (c ∷ cs) there =
    elim (c == other) as (λ b. list_any (λ c. c == its) (cond b [] (c ∷ before other cs)) ≡ true → through its (cond b [] (c ∷ before other cs)) ≡ through its (c ∷ cs)) [
      | true ↦ λ k. absurd (cc (k))
      | false ↦ λ k. elim (c == its) as (λ b. (b || list_any (λ c. c == its) (before other cs)) ≡ true → cond b (c ∷ []) (c ∷ through its (before other cs)) ≡ cond b (c ∷ []) (c ∷ through its cs)) [
        | true ↦ λ _. refl
        | false ↦ λ later. ap (λ xs. c ∷ xs) (through_front its other cs later)
      ] k
    ] there

module _ (p : Source) (tick : ℕ) where
  pub turns_joined : (a b : List ℕ) (y : System) → (turns (system p) tick (a ++ b) y).state ≡ (turns (system p) tick b (turns (system p) tick a y).state).state
  turns_joined [] b y = refl
  turns_joined (c ∷ cs) b y = turns_joined cs b (system_turn p c tick y).state

  pub turns_listed : (cpus : List ℕ) (y : System) → AreListed p y.active → AreListed p (turns (system p) tick cpus y).state.active
  turns_listed [] y h = h
  turns_listed (c ∷ cs) y h = turns_listed cs (system_turn p c tick y).state (turn_listed p c tick y h)

-- what the whole order leaves is what the CPUs behind leave of what is there just after the turn of this one
pub split_turns : (p : Source) (tick cpu : ℕ) (order : List ℕ) (y : System) → (turns (system p) tick order y).state ≡ (turns (system p) tick (behind cpu order) (turns (system p) tick (through cpu order) y).state).state
split_turns p tick cpu order y =
    ap (λ order. (turns (system p) tick order y).state) (sym (through_behind cpu order)) ∙ turns_joined p tick (through cpu order) (behind cpu order) y

-- ---- turns of other CPUs

module _ (p : Source) (majors : MajorsKept p) (members : MembersKept p) (monitors : MonitorsKept p) (s : Subject) (is : subject_named p s.name ≡ Some s) (tick : ℕ) where
  pub rest_stays : (cpus : List ℕ) (y : System) → AreListed p y.active → list_any (λ c. c == s.cpu) cpus ≡ false → StaysOwn s y (turns (system p) tick cpus y).state
  rest_stays [] y listed out = nothing_done s y
  rest_stays (c ∷ cs) y listed out =
      let parts = or_parts (c == s.cpu) (list_any (λ c. c == s.cpu) cs) out in
      let next : System = (system_turn p c tick y).state in
      stays_through s y next (turns (system p) tick cs next).state (others_turn p s c tick y majors members monitors is listed parts.0).stays (rest_stays cs next (turn_listed p c tick y listed) parts.1)
