-- Lines by their ticks, and the lines that are printed of members in the ticks that two systems have.
use Rattle.std.proofs.Common.{◌≡◌, ℕ, zero, suc, ◌≤◌, Bool, true, false, cond, List, [], ◌∷◌, ◌++◌, filter, Option, None, Some, refl, sym, ap, subst, ◌∙◌, inl, inr, arith}
use Rattle.std.specs.Prelude.{nat_lt}
use Rattle.std.specs.List.{AllByRecursion}
use Rattle.std.specs.Option.{IfSome}
use Rattle.std.proofs.lemmas.Bool.{cases_lt, le-ltb, lt-ltb}
use Rattle.std.proofs.lemmas.List.Elements.{filter-append}
use Rattle.muen_num.proofs.Each.{each_cons, mapped}
use Rattle.policy_lawful.specs.Contents.{Held}
use Rattle.policy_lawful.specs.source.Source.{Source}
use Rattle.proof_isolation.specs.TwoTexts.{LinesEndWithRuns, lines_below}
use Rattle.proof_views.proofs.Kept.{turn_cases}
use Rattle.subject_model.specs.Alone.{own_of, solo_turn}
use Rattle.subject_model.specs.Clock.{inputs_at, order_at, run_of, system}
use Rattle.subject_model.specs.DeviceRecord.{DeviceRecord}
use Rattle.subject_model.specs.Run.{begun, run_to, turns}
use Rattle.subject_model.specs.System.{System, inbox_of, line_at, start_of, system_turn}
use Rattle.subject_model.specs.TurnLine.{TurnLine}

-- ---- lists that pass a test, or don't

all_pass : {X : Type 0} (test : X → Bool) (xs : List X) → AllByRecursion (λ x. test x ≡ true) xs → filter test xs ≡ xs
all_pass test [] h = refl
all_pass test (x ∷ xs) h = ap (λ b. cond b (x ∷ filter test xs) (filter test xs)) h.0 ∙ ap (λ ys. x ∷ ys) (all_pass test xs h.1)

none_passes : {X : Type 0} (test : X → Bool) (xs : List X) → AllByRecursion (λ x. test x ≡ false) xs → filter test xs ≡ []
none_passes test [] h = refl
none_passes test (x ∷ xs) h = ap (λ b. cond b (x ∷ filter test xs) (filter test xs)) h.0 ∙ none_passes test xs h.1

-- a test that implies another finds the same behind it
pub filter_finer : {X : Type 0} (test wider : X → Bool) → ((x : X) → test x ≡ true → wider x ≡ true) → (xs : List X) → filter test (filter wider xs) ≡ filter test xs
filter_finer test wider more [] = refl
filter_finer test wider more (x ∷ xs) =
    let rest = filter_finer test wider more xs in
    elim (wider x) as (λ b. wider x ≡ b → filter test (cond b (x ∷ filter wider xs) (filter wider xs)) ≡ cond (test x) (x ∷ filter test xs) (filter test xs)) [
      | true ↦ λ e. ap (λ ys. cond (test x) (x ∷ ys) ys) rest
      | false ↦ λ e.
          elim (test x) as (λ b. test x ≡ b → filter test (filter wider xs) ≡ cond b (x ∷ filter test xs) (filter test xs)) [
            | true ↦ λ passes. absurd (cc (e, more x passes))
            | false ↦ λ fails. rest
          ] refl
    ] refl

-- ---- the ticks of lines

module _ (p : Source) where
  line_tick : (cpu tick : ℕ) (y : System) → IfSome (system_turn p cpu tick y).line (λ l. l.tick ≡ tick)
  line_tick cpu tick y =
      turn_cases p cpu tick y (λ t. IfSome t.line (λ l. l.tick ≡ tick)) tt (λ slot name u st values has.
      mapped (λ (l : TurnLine). l.tick ≡ tick) (line_at tick cpu u.name st.pc) (λ w. refl)
      (solo_turn (own_of p u) (record { state = st; msrs = values }) (inbox_of p y u slot.first tick)).what)

  -- each line of a tick has what its tick has
  turn_lines : (Is : ℕ → Type 0) (tick : ℕ) → Is tick → (cpus : List ℕ) (y : System) → AllByRecursion (λ (l : TurnLine). Is l.tick) (turns (system p) tick cpus y).lines
  turn_lines Is tick is [] y = tt
  turn_lines Is tick is (c ∷ cs) y =
      let turned = system_turn p c tick y in
      each_cons (λ (l : TurnLine). Is l.tick) turned.line (turns (system p) tick cs turned.state).lines (line_is turned.line (line_tick c tick y)) (turn_lines Is tick is cs turned.state)
    where
      line_is : (o : Option TurnLine) → IfSome o (λ l. l.tick ≡ tick) → IfSome o (λ l. Is l.tick)
      line_is None h = tt
      line_is (Some l) h = subst Is (sym h) is

  module _ (f : Held) (r : DeviceRecord) where
    before : ℕ → System
    before n = begun (system p) n (inputs_at r n) (run_to (system p) (inputs_at r) (order_at p r) n (start_of p f)).state

    lines_to : ℕ → List TurnLine
    lines_to n = (run_to (system p) (inputs_at r) (order_at p r) n (start_of p f)).lines

    of_tick : ℕ → List TurnLine
    of_tick n = (turns (system p) n (order_at p r n) (before n)).lines

    all_low : (n m : ℕ) → m ≤ n → lines_below n (lines_to m) ≡ lines_to m
    unfolding before lines_to of_tick
    all_low n zero low = refl
    all_low n (suc m) low =
        filter-append (λ l. nat_lt l.tick n) (lines_to m) (of_tick m)
        ∙ (λ i. all_low n m (omega (arith, low)) i ++ all_pass (λ l. nat_lt l.tick n) (of_tick m) (turn_lines (λ tick. nat_lt tick n ≡ true) m (lt-ltb m n (omega (arith, low))) (order_at p r m) (before m)) i)

    -- what the first ticks have printed
    front_lines : (n m : ℕ) → n ≤ m → lines_below n (lines_to m) ≡ lines_to n
    unfolding before lines_to of_tick
    front_lines zero zero low = refl
    front_lines (suc n) zero low = absurd (omega (arith, low))
    front_lines n (suc m) low =
        elim (cases_lt m n) as (λ _. lines_below n (lines_to (suc m)) ≡ lines_to n) [
          | inl less ↦
              let is : suc m ≡ n = omega (arith, less, low) in
              all_low n (suc m) (omega (arith, less)) ∙ ap lines_to is
          | inr least ↦
              filter-append (λ l. nat_lt l.tick n) (lines_to m) (of_tick m)
              ∙ (λ i. front_lines n m least i ++ none_passes (λ l. nat_lt l.tick n) (of_tick m) (turn_lines (λ tick. nat_lt tick n ≡ false) m (le-ltb m n least) (order_at p r m) (before m)) i)
              ∙ nothing_behind (lines_to n)
        ]
      where
        nothing_behind : (ls : List TurnLine) → ls ++ [] ≡ ls
        nothing_behind [] = refl
        nothing_behind (l ∷ ls) = ap (λ ms. l ∷ ms) (nothing_behind ls)

    pub lines_of_front : (n : ℕ) → n ≤ r.end → lines_below n (run_of p f r).lines ≡ (run_to (system p) (inputs_at r) (order_at p r) n (start_of p f)).lines
    unfolding lines_to run_of
    lines_of_front n low = front_lines n r.end low

pub all_below : LinesEndWithRuns
unfolding run_of
all_below p f r = lines_of_front p f r r.end (omega arith)
