-- The record that answering devices make follows their strategy.
use Rattle.std.proofs.Common.{◌≡◌, ℕ, zero, suc, ◌<◌, ◌≤◌, true, false, cond, List, [], ◌∷◌, ◌++◌, filter, map, None, refl, sym, ap, subst, ◌∙◌, inl, inr, arith, append-nil}
use Rattle.std.specs.Prelude.{◌==◌, nat_le}
use Rattle.std.proofs.lemmas.Bool.{cases_lt, eq-eqb, leb-true, ne_eqb}
use Rattle.std.proofs.lemmas.List.{map-append}
use Rattle.std.proofs.lemmas.List.Elements.{filter-append}
use Rattle.policy_lawful.specs.Contents.{Held}
use Rattle.policy_lawful.specs.Thing.{Thing}
use Rattle.policy_lawful.specs.source.Source.{Source}
use Rattle.subject_model.specs.Clock.{inputs_at, order_at, system}
use Rattle.subject_model.specs.DeviceRecord.{DeviceRecord, NamedInput}
use Rattle.subject_model.specs.Run.{after_lines, run_to, tick_ran}
use Rattle.subject_model.specs.System.{System, start_of}
use Rattle.proof_isolation.specs.Agree.{input_reaches_member}
use Rattle.proof_isolation.specs.MemberLines.{is_of}
use Rattle.proof_reactive.specs.Answering.{Follows, Heard, heard, shown_by}
use Rattle.proof_reactive.specs.Playing.{AreTold, by_answers, played, played_inputs}

-- ---- the inputs of a tick

abbrev of_tick : ℕ → List (ℕ × NamedInput) → List NamedInput
of_tick tick es = map (λ e. e.1) (filter (λ e. e.0 == tick) es)

joined : (tick : ℕ) (es fs : List (ℕ × NamedInput)) → of_tick tick (es ++ fs) ≡ of_tick tick es ++ of_tick tick fs
joined tick es fs = ap (map (λ e. e.1)) (filter-append (λ e. e.0 == tick) es fs) ∙ map-append (λ e. e.1) (filter (λ e. e.0 == tick) es) (filter (λ e. e.0 == tick) fs)

its_own : (tick : ℕ) (is : List NamedInput) → of_tick tick (map (λ i. (tick, i)) is) ≡ is
its_own tick [] = refl
its_own tick (i ∷ is) = ap (λ b. map (λ (e : ℕ × NamedInput). e.1) (cond b ((tick, i) ∷ filter (λ e. e.0 == tick) (map (λ i. (tick, i)) is)) (filter (λ e. e.0 == tick) (map (λ i. (tick, i)) is)))) (eq-eqb tick tick refl) ∙ ap (λ xs. i ∷ xs) (its_own tick is)

of_others : (tick n : ℕ) → (n ≡ tick → ⊥) → (is : List NamedInput) → of_tick tick (map (λ i. (n, i)) is) ≡ []
of_others tick n ne [] = refl
of_others tick n ne (i ∷ is) = ap (λ b. map (λ (e : ℕ × NamedInput). e.1) (cond b ((n, i) ∷ filter (λ e. e.0 == tick) (map (λ i. (n, i)) is)) (filter (λ e. e.0 == tick) (map (λ i. (n, i)) is)))) (ne_eqb n tick ne) ∙ of_others tick n ne is

-- ---- a run depends on the inputs of its ticks

run_same : (p : Source) (a b : ℕ → List NamedInput) (order : ℕ → List ℕ) (n : ℕ) (y : System) → ((k : ℕ) → k < n → a k ≡ b k) → run_to (system p) a order n y ≡ run_to (system p) b order n y
run_same p a b order zero y same = refl
run_same p a b order (suc n) y same =
    let before = run_same p a b order n y (λ k low. same k (omega (arith, low))) in
    let last = same n (omega arith) in
    λ i. after_lines (before i).lines (tick_ran (system p) n (last i) (order n) (before i).state)

module _ (answers : Heard → ℕ → List NamedInput) (others : ℕ → List NamedInput) (members : List (List ℕ)) (p : Source) (f : Held) where
  its_record : ℕ → DeviceRecord
  its_record n = played answers others members p f n

  -- what comes in a tick
  comes : ℕ → List NamedInput
  unfolding its_record
  comes n = answers (heard p members f (its_record n) n) n ++ others n

  later_none : (n tick : ℕ) → n ≤ tick → inputs_at (its_record n) tick ≡ []
  unfolding its_record comes
  later_none zero tick low = refl
  later_none (suc n) tick low =
      joined tick (played_inputs answers others members p f n) (map (λ i. (n, i)) (comes n))
      ∙ ap (λ xs. xs ++ of_tick tick (map (λ i. (n, i)) (comes n))) (later_none n tick (omega (arith, low)))
      ∙ of_others tick n (λ e. absurd (omega (arith, e, low))) (comes n)

  in_tick : (n tick : ℕ) → tick < n → inputs_at (its_record n) tick ≡ comes tick
  unfolding its_record comes
  in_tick zero tick low = absurd (omega (arith, low))
  in_tick (suc n) tick low =
      joined tick (played_inputs answers others members p f n) (map (λ i. (n, i)) (comes n))
      ∙ elim (cases_lt tick n) as (λ _. inputs_at (its_record n) tick ++ of_tick tick (map (λ i. (n, i)) (comes n)) ≡ comes tick) [
        | inl less ↦
            ap (λ xs. inputs_at (its_record n) tick ++ xs) (of_others tick n (λ e. absurd (omega (arith, e, less))) (comes n))
            ∙ append-nil _ ∙ in_tick n tick less
        | inr least ↦
            let is : n ≡ tick = omega (arith, low, least) in
            subst (λ k. inputs_at (its_record n) k ++ of_tick k (map (λ i. (n, i)) (comes n)) ≡ comes k) is
            (ap (λ xs. xs ++ of_tick n (map (λ i. (n, i)) (comes n))) (later_none n n (omega arith)) ∙ its_own n (comes n))
      ]

  same_heard : (n tick : ℕ) → tick ≤ n → heard p members f (its_record n) tick ≡ heard p members f (its_record tick) tick
  unfolding its_record
  same_heard n tick low =
      let said = same tick (omega arith) in
      λ i. record { lines = filter (is_of members) (said i).lines; memory = λ k x. shown k x i }
    where
      same : (k : ℕ) → k ≤ tick → run_to (system p) (inputs_at (its_record n)) (order_at p (its_record tick)) k (start_of p f) ≡ run_to (system p) (inputs_at (its_record tick)) (order_at p (its_record tick)) k (start_of p f)
      same k under =
          run_same p (inputs_at (its_record n)) (inputs_at (its_record tick)) (order_at p (its_record tick)) k (start_of p f) (λ j less. in_tick n j (omega (arith, less, under, low)) ∙ sym (in_tick tick j (omega (arith, less, under))))

      shown : (k : ℕ) (x : Thing) → (heard p members f (its_record n) tick).memory k x ≡ (heard p members f (its_record tick) tick).memory k x
      shown k x =
          elim (nat_le k tick) as (λ b. nat_le k tick ≡ b → cond b (shown_by p members (run_to (system p) (inputs_at (its_record n)) (order_at p (its_record tick)) k (start_of p f)).state x) None ≡ cond b (shown_by p members (run_to (system p) (inputs_at (its_record tick)) (order_at p (its_record tick)) k (start_of p f)).state x) None) [
            | true ↦ λ e. ap (λ run. shown_by p members run.state x) (same k (leb-true k tick e))
            | false ↦ λ e. refl
          ] refl

  pub play_follows : (q : Source) (cpus : List ℕ) (n ends : ℕ) → AreTold answers others cpus members p q → ends ≤ n → Follows (by_answers answers cpus) members p q f (played answers others members p f n) ends
  unfolding its_record comes
  play_follows q cpus n ends told low = record {
    inputs = λ tick less.
        ap (filter (input_reaches_member p q members)) (in_tick n tick (omega (arith, less, low)))
        ∙ filter-append (input_reaches_member p q members) (answers (heard p members f (its_record tick) tick) tick) (others tick)
        ∙ ap (λ xs. filter (input_reaches_member p q members) (answers (heard p members f (its_record tick) tick) tick) ++ xs) (told.others_do_not tick)
        ∙ append-nil _
        ∙ told.answers_reach (heard p members f (its_record tick) tick) tick
        ∙ ap (λ h. answers h tick) (sym (same_heard n tick (omega (arith, less, low))));
    order = λ tick less. told.cpus_hold;
  }

-- what comes in a tick, by what is heard of the ticks before
pub comes_in : (answers : Heard → ℕ → List NamedInput) (others : ℕ → List NamedInput) (members : List (List ℕ)) (p : Source) (f : Held) (n tick : ℕ) → tick < n
    → inputs_at (played answers others members p f n) tick ≡ answers (heard p members f (played answers others members p f tick) tick) tick ++ others tick
unfolding its_record comes
comes_in answers others members p f n tick low = in_tick answers others members p f n tick low
