-- Systems that are alike run alike.
use Rattle.std.proofs.Common.{◌≡◌, ℕ, zero, suc, ◌<◌, ◌≤◌, List, [], ◌∷◌, ◌++◌, refl, arith, subst}
use Rattle.std.specs.List.{AllZip, cons_option}
use Rattle.frame_clock.specs.Run.{Clocked, all_taken, begun, turns, tick_ran, run_to}
use Rattle.frame_clock.specs.Alike.{AreAlike, AreAlikeRuns, AreAlikeTicks}

module _ {S T I J L : Type 0} (Same : S → T → Type 0) (SameInput : I → J → Type 0) (most : ℕ) (a : Clocked S I L) (b : Clocked T J L) (alike : AreAlike Same SameInput most a b) where
  inputs_alike : (is : List I) (js : List J) (s : S) (t : T) → AllZip SameInput is js → Same s t → Same (all_taken a is s) (all_taken b js t)
  inputs_alike [] [] s t all same = same
  inputs_alike [] (j ∷ js) s t all same = elim all [ ]
  inputs_alike (i ∷ is) [] s t all same = elim all [ ]
  inputs_alike (i ∷ is) (j ∷ js) s t all same = inputs_alike is js (a.takes i s) (b.takes j t) all.1 (alike.takes i j s t all.0 same)

  turns_alike : (tick : ℕ) (cpus : List ℕ) (s : S) (t : T) → tick < most → Same s t → AreAlikeRuns Same (turns a tick cpus s) (turns b tick cpus t)
  turns_alike tick [] s t low same = record { state = same; lines = refl }
  turns_alike tick (cpu ∷ cpus) s t low same =
      let one = alike.turn cpu tick s t low same in
      let rest = turns_alike tick cpus (a.turn cpu tick s).state (b.turn cpu tick t).state low one.state in
      record { state = rest.state; lines = (λ i. cons_option (one.line i) (rest.lines i)) }

  tick_alike : (tick : ℕ) (is : List I) (js : List J) (order order' : List ℕ) (s : S) (t : T) → tick < most → AllZip SameInput is js → order ≡ order' → Same s t → AreAlikeRuns Same (tick_ran a tick is order s) (tick_ran b tick js order' t)
  tick_alike tick is js order order' s t low all e same =
      subst (λ o. AreAlikeRuns Same (tick_ran a tick is order s) (tick_ran b tick js o t)) e
      (turns_alike tick order (begun a tick is s) (begun b tick js t) low (inputs_alike is js (a.begins tick s) (b.begins tick t) all (alike.begins tick s t same)))

  pub runs_alike : (inputs : ℕ → List I) (inputs' : ℕ → List J) (order order' : ℕ → List ℕ) → AreAlikeTicks SameInput most inputs inputs' order order' → (n : ℕ) → n ≤ most → (s : S) (t : T) → Same s t → AreAlikeRuns Same (run_to a inputs order n s) (run_to b inputs' order' n t)
  runs_alike inputs inputs' order order' ticks zero h s t same = record { state = same; lines = refl }
  runs_alike inputs inputs' order order' ticks (suc n) h s t same =
      let low : n < most = omega (arith, h) in
      let before = runs_alike inputs inputs' order order' ticks n (omega (arith, h)) s t same in
      let here = tick_alike n (inputs n) (inputs' n) (order n) (order' n) (run_to a inputs order n s).state (run_to b inputs' order' n t).state low (ticks.taken n low) (ticks.orders n low) before.state in
      record { state = here.state; lines = (λ i. before.lines i ++ here.lines i) }
