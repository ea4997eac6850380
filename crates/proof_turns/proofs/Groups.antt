-- A system that takes its inputs in groups runs as one that takes them one by one.
use Rattle.std.proofs.Common.{◌≡◌, ◌∙◌, ℕ, zero, suc, List, [], ◌∷◌, ◌++◌, flat_map, refl, sym, ap}
use Rattle.std.specs.List.{cons_option}
use Rattle.frame_clock.specs.Run.{Clocked, Ran, after_lines, all_taken, begun, run_to, tick_ran, turns}

-- an input is a group
abbrev pub in_groups : {S I L : Type 0} → Clocked S I L → Clocked S (List I) L
in_groups c = record { begins = c.begins; takes = all_taken c; turn = c.turn }

abbrev pub joined : {I : Type 0} → List (List I) → List I
joined groups = flat_map (λ group. group) groups

module _ {S I L : Type 0} (c : Clocked S I L) where
  taken_both : (is js : List I) (s : S) → all_taken c (is ++ js) s ≡ all_taken c js (all_taken c is s)
  taken_both [] js s = refl
  taken_both (i ∷ is) js s = taken_both is js (c.takes i s)

  groups_taken : (groups : List (List I)) (s : S) → all_taken (in_groups c) groups s ≡ all_taken c (joined groups) s
  groups_taken [] s = refl
  groups_taken (group ∷ groups) s = groups_taken groups (all_taken c group s) ∙ sym (taken_both group (joined groups) s)

  same_turns : (tick : ℕ) (cpus : List ℕ) (s : S) → turns (in_groups c) tick cpus s ≡ turns c tick cpus s
  same_turns tick [] s = refl
  same_turns tick (cpu ∷ cpus) s =
      ap (λ (r : Ran S L). record { lines = cons_option (c.turn cpu tick s).line r.lines; state = r.state }) (same_turns tick cpus (c.turn cpu tick s).state)

  same_tick : (tick : ℕ) (groups : List (List I)) (is : List I) (order : List ℕ) (s : S) → joined groups ≡ is → tick_ran (in_groups c) tick groups order s ≡ tick_ran c tick is order s
  same_tick tick groups is order s are =
      same_turns tick order (begun (in_groups c) tick groups s)
      ∙ ap (turns c tick order) (groups_taken groups (c.begins tick s) ∙ ap (λ js. all_taken c js (c.begins tick s)) are)

  pub same_run : (groups : ℕ → List (List I)) (inputs : ℕ → List I) (order : ℕ → List ℕ) → ((tick : ℕ) → joined (groups tick) ≡ inputs tick)
      → (n : ℕ) (s : S) → run_to (in_groups c) groups order n s ≡ run_to c inputs order n s
  same_run groups inputs order are zero s = refl
  same_run groups inputs order are (suc n) s =
      ap (λ (r : Ran S L). after_lines r.lines (tick_ran (in_groups c) n (groups n) (order n) r.state)) (same_run groups inputs order are n s)
      ∙ ap (after_lines (run_to c inputs order n s).lines) (same_tick n (groups n) (inputs n) (order n) (run_to c inputs order n s).state (are n))
