-- A run over ticks, whatever the states, inputs and lines of the system are (this project's own): in each tick the system's
-- clock goes on, then come the tick's inputs in their order, and then each CPU takes its turn, in the order of the tick.
use Rattle.std.specs.Prelude.{ℕ, zero, suc, List, [], ◌∷◌, ◌++◌, Option}
use Rattle.std.specs.List.{cons_option}

-- the state after a turn, and the turn's line, if it has one
pub record Turned (S L : Type 0) : Type 0 where
  pub state : S
  pub line : Option L

-- a system that runs on a clock
pub record Clocked (S I L : Type 0) : Type 0 where
  -- a tick begins, before its inputs
  pub begins : ℕ → S → S
  -- an input comes
  pub takes : I → S → S
  -- a CPU takes its turn in a tick
  pub turn : ℕ → ℕ → S → Turned S L

-- the lines of some turns, in their order, and the state after them
pub record Ran (S L : Type 0) : Type 0 where
  pub lines : List L
  pub state : S

-- inputs in their order
abbrev pub all_taken : {S I L : Type 0} → Clocked S I L → List I → S → S
all_taken c [] s = s
all_taken c (i ∷ is) s = all_taken c is (c.takes i s)

-- a tick up to its turns
abbrev pub begun : {S I L : Type 0} → Clocked S I L → ℕ → List I → S → S
begun c tick inputs s = all_taken c inputs (c.begins tick s)

-- the turns of these CPUs in this order
abbrev pub turns : {S I L : Type 0} → Clocked S I L → ℕ → List ℕ → S → Ran S L
turns c tick [] s = record { lines = []; state = s }
turns c tick (cpu ∷ cpus) s = record {
  lines = cons_option (c.turn cpu tick s).line (turns c tick cpus (c.turn cpu tick s).state).lines;
  state = (turns c tick cpus (c.turn cpu tick s).state).state;
}

-- a tick with these inputs, and its CPUs in this order
abbrev pub tick_ran : {S I L : Type 0} → Clocked S I L → ℕ → List I → List ℕ → S → Ran S L
tick_ran c tick inputs order s = turns c tick order (begun c tick inputs s)

abbrev pub after_lines : {S L : Type 0} → List L → Ran S L → Ran S L
after_lines lines r = record { lines = lines ++ r.lines; state = r.state }

-- **the run** of the first n ticks, by the inputs and the order of each tick
abbrev pub run_to : {S I L : Type 0} → Clocked S I L → (ℕ → List I) → (ℕ → List ℕ) → ℕ → S → Ran S L
run_to c inputs order zero s = record { lines = []; state = s }
run_to c inputs order (suc n) s =
    after_lines (run_to c inputs order n s).lines (tick_ran c n (inputs n) (order n) (run_to c inputs order n s).state)
