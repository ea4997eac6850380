-- The laws: a machine that stands for the abstract system keeps standing for it.
use Rattle.std.specs.Prelude.{◌≡◌, ℕ, List}
use Rattle.frame_clock.specs.Alike.{AreAlikeTurns}
use Rattle.frame_clock.specs.Run.{all_taken}
use Rattle.guest_isa.specs.Words.{IsWord}
use Rattle.kernel_core.specs.Kernel.{Live, turn_of}
use Rattle.kernel_core.specs.Ticks.{begins, ended, kernel}
use Rattle.kernel_core.specs.effect.Effect.{Effect}
use Rattle.subject_model.specs.Clock.{begins as system_begins, takes as system_takes}
use Rattle.subject_model.specs.DeviceRecord.{NamedInput}
use Rattle.subject_model.specs.System.{System, system_turn}
use Rattle.proof_turns.specs.Fixed.{IsFixed}
use Rattle.proof_turns.specs.Ground.{Ground}
use Rattle.proof_turns.specs.Inputs.{AreInput}
use Rattle.proof_turns.specs.Stands.{StandsFor}

-- after a turn of any CPU in any tick, and both have the same line
abbrev pub TurnsKeepStanding : Type 0
TurnsKeepStanding =
    (g : Ground) → IsFixed g → (cpu tick : ℕ) (k : Live) (y : System) → IsWord tick → StandsFor g k y
    → AreAlikeTurns (StandsFor g) (turn_of g.setup cpu tick k) (system_turn g.policy cpu tick y)

-- as a tick begins, with the major frame that it may choose
abbrev pub TicksKeepStanding : Type 0
TicksKeepStanding =
    (g : Ground) → IsFixed g → (tick : ℕ) (k : Live) (y : System) → StandsFor g k y
    → StandsFor g (begins g.setup tick k) (system_begins g.policy tick y)

-- after an input, where what reaches the machine is the same by numbers
abbrev pub InputsKeepStanding : Type 0
InputsKeepStanding =
    (g : Ground) → IsFixed g → (es : List Effect) (i : NamedInput) (k : Live) (y : System) → AreInput g es i → StandsFor g k y
    → StandsFor g (all_taken (kernel g.setup) es k) (system_takes g.policy i y)

-- at the end, where all CPUs are left
abbrev pub TheEndKeepsStanding : Type 0
TheEndKeepsStanding =
    (g : Ground) → IsFixed g → (cpus : ℕ) (k : Live) (y : System) → cpus ≡ g.policy.processor.logical_cpus → StandsFor g k y
    → StandsFor g (ended cpus k) y
