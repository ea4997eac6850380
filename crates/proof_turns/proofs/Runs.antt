-- Runs of the machine are runs of the system, as long as ticks are words.
use Rattle.std.proofs.Common.{◌≡◌, ℕ, ◌^◌, ◌≤◌, List, subst}
use Rattle.kernel_core.specs.effect.Effect.{Effect}
use Rattle.subject_model.specs.DeviceRecord.{NamedInput}
use Rattle.frame_clock.specs.Run.{run_to}
use Rattle.frame_clock.specs.Alike.{AreAlike, AreAlikeRuns, AreAlikeTicks, AreAlikeTurns}
use Rattle.frame_clock.proofs.AlikeRuns.{runs_alike}
use Rattle.kernel_core.specs.Kernel.{Live, turn_of}
use Rattle.kernel_core.specs.Ticks.{kernel}
use Rattle.subject_model.specs.Clock.{system}
use Rattle.subject_model.specs.System.{System, system_turn}
use Rattle.proof_turns.specs.Ground.{Ground}
use Rattle.proof_turns.specs.Fixed.{IsFixed}
use Rattle.guest_isa.specs.Words.{IsWord}
use Rattle.proof_turns.specs.Inputs.{AreInput}
use Rattle.proof_turns.specs.Stands.{StandsFor}
use Rattle.proof_turns.proofs.Clocks.{begins_stand, takes_stand}
use Rattle.proof_turns.proofs.Groups.{in_groups, joined, same_run}

-- ---- the machine with its kernel, and the system

module _ (g : Ground) (fixed : IsFixed g)
    (turn_stands : (cpu tick : ℕ) (k : Live) (y : System) → IsWord tick → StandsFor g k y
    → AreAlikeTurns (StandsFor g) (turn_of g.setup cpu tick k) (system_turn g.policy cpu tick y)) where
  alike : AreAlike (StandsFor g) (AreInput g) (2 ^ 64) (in_groups (kernel g.setup)) (system g.policy)
  alike = record { begins = begins_stand g fixed; takes = takes_stand g fixed; turn = λ cpu tick k y low stands. turn_stands cpu tick k y low stands }

  -- what reaches the machine in a tick falls into groups, each of which is an input
  pub runs_stand : (groups : ℕ → List (List Effect)) (effects : ℕ → List Effect) (inputs : ℕ → List NamedInput) (order order' : ℕ → List ℕ)
      → ((tick : ℕ) → joined (groups tick) ≡ effects tick)
      → AreAlikeTicks (AreInput g) (2 ^ 64) groups inputs order order' → (n : ℕ) → n ≤ 2 ^ 64 → (k : Live) (y : System) → StandsFor g k y
      → AreAlikeRuns (StandsFor g) (run_to (kernel g.setup) effects order n k) (run_to (system g.policy) inputs order' n y)
  runs_stand groups effects inputs order order' are ticks n few k y stands =
      subst (λ r. AreAlikeRuns (StandsFor g) r (run_to (system g.policy) inputs order' n y)) (same_run (kernel g.setup) groups effects order are n k)
      (runs_alike (StandsFor g) (AreInput g) (2 ^ 64) (in_groups (kernel g.setup)) (system g.policy) alike groups inputs order order' ticks n few k y stands)
