-- The CPUs by number, and what comes in a tick.
use Rattle.std.proofs.Common.{◌≡◌, ◌∙◌, ℕ, zero, suc, ◌+◌, ◌≤◌, ◌==◌, List, [], ◌∷◌, ◌++◌, Option, None, Some, refl, sym, ap, subst, arith, add-one}
use Rattle.std.specs.Prelude.{slice_get, slice_index_or, option_map, take, unwrap_or}
use Rattle.std.specs.List.{All}
use Rattle.std.proofs.lemmas.List.Elements.{All-filter}
use Rattle.std.proofs.lemmas.Option.{get_or_from_slice_get, none-some, slice_get-map, slice_get_past, slice_get_within}
use Rattle.muen_num.specs.Range.{numbers_below}
use Rattle.muen_num.proofs.NumbersBelow.{length_numbers, one_more}
use Rattle.device_bench.specs.Devices.{IsLowEffect, inputs_at}
use Rattle.device_bench.specs.declared.effect.Effect.{Effect}
use Rattle.device_bench.specs.record.Record.{Record}
use Rattle.device_bench.specs.record.TickInput.{TickInput}
use Rattle.frame_clock.specs.Run.{all_taken}
use Rattle.vmx_machine.specs.Machine.{MachineState, left}
use Rattle.kernel_core.specs.Kernel.{Live}
use Rattle.kernel_core.specs.Ticks.{KernelState, all_left, kernel, takes_any, tick_inputs}
use Rattle.kernel_core.specs.declared.setup.Setup.{Setup}

pub past_numbers : (n k : ℕ) → n ≤ k → slice_get (numbers_below n) k ≡ None
past_numbers n k l = slice_get_past (numbers_below n) k (omega (arith, length_numbers n, l))

-- ---- inputs

found_low : (ts : List (TickInput Effect)) (index : ℕ) (i : Effect) (o : Option (TickInput Effect)) → All (λ t. IsLowEffect t.input) ts → slice_get ts index ≡ o → option_map (λ t. t.input) o ≡ Some i → IsLowEffect i
found_low ts index i None low here is = absurd (none-some i is)
found_low ts index i (Some t) low here is =
    let there : IsLowEffect (slice_index_or ts index t).input = low index t (slice_get_within ts index t here) in
    subst IsLowEffect (ap (λ (u : TickInput Effect). u.input) (get_or_from_slice_get ts index t t here) ∙ ap (λ o. unwrap_or o t.input) is) there

-- an input that comes in a tick ends below 2 ^ 64
pub low_input : (run : Record Effect) (tick index : ℕ) (i : Effect) → All (λ t. IsLowEffect t.input) run.inputs → Some i ≡ slice_get (tick_inputs run tick) index → IsLowEffect i
low_input run tick index i low is =
    found_low (inputs_at run tick) index i (slice_get (inputs_at run tick) index) (All-filter (λ (t : TickInput Effect). t.tick == tick) (λ (t : TickInput Effect). IsLowEffect t.input) run.inputs low) refl
    (sym (slice_get-map (λ (t : TickInput Effect). t.input) (inputs_at run tick) index) ∙ sym is)

module _ (setup : Setup) where
  taken_more : (is : List Effect) (n : ℕ) (k : Live) → all_taken (kernel setup) (take (suc n) is) k ≡ takes_any (slice_get is n) (all_taken (kernel setup) (take n is) k)
  taken_more [] zero k = refl
  taken_more [] (suc n) k = refl
  taken_more (i ∷ is) zero k = refl
  taken_more (i ∷ is) (suc n) k = taken_more is n ((kernel setup).takes i k)

-- the state where the first n inputs have come
abbrev pub after_inputs : KernelState → ℕ → KernelState
after_inputs k n = record k { live = all_taken (kernel k.setup) (take n (tick_inputs k.run k.tick)) k.live }

pub input_comes : (k : KernelState) (n : ℕ) (k' k'' : KernelState) → k' ≡ after_inputs k n → k'' ≡ record k' { live = takes_any (slice_get (tick_inputs k'.run k'.tick) n) k'.live } → k'' ≡ after_inputs k (n + 1)
input_comes k n k' k'' before here =
    here
    ∙ ap (λ (x : KernelState). record x { live = takes_any (slice_get (tick_inputs x.run x.tick) n) x.live }) before
    ∙ ap (λ l. record k { live = l }) (sym (taken_more k.setup (tick_inputs k.run k.tick) n k.live) ∙ ap (λ m. all_taken (kernel k.setup) (take m (tick_inputs k.run k.tick)) k.live) (sym (add-one n)))

-- ---- CPUs are left

left-append : (cpus : List ℕ) (cpu : ℕ) (m : MachineState) → all_left (cpus ++ cpu ∷ []) m ≡ left cpu (all_left cpus m)
left-append [] cpu m = refl
left-append (c ∷ cpus) cpu m = left-append cpus cpu (left c m)

pub left_more : (n : ℕ) (m m' m'' : MachineState) → m' ≡ all_left (numbers_below n) m → m'' ≡ left n m' → m'' ≡ all_left (numbers_below (n + 1)) m
left_more n m m' m'' before here =
    here ∙ ap (left n) before ∙ sym (left-append (numbers_below n) n m) ∙ ap (λ cpus. all_left cpus m) (sym (one_more n))
