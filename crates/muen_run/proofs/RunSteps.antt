-- The lines of a run, turn by turn and tick by tick.
use Rattle.std.proofs.Common.{◌≡◌, ◌∙◌, ℕ, zero, suc, ◌+◌, ◌<◌, List, [], ◌∷◌, ◌++◌, Option, Some, None, Result, IsErr, length, refl, sym, ap, subst, arith, add-one, append-nil}
use Rattle.std.specs.Prelude.{option_to_list, slice_get, take}
use Rattle.std.specs.List.{cons_option, flat_map}
use Rattle.std.proofs.lemmas.Grind.{flat_map-append}
use Rattle.std.proofs.lemmas.List.{take_all}
use Rattle.muen_outside.specs.Buffered.{OutState, Given, Lost, Gives}
use Rattle.muen_outside.proofs.Buffered.{given_step, step_exit}
use Rattle.view_text.specs.ViewText.{turn_text}
use Rattle.view_text.specs.declared.TurnLine.{TurnLine}
use Rattle.kernel_core.specs.Run.{Turned, Ran}
use Rattle.kernel_core.specs.Kernel.{Live}
use Rattle.kernel_core.specs.Ticks.{KernelState, with_live}
use Rattle.muen_run.specs.Turns.{at_tick, order_of, tick_in, ticks_in, turn_at, turns_in}

-- the text of a line, if there is one
abbrev line_text : Option TurnLine → List ℕ
line_text line = flat_map turn_text (option_to_list line)

-- ---- one turn more

cons_is : {L : Type 0} (o : Option L) (xs : List L) → cons_option o xs ≡ option_to_list o ++ xs
cons_is None xs = refl
cons_is (Some x) xs = refl

cons_append : {L : Type 0} (o : Option L) (xs ys : List L) → cons_option o (xs ++ ys) ≡ cons_option o xs ++ ys
cons_append None xs ys = refl
cons_append (Some x) xs ys = refl

-- the turn behind these
abbrev next : KernelState → List ℕ → Option ℕ → Turned Live TurnLine
next k cpus cpu = turn_at (with_live k (turns_in k cpus).state) cpu

abbrev then_next : KernelState → List ℕ → Option ℕ → Ran Live TurnLine
then_next k cpus cpu = record { lines = (turns_in k cpus).lines ++ option_to_list (next k cpus cpu).line; state = (next k cpus cpu).state }

turn_more : (k : KernelState) (cpus : List ℕ) (n : ℕ) → turns_in k (take (suc n) cpus) ≡ then_next k (take n cpus) (slice_get cpus n)
turn_more k [] zero = refl
turn_more k [] (suc n) = refl
turn_more k (c ∷ cpus) zero =
    let t = turn_at k (Some c) in
    λ i. record { lines = (cons_is t.line [] ∙ append-nil (option_to_list t.line)) i; state = t.state }
turn_more k (c ∷ cpus) (suc n) =
    let t = turn_at k (Some c) in
    let rest = turn_more (with_live k t.state) cpus n in
    let more = next (with_live k t.state) (take n cpus) (slice_get cpus n) in
    λ i. record {
      lines = (ap (λ (r : Ran Live TurnLine). cons_option t.line r.lines) rest ∙ cons_append t.line (turns_in (with_live k t.state) (take n cpus)).lines (option_to_list more.line)) i;
      state = (ap (λ (r : Ran Live TurnLine). r.state) rest) i;
    }

module _ (k : KernelState) where
  abbrev turns_to : ℕ → Ran Live TurnLine
  turns_to n = turns_in k (take n (order_of k))

  abbrev turn_here : ℕ → Turned Live TurnLine
  turn_here n = next k (take n (order_of k)) (slice_get (order_of k) n)

  turn_grows : (end n : ℕ) → n < end → flat_map turn_text (turns_to (suc n)).lines ≡ flat_map turn_text (turns_to n).lines ++ line_text (turn_here n).line
  turn_grows end n h =
      ap (λ (r : Ran Live TurnLine). flat_map turn_text r.lines) (turn_more k (order_of k) n)
      ∙ flat_map-append turn_text (turns_to n).lines (option_to_list (turn_here n).line)

  -- the kernel after one turn more
  pub turned : (n : ℕ) (k' k'' : KernelState) → k' ≡ with_live k (turns_to n).state → k'' ≡ with_live k' (turn_at k' (slice_get (order_of k') n)).state → k'' ≡ with_live k (turns_to (n + 1)).state
  turned n k' k'' before here =
      here
      ∙ ap (λ (x : KernelState). with_live x (turn_at x (slice_get (order_of x) n)).state) before
      ∙ ap (λ (r : Ran Live TurnLine). with_live k r.state) (sym (turn_more k (order_of k) n) ∙ ap turns_to (sym (add-one n)))

  line_here : (n : ℕ) (k' : KernelState) (line : Option TurnLine) → k' ≡ with_live k (turns_to n).state → line ≡ (turn_at k' (slice_get (order_of k') n)).line → line ≡ (turn_here n).line
  line_here n k' line before here = here ∙ ap (λ (x : KernelState). (turn_at x (slice_get (order_of x) n)).line) before

  -- its line is put behind those before it
  pub given_turn : (n : ℕ) (k' : KernelState) (line : Option TurnLine) (s t u : OutState) → Given (flat_map turn_text (turns_to n).lines) s t → Given (line_text line) t u → k' ≡ with_live k (turns_to n).state → line ≡ (turn_at k' (slice_get (order_of k') n)).line → Given (flat_map turn_text (turns_to (n + 1)).lines) s u
  given_turn n k' line s t u before here is told =
      given_step (λ n. flat_map turn_text (turns_to n).lines) (λ n. line_text (turn_here n).line) (suc n) (turn_grows (suc n)) n (line_text line) s t u (omega arith) (ap line_text (line_here n k' line is told)) before here

  -- the sink failed at its line
  pub turn_exit : {E : Type 0} (n : ℕ) (k' : KernelState) (line : Option TurnLine) (s t u : OutState) (r : Result (Unit {0}) E) → IsErr r → n < length (order_of k) → k' ≡ with_live k (turns_to n).state → line ≡ (turn_at k' (slice_get (order_of k') n)).line → Given (flat_map turn_text (turns_to n).lines) s t → Lost (line_text line) t u → Gives (flat_map turn_text (turns_in k (order_of k)).lines) s u r
  turn_exit n k' line s t u r err l is told before here =
      subst (λ cpus. Gives (flat_map turn_text (turns_in k cpus).lines) s u r) (take_all (length (order_of k)) (order_of k) (omega arith))
      (step_exit (λ n. flat_map turn_text (turns_to n).lines) (λ n. line_text (turn_here n).line) (length (order_of k)) (turn_grows (length (order_of k))) n (line_text line) s t u r err l (ap line_text (line_here n k' line is told)) before here)

-- ---- one tick more

module _ (k : KernelState) where
  -- the kernel at a tick of its run
  abbrev pub ran_to : ℕ → KernelState
  ran_to n = at_tick k (ticks_in k n).state n

  tick_grows : (end n : ℕ) → n < end → flat_map turn_text (ticks_in k (suc n)).lines ≡ flat_map turn_text (ticks_in k n).lines ++ flat_map turn_text (tick_in (ran_to n)).lines
  tick_grows end n h = flat_map-append turn_text (ticks_in k n).lines (tick_in (ran_to n)).lines

  pub ticked : (n : ℕ) (k' k'' : KernelState) → k' ≡ ran_to n → k'' ≡ at_tick k' (tick_in k').state (k'.tick + 1) → k'' ≡ ran_to (n + 1)
  ticked n k' k'' before here =
      here
      ∙ ap (λ (x : KernelState). at_tick x (tick_in x).state (x.tick + 1)) before
      ∙ ap (λ m. at_tick k (ticks_in k m).state (n + 1)) (sym (add-one n))

  pub given_tick : (n : ℕ) (k' : KernelState) (s t u : OutState) → Given (flat_map turn_text (ticks_in k n).lines) s t → Given (flat_map turn_text (tick_in k').lines) t u → k' ≡ ran_to n → Given (flat_map turn_text (ticks_in k (n + 1)).lines) s u
  given_tick n k' s t u before here is =
      given_step (λ n. flat_map turn_text (ticks_in k n).lines) (λ n. flat_map turn_text (tick_in (ran_to n)).lines) (suc n) (tick_grows (suc n)) n (flat_map turn_text (tick_in k').lines) s t u (omega arith) (ap (λ (x : KernelState). flat_map turn_text (tick_in x).lines) is) before here

  pub tick_exit : {E : Type 0} (n end : ℕ) (k' : KernelState) (s t u : OutState) (r : Result (Unit {0}) E) → IsErr r → n < end → k' ≡ ran_to n → Given (flat_map turn_text (ticks_in k n).lines) s t → Lost (flat_map turn_text (tick_in k').lines) t u → Gives (flat_map turn_text (ticks_in k end).lines) s u r
  tick_exit n end k' s t u r err l is before here =
      step_exit (λ n. flat_map turn_text (ticks_in k n).lines) (λ n. flat_map turn_text (tick_in (ran_to n)).lines) end (tick_grows end) n (flat_map turn_text (tick_in k').lines) s t u r err l (ap (λ (x : KernelState). flat_map turn_text (tick_in x).lines) is) before here

pub ruleset turn_lines = (given_turn, turned)

pub ruleset tick_lines = (given_tick, ticked)
