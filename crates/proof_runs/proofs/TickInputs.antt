-- What reaches the machine in a tick, input by input.
use Rattle.std.proofs.Common.{◌≡◌, ℕ, true, false, List, [], ◌∷◌, ◌++◌, map, filter, Option, refl, sym, ap, ◌∙◌, inl, inr}
use Rattle.std.specs.Prelude.{◌==◌}
use Rattle.std.specs.List.{flat_map}
use Rattle.std.proofs.lemmas.Bool.{cases_Bool}
use Rattle.image_pack.specs.declared.parts.Image.{Image}
use Rattle.proof_turns.specs.Ticks.{tick_inputs}
use Rattle.record_text.specs.declared.record.Input.{Input}
use Rattle.record_text.specs.declared.record.Record.{Record}
use Rattle.record_text.specs.declared.record.TickInput.{TickInput}
use Rattle.proof_turns.specs.effect.Effect.{Effect}
use Rattle.dma_tables.specs.Lowered.{in_tick, lowered, lowered_at, lowered_input}
use Rattle.dma_tables.specs.declared.file.DmaFile.{DmaFile}
use Rattle.proof_turns.proofs.Groups.{joined}

-- what stands for each input of the tick
abbrev pub groups_at : Option DmaFile → Image → Record Input → ℕ → List (List Effect)
groups_at tables i r tick = map (λ x. lowered_input tables i x.input) (filter (λ x. x.tick == tick) r.inputs)

-- the effects of a tick
abbrev kept_at : ℕ → List (TickInput Effect) → List Effect
kept_at tick es = map (λ e. e.input) (filter (λ e. e.tick == tick) es)

-- those of this tick are kept
kept_all : (tick k : ℕ) (xs : List Effect) (es : List (TickInput Effect)) → (k == tick) ≡ true → kept_at tick (map (in_tick k) xs ++ es) ≡ xs ++ kept_at tick es
kept_all tick k [] es e = refl
kept_all tick k (x ∷ xs) es e = rw e (ap (λ ys. x ∷ ys) (kept_all tick k xs es e))

-- and none of another one
kept_none : (tick k : ℕ) (xs : List Effect) (es : List (TickInput Effect)) → (k == tick) ≡ false → kept_at tick (map (in_tick k) xs ++ es) ≡ kept_at tick es
kept_none tick k [] es e = refl
kept_none tick k (x ∷ xs) es e = rw e (kept_none tick k xs es e)

-- so what stands for the inputs of a tick are the effects of the tick
joined_by : (tables : Option DmaFile) (i : Image) (tick : ℕ) (rs : List (TickInput Input))
    → joined (map (λ x. lowered_input tables i x.input) (filter (λ x. x.tick == tick) rs)) ≡ kept_at tick (flat_map (lowered_at tables i) rs)
joined_by tables i tick [] = refl
joined_by tables i tick (r ∷ rs) =
    let now : List Effect = lowered_input tables i r.input in
    let later : List (TickInput Effect) = flat_map (lowered_at tables i) rs in
    elim (cases_Bool (r.tick == tick)) [
      | inl t ↦ rw t (ap (λ es. lowered_input tables i r.input ++ es) (joined_by tables i tick rs)) ∙ sym (kept_all tick r.tick now later t)
      | inr n ↦ rw n (joined_by tables i tick rs) ∙ sym (kept_none tick r.tick now later n)
    ]

-- .. of the lowered record
pub groups_joined : (tables : Option DmaFile) (i : Image) (r : Record Input) (tick : ℕ) → joined (groups_at tables i r tick) ≡ tick_inputs (lowered tables i r) tick
unfolding lowered
groups_joined tables i r tick = joined_by tables i tick r.inputs
