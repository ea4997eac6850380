-- Lowered records: what holds of each input, and the order of the ticks, stay.
use Rattle.std.proofs.Common.{arith, ℕ, zero, suc, ◌≤◌, List, [], ◌∷◌, ◌++◌, map, Option, flat_map}
use Rattle.std.specs.List.{All}
use Rattle.std.specs.List.Sorted.{IsNonDecreasing}
use Rattle.std.proofs.lemmas.List.Elements.{All-append, All-cons, All-head, All-map, All-nil, All-tail}
use Rattle.muen_num.proofs.Lists.{all_unmapped}
use Rattle.image_pack.specs.declared.parts.Image.{Image}
use Rattle.device_bench.specs.declared.effect.Effect.{Effect}
use Rattle.record_text.specs.declared.record.Input.{Input}
use Rattle.record_text.specs.declared.record.TickInput.{TickInput}
use Rattle.dma_tables.specs.Lowered.{in_tick, lowered_at, lowered_input}
use Rattle.dma_tables.specs.declared.file.DmaFile.{DmaFile}

-- ---- ticks that don't fall

-- each is this one or a later one
abbrev AreFrom : ℕ → List ℕ → Type 0
AreFrom t ts = All (λ u. t ≤ u) ts

-- they don't fall with such a tick before them
rises_first : (t : ℕ) (ts : List ℕ) → AreFrom t ts → IsNonDecreasing ts → IsNonDecreasing (t ∷ ts)
rises_first t ts from rises zero zero d le l = omega arith
rises_first t ts from rises zero (suc j) d le l = from j d (omega (arith, l))
rises_first t ts from rises (suc i) zero d le l = absurd (omega (arith, le))
rises_first t ts from rises (suc i) (suc j) d le l = rises i j d (omega (arith, le)) (omega (arith, l))

-- .. nor without their first
rises_behind : (t : ℕ) (ts : List ℕ) → IsNonDecreasing (t ∷ ts) → IsNonDecreasing ts
rises_behind t ts rises i j d le l = rises (suc i) (suc j) d (omega (arith, le)) (omega (arith, l))

-- .. which none of them is below
rises_from : (t : ℕ) (ts : List ℕ) → IsNonDecreasing (t ∷ ts) → AreFrom t ts
rises_from t ts rises k d l = rises zero (suc k) d (omega arith) (omega (arith, l))

-- the ticks of inputs, or of effects
abbrev ticks : {I : Type 0} → List (TickInput I) → List ℕ
ticks es = map (λ e. e.tick) es

-- effects whose ticks don't fall, and none of which is before a tick
record RiseFrom (t : ℕ) (es : List (TickInput Effect)) : Type 0 where
  from : AreFrom t (ticks es)
  rise : IsNonDecreasing (ticks es)

-- the effects of this tick may stand before them
rises_before : (t : ℕ) (xs : List Effect) (es : List (TickInput Effect)) → RiseFrom t es → RiseFrom t (map (in_tick t) xs ++ es)
rises_before t [] es later = later
rises_before t (x ∷ xs) es later =
    let rest = rises_before t xs es later in
    record {
      from = All-cons (λ u. t ≤ u) t (ticks (map (in_tick t) xs ++ es)) (omega arith) rest.from;
      rise = rises_first t (ticks (map (in_tick t) xs ++ es)) rest.from rest.rise;
    }

module _ (t : Option DmaFile) (i : Image) where
  -- what holds of all that stands for an input in its tick, input by input, holds of all effects
  pub each_lowered : (P : TickInput Input → Type 0) (Q : TickInput Effect → Type 0)
      → ((e : TickInput Input) → P e → All (λ x. Q (in_tick e.tick x)) (lowered_input t i e.input))
      → (es : List (TickInput Input)) → All P es → All Q (flat_map (lowered_at t i) es)
  each_lowered P Q each [] all = All-nil Q
  each_lowered P Q each (e ∷ es) all =
      All-append Q (lowered_at t i e) (flat_map (lowered_at t i) es)
      (All-map Q (in_tick e.tick) (lowered_input t i e.input) (each e (All-head P e es all)))
      (each_lowered P Q each es (All-tail P e es all))

  -- so what holds of the ticks of the inputs holds of those of the effects
  pub ticks_lowered : (P : ℕ → Type 0) (es : List (TickInput Input)) → All (λ e. P e.tick) es → All (λ e. P e.tick) (flat_map (lowered_at t i) es)
  ticks_lowered P es all = each_lowered (λ e. P e.tick) (λ e. P e.tick) (λ e h k d l. h) es all

  -- effects begin no earlier than the inputs
  from_lowered : (low : ℕ) (es : List (TickInput Input)) → AreFrom low (ticks es) → AreFrom low (ticks (flat_map (lowered_at t i) es))
  from_lowered low es from =
      All-map (λ u. low ≤ u) (λ (e : TickInput Effect). e.tick) (flat_map (lowered_at t i) es)
      (ticks_lowered (λ u. low ≤ u) es (all_unmapped (λ (e : TickInput Input). e.tick) (λ u. low ≤ u) es from))

  -- where the ticks of inputs don't fall, those of the effects don't
  pub rises_lowered : (es : List (TickInput Input)) → IsNonDecreasing (ticks es) → IsNonDecreasing (ticks (flat_map (lowered_at t i) es))
  rises_lowered [] rises = rises
  rises_lowered (e ∷ es) rises =
      (rises_before e.tick (lowered_input t i e.input) (flat_map (lowered_at t i) es) (record {
        from = from_lowered e.tick es (rises_from e.tick (ticks es) rises);
        rise = rises_lowered es (rises_behind e.tick (ticks es) rises);
      })).rise
