-- A list of values, one more at a time.
use Rattle.std.proofs.Common.{◌≡◌, ℕ, ◌+◌, List, [], ◌∷◌, ◌++◌, map, sym, ap, ap₂, ◌∙◌, add-one}
use Rattle.std.proofs.lemmas.List.{map_push}
use Rattle.muen_num.specs.Range.{numbers_below}
use Rattle.serde_json.specs.Data.{Data}
use Rattle.serde_json.specs.View.{view}
use Rattle.serde_json.specs.declared.value.Value.{Value}

pub one_more_value : (value : ℕ → Data) (i : ℕ) (items more : List Value) (v : Value) → map view items ≡ map value (numbers_below i) → view v ≡ value i → more ≡ items ++ v ∷ []
    → map view more ≡ map value (numbers_below (i + 1))
one_more_value value i items more v before is e =
    ap (map view) e
    ∙ map_push view items v
    ∙ ap₂ (λ vs d. vs ++ d ∷ []) before is
    ∙ sym (map_push value (numbers_below i) i)
    ∙ ap (λ n. map value (numbers_below n)) (sym (add-one i))
