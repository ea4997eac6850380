-- Whether each element passes of lists that are filtered, joined or some of which are missing.
use Rattle.std.proofs.Common.{◌≡◌, Bool, true, false, cond, not, List, [], ◌∷◌, Option, Some, None, refl, ap, ◌∙◌}
use Rattle.std.specs.Prelude.{◌&&◌, ◌||◌, filter}
use Rattle.std.specs.Option.{option_map_or}
use Rattle.std.specs.List.{cons_option, filter_map, flat_map, list_all}
use Rattle.std.proofs.lemmas.List.Concat.{flat_map-cons}
use Rattle.std.proofs.lemmas.List.Folds.{list_all-append}

pub all_filter : {X : Type 0} (t w : X → Bool) (xs : List X) → list_all t (filter w xs) ≡ list_all (λ x. not (w x) || t x) xs
all_filter t w [] = refl
all_filter t w (x ∷ xs) =
    elim (w x) as (λ b. list_all t (cond b (x ∷ filter w xs) (filter w xs)) ≡ ((not b || t x) && list_all (λ x. not (w x) || t x) xs)) [
      | true ↦ ap (λ b. t x && b) (all_filter t w xs)
      | false ↦ all_filter t w xs
    ]

pub all_flat : {X Y : Type 0} (t : Y → Bool) (g : X → List Y) (xs : List X) → list_all t (flat_map g xs) ≡ list_all (λ x. list_all t (g x)) xs
all_flat t g [] = refl
all_flat t g (x ∷ xs) =
    ap (list_all t) (flat_map-cons g x xs) ∙ list_all-append t (g x) (flat_map g xs) ∙ ap (λ b. list_all t (g x) && b) (all_flat t g xs)

pub all_some : {X Y : Type 0} (t : Y → Bool) (g : X → Option Y) (xs : List X) → list_all t (filter_map g xs) ≡ list_all (λ x. option_map_or t (g x) true) xs
all_some t g [] = refl
all_some t g (x ∷ xs) =
    elim (g x) as (λ o. list_all t (cons_option o (filter_map g xs)) ≡ (option_map_or t o true && list_all (λ x. option_map_or t (g x) true) xs)) [
      | None ↦ all_some t g xs
      | Some y ↦ ap (λ b. t y && b) (all_some t g xs)
    ]
