-- A mark that is set in a list of marks.
use Rattle.std.proofs.Common.{◌≡◌, ℕ, ◌+◌, ◌<◌, Bool, List, [], ◌∷◌, ◌++◌, length, take, drop, set, suc, sym, ap, ◌∙◌, append_assoc, arith}
use Rattle.std.proofs.lemmas.List.{set_split}

pub overwritten_is_set : (xs : List Bool) (n : ℕ) (b : Bool) → n < length xs → take n xs ++ (b ∷ []) ++ drop (n + 1) xs ≡ set xs n b
overwritten_is_set xs n b lt =
    let on : n + 1 ≡ suc n = omega arith in
    append_assoc (take n xs) (b ∷ []) (drop (n + 1) xs) ∙ ap (λ k. take n xs ++ b ∷ drop k xs) on ∙ sym (set_split xs n b lt)
