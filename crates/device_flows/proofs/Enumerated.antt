-- A list that is mapped one element more at a time.
use Rattle.std.proofs.Common.{◌≡◌, ℕ, ◌+◌, ◌<◌, List, [], ◌∷◌, ◌++◌, length, map, get_or, take, sym, ap, ◌∙◌, subst}
use Rattle.std.proofs.lemmas.List.{map-append, take_more}

-- where the element was read from the list
pub mapped_read : {X Y : Type 0} (f : X → Y) (xs read : List X) (i : ℕ) (x : X) → read ≡ xs → i < length read → x ≡ get_or read i x → map f (take (i + 1) xs) ≡ map f (take i xs) ++ f x ∷ []
mapped_read f xs read i x same within is =
    let here = subst (λ zs. i < length zs) same within in
    let at = subst (λ zs. x ≡ get_or zs i x) same is in
    ap (map f) (take_more xs i x here)
    ∙ map-append f (take i xs) (get_or xs i x ∷ [])
    ∙ ap (λ y. map f (take i xs) ++ f y ∷ []) (sym at)
