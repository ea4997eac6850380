-- The contacts of a policy's subjects, one more at a time.
use Rattle.std.proofs.Common.{◌≡◌, ℕ, ◌+◌, ◌<◌, List, [], ◌∷◌, ◌++◌, length, map, get_or, take, sym, ap, ◌∙◌, subst, arith}
use Rattle.std.specs.List.{enumerate_from}
use Rattle.std.proofs.lemmas.List.{length-take-le, map-append, take_more}
use Rattle.muen_num.proofs.Lists.{enumerate_push}

pub numbered_more : {S X : Type 0} (f : ℕ × S → X) (ss : List S) (i : ℕ) (s : S) → i < length ss → s ≡ get_or ss i s
    → map f (enumerate_from 0 (take (i + 1) ss)) ≡ map f (enumerate_from 0 (take i ss)) ++ f (i, s) ∷ []
numbered_more f ss i s within is =
    let index : 0 + length (take i ss) ≡ i = omega (arith, length-take-le i ss (omega arith)) in
    ap (λ xs. map f (enumerate_from 0 xs)) (take_more ss i s within)
    ∙ ap (map f) (enumerate_push 0 (take i ss) (get_or ss i s))
    ∙ map-append f (enumerate_from 0 (take i ss)) ((0 + length (take i ss), get_or ss i s) ∷ [])
    ∙ ap (λ n. map f (enumerate_from 0 (take i ss)) ++ f (n, get_or ss i s) ∷ []) index
    ∙ ap (λ x. map f (enumerate_from 0 (take i ss)) ++ f (i, x) ∷ []) (sym is)

-- where the subject was read from the list
pub numbered_read : {S X : Type 0} (f : ℕ × S → X) (ss read : List S) (i : ℕ) (s : S) → read ≡ ss → i < length read → s ≡ get_or read i s
    → map f (enumerate_from 0 (take (i + 1) ss)) ≡ map f (enumerate_from 0 (take i ss)) ++ f (i, s) ∷ []
numbered_read f ss read i s same within is =
    numbered_more f ss i s (subst (λ zs. i < length zs) same within) (subst (λ zs. s ≡ get_or zs i s) same is)
