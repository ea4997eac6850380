-- The first fault of a list, an element further.
use Rattle.std.proofs.Common.{◌≡◌, ℕ, ◌+◌, ◌<◌, List, length, get_or, drop, Option, Some, None, sym, ap, ◌∙◌}
use Rattle.std.specs.Option.{option_or}
use Rattle.muen_num.specs.Search.{first_in}
use Rattle.muen_num.proofs.FirstSteps.{first_step}

-- the element has one
pub fault_found : {X O : Type 0} (at : X → Option O) (xs : List X) (i : ℕ) (x : X) (r : Option O) (o : O) → i < length xs → x ≡ get_or xs i x → r ≡ at x → r ≡ Some o
    → first_in at (drop i xs) ≡ first_in at xs → Some o ≡ first_in at xs
fault_found at xs i x r o within is says some rest =
    sym (ap (λ p. option_or p (first_in at (drop (i + 1) xs))) some) ∙ sym (first_step at xs i x r within is says) ∙ rest

-- and hasn't
pub no_fault : {X O : Type 0} (at : X → Option O) (xs : List X) (i : ℕ) (x : X) (r : Option O) → i < length xs → x ≡ get_or xs i x → r ≡ at x → r ≡ None
    → first_in at (drop i xs) ≡ first_in at xs → first_in at (drop (i + 1) xs) ≡ first_in at xs
no_fault at xs i x r within is says none rest =
    sym (ap (λ p. option_or p (first_in at (drop (i + 1) xs))) none) ∙ sym (first_step at xs i x r within is says) ∙ rest
