-- What a result that was mapped comes from.
use Rattle.std.proofs.Common.{◌≡◌, Result, Ok, Err, refl}
use Rattle.text_words.specs.Steps.{mapped}

pub mapped_ok : {A B E : Type 0} (f : A → B) (r : Result A E) (y : B) → mapped f r ≡ Ok y → (x : A) × (r ≡ Ok x) × (f x ≡ y)
mapped_ok f (Ok x) y e = (x, refl, cc)
mapped_ok f (Err d) y e = absurd cc

pub mapped_err : {A B E : Type 0} (f : A → B) (r : Result A E) (d : E) → mapped f r ≡ Err d → r ≡ Err d
mapped_err f (Ok x) d e = absurd cc
mapped_err f (Err c) d e = cc
