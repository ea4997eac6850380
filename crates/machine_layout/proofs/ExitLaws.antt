-- Tests of the ports of an access, one after another.
use Rattle.std.proofs.Common.{◌≡◌, ℕ, ◌+◌, Bool, false, [], ◌∷◌, refl, ◌∙◌, add-one}
use Rattle.std.specs.List.{list_any}
use Rattle.std.proofs.lemmas.List.Folds.{list_any-append}
use Rattle.muen_num.specs.Range.{numbers_below}

-- one more that doesn't
pub none_more : (test : ℕ → Bool) (k : ℕ) → list_any test (numbers_below k) ≡ false → test k ≡ false → list_any test (numbers_below (k + 1)) ≡ false
none_more test k h g = rw add-one (list_any-append test (numbers_below k) (k ∷ []) ∙ rw (h, g) refl)
