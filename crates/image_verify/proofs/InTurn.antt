-- What is known while subjects are gone through.
use Rattle.std.proofs.Common.{◌≡◌, ◌⊎◌, List, [], ◌∷◌, ◌++◌, map, sym, ◌∙◌, inl, inr, append-nil}
use Rattle.std.specs.List.{zip}
use Rattle.ept_check.specs.declared.types.SubjectTables.{SubjectTables}
use Rattle.expand_kernel.specs.granted.Grants.{Grants}
use Rattle.image_pack.specs.declared.parts.Image.{Image}
use Rattle.image_pack.specs.declared.parts.SubjectPart.{SubjectPart}
use Rattle.image_verify.specs.ByNumber.{tables_granted}

module _ (i : Image) (all : List SubjectTables) where
  -- these tables are made, and those of the subjects that are left come next
  abbrev pub InTurn : List Grants → List SubjectPart → List SubjectTables → Type 0
  InTurn gs qs made = all ≡ made ++ map (tables_granted i) (zip gs qs)

  -- all are made
  pub all_made : (gs : List Grants) (qs : List SubjectPart) (made : List SubjectTables) → InTurn gs qs made → (gs ≡ []) ⊎ (qs ≡ []) → made ≡ all
  all_made gs qs made before (inl e) = sym (before ∙ (λ j. made ++ map (tables_granted i) (zip (e j) qs)) ∙ append-nil made)
  all_made [] qs made before (inr e) = sym (before ∙ append-nil made)
  all_made (g ∷ gs) qs made before (inr e) = sym (before ∙ (λ j. made ++ map (tables_granted i) (zip (g ∷ gs) (e j))) ∙ append-nil made)
