-- Which subjects of an image have their spans for themselves.
use Rattle.std.specs.Prelude.{◌≡◌, ◌≢◌, ℕ, false, List, slice_get, Some}
use Rattle.image_pack.specs.declared.parts.SubjectPart.{SubjectPart}
use Rattle.image_soundness.specs.Sound.{share_a_span}

-- the subject at an index shares none of its spans with a subject at another
abbrev pub SharesWithNone : List SubjectPart → ℕ → Type 0
SharesWithNone parts k =
    (j : ℕ) (a b : SubjectPart) → slice_get parts k ≡ Some a → slice_get parts j ≡ Some b → j ≢ k → share_a_span a b ≡ false
