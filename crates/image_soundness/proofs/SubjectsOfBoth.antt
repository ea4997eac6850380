-- What holds of each subject that a policy and its image both have holds of all, where both have as many.
use Rattle.std.proofs.Common.{◌≡◌, All, List, [], ◌∷◌, length, arith}
use Rattle.std.specs.List.{AllZip, zip}
use Rattle.std.proofs.lemmas.List.Elements.{All-cons, All-head, All-nil, All-tail}
use Rattle.image_pack.specs.declared.parts.Image.{Image}
use Rattle.image_pack.specs.declared.parts.SubjectPart.{SubjectPart}
use Rattle.image_soundness.specs.Sound.{ForEachSubject}
use Rattle.policy_lawful.specs.source.Source.{Source}
use Rattle.policy_lawful.specs.source.Subject.{Subject}

-- ---- pairs of two lists

in_pairs : {A B : Type 0} (R : A → B → Type 0) (xs : List A) (ys : List B) → AllZip R xs ys → All (λ e. R e.0 e.1) (zip xs ys)
in_pairs {A} {B} R [] [] h = All-nil (λ (e : A × B). R e.0 e.1)
in_pairs R [] (y ∷ ys) h = absurd h
in_pairs R (x ∷ xs) [] h = absurd h
in_pairs {A} {B} R (x ∷ xs) (y ∷ ys) h = All-cons (λ (e : A × B). R e.0 e.1) (x, y) (zip xs ys) h.0 (in_pairs R xs ys h.1)

of_pairs : {A B : Type 0} (R : A → B → Type 0) (xs : List A) (ys : List B) → length ys ≡ length xs → All (λ e. R e.0 e.1) (zip xs ys) → AllZip R xs ys
of_pairs R [] [] many h = tt
of_pairs R [] (y ∷ ys) many h = absurd (omega (arith, many))
of_pairs R (x ∷ xs) [] many h = absurd (omega (arith, many))
of_pairs {A} {B} R (x ∷ xs) (y ∷ ys) many h =
    (All-head (λ (e : A × B). R e.0 e.1) (x, y) (zip xs ys) h, of_pairs R xs ys (omega (arith, many)) (All-tail (λ (e : A × B). R e.0 e.1) (x, y) (zip xs ys) h))

-- ---- subjects

module _ (p : Source) (i : Image) (Holds : Subject → SubjectPart → Type 0) where
  -- of all there are, and so of each that both have
  pub for_each : AllZip Holds p.subjects i.subjects → ForEachSubject p i Holds
  for_each h = in_pairs Holds p.subjects i.subjects h

  -- the other way round
  pub of_each : length i.subjects ≡ length p.subjects → ForEachSubject p i Holds → AllZip Holds p.subjects i.subjects
  of_each many h = of_pairs Holds p.subjects i.subjects many h
