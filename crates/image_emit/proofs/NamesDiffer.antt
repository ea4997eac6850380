-- Rule 1: names of devices differ.
use Rattle.std.proofs.Common.{◌≡◌, ℕ, List, None}
use Rattle.std.specs.Prelude.{not}
use Rattle.std.specs.Str.{bytes_eq}
use Rattle.std.proofs.lemmas.Bool.{not-true}
use Rattle.image_pack.specs.ImageConditions.{AreDistinct}
use Rattle.muen_num.proofs.FirstPair.{pairs_at}
use Rattle.muen_num.proofs.SearchLaws.{unless_none}
use Rattle.muen_num.specs.Search.{unless}
use Rattle.policy_lawful.specs.Offences.{alone}
use Rattle.policy_lawful.specs.Rules.{repeated}

-- names of which none is repeated differ
pub names_differ : (names : List (List ℕ)) → repeated names ≡ None → AreDistinct names
names_differ names h i j d l m =
    not-true _ (unless_none _ _ (pairs_at (λ a b. unless (not (bytes_eq a b)) (alone b)) names h i j d l m))
