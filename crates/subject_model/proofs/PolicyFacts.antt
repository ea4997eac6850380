-- The names of a lawful policy.
use Rattle.std.proofs.Common.{◌≡◌, ℕ, ◌<◌, List, length, map, Some, None, sym, ap, ◌∙◌, arith}
use Rattle.std.specs.Prelude.{slice_get}
use Rattle.std.specs.List.{position_or_len}
use Rattle.std.specs.Str.{bytes_eq}
use Rattle.std.proofs.lemmas.List.{length-map}
use Rattle.std.proofs.lemmas.Option.{slice_get_within}
use Rattle.subject_model.specs.System.{subject_named}
use Rattle.policy_lawful.specs.Lawful.{IsLawful}
use Rattle.policy_lawful.specs.Rules.{repeated}
use Rattle.policy_lawful.proofs.Indexes.{position_is}
use Rattle.policy_lawful.proofs.KeptRules.{rules_of}
use Rattle.policy_lawful.proofs.UniqueNames.{unique}
use Rattle.policy_lawful.proofs.WindowsByIndex.{found_by_name, name_there}
use Rattle.policy_lawful.specs.source.Source.{Source}
use Rattle.policy_lawful.specs.source.Subject.{Subject}

-- ---- by unique names

module _ {X : Type 0} (f : X → List ℕ) (xs : List X) (names : repeated (map f xs) ≡ None) where
  within_names : (k : ℕ) (x : X) → slice_get xs k ≡ Some x → k < length (map f xs)
  within_names k x at = let here = slice_get_within xs k x at in let many = length-map xs f in omega (arith, here, many)

  -- two with the same name stand at the same index
  pub same_index : (j k : ℕ) (x y : X) → slice_get xs j ≡ Some x → slice_get xs k ≡ Some y → f x ≡ f y → j ≡ k
  same_index j k x y at_j at_k same =
      sym (position_is (map f xs) j names (within_names j x at_j))
      ∙ ap (λ n. position_or_len (λ m. bytes_eq m n) (map f xs)) (name_there f xs j x at_j ∙ same ∙ sym (name_there f xs k y at_k))
      ∙ position_is (map f xs) k names (within_names k y at_k)

-- ---- subjects

module _ (p : Source) (lawful : IsLawful p) where
  -- two subjects with the same name are the same
  pub names_differ : (s t : ℕ) (n m : Subject) → slice_get p.subjects s ≡ Some n → slice_get p.subjects t ≡ Some m → n.name ≡ m.name → s ≡ t
  names_differ s t n m at_s at_t same = same_index (λ (x : Subject). x.name) p.subjects (unique p (rules_of lawful).rule_1).subjects s t n m at_s at_t same

  -- a subject is found by its name
  pub found_again : (s : ℕ) (n : Subject) → slice_get p.subjects s ≡ Some n → subject_named p n.name ≡ Some n
  found_again s n at = found_by_name (λ (x : Subject). x.name) p.subjects (unique p (rules_of lawful).rule_1).subjects s n at
