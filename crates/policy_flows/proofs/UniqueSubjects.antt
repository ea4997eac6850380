-- Subjects of different names, and their indexes.
use Rattle.std.proofs.Common.{◌≡◌, ◌<◌, true, length, map, Some, None, sym, ap, ◌∙◌, arith}
use Rattle.std.specs.Prelude.{◌==◌, slice_get}
use Rattle.std.specs.Str.{bytes_eq}
use Rattle.std.proofs.lemmas.Bool.{eqb-true}
use Rattle.std.proofs.lemmas.List.{length-map}
use Rattle.std.proofs.lemmas.Option.{slice_get_within}
use Rattle.policy_lawful.specs.Resolution.{name_at}
use Rattle.policy_lawful.specs.Rules.{repeated}
use Rattle.policy_lawful.proofs.Indexes.{same_name}
use Rattle.policy_lawful.specs.source.Source.{Source}
use Rattle.policy_lawful.specs.source.Subject.{Subject}
use Rattle.policy_lawful.proofs.WindowsByIndex.{name_there}
use Rattle.muen_num.proofs.Members.{In, index_in}
use Rattle.muen_num.proofs.Lookups.{same_self}

-- ---- unique names

-- no two subjects have the same name
pub record HasUniqueNames (p : Source) : Type 0 where
  pub same : (a b : Subject) → In a p.subjects → In b p.subjects → a.name ≡ b.name → a ≡ b

pub unique_names : (p : Source) → repeated (map (λ s. s.name) p.subjects) ≡ None → HasUniqueNames p
unique_names p unique = record { same = same }
  where
    same : (a b : Subject) → In a p.subjects → In b p.subjects → a.name ≡ b.name → a ≡ b
    same a b i j e =
        let names = map (λ s. s.name) p.subjects in
        let many : length names ≡ length p.subjects = length-map p.subjects (λ s. s.name) in
        let x = index_in p.subjects a i in
        let y = index_in p.subjects b j in
        let left : x.0 < length p.subjects = slice_get_within p.subjects x.0 a x.1 in
        let right : y.0 < length p.subjects = slice_get_within p.subjects y.0 b y.1 in
        let named : name_at names x.0 ≡ name_at names y.0 = name_there (λ s. s.name) p.subjects x.0 a x.1 ∙ e ∙ sym (name_there (λ s. s.name) p.subjects y.0 b y.1) in
        let tested : (x.0 == y.0) ≡ true =
        sym (same_name names x.0 y.0 unique (omega (arith, many, left)) (omega (arith, many, right))) ∙ ap (λ n. bytes_eq n (name_at names y.0)) named ∙ same_self (name_at names y.0) in
        let index : x.0 ≡ y.0 = eqb-true x.0 y.0 tested in
        let both : Some a ≡ Some b = sym x.1 ∙ ap (slice_get p.subjects) index ∙ y.1 in
        cc
