-- A lawful policy keeps each rule.
use Rattle.std.proofs.Common.{◌≡◌, ℕ, zero, suc, ◌+◌, List, [], ◌∷◌, Option, Some, None, refl, sym, ◌∙◌}
use Rattle.std.specs.Prelude.{slice_get}
use Rattle.std.specs.List.{enumerate_from}
use Rattle.muen_num.specs.Search.{first_in}
use Rattle.muen_num.proofs.SearchLaws.{none_both}
use Rattle.policy_lawful.specs.Lawful.{IsLawful, offences, unlawful}
use Rattle.policy_lawful.specs.Offences.{broken}
use Rattle.policy_lawful.specs.Domains.{offence_21, offence_22, offence_23, offence_24}
use Rattle.policy_lawful.specs.MoreRules.{offence_6, offence_7, offence_9, offence_10, offence_11, offence_12, offence_13, offence_14, offence_15, offence_19}
use Rattle.policy_lawful.specs.Rules.{offence_1, offence_2, offence_3, offence_4, offence_5, offence_8, offence_16, offence_17, offence_18, offence_20}
use Rattle.policy_lawful.specs.declared.offence.Offence.{Offence}
use Rattle.policy_lawful.proofs.Offences.{none_broken}
use Rattle.policy_types.specs.declared.source.Source.{Source}

pub record KeepsRules (p : Source) : Type 0 where
  pub rule_1 : offence_1 p ≡ None
  pub rule_2 : offence_2 p ≡ None
  pub rule_3 : offence_3 p ≡ None
  pub rule_4 : offence_4 p ≡ None
  pub rule_5 : offence_5 p ≡ None
  pub rule_6 : offence_6 p ≡ None
  pub rule_7 : offence_7 p ≡ None
  pub rule_8 : offence_8 p ≡ None
  pub rule_9 : offence_9 p ≡ None
  pub rule_10 : offence_10 p ≡ None
  pub rule_11 : offence_11 p ≡ None
  pub rule_12 : offence_12 p ≡ None
  pub rule_13 : offence_13 p ≡ None
  pub rule_14 : offence_14 p ≡ None
  pub rule_15 : offence_15 p ≡ None
  pub rule_16 : offence_16 p ≡ None
  pub rule_17 : offence_17 p ≡ None
  pub rule_18 : offence_18 p ≡ None
  pub rule_19 : offence_19 p ≡ None
  pub rule_20 : offence_20 p ≡ None
  pub rule_21 : offence_21 p ≡ None
  pub rule_22 : offence_22 p ≡ None
  pub rule_23 : offence_23 p ≡ None
  pub rule_24 : offence_24 p ≡ None

-- where no rule from this one on is broken, none of them is
none_at : (k : ℕ) (os : List (Option Offence)) → first_in (λ e. broken e.0 e.1) (enumerate_from k os) ≡ None → (n : ℕ) (o : Option Offence) → slice_get os n ≡ Some o → o ≡ None
none_at k [] h n o at = absurd (cc)
none_at k (x ∷ xs) h zero o at =
    let same : x ≡ o = cc in
    sym same ∙ none_broken k x (none_both (broken k x) _ h).0
none_at k (x ∷ xs) h (suc n) o at = none_at (k + 1) xs (none_both (broken k x) _ h).1 n o at

pub rules_of : {p : Source} → IsLawful p → KeepsRules p
unfolding unlawful offences
rules_of {p} lawful = record {
  rule_1 = none_at 1 (offences p) lawful 0 (offence_1 p) refl;
  rule_2 = none_at 1 (offences p) lawful 1 (offence_2 p) refl;
  rule_3 = none_at 1 (offences p) lawful 2 (offence_3 p) refl;
  rule_4 = none_at 1 (offences p) lawful 3 (offence_4 p) refl;
  rule_5 = none_at 1 (offences p) lawful 4 (offence_5 p) refl;
  rule_6 = none_at 1 (offences p) lawful 5 (offence_6 p) refl;
  rule_7 = none_at 1 (offences p) lawful 6 (offence_7 p) refl;
  rule_8 = none_at 1 (offences p) lawful 7 (offence_8 p) refl;
  rule_9 = none_at 1 (offences p) lawful 8 (offence_9 p) refl;
  rule_10 = none_at 1 (offences p) lawful 9 (offence_10 p) refl;
  rule_11 = none_at 1 (offences p) lawful 10 (offence_11 p) refl;
  rule_12 = none_at 1 (offences p) lawful 11 (offence_12 p) refl;
  rule_13 = none_at 1 (offences p) lawful 12 (offence_13 p) refl;
  rule_14 = none_at 1 (offences p) lawful 13 (offence_14 p) refl;
  rule_15 = none_at 1 (offences p) lawful 14 (offence_15 p) refl;
  rule_16 = none_at 1 (offences p) lawful 15 (offence_16 p) refl;
  rule_17 = none_at 1 (offences p) lawful 16 (offence_17 p) refl;
  rule_18 = none_at 1 (offences p) lawful 17 (offence_18 p) refl;
  rule_19 = none_at 1 (offences p) lawful 18 (offence_19 p) refl;
  rule_20 = none_at 1 (offences p) lawful 19 (offence_20 p) refl;
  rule_21 = none_at 1 (offences p) lawful 20 (offence_21 p) refl;
  rule_22 = none_at 1 (offences p) lawful 21 (offence_22 p) refl;
  rule_23 = none_at 1 (offences p) lawful 22 (offence_23 p) refl;
  rule_24 = none_at 1 (offences p) lawful 23 (offence_24 p) refl;
}
