-- The least rule that is broken, from the rules in turn.
use Rattle.std.proofs.Common.{◌≡◌, List, [], ◌∷◌, ◌++◌, Option, refl, sym, ap, ◌∙◌}
use Rattle.std.specs.Option.{option_or}
use Rattle.policy_lawful.specs.Domains.{offence_21, offence_22, offence_23, offence_24}
use Rattle.policy_lawful.specs.Lawful.{offences, unlawful}
use Rattle.policy_lawful.specs.Resolution.{IsResolved, Resolution, source_of}
use Rattle.policy_lawful.specs.MoreRules.{offence_6, offence_7, offence_9, offence_10, offence_11, offence_12, offence_13, offence_14, offence_15, offence_19}
use Rattle.policy_lawful.specs.Offences.{broken}
use Rattle.policy_lawful.specs.Rules.{offence_2, offence_3, offence_4, offence_5, offence_8, offence_16, offence_17, offence_18, offence_20}
use Rattle.muen_num.specs.Search.{first_of}
use Rattle.muen_num.proofs.SearchLaws.{option_or_assoc}
use Rattle.policy_lawful.specs.refusal.Refusal.{Refusal}
use Rattle.policy_rules.specs.InTurn.{memory_broken, grants_broken, plan_broken, domains_broken}

first_of-append : {O : Type 0} (xs ys : List (Option O)) → first_of (xs ++ ys) ≡ option_or (first_of xs) (first_of ys)
first_of-append [] ys = refl
first_of-append (x ∷ xs) ys = ap (option_or x) (first_of-append xs ys) ∙ sym (option_or_assoc x (first_of xs) (first_of ys))

pub rules_joined : (r : Resolution) → IsResolved r → option_or (memory_broken (source_of r)) (option_or (grants_broken (source_of r)) (option_or (plan_broken (source_of r)) (domains_broken (source_of r)))) ≡ unlawful (source_of r)
unfolding unlawful offences
rules_joined r resolved =
    let p = source_of r in
    let memory : List (Option Refusal) = broken 3 (offence_3 p) ∷ broken 4 (offence_4 p) ∷ broken 5 (offence_5 p) ∷ broken 6 (offence_6 p) ∷ broken 7 (offence_7 p) ∷ broken 8 (offence_8 p) ∷ [] in
    let grants : List (Option Refusal) = broken 9 (offence_9 p) ∷ broken 10 (offence_10 p) ∷ broken 11 (offence_11 p) ∷ broken 12 (offence_12 p) ∷ broken 13 (offence_13 p) ∷ broken 14 (offence_14 p) ∷ broken 15 (offence_15 p) ∷ [] in
    let plan : List (Option Refusal) = broken 16 (offence_16 p) ∷ broken 17 (offence_17 p) ∷ broken 18 (offence_18 p) ∷ broken 19 (offence_19 p) ∷ broken 20 (offence_20 p) ∷ [] in
    let domains : List (Option Refusal) = broken 21 (offence_21 p) ∷ broken 22 (offence_22 p) ∷ broken 23 (offence_23 p) ∷ broken 24 (offence_24 p) ∷ [] in
    let all = memory ++ grants ++ plan ++ domains in
    sym (
    first_of-append memory (grants ++ plan ++ domains)
    ∙ ap (option_or (first_of memory)) (first_of-append grants (plan ++ domains) ∙ ap (option_or (first_of grants)) (first_of-append plan domains))
    )
    ∙ sym (ap (λ o. option_or (broken 1 o) (option_or (broken 2 (offence_2 p)) (first_of all))) resolved.names ∙ ap (λ o. option_or (broken 2 o) (first_of all)) resolved.references)
