-- All rules that are broken: those from 3 on, of a policy whose names resolve; and the first of them.
use Rattle.std.proofs.Common.{◌≡◌, ℕ, ◌+◌, true, false, List, [], ◌∷◌, ◌++◌, length, Option, Some, None, OnOk, Result, Ok, Err, refl, sym, ap, ◌∙◌, append_assoc, arith}
use Rattle.std.specs.Prelude.{◌==◌, slice_get}
use Rattle.std.specs.List.{cons_option, enumerate_from, filter_map}
use Rattle.std.specs.Option.{option_or}
use Rattle.std.proofs.lemmas.Bool.{false≢true}
use Rattle.std.proofs.lemmas.Bool.Decides.{nat_tests}
use Rattle.muen_num.specs.Search.{first_in}
use Rattle.policy_lawful.specs.Lawful.{IsLawful, offences, unlawful}
use Rattle.policy_lawful.specs.Offences.{broken}
use Rattle.policy_lawful.specs.Resolution.{IsResolved, Resolution, source_of}
use Rattle.policy_lawful.specs.Rules.{offence_2}
use Rattle.policy_lawful.specs.declared.offence.Offence.{Offence}
use Rattle.policy_lawful.specs.refusal.Refusal.{Refusal}
use Rattle.policy_lawful.specs.source.Source.{Source}
use Rattle.rules_told.specs.Broken.{all_kept_or, broken_rules, domains_offences, grants_offences, memory_offences, plan_offences, refusals_from}

-- ---- one rule after another

kept_before : {Y : Type 0} (o : Option Y) (ys zs : List Y) → cons_option o ys ++ zs ≡ cons_option o (ys ++ zs)
kept_before None ys zs = refl
kept_before (Some y) ys zs = refl

refusals_append : (n : ℕ) (os more : List (Option Offence)) → refusals_from n (os ++ more) ≡ refusals_from n os ++ refusals_from (n + length os) more
refusals_append n [] more = let e : n ≡ n + 0 = omega arith in ap (λ k. refusals_from k more) e
refusals_append n (o ∷ os) more =
    let e : (n + 1) + length os ≡ n + length (o ∷ os) = omega arith in
    ap (cons_option (broken n o)) (refusals_append (n + 1) os more)
    ∙ sym (kept_before (broken n o) (refusals_from (n + 1) os) (refusals_from ((n + 1) + length os) more))
    ∙ ap (λ k. refusals_from n (o ∷ os) ++ refusals_from k more) e

-- where those by some rules were noted, those by the next are
pub more_noted : (n : ℕ) (before now after : List Refusal) (os more : List (Option Offence)) → now ≡ before ++ refusals_from n os → after ≡ now ++ refusals_from (n + length os) more
    → after ≡ before ++ refusals_from n (os ++ more)
more_noted n before now after os more noted added =
    added
    ∙ ap (λ found. found ++ refusals_from (n + length os) more) noted
    ∙ append_assoc before (refusals_from n os) (refusals_from (n + length os) more)
    ∙ sym (ap (λ found. before ++ found) (refusals_append n os more))

-- the first rule
pub first_noted : (n : ℕ) (before after : List Refusal) (o is : Option Offence) → o ≡ is → after ≡ before ++ refusals_from n (o ∷ []) → after ≡ before ++ refusals_from n (is ∷ [])
first_noted n before after o is same added = added ∙ ap (λ x. before ++ refusals_from n (x ∷ [])) same

-- one rule more
pub one_noted : (n : ℕ) (before now after : List Refusal) (os : List (Option Offence)) (o is : Option Offence) → now ≡ before ++ refusals_from n os → o ≡ is
    → after ≡ now ++ refusals_from (n + length os) (o ∷ []) → after ≡ before ++ refusals_from n (os ++ is ∷ [])
one_noted n before now after os o is noted same added = more_noted n before now after os (is ∷ []) noted (first_noted (n + length os) now after o is same added)

-- and the last
pub last_noted : {E : Type 0} (r : Result (Unit {0}) E) (n : ℕ) (before now after : List Refusal) (os : List (Option Offence)) (o is : Option Offence) → now ≡ before ++ refusals_from n os → o ≡ is
    → OnOk r (after ≡ now ++ refusals_from (n + length os) (o ∷ [])) → OnOk r (after ≡ before ++ refusals_from n (os ++ is ∷ []))
last_noted (Ok u) n before now after os o is noted same added = one_noted n before now after os o is noted same added
last_noted (Err e) n before now after os o is noted same added = tt

-- ---- all of them

-- rules 1 and 2 are kept
pub later_are_all : (r : Resolution) (memory grants plan domains : List Refusal) → IsResolved r
    → memory ≡ [] ++ refusals_from 3 (memory_offences (source_of r)) → grants ≡ memory ++ refusals_from 9 (grants_offences (source_of r))
    → plan ≡ grants ++ refusals_from 16 (plan_offences (source_of r)) → domains ≡ plan ++ refusals_from 21 (domains_offences (source_of r))
    → domains ≡ broken_rules (source_of r)
unfolding broken_rules offences
later_are_all r memory grants plan domains resolved a b c d =
    let p = source_of r in
    let to_grants : grants ≡ [] ++ refusals_from 3 (memory_offences p ++ grants_offences p) = more_noted 3 [] memory grants (memory_offences p) (grants_offences p) a b in
    let to_plan : plan ≡ [] ++ refusals_from 3 ((memory_offences p ++ grants_offences p) ++ plan_offences p) = more_noted 3 [] grants plan (memory_offences p ++ grants_offences p) (plan_offences p) to_grants c in
    let later : List (Option Offence) = ((memory_offences p ++ grants_offences p) ++ plan_offences p) ++ domains_offences p in
    let to_domains : domains ≡ [] ++ refusals_from 3 later = more_noted 3 [] plan domains ((memory_offences p ++ grants_offences p) ++ plan_offences p) (domains_offences p) to_plan d in
    to_domains
    ∙ sym (ap (λ o. cons_option (broken 1 o) (cons_option (broken 2 (offence_2 p)) (refusals_from 3 later))) resolved.names ∙ ap (λ o. cons_option (broken 2 o) (refusals_from 3 later)) resolved.references)

-- ---- the first of them

pub first_kept : {Y : Type 0} (o : Option Y) (ys : List Y) → slice_get (cons_option o ys) 0 ≡ option_or o (slice_get ys 0)
first_kept None ys = refl
first_kept (Some y) ys = refl

pub first_told : {X Y : Type 0} (f : X → Option Y) (xs : List X) → slice_get (filter_map f xs) 0 ≡ first_in f xs
first_told f [] = refl
first_told f (x ∷ xs) = first_kept (f x) (filter_map f xs) ∙ ap (option_or (f x)) (first_told f xs)

-- **the first of the rules that are broken is the one for which a policy is refused**
pub first_broken : (p : Source) → slice_get (broken_rules p) 0 ≡ unlawful p
unfolding broken_rules unlawful
first_broken p = first_told (λ e. broken e.0 e.1) (enumerate_from 1 (offences p))

-- where none is, it keeps all of them
pub none_broken : (p : Source) → broken_rules p ≡ [] → IsLawful p
none_broken p none = sym (first_broken p) ∙ ap (λ rs. slice_get rs 0) none

-- ---- what is answered of these refusals

some_many : {X : Type 0} (x : X) (xs : List X) → (length (x ∷ xs) == 0) ≡ false
some_many x xs = grind (arith, nat_tests)

none_there : {X : Type 0} (xs : List X) → (length xs == 0) ≡ true → xs ≡ []
none_there [] h = refl
none_there (x ∷ xs) h = absurd (false≢true (sym (some_many x xs) ∙ h))

some_there : (p : Source) (found : List Refusal) → (length found == 0) ≡ false → Err found ≡ all_kept_or p found
some_there p [] h = absurd (false≢true (sym h))
some_there p (r ∷ rs) h = refl

module _ (p : Source) (found : List Refusal) (are : found ≡ broken_rules p) where
  pub none_found : (length found == 0) ≡ true → IsLawful p
  none_found none = none_broken p (sym are ∙ none_there found none)

  -- there is none
  pub kept_where_none : (length found == 0) ≡ true → Ok p ≡ all_kept_or p (broken_rules p)
  kept_where_none none = sym (ap (all_kept_or p) (sym are ∙ none_there found none))

  -- there are some
  pub told_where_some : (length found == 0) ≡ false → Err found ≡ all_kept_or p (broken_rules p)
  told_where_some some = some_there p found some ∙ ap (all_kept_or p) are
