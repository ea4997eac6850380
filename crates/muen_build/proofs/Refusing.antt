-- What a document is refused for, step by step.
use Rattle.std.proofs.Common.{◌≡◌, inl, inr, ℕ, List, [], ◌∷◌, Option, Some, None, Result, Ok, Err, refl, sym, ap, ◌∙◌}
use Rattle.std.specs.Option.{option_or}
use Rattle.muen_num.specs.Answers.{Answers}
use Rattle.muen_num.specs.Search.{first_of}
use Rattle.muen_num.proofs.SearchLaws.{none_both, option_or-None}
use Rattle.policy_json.specs.Document.{policy_of}
use Rattle.policy_lawful.specs.Lawful.{IsLawful, kept_or, unlawful}
use Rattle.policy_names.specs.Names.{names_broken}
use Rattle.policy_names.proofs.Resolved.{names_first}
use Rattle.policy_lawful.specs.Contents.{Held}
use Rattle.policy_lawful.specs.refusal.Refusal.{Refusal}
use Rattle.policy_lawful.specs.refusal.Refusal.TheVariants.{NoMemory}
use Rattle.policy_lawful.specs.source.Source.{Source}
use Rattle.region_alloc.specs.Placement.{no_room}
use Rattle.muen_build.specs.Refusals.{accepted, accepted_policy_of, build_refused, contents_refused, fitting, fitting_policy_of, laid, laid_policy_of, lawful_alone, lawful_policy_of, refusal_of}

-- ---- one reason after another

-- what is refused for the same reason
refused_for : (wanted wanted' : Result Source Refusal) (r : Refusal) → (wanted ≡ Err r → wanted' ≡ Err r) → Answers NoMemory wanted (Err r) → Answers NoMemory wanted' (Err r)
refused_for wanted wanted' r f h = elim h [ inl m ↦ inl m | inr e ↦ inr (f e) ]

pub kept_is : (p q : Source) (o : Option Refusal) → kept_or p o ≡ Ok q → (o ≡ None) × (p ≡ q)
kept_is p q None e = (refl, cc)
kept_is p q (Some x) e = absurd (cc)

pub is_refused : (p : Source) (o : Option Refusal) (r : Refusal) → kept_or p o ≡ Err r → o ≡ Some r
is_refused p None r e = absurd (cc)
is_refused p (Some x) r e = cc

-- the first reason stays the first
first_stays : (p : Source) (a b : Option Refusal) (r : Refusal) → kept_or p a ≡ Err r → kept_or p (first_of (a ∷ b ∷ [])) ≡ Err r
first_stays p None b r e = absurd (cc)
first_stays p (Some x) b r e = e

-- where there is none, the second decides
second_decides : (p q : Source) (a : Option Refusal) (b : Source → Option Refusal) → kept_or p a ≡ Ok q → kept_or p (first_of (a ∷ b p ∷ [])) ≡ kept_or q (b q)
second_decides p q a b e =
    let k = kept_is p q a e in
    ap (λ o. kept_or p (first_of (o ∷ b p ∷ []))) k.0 ∙ ap (kept_or p) (option_or-None (b p)) ∙ ap (λ x. kept_or x (b x)) k.1

-- ---- the rules

pub not_read : (bytes : List ℕ) (r : Refusal) → Answers NoMemory (policy_of bytes) (Err r) → Answers NoMemory (lawful_policy_of bytes) (Err r)
unfolding lawful_policy_of
not_read bytes r h = refused_for (policy_of bytes) (lawful_alone (policy_of bytes)) r (ap lawful_alone) h

pub not_resolved : (bytes : List ℕ) (p : Source) (r : Refusal) → policy_of bytes ≡ Ok p → Answers NoMemory (kept_or p (names_broken p)) (Err r) → Answers NoMemory (lawful_policy_of bytes) (Err r)
unfolding lawful_policy_of
not_resolved bytes p r read h =
    refused_for (kept_or p (names_broken p)) (lawful_alone (policy_of bytes)) r
    (λ e. ap lawful_alone read ∙ ap (kept_or p) (names_first p r (is_refused p (names_broken p) r e))) h

-- where names are resolved, the rules decide
pub rules_decide : (bytes : List ℕ) (p q : Source) → policy_of bytes ≡ Ok p → kept_or p (names_broken p) ≡ Ok q → lawful_policy_of bytes ≡ kept_or q (unlawful q)
unfolding lawful_policy_of
rules_decide bytes p q read kept = ap lawful_alone read ∙ ap (λ x. kept_or x (unlawful x)) (kept_is p q (names_broken p) kept).1

-- ---- the contents and the room

unlawful_first : (files : Held) (answer : Result Source Refusal) (r : Refusal) → lawful_alone answer ≡ Err r → accepted files answer ≡ Err r
unfolding refusal_of
unlawful_first files (Ok p) r e = first_stays p (unlawful p) (build_refused files p) r e
unlawful_first files (Err x) r e = e

-- a document whose policy isn't lawful isn't accepted
pub not_lawful : (files : Held) (bytes : List ℕ) (r : Refusal) → lawful_policy_of bytes ≡ Err r → accepted_policy_of files bytes ≡ Err r
unfolding lawful_policy_of accepted_policy_of
not_lawful files bytes r h = unlawful_first files (policy_of bytes) r h

lawful_then : (files : Held) (answer : Result Source Refusal) (q : Source) → lawful_alone answer ≡ Ok q → accepted files answer ≡ kept_or q (build_refused files q)
unfolding refusal_of
lawful_then files (Ok p) q e = second_decides p q (unlawful p) (build_refused files) e
lawful_then files (Err x) q e = absurd (cc)

-- where it is, its contents and its room decide
pub build_decides : (files : Held) (bytes : List ℕ) (q : Source) → lawful_policy_of bytes ≡ Ok q → accepted_policy_of files bytes ≡ kept_or q (build_refused files q)
unfolding lawful_policy_of accepted_policy_of
build_decides files bytes q e = lawful_then files (policy_of bytes) q e

-- and back: nothing of a policy that is accepted is refused
accepted_reads : (files : Held) (answer : Result Source Refusal) (q : Source) → accepted files answer ≡ Ok q → (lawful_alone answer ≡ Ok q) × (build_refused files q ≡ None)
unfolding refusal_of
accepted_reads files (Err r) q e = absurd (cc)
accepted_reads files (Ok p) q e =
    let k = kept_is p q (first_of (unlawful p ∷ build_refused files p ∷ [])) e in
    let none = none_both (unlawful p) (option_or (build_refused files p) None) k.0 in
    (ap (kept_or p) none.0 ∙ ap Ok k.1, ap (build_refused files) (sym k.1) ∙ (none_both (build_refused files p) None none.1).0)

accepted_built : (files : Held) (bytes : List ℕ) (q : Source) → accepted_policy_of files bytes ≡ Ok q → (lawful_policy_of bytes ≡ Ok q) × (build_refused files q ≡ None)
unfolding lawful_policy_of accepted_policy_of
accepted_built files bytes q e = accepted_reads files (policy_of bytes) q e

lawful_reads : (files : Held) (answer : Result Source Refusal) (q : Source) → accepted files answer ≡ Ok q → IsLawful q
unfolding refusal_of
lawful_reads files (Err r) q e = absurd (cc)
lawful_reads files (Ok p) q e =
    let k = kept_is p q (first_of (unlawful p ∷ build_refused files p ∷ [])) e in
    ap unlawful (sym k.1) ∙ (none_both (unlawful p) (option_or (build_refused files p) None) k.0).0

-- a policy that is accepted keeps every rule
pub accepted_lawful : (files : Held) (bytes : List ℕ) (q : Source) → accepted_policy_of files bytes ≡ Ok q → IsLawful q
unfolding accepted_policy_of
accepted_lawful files bytes q e = lawful_reads files (policy_of bytes) q e

-- a policy that is accepted is lawful, its contents fit, and there is room for it
pub record IsBuilt (files : Held) (bytes : List ℕ) (q : Source) : Type 0 where
  pub lawful : lawful_policy_of bytes ≡ Ok q
  pub contents : contents_refused files q ≡ None
  pub room : no_room q ≡ None

pub accepted_so : (files : Held) (bytes : List ℕ) (q : Source) → accepted_policy_of files bytes ≡ Ok q → IsBuilt files bytes q
unfolding build_refused
accepted_so files bytes q e =
    let built = accepted_built files bytes q e in
    let none = none_both (contents_refused files q) (option_or (no_room q) None) built.1 in
    record { lawful = built.0; contents = none.0; room = (none_both (no_room q) None none.1).0 }

-- the other way round
pub built_so : (files : Held) (bytes : List ℕ) (q : Source) → lawful_policy_of bytes ≡ Ok q → contents_refused files q ≡ None → no_room q ≡ None → accepted_policy_of files bytes ≡ Ok q
unfolding build_refused
built_so files bytes q lawful contents room =
    build_decides files bytes q lawful ∙ ap (λ o. kept_or q (first_of (o ∷ no_room q ∷ []))) contents ∙ ap (λ o. kept_or q (first_of (None ∷ o ∷ []))) room

pub contents_first : (files : Held) (bytes : List ℕ) (q : Source) (r : Refusal) → lawful_policy_of bytes ≡ Ok q → contents_refused files q ≡ Some r → accepted_policy_of files bytes ≡ Err r
unfolding build_refused
contents_first files bytes q r lawful h = build_decides files bytes q lawful ∙ ap (λ o. kept_or q (first_of (o ∷ no_room q ∷ []))) h

pub room_last : (files : Held) (bytes : List ℕ) (q : Source) (r : Refusal) → lawful_policy_of bytes ≡ Ok q → contents_refused files q ≡ None → no_room q ≡ Some r → accepted_policy_of files bytes ≡ Err r
unfolding build_refused
room_last files bytes q r lawful contents room =
    build_decides files bytes q lawful ∙ ap (λ o. kept_or q (first_of (o ∷ no_room q ∷ []))) contents ∙ ap (λ o. kept_or q (first_of (None ∷ o ∷ []))) room

-- ---- the room alone

laid_then : (answer : Result Source Refusal) (q : Source) → lawful_alone answer ≡ Ok q → laid answer ≡ kept_or q (no_room q)
laid_then (Ok p) q e = second_decides p q (unlawful p) no_room e
laid_then (Err x) q e = absurd (cc)

laid_not : (answer : Result Source Refusal) (r : Refusal) → lawful_alone answer ≡ Err r → laid answer ≡ Err r
laid_not (Ok p) r e = first_stays p (unlawful p) (no_room p) r e
laid_not (Err x) r e = e

pub unlawful_laid : (bytes : List ℕ) (r : Refusal) → lawful_policy_of bytes ≡ Err r → laid_policy_of bytes ≡ Err r
unfolding lawful_policy_of laid_policy_of
unlawful_laid bytes r e = laid_not (policy_of bytes) r e

-- it isn't lawful
pub not_laid : (bytes : List ℕ) (r : Refusal) → Answers NoMemory (lawful_policy_of bytes) (Err r) → Answers NoMemory (laid_policy_of bytes) (Err r)
unfolding lawful_policy_of laid_policy_of
not_laid bytes r h = refused_for (lawful_policy_of bytes) (laid_policy_of bytes) r (unlawful_laid bytes r) h

-- where it is, its room decides
pub room_decides : (bytes : List ℕ) (q : Source) → lawful_policy_of bytes ≡ Ok q → laid_policy_of bytes ≡ kept_or q (no_room q)
unfolding lawful_policy_of laid_policy_of
room_decides bytes q e = laid_then (policy_of bytes) q e

laid_reads : (answer : Result Source Refusal) (q : Source) → laid answer ≡ Ok q → (lawful_alone answer ≡ Ok q) × (no_room q ≡ None)
laid_reads (Err r) q e = absurd (cc)
laid_reads (Ok p) q e =
    let k = kept_is p q (first_of (unlawful p ∷ no_room p ∷ [])) e in
    let none = none_both (unlawful p) (option_or (no_room p) None) k.0 in
    (ap (kept_or p) none.0 ∙ ap Ok k.1, ap no_room (sym k.1) ∙ (none_both (no_room p) None none.1).0)

-- a policy that is laid out is lawful, and there is room for its regions
pub laid_is : (bytes : List ℕ) (q : Source) → laid_policy_of bytes ≡ Ok q → (lawful_policy_of bytes ≡ Ok q) × (no_room q ≡ None)
unfolding lawful_policy_of laid_policy_of
laid_is bytes q e = laid_reads (policy_of bytes) q e

-- ---- the contents alone

pub fits_not : (files : Held) (bytes : List ℕ) (r : Refusal) → lawful_policy_of bytes ≡ Err r → fitting_policy_of files bytes ≡ Err r
unfolding fitting_policy_of
fits_not files bytes r e = ap (fitting files) e

pub fits_so : (files : Held) (bytes : List ℕ) (q : Source) → lawful_policy_of bytes ≡ Ok q → fitting_policy_of files bytes ≡ kept_or q (contents_refused files q)
unfolding fitting_policy_of
fits_so files bytes q e = ap (fitting files) e

-- an accepted policy is one
pub accepted_fits : (files : Held) (bytes : List ℕ) (q : Source) → accepted_policy_of files bytes ≡ Ok q → fitting_policy_of files bytes ≡ Ok q
accepted_fits files bytes q e = let b = accepted_so files bytes q e in fits_so files bytes q b.lawful ∙ ap (kept_or q) b.contents
