-- All refusals of a document: those before its contents, and the first of them.
use Rattle.std.proofs.Common.{◌≡◌, ℕ, List, [], ◌∷◌, ◌++◌, Option, Some, None, Result, Ok, Err, inl, inr, refl, sym, ap, ◌∙◌}
use Rattle.std.specs.Prelude.{◌≢◌, slice_get}
use Rattle.std.specs.List.{cons_option, filter_map}
use Rattle.std.specs.Option.{option_or}
use Rattle.muen_build.specs.Refusals.{accepted, accepted_policy_of, build_refused, contents_refused, item_refused, refusal_of}
use Rattle.muen_build.proofs.Refusing.{is_refused, kept_is}
use Rattle.muen_num.specs.Answers.{Answers}
use Rattle.muen_num.specs.Search.{first_of}
use Rattle.muen_num.proofs.SearchLaws.{option_or-None}
use Rattle.policy_json.specs.Document.{policy_of}
use Rattle.policy_lawful.specs.Contents.{Held}
use Rattle.policy_lawful.specs.Lawful.{kept_or, unlawful}
use Rattle.policy_lawful.specs.Thing.{items_of}
use Rattle.policy_lawful.specs.refusal.Refusal.{Refusal}
use Rattle.policy_lawful.specs.refusal.Refusal.TheVariants.{NoMemory}
use Rattle.policy_lawful.specs.source.Source.{Source}
use Rattle.policy_lint.specs.All.{all_contents_refused, all_of_lawful, all_refusals, lawful_or_all, read_or_alone, refusal_in, rules_or_all}
use Rattle.policy_names.specs.Names.{names_broken}
use Rattle.policy_names.proofs.Resolved.{names_first}
use Rattle.rules_told.specs.Broken.{all_kept_or, broken_rules}
use Rattle.rules_told.proofs.RulesTold.{first_broken, first_kept, first_told}
use Rattle.region_alloc.specs.Placement.{no_room}

-- ---- what is answered before contents are asked

-- a refusal that isn't of memory is the one that is wanted
wanted : {X : Type 0} (answer : Result X Refusal) (r : Refusal) → r ≢ NoMemory → Answers NoMemory answer (Err r) → answer ≡ Err r
wanted answer r other h = elim h [ inl is ↦ absurd (other is) | inr e ↦ e ]

-- the document isn't read
pub not_read : (document : List ℕ) (r : Refusal) → r ≢ NoMemory → Answers NoMemory (policy_of document) (Err r) → Err (r ∷ []) ≡ lawful_or_all document
unfolding lawful_or_all
not_read document r other h = sym (ap read_or_alone (wanted (policy_of document) r other h))

-- its names don't resolve
pub not_resolved : (document : List ℕ) (p : Source) (r : Refusal) → policy_of document ≡ Ok p → r ≢ NoMemory → Answers NoMemory (kept_or p (names_broken p)) (Err r) → Err (r ∷ []) ≡ lawful_or_all document
unfolding lawful_or_all
not_resolved document p r read other h =
    sym (ap read_or_alone read ∙ ap (rules_or_all p) (is_refused p (names_broken p) r (wanted (kept_or p (names_broken p)) r other h)))

-- they do: all rules decide
pub resolved_all : (document : List ℕ) (p q : Source) → policy_of document ≡ Ok p → kept_or p (names_broken p) ≡ Ok q → all_kept_or q (broken_rules q) ≡ lawful_or_all document
unfolding lawful_or_all
resolved_all document p q read kept =
    let k = kept_is p q (names_broken p) kept in
    sym (ap read_or_alone read ∙ ap (rules_or_all p) k.0 ∙ ap (λ x. all_kept_or x (broken_rules x)) k.1)

-- ---- the first of all

first_append : {X : Type 0} (xs ys : List X) → slice_get (xs ++ ys) 0 ≡ option_or (slice_get xs 0) (slice_get ys 0)
first_append [] ys = refl
first_append (x ∷ xs) ys = refl

-- of a policy that keeps every rule
first_of_lawful : (files : Held) (p : Source) → slice_get (all_contents_refused files p ++ cons_option (no_room p) []) 0 ≡ build_refused files p
unfolding all_contents_refused build_refused contents_refused
first_of_lawful files p =
    first_append (filter_map (item_refused files) (items_of p)) (cons_option (no_room p) [])
    ∙ (λ i. option_or (first_told (item_refused files) (items_of p) i) (first_kept (no_room p) [] i))

refusal_kept : (p : Source) (o : Option Refusal) → refusal_in (kept_or p o) ≡ o
refusal_kept p None = refl
refusal_kept p (Some r) = refl

-- where rules are broken, it is the least of them
first_of_rules : (files : Held) (p : Source) (rs : List Refusal) → slice_get (all_of_lawful files (all_kept_or p rs)) 0 ≡ option_or (slice_get rs 0) (build_refused files p)
first_of_rules files p [] = first_of_lawful files p
first_of_rules files p (r ∷ rs) = refl

-- or that names don't resolve
first_of_names : (files : Held) (p : Source) (o : Option Refusal) → ((r : Refusal) → o ≡ Some r → unlawful p ≡ Some r) → slice_get (all_of_lawful files (rules_or_all p o)) 0 ≡ option_or (unlawful p) (build_refused files p)
first_of_names files p None h = first_of_rules files p (broken_rules p) ∙ ap (λ o. option_or o (build_refused files p)) (first_broken p)
first_of_names files p (Some r) h = sym (ap (λ o. option_or o (build_refused files p)) (h r refl))

first_read : (files : Held) (answer : Result Source Refusal) → slice_get (all_of_lawful files (read_or_alone answer)) 0 ≡ refusal_in (accepted files answer)
unfolding refusal_of
first_read files (Err r) = refl
first_read files (Ok p) =
    first_of_names files p (names_broken p) (names_first p)
    ∙ sym (refusal_kept p (first_of (unlawful p ∷ build_refused files p ∷ [])) ∙ ap (option_or (unlawful p)) (option_or-None (build_refused files p)))

pub first_refuses : (files : Held) (document : List ℕ) → slice_get (all_refusals files document) 0 ≡ refusal_in (accepted_policy_of files document)
unfolding all_refusals lawful_or_all accepted_policy_of
first_refuses files document = first_read files (policy_of document)
