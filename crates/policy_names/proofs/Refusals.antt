-- What explains a refusal, where one element is searched after another.
use Rattle.std.proofs.Common.{◌≡◌, ℕ, ◌<◌, List, [], ◌∷◌, ◌++◌, length, get_or, drop, Option, Some, None, refl, sym, ap, subst, ◌∙◌}
use Rattle.std.specs.List.{flat_map, enumerate_from}
use Rattle.std.specs.Option.{option_or}
use Rattle.muen_num.specs.Answers.{Explains}
use Rattle.muen_num.specs.Search.{first_in}
use Rattle.muen_num.proofs.FirstSteps.{first_step, first_numbered_step}
use Rattle.std.specs.Prelude.{map, Result, Ok, Err}
use Rattle.muen_num.proofs.SearchLaws.{first_in-append, first_in-flat_map, first_over-map, option_or-None, option_or_assoc}
use Rattle.policy_lawful.proofs.Keeps.{explains_first, first_found}
use Rattle.policy_lawful.specs.Keeps.{Keeps}
use Rattle.policy_lawful.specs.Offences.{broken}
use Rattle.policy_lawful.specs.Rules.{device_kinds, kinds_of_names, logical_names, offence_1}
use Rattle.policy_lawful.specs.declared.offence.Offence.{Offence}
use Rattle.policy_lawful.specs.refusal.Refusal.{Refusal}
use Rattle.policy_lawful.specs.source.Source.{Source}
use Rattle.policy_names.specs.Parts.{components_repeat, hardware_repeats, members_repeat, repeats}
use Rattle.policy_lawful.specs.refusal.Refusal.TheVariants.{NoMemory}

-- ---- one offence behind another

pub broken-or : (number : ℕ) (a b : Option Offence) → broken number (option_or a b) ≡ option_or (broken number a) (broken number b)
broken-or number None b = refl
broken-or number (Some x) b = refl

pub none_found : {O : Type 0} (a b : Option O) → a ≡ None → option_or a b ≡ b
none_found a b none = ap (λ o. option_or o b) none

pub ruleset one_behind_another = (broken-or, none_found, first_found)

-- ---- an answer

-- what is told of an answer tells the same offence and another thing that follows
pub keeps_as : {X : Type 0} (Holds Follows : X → Type 0) (a b : Option Refusal) → b ≡ a → ((x : X) → Holds x → Follows x) → (result : Result X Refusal) → Keeps a Holds result → Keeps b Follows result
keeps_as Holds Follows a b same follows (Ok x) h = (same ∙ h.0, follows x h.1)
keeps_as Holds Follows a b same follows (Err e) h = subst (λ o. Explains NoMemory o e) (sym same) h

-- ---- one element of a list

-- what explains a refusal of it explains one of the list, where none is in front of it
pub explains_at : {X : Type 0} (number : ℕ) (at : X → Option Offence) (xs : List X) (i : ℕ) (x : X) (e : Refusal) → i < length xs → x ≡ get_or xs i x
    → first_in at (drop i xs) ≡ first_in at xs → Explains NoMemory (broken number (at x)) e → Explains NoMemory (broken number (first_in at xs)) e
explains_at number at xs i x e within is rest h =
    rw (sym rest ∙ first_step at xs i x (at x) within is refl, broken-or number (at x)) (explains_first NoMemory _ _ e h)

-- the same of a list with its indexes
pub explains_at_index : {X : Type 0} (number : ℕ) (at : ℕ × X → Option Offence) (xs : List X) (i : ℕ) (x : X) (e : Refusal) → i < length xs → x ≡ get_or xs i x
    → first_in at (enumerate_from i (drop i xs)) ≡ first_in at (enumerate_from 0 xs)
    → Explains NoMemory (broken number (at (i, x))) e → Explains NoMemory (broken number (first_in at (enumerate_from 0 xs))) e
explains_at_index number at xs i x e within is rest h =
    rw (sym rest ∙ first_numbered_step at xs i x (at (i, x)) within is refl, broken-or number (at (i, x))) (explains_first NoMemory _ _ e h)

-- ---- rule 1, of one kind of names after another

in_kinds : (p : Source) → offence_1 p ≡ first_in repeats (kinds_of_names p)
unfolding offence_1 repeats
in_kinds p = refl

pub offence_1_in_turn : (p : Source) → offence_1 p
    ≡ option_or (hardware_repeats p) (option_or (repeats (map (λ r. r.name) p.memory ++ map (λ c. c.name) p.channels)) (option_or (components_repeat p) (members_repeat p)))
unfolding hardware_repeats components_repeat members_repeat
offence_1_in_turn p =
    let front = map (λ b. b.name) p.memory_blocks ∷ map (λ d. d.name) p.devices ∷ [] in
    let devices = flat_map device_kinds p.devices in
    let middle = (map (λ r. r.name) p.memory ++ map (λ c. c.name) p.channels) ∷ map (λ c. c.name) p.components ∷ [] in
    let logical = map logical_names p.components in
    let back = map (λ e. e.name) p.events ∷ map (λ s. s.name) p.subjects ∷ map (λ g. g.name) p.scheduling.groups ∷ [] in
    in_kinds p ∙
    rw (first_in-append repeats (((front ++ devices) ++ middle) ++ logical) back, first_in-append repeats ((front ++ devices) ++ middle) logical, first_in-append repeats (front ++ devices) middle, first_in-append repeats front devices, first_in-flat_map repeats device_kinds p.devices, first_over-map logical_names repeats p.components, option_or-None (repeats (map (λ g. g.name) p.scheduling.groups)))
    (simp (option_or_assoc) refl)

pub ruleset rule_1 = (offence_1_in_turn, one_behind_another)
