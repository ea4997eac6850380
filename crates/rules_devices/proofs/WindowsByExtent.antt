-- The windows of domains, as ranges of the devices' addresses.
use Rattle.std.proofs.Common.{◌≡◌, ℕ, Bool, true, false, List, [], ◌∷◌, ◌++◌, Option, Some, None, refl, sym, ap, ◌∙◌}
use Rattle.std.specs.Prelude.{option_map}
use Rattle.std.specs.Option.{option_or}
use Rattle.muen_num.specs.Search.{first_after, first_in, first_pair, unless}
use Rattle.muen_num.proofs.SearchLaws.{option_or-None}
use Rattle.policy_lawful.specs.Domains.{domain_overlap, offence_22}
use Rattle.policy_lawful.specs.Offences.{two}
use Rattle.policy_lawful.specs.Resolution.{Resolution, source_of}
use Rattle.policy_lawful.specs.Rules.{are_apart, first_overlap, overlapping}
use Rattle.policy_lawful.specs.declared.offence.Extent.{Extent}
use Rattle.policy_lawful.specs.declared.offence.Offence.{Offence}
use Rattle.rules_devices.specs.Windows.{domain_windows_offence}

-- ---- the later one of a pair is named

unless_named : (by : List ℕ) (t : Bool) (o : Offence) → unless t (two by o.second) ≡ option_map (λ o. two by o.second) (unless t o)
unless_named by true o = refl
unless_named by false o = refl

or_named : (by : List ℕ) (a b : Option Offence) → option_or (option_map (λ o. two by o.second) a) (option_map (λ o. two by o.second) b) ≡ option_map (λ o. two by o.second) (option_or a b)
or_named by None b = refl
or_named by (Some o) b = refl

before_named : (by : List ℕ) (x : Extent) (before : List Extent) → first_in (λ b. domain_overlap by b x) before ≡ option_map (λ o. two by o.second) (first_in (λ b. overlapping b x) before)
before_named by x [] = refl
before_named by x (b ∷ bs) =
    ap (λ o. option_or o (first_in (λ b. domain_overlap by b x) bs)) (unless_named by (are_apart b x) (two b.name x.name))
    ∙ ap (option_or (option_map (λ o. two by o.second) (overlapping b x))) (before_named by x bs)
    ∙ or_named by (overlapping b x) (first_in (λ b. overlapping b x) bs)

after_named : (by : List ℕ) (before xs : List Extent) → first_after (λ before x. first_in (λ b. domain_overlap by b x) before) before xs ≡ option_map (λ o. two by o.second) (first_after (λ before x. first_in (λ b. overlapping b x) before) before xs)
after_named by before [] = refl
after_named by before (x ∷ xs) =
    ap (λ o. option_or o (first_after (λ before x. first_in (λ b. domain_overlap by b x) before) (before ++ x ∷ []) xs)) (before_named by x before)
    ∙ ap (option_or (option_map (λ o. two by o.second) (first_in (λ b. overlapping b x) before))) (after_named by (before ++ x ∷ []) xs)
    ∙ or_named by (first_in (λ b. overlapping b x) before) (first_after (λ before x. first_in (λ b. overlapping b x) before) (before ++ x ∷ []) xs)

pub overlap_named : (by : List ℕ) (xs : List Extent) → option_map (λ o. two by o.second) (first_overlap xs) ≡ first_pair (domain_overlap by) xs
unfolding first_overlap
overlap_named by xs = sym (after_named by [] xs)

-- ---- rule 22

pub windows_by_index : (r : Resolution) → domain_windows_offence r.memory r.device_domains ≡ offence_22 (source_of r)
unfolding offence_22 source_of
windows_by_index r = simp (option_or-None)
