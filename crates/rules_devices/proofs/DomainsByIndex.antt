-- Rules 21 and 23 of a resolved policy are those of its source policy, whose domains and devices are the same.
use Rattle.std.proofs.Common.{◌≡◌, ℕ, Bool, true, false, List, [], ◌∷◌, ◌++◌, map, Option, refl, sym, ap, ◌∙◌}
use Rattle.std.specs.Prelude.{not, ◌||◌, option_map}
use Rattle.std.specs.List.{flat_map, list_any}
use Rattle.std.specs.Option.{option_or}
use Rattle.std.specs.Str.{bytes_eq}
use Rattle.std.proofs.lemmas.List.{map-append}
use Rattle.std.proofs.lemmas.List.Concat.{flat_map-cons}
use Rattle.muen_num.specs.Search.{first_after, first_in, unless}
use Rattle.muen_num.proofs.Lists.{all_true, list_any-map, map-map}
use Rattle.muen_num.proofs.SameAnswers.{first_after-map}
use Rattle.muen_num.proofs.SearchLaws.{first_over-map, option_or-None, option_or_assoc}
use Rattle.muen_num.proofs.Options.{map_either}
use Rattle.policy_lawful.specs.Domains as rules
use Rattle.policy_lawful.specs.Domains.{offence_21, offence_23}
use Rattle.policy_lawful.specs.Offences.{alone, two}
use Rattle.policy_lawful.specs.Resolution.{Resolution, source_of}
use Rattle.policy_lawful.specs.Rules.{is_declared, repeated}
use Rattle.policy_lawful.specs.declared.offence.Offence.{Offence}
use Rattle.policy_lawful.specs.source.Domain.{Domain}
use Rattle.rules_devices.specs.Domains.{domain_itself, domain_devices, domain_regions, first_repeat, has_bdf, domains_offence}
use Rattle.rules_devices.specs.declared.listed.Listed.{Listed}

-- ---- names that stand in domains

abbrev named : Listed → rules.Listed
named x = record { domain = x.domain; name = x.name }

-- listed for the rules
all_named : (f : Domain → List Listed) (g : Domain → List rules.Listed) → ((d : Domain) → map named (f d) ≡ g d) → (ds : List Domain) → flat_map g ds ≡ map named (flat_map f ds)
all_named f g same [] = refl
all_named f g same (d ∷ ds) =
    flat_map-cons g d ds
    ∙ ap (λ xs. xs ++ flat_map g ds) (sym (same d))
    ∙ ap (λ xs. map named (f d) ++ xs) (all_named f g same ds)
    ∙ sym (map-append named (f d) (flat_map f ds))
    ∙ ap (map named) (sym (flat_map-cons f d ds))

devices_named : (ds : List Domain) → flat_map (λ d. map (λ name. record { domain = d.name; name = name }) d.devices) ds ≡ map named (flat_map domain_devices ds)
devices_named ds =
    all_named domain_devices (λ d. map (λ name. record { domain = d.name; name = name }) d.devices) (λ d. map-map named (λ name. record { domain = d.name; name = name }) d.devices) ds

regions_named : (ds : List Domain) → flat_map (λ d. map (λ m. record { domain = d.name; name = m.region }) d.memory) ds ≡ map named (flat_map domain_regions ds)
regions_named ds =
    all_named domain_regions (λ d. map (λ m. record { domain = d.name; name = m.region }) d.memory) (λ d. map-map named (λ m. record { domain = d.name; name = m.region }) d.memory) ds

-- one that stands before, told by any offence
abbrev again : {O : Type 0} → (Listed → O) → List Listed → Listed → Option O
again o before x = unless (not (list_any (λ b. bytes_eq b.name x.name) before)) (o x)

named_again : (o : rules.Listed → Offence) (xs : List Listed) → first_after (λ before x. unless (not (list_any (λ b. bytes_eq b.name x.name) before)) (o x)) [] (map named xs) ≡ first_after (again (λ x. o (named x))) [] xs
named_again o xs =
    first_after-map named (λ before x. unless (not (list_any (λ b. bytes_eq b.name x.name) before)) (o x)) (again (λ x. o (named x))) (λ _. true)
    (λ before x _. ap (λ t. unless (not t) (o (named x))) (list_any-map (λ b. bytes_eq b.name x.name) named before)) [] xs (all_true xs)

unless_mapped : {X O : Type 0} (t : Bool) (o : X → O) (x : X) → unless t (o x) ≡ option_map o (unless t x)
unless_mapped true o x = refl
unless_mapped false o x = refl

again_after : (o : Listed → Offence) (before xs : List Listed) → first_after (again o) before xs ≡ option_map o (first_after (again (λ x. x)) before xs)
again_after o before [] = refl
again_after o before (x ∷ xs) =
    ap (λ a. option_or a (first_after (again o) (before ++ x ∷ []) xs)) (unless_mapped (not (list_any (λ b. bytes_eq b.name x.name) before)) o x)
    ∙ ap (option_or (option_map o (again (λ x. x) before x))) (again_after o (before ++ x ∷ []) xs)
    ∙ sym (map_either o (again (λ x. x) before x) (first_after (again (λ x. x)) (before ++ x ∷ []) xs))

-- the first repeat tells the offence
pub repeat_offence : (xs : List Listed) → first_after (λ before x. unless (not (list_any (λ b. bytes_eq b.name x.name) before)) (two x.domain x.name)) [] xs ≡ option_map (λ x. two x.domain x.name) (first_repeat xs)
repeat_offence xs = again_after (λ x. two x.domain x.name) [] xs

-- ---- rule 23

pub regions_once : (r : Resolution) → option_map (λ x. two x.name x.domain) (first_repeat (flat_map domain_regions r.device_domains)) ≡ offence_23 (source_of r)
unfolding offence_23 source_of
regions_once r =
    sym (
    ap (first_after (λ before x. unless (not (list_any (λ b. bytes_eq b.name x.name) before)) (two x.name x.domain)) []) (regions_named r.device_domains)
    ∙ named_again (λ x. two x.name x.domain) (flat_map domain_regions r.device_domains)
    ∙ again_after (λ x. two x.name x.domain) [] (flat_map domain_regions r.device_domains)
    )

-- ---- names of domains

none_of : (before : List (List ℕ)) (name : List ℕ) → first_in (λ a. unless (not (bytes_eq a name)) (alone name)) before ≡ unless (not (list_any (λ a. bytes_eq a name) before)) (alone name)
none_of [] name = refl
none_of (n ∷ ns) name =
    ap (option_or (unless (not (bytes_eq n name)) (alone name))) (none_of ns name)
    ∙ either (bytes_eq n name) (list_any (λ a. bytes_eq a name) ns) (alone name)
  where
    either : (a b : Bool) (o : Offence) → option_or (unless (not a) o) (unless (not b) o) ≡ unless (not (a || b)) o
    either true b o = refl
    either false b o = refl

names_again : (ds : List Domain) → first_after (λ before x. unless (not (list_any (λ b. bytes_eq b.name x.name) before)) (two x.domain x.name)) [] (map domain_itself ds) ≡ repeated (map (λ d. d.name) ds)
names_again ds =
    first_after-map domain_itself (again (λ x. two x.domain x.name)) (λ before d. unless (not (list_any (λ b. bytes_eq b.name d.name) before)) (alone d.name)) (λ _. true)
    (λ before d _. ap (λ t. unless (not t) (alone d.name)) (list_any-map (λ b. bytes_eq b.name d.name) domain_itself before)) [] ds (all_true ds)
    ∙ sym (first_after-map (λ d. d.name) (λ before b. first_in (λ a. unless (not (bytes_eq a b)) (alone b)) before) (λ before d. unless (not (list_any (λ b. bytes_eq b.name d.name) before)) (alone d.name)) (λ _. true)
    (λ before d _. none_of (map (λ d. d.name) before) d.name ∙ ap (λ t. unless (not t) (alone d.name)) (list_any-map (λ a. bytes_eq a d.name) (λ d. d.name) before)) [] ds (all_true ds))

pub names_repeated : (ds : List Domain) → option_map (λ x. two x.domain x.name) (first_repeat (map domain_itself ds)) ≡ repeated (map (λ d. d.name) ds)
names_repeated ds = sym (repeat_offence (map domain_itself ds)) ∙ names_again ds

-- ---- rule 21

pub domains_by_index : (r : Resolution) → domains_offence r.devices r.device_domains ≡ offence_21 (source_of r)
unfolding offence_21 source_of
domains_by_index r =
    let listed = flat_map domain_devices r.device_domains in
    let names = map (λ d. d.name) r.devices in
    let declared = ap (first_in (λ x. unless {O = Offence} (is_declared names x.name) (two x.domain x.name))) (devices_named r.device_domains) ∙ first_over-map named (λ x. unless {O = Offence} (is_declared names x.name) (two x.domain x.name)) listed in
    let twice = ap (first_after (λ before x. unless (not (list_any (λ b. bytes_eq b.name x.name) before)) (two x.domain x.name)) []) (devices_named r.device_domains) ∙ named_again (λ x. two x.domain x.name) listed ∙ repeat_offence listed in
    let on_bus = ap (first_in (λ x. unless {O = Offence} (has_bdf r.devices x.name) (two x.domain x.name))) (devices_named r.device_domains) ∙ first_over-map named (λ x. unless {O = Offence} (has_bdf r.devices x.name) (two x.domain x.name)) listed in
    simp (declared, twice, on_bus, option_or_assoc, option_or-None)
