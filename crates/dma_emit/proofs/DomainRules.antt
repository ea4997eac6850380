-- Rules 21 to 23: what a lawful policy keeps of its domains.
use Rattle.std.proofs.Common.{◌≡◌, ℕ, ◌+◌, ◌≤◌, ◌<◌, All, Bool, true, false, not, List, [], ◌∷◌, ◌++◌, get_or, length, map, Option, None, refl, sym, ap, ◌∙◌, inl, inr, arith}
use Rattle.std.specs.Prelude.{codes, nat_le}
use Rattle.std.specs.List.{AllPairs, list_all}
use Rattle.std.specs.Str.{bytes_eq}
use Rattle.std.proofs.lemmas.Bool.{and_parts, leb-true, not-true, or_parts}
use Rattle.std.proofs.lemmas.List.Elements.{All-cons, All-nil}
use Rattle.std.proofs.lemmas.List.Kept.{AllPairs-cons}
use Rattle.muen_num.specs.Search.{first_after, first_in, first_pair, unless}
use Rattle.muen_num.specs.declared.limits.TheConstants.{GUEST_END, MOST_DOMAINS}
use Rattle.muen_num.proofs.FirstPair.{none_at, pairs_at}
use Rattle.muen_num.proofs.Members.{In, left_in, right_in}
use Rattle.muen_num.proofs.Pairs.{pairs_unmapped}
use Rattle.muen_num.proofs.SearchLaws.{all_pass, none_both, unless_none}
use Rattle.policy_lawful.specs.Domains.{Listed, device_has_bdf, domain_extent, domain_overlap, is_bdf, listed_devices, listed_regions, offence_21, offence_22, offence_23, region_size, same_bdf, stands_before}
use Rattle.policy_lawful.specs.Offences.{alone, two}
use Rattle.policy_lawful.specs.Rules.{are_apart, at_most, is_declared, repeated}
use Rattle.muen_num.specs.Numbers.{is_page_aligned}
use Rattle.policy_lawful.specs.declared.offence.Offence.{Offence}
use Rattle.policy_lawful.specs.Rights.{may_execute}
use Rattle.policy_lawful.specs.source.Domain.{Domain}
use Rattle.policy_lawful.specs.source.Mapping.{Mapping}
use Rattle.policy_lawful.specs.source.Source.{Source}
use Rattle.span_emit.proofs.PairLaws.{pairs_weaker}

-- ---- rule 21

pub record DevicesKept (p : Source) : Type 0 where
  pub few : length p.device_domains ≤ MOST_DOMAINS
  pub declared : list_all (λ x. is_declared (map (λ d. d.name) p.devices) x.name) (listed_devices p) ≡ true
  pub numbered : list_all (λ x. device_has_bdf p x.name) (listed_devices p) ≡ true
  pub bdfs : list_all (λ d. is_bdf d.bdf) p.devices ≡ true
  pub differ : AllPairs (λ a b. same_bdf a.bdf b.bdf ≡ false) p.devices

pub devices_kept : (p : Source) → offence_21 p ≡ None → DevicesKept p
unfolding offence_21
devices_kept p h =
    let many = none_both (at_most (length p.device_domains) MOST_DOMAINS (codes "deviceDomains")) _ h in
    let names = none_both (repeated (map (λ d. d.name) p.device_domains)) _ many.1 in
    let declared = none_both (first_in (λ x. unless (is_declared (map (λ d. d.name) p.devices) x.name) (two x.domain x.name)) (listed_devices p)) _ names.1 in
    let once = none_both (first_after (λ before x. unless (not (stands_before before x)) (two x.domain x.name)) [] (listed_devices p)) _ declared.1 in
    let numbered = none_both (first_in (λ x. unless (device_has_bdf p x.name) (two x.domain x.name)) (listed_devices p)) _ once.1 in
    let bdfs = none_both (first_in (λ d. unless (is_bdf d.bdf) (alone d.name)) p.devices) _ numbered.1 in
    let differ = none_both (first_pair (λ a b. unless (not (same_bdf a.bdf b.bdf)) (two a.name b.name)) p.devices) None bdfs.1 in
    record {
      few = leb-true (length p.device_domains) MOST_DOMAINS (unless_none (nat_le (length p.device_domains) MOST_DOMAINS) (alone (codes "deviceDomains")) many.0);
      declared = all_pass (λ x. is_declared (map (λ d. d.name) p.devices) x.name) (λ x. two x.domain x.name) (listed_devices p) declared.0;
      numbered = all_pass (λ x. device_has_bdf p x.name) (λ x. two x.domain x.name) (listed_devices p) numbered.0;
      bdfs = all_pass (λ d. is_bdf d.bdf) (λ d. alone d.name) p.devices bdfs.0;
      differ =
          pairs_weaker (λ a b. unless (not (same_bdf a.bdf b.bdf)) (two a.name b.name) ≡ None) (λ a b. same_bdf a.bdf b.bdf ≡ false)
          (λ a b none. not-true _ (unless_none (not (same_bdf a.bdf b.bdf)) (two a.name b.name) none)) p.devices
          (pairs_at (λ a b. unless (not (same_bdf a.bdf b.bdf)) (two a.name b.name)) p.devices differ.0);
    }

-- ---- rule 22

-- a window of a domain
pub record IsWindow (p : Source) (m : Mapping) : Type 0 where
  pub aligned : is_page_aligned m.virtual_address ≡ true
  pub end : m.virtual_address + region_size p m.region ≤ GUEST_END
  pub rights : may_execute m.rights ≡ false

-- the windows of a domain
pub record IsDomain (p : Source) (d : Domain) : Type 0 where
  pub windows : All (IsWindow p) d.memory
  pub apart : AllPairs (λ a b. are_apart (domain_extent p a) (domain_extent p b) ≡ true) d.memory

-- what a condition on each window of each domain tells
each_at : (p : Source) (test : Mapping → Bool) → first_in (λ d. first_in (λ m. unless (test m) (two d.name m.region)) d.memory) p.device_domains ≡ None → (k : ℕ) (e : Domain) → k < length p.device_domains → list_all test (get_or p.device_domains k e).memory ≡ true
each_at p test h k e l =
    all_pass test (λ m. two (get_or p.device_domains k e).name m.region) (get_or p.device_domains k e).memory (none_at (λ d. first_in (λ m. unless (test m) (two d.name m.region)) d.memory) p.device_domains h k e l)

three_of : (p : Source) (ms : List Mapping) → list_all (λ m. is_page_aligned m.virtual_address) ms ≡ true → list_all (λ m. nat_le (m.virtual_address + region_size p m.region) GUEST_END) ms ≡ true
    → list_all (λ m. not (may_execute m.rights)) ms ≡ true → All (IsWindow p) ms
three_of p [] a b c = All-nil (IsWindow p)
three_of p (m ∷ ms) a b c =
    let x = and_parts (is_page_aligned m.virtual_address) (list_all (λ m. is_page_aligned m.virtual_address) ms) a in
    let y = and_parts (nat_le (m.virtual_address + region_size p m.region) GUEST_END) (list_all (λ m. nat_le (m.virtual_address + region_size p m.region) GUEST_END) ms) b in
    let z = and_parts (not (may_execute m.rights)) (list_all (λ m. not (may_execute m.rights)) ms) c in
    All-cons (IsWindow p) m ms (record { aligned = x.0; end = leb-true _ _ y.0; rights = not-true (may_execute m.rights) z.0 }) (three_of p ms x.1 y.1 z.1)

pub domains_kept : (p : Source) → offence_22 p ≡ None → All (IsDomain p) p.device_domains
unfolding offence_22
domains_kept p h =
    let declared = none_both (first_in (λ d. first_in (λ m. unless (is_declared (map (λ r. r.name) p.memory) m.region) (two d.name m.region)) d.memory) p.device_domains) _ h in
    let aligned = none_both (first_in (λ d. first_in (λ m. unless (is_page_aligned m.virtual_address) (two d.name m.region)) d.memory) p.device_domains) _ declared.1 in
    let ends = none_both (first_in (λ d. first_in (λ m. unless (nat_le (m.virtual_address + region_size p m.region) GUEST_END) (two d.name m.region)) d.memory) p.device_domains) _ aligned.1 in
    let rights = none_both (first_in (λ d. first_in (λ m. unless (not (may_execute m.rights)) (two d.name m.region)) d.memory) p.device_domains) _ ends.1 in
    let apart = none_both (first_in (λ d. first_pair (domain_overlap d.name) (map (domain_extent p) d.memory)) p.device_domains) None rights.1 in
    λ k e l.
    let d = get_or p.device_domains k e in
    record {
      windows =
          three_of p d.memory (each_at p (λ m. is_page_aligned m.virtual_address) aligned.0 k e l)
          (each_at p (λ m. nat_le (m.virtual_address + region_size p m.region) GUEST_END) ends.0 k e l)
          (each_at p (λ m. not (may_execute m.rights)) rights.0 k e l);
      apart =
          pairs_unmapped (domain_extent p) (λ a b. are_apart a b ≡ true) d.memory
          (pairs_weaker (λ a b. domain_overlap d.name a b ≡ None) (λ a b. are_apart a b ≡ true) (λ a b none. unless_none (are_apart a b) (two d.name b.name) none) (map (domain_extent p) d.memory)
          (pairs_at (domain_overlap d.name) (map (domain_extent p) d.memory) (none_at (λ d. first_pair (domain_overlap d.name) (map (domain_extent p) d.memory)) p.device_domains apart.0 k e l)));
    }

-- ---- rule 23

abbrev pub AreNamedApart : Listed → Listed → Type 0
AreNamedApart a b = bytes_eq a.name b.name ≡ false

abbrev again : List Listed → Listed → Option Offence
again before x = unless (not (stands_before before x)) (two x.name x.domain)

none_any : (before : List Listed) (b x : Listed) → In b before → stands_before before x ≡ false → bytes_eq b.name x.name ≡ false
none_any [] b x i h = absurd i
none_any (c ∷ before) b x (inl same) h = ap (λ (y : Listed). bytes_eq y.name x.name) (sym same) ∙ (or_parts (bytes_eq c.name x.name) (stands_before before x) h).0
none_any (c ∷ before) b x (inr i) h = none_any before b x i (or_parts (bytes_eq c.name x.name) (stands_before before x) h).1

later_apart : (before xs : List Listed) (b : Listed) → In b before → first_after again before xs ≡ None → All (AreNamedApart b) xs
later_apart before [] b i h = All-nil (AreNamedApart b)
later_apart before (x ∷ xs) b i h =
    let both = none_both (again before x) (first_after again (before ++ x ∷ []) xs) h in
    All-cons (AreNamedApart b) x xs (none_any before b x i (not-true _ (unless_none (not (stands_before before x)) (two x.name x.domain) both.0))) (later_apart (before ++ x ∷ []) xs b (left_in before (x ∷ []) b i) both.1)

all_apart : (before xs : List Listed) → first_after again before xs ≡ None → AllPairs AreNamedApart xs
all_apart before [] h = λ i j d l m. absurd (omega arith)
all_apart before (x ∷ xs) h =
    let both = none_both (again before x) (first_after again (before ++ x ∷ []) xs) h in
    AllPairs-cons AreNamedApart x xs (later_apart (before ++ x ∷ []) xs x (right_in before (x ∷ []) x (inl refl)) both.1) (all_apart (before ++ x ∷ []) xs both.1)

-- no region has two windows of domains
pub regions_once : (p : Source) → offence_23 p ≡ None → AllPairs AreNamedApart (listed_regions p)
unfolding offence_23
regions_once p h = all_apart [] (listed_regions p) h
