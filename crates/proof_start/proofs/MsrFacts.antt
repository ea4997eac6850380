-- The MSRs of a lawful policy: each that is granted is one of an MSR file, and none is granted twice to a subject.
use Rattle.std.proofs.Common.{◌≡◌, ℕ, zero, suc, ◌+◌, ◌-◌, ◌<◌, ◌≤◌, inl, inr, Bool, true, false, List, [], ◌∷◌, ◌++◌, map, Some, None, refl, sym, ap, ◌∙◌, arith, subst, true≢false}
use Rattle.std.specs.Prelude.{◌==◌, ◌&&◌, ◌||◌, is_some, nat_le, if◌then◌else◌, slice_get}
use Rattle.std.specs.List.{flat_map, list_all, list_any}
use Rattle.std.proofs.lemmas.Bool.{and_from, and_parts, eq-eqb, eqb-true, false_from_ne_true, le-leb, leb-true, ne_eqb, or_cases, or_from, or_left, or_right}
use Rattle.std.proofs.lemmas.Bool.Decides.{nat_tests}
use Rattle.std.proofs.lemmas.List.{map-append}
use Rattle.std.proofs.lemmas.List.Folds.{list_all-append, list_all-map, list_any-append}
use Rattle.muen_num.specs.Numbers.{is_among}
use Rattle.policy_lawful.proofs.EachPasses.{all_flat}
use Rattle.policy_lawful.proofs.KeptRules.{rules_of}
use Rattle.expand_grants.specs.Resources.{Msr, is_granted, each_msr_in, msrs_of}
use Rattle.muen_num.proofs.Lists.{each_from, found, map-map, passes_at}
use Rattle.muen_num.proofs.SearchLaws.{all_pass}
use Rattle.muen_num.specs.Range.{numbers_below}
use Rattle.muen_num.specs.declared.limits.TheConstants.{LOW_MSR_LAST, HIGH_MSR_FIRST, HIGH_MSR_LAST}
use Rattle.policy_lawful.specs.Lawful.{IsLawful}
use Rattle.policy_lawful.specs.MoreRules.{is_msr_range, msrs_apart, offence_11}
use Rattle.policy_lawful.specs.Offences.{alone}
use Rattle.policy_lawful.specs.Ranges.{share_none}
use Rattle.policy_lawful.specs.source.Msrs.{Msrs}
use Rattle.policy_lawful.specs.source.Source.{Source}
use Rattle.policy_lawful.specs.source.Subject.{Subject}
use Rattle.proof_turns.specs.Held.{AreDistinctIndices}
use Rattle.vmx_machine.specs.MsrFile.{msr_slot_of}

-- ---- in the MSR file

has_slot : (a b : Bool) (m n : ℕ) → is_some (if a then Some m else (if b then Some n else None)) ≡ (a || b)
has_slot true b m n = refl
has_slot false true m n = refl
has_slot false false m n = refl

-- the two ranges of an MSR file
is_covered : ℕ → Bool
is_covered index = nat_le index LOW_MSR_LAST || (nat_le HIGH_MSR_FIRST index && nat_le index HIGH_MSR_LAST)

covered : (index : ℕ) → is_covered index ≡ true → is_some (msr_slot_of index) ≡ true
unfolding is_covered
covered index h =
    has_slot (nat_le index LOW_MSR_LAST) (nat_le HIGH_MSR_FIRST index && nat_le index HIGH_MSR_LAST) index (LOW_MSR_LAST + 1 + (index - HIGH_MSR_FIRST)) ∙ h

-- a test that passes at each number below a bound passes at each of them
each_below : (test : ℕ → Bool) (n : ℕ) → ((k : ℕ) → k < n → test k ≡ true) → list_all test (numbers_below n) ≡ true
each_below test zero h = refl
each_below test (suc n) h =
    list_all-append test (numbers_below n) (n ∷ [])
    ∙ and_from (list_all test (numbers_below n)) (test n && true) (each_below test n (λ k l. h k (omega (arith, l)))) (and_from (test n) true (h n (omega arith)) refl)

range_covered : (x : Msrs) (k : ℕ) → is_msr_range x ≡ true → k < x.end + 1 - x.start → is_covered (x.start + k) ≡ true
unfolding is_covered
range_covered x k h l =
    let both = and_parts (nat_le x.start x.end) (nat_le x.end LOW_MSR_LAST || (nat_le HIGH_MSR_FIRST x.start && nat_le x.end HIGH_MSR_LAST)) h in
    elim (or_cases (nat_le x.end LOW_MSR_LAST) (nat_le HIGH_MSR_FIRST x.start && nat_le x.end HIGH_MSR_LAST) both.1) as (λ _. (nat_le (x.start + k) LOW_MSR_LAST || (nat_le HIGH_MSR_FIRST (x.start + k) && nat_le (x.start + k) HIGH_MSR_LAST)) ≡ true) [
      | inl low ↦
          let most : x.end ≤ LOW_MSR_LAST = leb-true x.end LOW_MSR_LAST low in
          or_left (nat_le (x.start + k) LOW_MSR_LAST) _ (le-leb (x.start + k) LOW_MSR_LAST (omega (arith, most, l)))
      | inr high ↦
          let ends = and_parts (nat_le HIGH_MSR_FIRST x.start) (nat_le x.end HIGH_MSR_LAST) high in
          let least : HIGH_MSR_FIRST ≤ x.start = leb-true HIGH_MSR_FIRST x.start ends.0 in
          let most : x.end ≤ HIGH_MSR_LAST = leb-true x.end HIGH_MSR_LAST ends.1 in
          or_right (nat_le (x.start + k) LOW_MSR_LAST) _
          (and_from (nat_le HIGH_MSR_FIRST (x.start + k)) (nat_le (x.start + k) HIGH_MSR_LAST)
          (le-leb HIGH_MSR_FIRST (x.start + k) (omega (arith, least))) (le-leb (x.start + k) HIGH_MSR_LAST (omega (arith, most, l))))
    ]

all_covered : (x : Msrs) → is_msr_range x ≡ true → list_all (λ m. is_covered m.index) (each_msr_in x) ≡ true
all_covered x h =
    let item : ℕ → Msr = λ k. record { index = x.start + k; read = x.rights.read; write = x.rights.write } in
    list_all-map (λ (m : Msr). is_covered m.index) item (numbers_below (x.end + 1 - x.start))
    ∙ each_below (λ k. is_covered (x.start + k)) (x.end + 1 - x.start) (λ k l. range_covered x k h l)

-- ---- each once

-- the numbers of a list that is joined of two
distinct_both : (xs ys : List ℕ) → AreDistinctIndices xs → AreDistinctIndices ys → ((i : ℕ) → is_among xs i ≡ true → is_among ys i ≡ false) → AreDistinctIndices (xs ++ ys)
distinct_both [] ys a b h = b
distinct_both (x ∷ xs) ys a b h = (
  list_any-append (λ w. w == x) xs ys ∙ or_from (is_among xs x) (is_among ys x) a.0 (h x (or_left (x == x) (is_among xs x) (eq-eqb x x refl))),
  distinct_both xs ys a.1 b (λ i e. h i (or_right (x == i) (is_among xs i) e)),
)

-- so many numbers from this one on
numbers_in : (start n i : ℕ) → is_among (map (λ k. start + k) (numbers_below n)) i ≡ true → (start ≤ i) × (i < start + n)
numbers_in start zero i h = absurd (cc)
numbers_in start (suc n) i h =
    let front = map (λ k. start + k) (numbers_below n) in
    let either : (is_among front i || ((start + n == i) || false)) ≡ true = sym (list_any-append (λ w. w == i) front ((start + n) ∷ [])) ∙ ap (λ xs. is_among xs i) (sym (map-append (λ k. start + k) (numbers_below n) (n ∷ []))) ∙ h in
    elim (or_cases (is_among front i) ((start + n == i) || false) either) as (λ _. (start ≤ i) × (i < start + suc n)) [
      | inl e ↦ let before = numbers_in start n i e in (before.0, omega (arith, before.1))
      | inr e ↦ elim (or_cases (start + n == i) false e) as (λ _. (start ≤ i) × (i < start + suc n)) [
        | inl last ↦ let is : start + n ≡ i = eqb-true (start + n) i last in (omega (arith, is), omega (arith, is))
        | inr nothing ↦ absurd (cc)
      ]
    ]

numbers_distinct : (start n : ℕ) → AreDistinctIndices (map (λ k. start + k) (numbers_below n))
numbers_distinct start zero = tt
numbers_distinct start (suc n) =
    subst AreDistinctIndices (sym (map-append (λ k. start + k) (numbers_below n) (n ∷ [])))
    (distinct_both (map (λ k. start + k) (numbers_below n)) ((start + n) ∷ []) (numbers_distinct start n) (refl, tt)
    (λ i e. let before = numbers_in start n i e in or_from (start + n == i) false (ne_eqb (start + n) i (λ same. let is : start + n ≡ i = same in omega (arith, before.1, is))) refl))

-- a number of a range
is_between : Msrs → ℕ → Bool
is_between x i = nat_le x.start i && nat_le i x.end

index_of : Msr → ℕ
index_of m = m.index

range_numbers : (x : Msrs) → map index_of (each_msr_in x) ≡ map (λ k. x.start + k) (numbers_below (x.end + 1 - x.start))
unfolding index_of
range_numbers x = map-map index_of (λ k. record { index = x.start + k; read = x.rights.read; write = x.rights.write }) (numbers_below (x.end + 1 - x.start))

in_range : (x : Msrs) (i : ℕ) → is_among (map index_of (each_msr_in x)) i ≡ true → is_between x i ≡ true
unfolding is_between
in_range x i h =
    let ends = numbers_in x.start (x.end + 1 - x.start) i (ap (λ xs. is_among xs i) (sym (range_numbers x)) ∙ h) in
    and_from (nat_le x.start i) (nat_le i x.end) (le-leb x.start i ends.0) (le-leb i x.end (omega (arith, ends.0, ends.1)))

range_distinct : (x : Msrs) → AreDistinctIndices (map index_of (each_msr_in x))
range_distinct x = subst AreDistinctIndices (sym (range_numbers x)) (numbers_distinct x.start (x.end + 1 - x.start))

-- a number of several ranges is one of one of them
in_ranges : (xs : List Msrs) (i : ℕ) → is_among (map index_of (flat_map each_msr_in xs)) i ≡ true → list_any (λ y. is_between y i) xs ≡ true
in_ranges [] i h = absurd (cc)
in_ranges (x ∷ xs) i h =
    let here = map index_of (each_msr_in x) in
    let later = map index_of (flat_map each_msr_in xs) in
    let either : (is_among here i || is_among later i) ≡ true = sym (list_any-append (λ w. w == i) here later) ∙ ap (λ ns. is_among ns i) (sym (map-append index_of (each_msr_in x) (flat_map each_msr_in xs))) ∙ h in
    elim (or_cases (is_among here i) (is_among later i) either) as (λ _. (is_between x i || list_any (λ y. is_between y i) xs) ≡ true) [
      | inl e ↦ or_left (is_between x i) (list_any (λ y. is_between y i) xs) (in_range x i e)
      | inr e ↦ or_right (is_between x i) (list_any (λ y. is_between y i) xs) (in_ranges xs i e)
    ]

apart_from : Msrs → Msrs → Bool
apart_from x y = share_none x.start (x.end + 1) y.start (y.end + 1)

not_both : (x y : Msrs) (i : ℕ) → apart_from x y ≡ true → is_between x i ≡ true → is_between y i ≡ false
unfolding apart_from is_between
not_both x y i apart h = grind (arith, nat_tests, apart, h)

not_later : (x : Msrs) (ys : List Msrs) (i : ℕ) → list_all (apart_from x) ys ≡ true → is_between x i ≡ true → list_any (λ y. is_between y i) ys ≡ false
not_later x [] i apart h = refl
not_later x (y ∷ ys) i apart h =
    let both = and_parts (apart_from x y) (list_all (apart_from x) ys) apart in
    or_from (is_between y i) (list_any (λ y. is_between y i) ys) (not_both x y i both.0 h) (not_later x ys i both.1 h)

all_distinct : (xs : List Msrs) → msrs_apart xs ≡ true → AreDistinctIndices (map index_of (flat_map each_msr_in xs))
unfolding apart_from
all_distinct [] h = tt
all_distinct (x ∷ xs) h =
    let both = and_parts (list_all (apart_from x) xs) (msrs_apart xs) h in
    let later = map index_of (flat_map each_msr_in xs) in
    subst AreDistinctIndices (sym (map-append index_of (each_msr_in x) (flat_map each_msr_in xs)))
    (distinct_both (map index_of (each_msr_in x)) later (range_distinct x) (all_distinct xs both.1)
    (λ i e.
    false_from_ne_true (is_among later i) (λ there.
    true≢false (sym (in_ranges xs i there) ∙ not_later x xs i both.0 (in_range x i e)))))

-- ---- of a subject

module _ (p : Source) (lawful : IsLawful p) where
  record Ranges (n : Subject) : Type 0 where
    ranges : list_all is_msr_range n.msrs ≡ true
    apart : msrs_apart n.msrs ≡ true

  -- rule 11 of a subject
  ranges_of : (s : ℕ) (n : Subject) → slice_get p.subjects s ≡ Some n → Ranges n
  unfolding offence_11
  ranges_of s n at =
      let keeps : Subject → Bool = λ s. list_all is_msr_range s.msrs && msrs_apart s.msrs in
      let both = and_parts (list_all is_msr_range n.msrs) (msrs_apart n.msrs) (passes_at keeps p.subjects s n (all_pass keeps (λ s. alone s.name) p.subjects (rules_of lawful).rule_11) at) in
      record { ranges = both.0; apart = both.1 }

  -- a granted MSR has a slot in an MSR file
  pub in_msr_file : (s : ℕ) (n : Subject) (index : ℕ) (write : Bool) → slice_get p.subjects s ≡ Some n → is_granted (msrs_of n) index write ≡ true → is_some (msr_slot_of index) ≡ true
  unfolding msrs_of
  in_msr_file s n index write at granted =
      let f = found (λ (m : Msr). (m.index == index) && (if write then m.write else m.read)) (flat_map each_msr_in n.msrs) granted in
      let all : list_all (λ m. is_covered m.index) (flat_map each_msr_in n.msrs) ≡ true =
      all_flat (λ (m : Msr). is_covered m.index) each_msr_in n.msrs ∙ each_from is_msr_range (λ x. list_all (λ m. is_covered m.index) (each_msr_in x)) all_covered n.msrs (ranges_of s n at).ranges in
      let same : f.item.index ≡ index = eqb-true f.item.index index (and_parts (f.item.index == index) (if write then f.item.write else f.item.read) f.passes).0 in
      covered index (ap is_covered (sym same) ∙ f.among (λ m. is_covered m.index) all)

  -- the MSRs of a subject differ
  pub msrs_differ : (s : ℕ) (n : Subject) → slice_get p.subjects s ≡ Some n → AreDistinctIndices (map (λ m. m.index) (msrs_of n))
  unfolding msrs_of index_of
  msrs_differ s n at = all_distinct n.msrs (ranges_of s n at).apart
