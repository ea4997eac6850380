-- Ranges of MSRs are ranges of addresses.
use Rattle.std.proofs.Common.{◌≡◌, ℕ, zero, suc, ◌+◌, ◌-◌, ◌<◌, ◌≤◌, min, Bool, true, false, List, [], ◌∷◌, length, get_or, map, inl, inr, Some, None, refl, sym, ap, ◌∙◌, arith}
use Rattle.std.specs.Prelude.{◌||◌, ◌&&◌, nat_le}
use Rattle.std.specs.List.{list_all, AllPairs}
use Rattle.std.proofs.lemmas.Bool.{and_parts, and_from, leb-true, or_cases}
use Rattle.std.proofs.lemmas.List.{length-map, get_or-map}
use Rattle.muen_num.specs.declared.limits.TheConstants.{HIGH_MSR_FIRST, HIGH_MSR_LAST, LOW_MSR_LAST}
use Rattle.muen_num.specs.Search.{first_in, unless}
use Rattle.muen_num.proofs.FirstPair.{pairs_at, pairs_from}
use Rattle.muen_num.proofs.SearchLaws.{first_over-map, unless_none}
use Rattle.policy_lawful.specs.MoreRules.{is_msr_range, msrs_apart, offence_11}
use Rattle.policy_lawful.specs.Offences.{alone, two}
use Rattle.policy_lawful.specs.Ranges.{share_none}
use Rattle.policy_lawful.specs.Resolution.{Resolution, source_of, subject_named}
use Rattle.policy_lawful.specs.Rules.{are_apart, overlapping, first_overlap}
use Rattle.policy_lawful.specs.declared.offence.Offence.{Offence}
use Rattle.policy_lawful.specs.source.Msrs.{Msrs}
use Rattle.rules_devices.specs.Ranges.{msr_extent, msrs_offence}

-- ---- of each

in_order : (x : Msrs) → is_msr_range x ≡ true → x.start ≤ x.end
in_order x sound =
    leb-true x.start x.end (and_parts (nat_le x.start x.end) (nat_le x.end LOW_MSR_LAST || (nat_le HIGH_MSR_FIRST x.start && nat_le x.end HIGH_MSR_LAST)) sound).0

ends_low : (x : Msrs) → is_msr_range x ≡ true → x.end ≤ HIGH_MSR_LAST
ends_low x sound =
    elim (or_cases _ _ (and_parts (nat_le x.start x.end) (nat_le x.end LOW_MSR_LAST || (nat_le HIGH_MSR_FIRST x.start && nat_le x.end HIGH_MSR_LAST)) sound).1) [
      | inl low ↦ let l = leb-true x.end LOW_MSR_LAST low in omega arith
      | inr high ↦ leb-true x.end HIGH_MSR_LAST (and_parts _ _ high).1
    ]

below : (a b n : ℕ) → a ≤ b → b ≤ HIGH_MSR_LAST → nat_le (a + min 18446744073709551615 (b - a + 1)) n ≡ nat_le (b + 1) n
below a b n l most =
    let e : a + min 18446744073709551615 (b - a + 1) ≡ b + 1 = omega arith in
    ap (λ m. nat_le m n) e

abbrev apart : Msrs → Msrs → Bool
apart x y = share_none x.start (x.end + 1) y.start (y.end + 1)

apart_same : (name : List ℕ) (x y : Msrs) → is_msr_range x ≡ true → is_msr_range y ≡ true → are_apart (msr_extent name x) (msr_extent name y) ≡ apart x y
apart_same name x y a b =
    ap (λ t. t || nat_le (y.start + min 18446744073709551615 (y.end - y.start + 1)) x.start) (below x.start x.end y.start (in_order x a) (ends_low x a))
    ∙ ap (λ t. nat_le (x.end + 1) y.start || t) (below y.start y.end x.start (in_order y b) (ends_low y b))

-- ---- of all

each_at : (p : Msrs → Bool) (xs : List Msrs) (k : ℕ) (d : Msrs) → list_all p xs ≡ true → k < length xs → p (get_or xs k d) ≡ true
each_at p [] k d all l = absurd (omega arith)
each_at p (x ∷ xs) zero d all l = (and_parts (p x) (list_all p xs) all).0
each_at p (x ∷ xs) (suc k) d all l = each_at p xs k d (and_parts (p x) (list_all p xs) all).1 (omega arith)

each_by : (p : Msrs → Bool) (xs : List Msrs) → ((k : ℕ) (d : Msrs) → k < length xs → p (get_or xs k d) ≡ true) → list_all p xs ≡ true
each_by p [] h = refl
each_by p (x ∷ xs) h = and_from _ _ (h 0 x (omega arith)) (each_by p xs (λ k d l. h (suc k) d (omega arith)))

pairs_apart : (xs : List Msrs) → msrs_apart xs ≡ true → AllPairs (λ x y. apart x y ≡ true) xs
pairs_apart [] h i j d l m = absurd (omega arith)
pairs_apart (x ∷ xs) h i zero d l m = absurd (omega arith)
pairs_apart (x ∷ xs) h zero (suc j) d l m =
    each_at (apart x) xs j d (and_parts (list_all (apart x) xs) (msrs_apart xs) h).0 (omega arith)
pairs_apart (x ∷ xs) h (suc i) (suc j) d l m =
    pairs_apart xs (and_parts (list_all (apart x) xs) (msrs_apart xs) h).1 i j d (omega arith) (omega arith)

apart_pairs : (xs : List Msrs) → AllPairs (λ x y. apart x y ≡ true) xs → msrs_apart xs ≡ true
apart_pairs [] h = refl
apart_pairs (x ∷ xs) h =
    and_from _ _ (each_by (apart x) xs (λ k d l. h 0 (suc k) d (omega arith) (omega arith)))
    (apart_pairs xs (λ i j d l m. h (suc i) (suc j) d (omega arith) (omega arith)))

extent_at : (name : List ℕ) (xs : List Msrs) (k : ℕ) (d : Msrs) → k < length xs → get_or (map (msr_extent name) xs) k (msr_extent name d) ≡ msr_extent name (get_or xs k d)
extent_at name xs k d l = get_or-map (msr_extent name) xs k d (msr_extent name d) l

none_overlap : (name : List ℕ) (xs : List Msrs) → list_all is_msr_range xs ≡ true → msrs_apart xs ≡ true → first_overlap (map (msr_extent name) xs) ≡ None
unfolding first_overlap
none_overlap name xs sound h =
    pairs_from overlapping (map (msr_extent name) xs) (λ i j d l m.
    let many : length (map (msr_extent name) xs) ≡ length xs = length-map xs (msr_extent name) in
    let j' : j < length xs = omega arith in
    let i' : i < length xs = omega arith in
    let none : Msrs = record { start = 0; end = 0; rights = record { read = false; write = false } } in
    let x = get_or xs i none in
    let y = get_or xs j none in
    let e = get_or-map (msr_extent name) xs i none d i' in
    let f = get_or-map (msr_extent name) xs j none d j' in
    let same = apart_same name x y (each_at is_msr_range xs i none sound i') (each_at is_msr_range xs j none sound j') ∙ pairs_apart xs h i j none l j' in
    rw (e, f) (ap (λ t. unless t (two name name)) same))

pub no_overlap : (name : List ℕ) (xs : List Msrs) → list_all is_msr_range xs ≡ true → first_overlap (map (msr_extent name) xs) ≡ None → msrs_apart xs ≡ true
unfolding first_overlap
no_overlap name xs sound h =
    apart_pairs xs (λ i j d l m.
    let many : length (map (msr_extent name) xs) ≡ length xs = length-map xs (msr_extent name) in
    let i' : i < length xs = omega arith in
    let found = pairs_at overlapping (map (msr_extent name) xs) h i j (msr_extent name d) l (omega arith) in
    let e = extent_at name xs i d i' in
    let f = extent_at name xs j d m in
    let none : overlapping (msr_extent name (get_or xs i d)) (msr_extent name (get_or xs j d)) ≡ None = sym (ap (λ z. overlapping z (get_or (map (msr_extent name) xs) j (msr_extent name d))) e ∙ ap (overlapping (msr_extent name (get_or xs i d))) f) ∙ found in
    sym (apart_same name (get_or xs i d) (get_or xs j d) (each_at is_msr_range xs i d sound i') (each_at is_msr_range xs j d sound m)) ∙ unless_none _ _ none)

pub some_overlap : (name : List ℕ) (xs : List Msrs) (o : Offence) → list_all is_msr_range xs ≡ true → first_overlap (map (msr_extent name) xs) ≡ Some o → msrs_apart xs ≡ false
some_overlap name xs o sound e =
    (elim (msrs_apart xs) as (λ b. msrs_apart xs ≡ b → b ≡ false) [
      | true ↦ λ apart. let none = none_overlap name xs sound apart in absurd (cc)
      | false ↦ λ apart. refl
    ]) refl

-- the subjects of the source policy have the same ranges
pub msrs_by_index : (r : Resolution) → first_in msrs_offence r.subjects ≡ offence_11 (source_of r)
unfolding offence_11 source_of
msrs_by_index r =
    sym (first_over-map (subject_named r) (λ s. unless (list_all is_msr_range s.msrs && msrs_apart s.msrs) (alone s.name)) r.subjects)
