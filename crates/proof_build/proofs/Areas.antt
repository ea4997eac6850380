-- The MSR area of each subject has an entry for each granted MSR, with the value 0.
use Rattle.std.proofs.Common.{◌≡◌, ℕ, suc, ◌+◌, ◌-◌, ◌%◌, ◌^◌, ◌<◌, All, true, List, [], ◌∷◌, ◌++◌, length, map, get_or, take, drop, replicate, refl, sym, ap, ap₂, ◌∙◌, subst, arith, append_assoc}
use Rattle.std.proofs.Math.Seq.{split_at}
use Rattle.std.specs.Prelude.{◌&&◌, ◌||◌, nat_le}
use Rattle.std.specs.List.{flat_map, list_all}
use Rattle.std.specs.List.Sorted.{IsPermutation}
use Rattle.std.proofs.lemmas.Bool.{and_parts, leb-true}
use Rattle.std.proofs.lemmas.Bool.Decides.{nat_tests}
use Rattle.std.proofs.lemmas.List.{length-map, length-take-le, map-append}
use Rattle.std.proofs.lemmas.List.Concat.{flat_map-append}
use Rattle.std.proofs.lemmas.List.Elements.{All-append, All-map, All-nil}
use Rattle.std.proofs.lemmas.List.Sorted.{IsPermutation-refl}
use Rattle.std.proofs.lemmas.Option.{get_or_from_slice_get, slice_get_within}
use Rattle.expand_kernel.specs.Resources.{Msr, msr_grant, each_msr_in, msrs_of}
use Rattle.image_emit.specs.Made.{IsMade, Made, image_of, policy_of}
use Rattle.image_emit.proofs.AtIndexes.{looked_up}
use Rattle.image_emit.proofs.BySubject.{each_subject}
use Rattle.image_emit.proofs.SpansOfKernel.{kernel_bytes_at}
use Rattle.image_soundness.specs.Memory.{bytes_at}
use Rattle.image_soundness.specs.Sound.{ForEachSubject, HasArea}
use Rattle.machine_layout.proofs.AreaLaws.{areas_are_read_back}
use Rattle.machine_layout.specs.Exits.{AreaEntry, area_bytes, area_index, area_value, entry_bytes}
use Rattle.subject_emit.specs.Area.{area_of, msr_count, grant_area_entries, zero_area_entry, size_of}
use Rattle.subject_emit.specs.Msrs.{is_covered}
use Rattle.muen_num.proofs.Lists.{map-map}
use Rattle.muen_num.proofs.NumbersBelow.{length_numbers, same_below}
use Rattle.muen_num.specs.Range.{numbers_below}
use Rattle.muen_num.specs.declared.limits.TheConstants.{HIGH_MSR_FIRST, HIGH_MSR_LAST, LOW_MSR_LAST, PAGE}
use Rattle.muen_num.specs.declared.tag.TagPart.TheVariants.{Msrs as MsrsPart}
use Rattle.msrbm_emit.proofs.AreaLaws.{length-area_of}
use Rattle.machine_layout.specs.PageFields.{padded}
use Rattle.policy_lawful.specs.Resolution.{Resolution, source_of, subject_named}
use Rattle.policy_lawful.specs.declared.resolved.Subject.{Subject}
use Rattle.policy_lawful.proofs.KeptRules.{rules_of}
use Rattle.policy_lawful.specs.resources.MsrGrant.{MsrGrant}
use Rattle.policy_lawful.specs.source.Msrs.{Msrs}
use Rattle.expand_kernel.specs.ByIndex.{kernel_first}
use Rattle.subject_emit.proofs.KeptMsrs.{msrs_covered}

-- ---- what is read of an area

module _ (es : List AreaEntry) (after : List ℕ) (n : ℕ) (d : AreaEntry) (l : n < length es) where
  abbrev entry : AreaEntry
  entry = get_or es n d

  cut : area_bytes es ++ after ≡ area_bytes (take n es) ++ (entry_bytes entry ++ (area_bytes (drop (suc n) es) ++ after))
  cut =
      ap (λ x. area_bytes x ++ after) (split_at es n d l)
      ∙ ap (λ x. x ++ after) (flat_map-append entry_bytes (take n es) (entry ∷ drop (suc n) es))
      ∙ append_assoc (area_bytes (take n es)) (entry_bytes entry ++ area_bytes (drop (suc n) es)) after
      ∙ ap (λ x. area_bytes (take n es) ++ x) (append_assoc (entry_bytes entry) (area_bytes (drop (suc n) es)) after)

  before : n ≡ length (take n es)
  before = sym (length-take-le n es (omega (arith, l)))

  index_read : area_index (area_bytes es ++ after) n ≡ entry.index % 2 ^ 32
  index_read = (λ i. area_index (cut i) (before i)) ∙ (areas_are_read_back (take n es) entry (area_bytes (drop (suc n) es) ++ after)).index

  value_read : area_value (area_bytes es ++ after) n ≡ entry.value % 2 ^ 64
  value_read = (λ i. area_value (cut i) (before i)) ∙ (areas_are_read_back (take n es) entry (area_bytes (drop (suc n) es) ++ after)).value

-- ---- the entries of granted MSRs

-- each index is below 2^32
small : (m : MsrGrant) (k : ℕ) → is_covered m ≡ true → k < m.end + 1 - m.start → (m.start + k) % 2 ^ 32 ≡ m.start + k
small m k covered l =
    let both = and_parts (nat_le m.start m.end) (nat_le m.end LOW_MSR_LAST || (nat_le HIGH_MSR_FIRST m.start && nat_le m.end HIGH_MSR_LAST)) covered in
    let low : nat_le m.end 0xffffffff ≡ true = grind (arith, nat_tests, both.1) in
    let most = leb-true m.end 0xffffffff low in
    omega (arith, most, l)

indices_of : (ms : List MsrGrant) → list_all is_covered ms ≡ true → map (λ (e : AreaEntry). e.index % 2 ^ 32) (area_of ms) ≡ flat_map (λ (m : MsrGrant). map (λ k. m.start + k) (numbers_below (m.end + 1 - m.start))) ms
unfolding area_of grant_area_entries
indices_of [] h = refl
indices_of (m ∷ ms) h =
    let both = and_parts (is_covered m) (list_all is_covered ms) h in
    let own = λ (k : ℕ). zero_area_entry (m.start + k) in
    let n : ℕ = m.end + 1 - m.start in
    map-append (λ (e : AreaEntry). e.index % 2 ^ 32) (map own (numbers_below n)) (area_of ms)
    ∙ ap₂ (λ a b. a ++ b)
    (map-map (λ (e : AreaEntry). e.index % 2 ^ 32) own (numbers_below n) ∙ same_below (λ k. (m.start + k) % 2 ^ 32) (λ k. m.start + k) n (λ k l. small m k both.0 l))
    (indices_of ms both.1)

indices_in : (xs : List Msrs) → map (λ (m : Msr). m.index) (flat_map each_msr_in xs) ≡ flat_map (λ (m : MsrGrant). map (λ k. m.start + k) (numbers_below (m.end + 1 - m.start))) (map msr_grant xs)
indices_in [] = refl
indices_in (x ∷ xs) =
    map-append (λ (m : Msr). m.index) (each_msr_in x) (flat_map each_msr_in xs)
    ∙ ap₂ (λ a b. a ++ b) (map-map (λ (m : Msr). m.index) _ (numbers_below (x.end + 1 - x.start))) (indices_in xs)

all_zero : (ms : List MsrGrant) → All (λ (e : AreaEntry). e.value ≡ 0) (area_of ms)
unfolding area_of grant_area_entries
all_zero [] = All-nil (λ (e : AreaEntry). e.value ≡ 0)
all_zero (m ∷ ms) =
    All-append (λ (e : AreaEntry). e.value ≡ 0) (grant_area_entries m) (area_of ms)
    (All-map (λ (e : AreaEntry). e.value ≡ 0) (λ k. zero_area_entry (m.start + k)) (numbers_below (size_of m)) (λ i d l. refl))
    (all_zero ms)

-- ---- of a subject

module _ (r : Resolution) (s : Subject) (ms : List MsrGrant) (bytes : List ℕ) (granted : ms ≡ map msr_grant s.msrs) (covered : list_all is_covered ms ≡ true) (held : bytes ≡ padded PAGE (area_bytes (area_of ms))) where
  zeros_behind : List ℕ
  zeros_behind = replicate (PAGE - length (area_bytes (area_of ms))) 0

  area_is : bytes ≡ area_bytes (area_of ms) ++ zeros_behind
  unfolding padded zeros_behind
  area_is = held

  indices : map (area_index bytes) (numbers_below (msr_count ms)) ≡ map (λ (m : Msr). m.index) (msrs_of (subject_named r s))
  unfolding msrs_of
  indices =
      (λ i. map (area_index (area_is i)) (numbers_below (sym (length-area_of ms) i)))
      ∙ looked_up (area_index (area_bytes (area_of ms) ++ zeros_behind)) (λ (e : AreaEntry). e.index % 2 ^ 32) (area_of ms)
      (λ n e at. index_read (area_of ms) zeros_behind n e (slice_get_within (area_of ms) n e at) ∙ ap (λ (e : AreaEntry). e.index % 2 ^ 32) (get_or_from_slice_get (area_of ms) n e e at))
      ∙ indices_of ms covered
      ∙ ap (flat_map (λ (m : MsrGrant). map (λ k. m.start + k) (numbers_below (m.end + 1 - m.start)))) granted
      ∙ sym (indices_in s.msrs)

  -- there are as many
  many : msr_count ms ≡ length (msrs_of (subject_named r s))
  many =
      sym (length_numbers (msr_count ms))
      ∙ sym (length-map (numbers_below (msr_count ms)) (area_index bytes))
      ∙ ap length indices
      ∙ length-map (msrs_of (subject_named r s)) (λ (m : Msr). m.index)

  zero_at : (n : ℕ) → n < msr_count ms → area_value bytes n ≡ 0
  zero_at n l =
      let within : n < length (area_of ms) = omega (arith, l, length-area_of ms) in
      ap (λ (b : List ℕ). area_value b n) area_is
      ∙ value_read (area_of ms) zeros_behind n (zero_area_entry 0) within
      ∙ ap (λ v. v % 2 ^ 64) (all_zero ms n (zero_area_entry 0) within)

pub areas : (m : Made) → IsMade m → ForEachSubject (source_of (policy_of m)) (image_of m) (HasArea (image_of m))
areas m h =
    each_subject m h (HasArea (image_of m))
    (λ k s g t q at.
    let r = policy_of m in
    let bytes = bytes_at (image_of m) (kernel_first r k + 4) in
    let held : bytes ≡ padded PAGE (area_bytes (area_of g.msrs)) = kernel_bytes_at m h k s g t q at 4 PAGE MsrsPart q.area refl refl ∙ at.pages.area in
    let covered = msrs_covered r k s g at.subject at.grants (rules_of h.lawful).rule_11 in
    let msrs = at.grants.msrs in
    let same : map (λ (m : Msr). m.index) (msrs_of (subject_named r s)) ≡ map (area_index bytes) (numbers_below (msr_count g.msrs)) = sym (indices r s g.msrs bytes msrs covered held) in
    record {
      many = many r s g.msrs bytes msrs covered held;
      each = subst (IsPermutation (map (λ (m : Msr). m.index) (msrs_of (subject_named r s)))) same (IsPermutation-refl (map (λ (m : Msr). m.index) (msrs_of (subject_named r s))));
      zeros = λ n l. zero_at r s g.msrs bytes msrs covered held n l;
    })
