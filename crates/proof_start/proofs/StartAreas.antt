-- An area of MSRs at the start: it has each granted MSR once, with the value 0.
use Rattle.std.proofs.Common.{◌≡◌, ℕ, suc, ◌+◌, ◌*◌, ◌-◌, ◌<◌, ◌≤◌, cond, Bool, true, false, List, [], ◌∷◌, map, take, drop, Some, refl, sym, ap, subst, ◌∙◌, inl, inr, arith}
use Rattle.std.specs.Prelude.{◌==◌, ◌&&◌, slice_get, if◌then◌else◌}
use Rattle.std.specs.List.{sum_by}
use Rattle.std.specs.List.Sorted.{IsPermutation}
use Rattle.std.proofs.lemmas.Bool.{and_parts, cases_Bool, eq-eqb, eqb-true, false_from_ne_true, or_cases, or_left, or_parts, or_right}
use Rattle.std.proofs.lemmas.List.{drop-take, take-take}
use Rattle.std.proofs.lemmas.List.Sorted.{list_any-IsPermutation, sum_by-IsPermutation}
use Rattle.std.proofs.lemmas.List.Sums.{sum_by-cons}
use Rattle.std.proofs.lemmas.Option.{same_Some, slice_get-map, slice_get_within}
use Rattle.subject_model.specs.Alone.{msr_value}
use Rattle.muen_num.specs.Numbers.{is_among}
use Rattle.expand_grants.specs.Resources.{Msr, is_granted, msrs_of}
use Rattle.vmx_machine.specs.Exits.{AreaEntry, area_index, area_value}
use Rattle.vmx_machine.specs.Memory.{le_number}
use Rattle.muen_num.proofs.NumbersBelow.{length_numbers, number_at, same_below}
use Rattle.muen_num.proofs.Options.{from_some}
use Rattle.muen_num.specs.Range.{numbers_below}
use Rattle.policy_lawful.specs.source.Subject.{Subject}
use Rattle.proof_turns.specs.Held.{AreDistinctIndices, AreEntries, HasMsr, entry_value, indices}
use Rattle.vmx_machine.specs.Machine.{entries_in}

-- ---- numbers that differ, in another order

-- whether a number is this one, and how often a list has it
abbrev one_if : ℕ → ℕ → ℕ
one_if v x = cond (x == v) 1 0

abbrev times : ℕ → List ℕ → ℕ
times v xs = sum_by (one_if v) xs

absent : (v : ℕ) (xs : List ℕ) → is_among xs v ≡ false → times v xs ≡ 0
absent v [] h = refl
absent v (x ∷ xs) h =
    let both = or_parts (x == v) (is_among xs v) h in
    let here : one_if v x ≡ 0 = ap (λ b. cond b 1 0) both.0 in
    let more = sum_by-cons (one_if v) x xs in
    let rest = absent v xs both.1 in
    omega (arith, here, more, rest)

present : (v : ℕ) (xs : List ℕ) → is_among xs v ≡ true → 0 < times v xs
present v [] h = absurd (cc (h))
present v (x ∷ xs) h =
    let more = sum_by-cons (one_if v) x xs in
    elim (cases_Bool (x == v)) [
      | inl t ↦ let here : one_if v x ≡ 1 = ap (λ b. cond b 1 0) t in omega (arith, here, more)
      | inr f ↦ let rest = present v xs (let g = rw f at h in g) in omega (arith, more, rest)
    ]

once : (v : ℕ) (xs : List ℕ) → AreDistinctIndices xs → times v xs ≤ 1
once v [] h = omega arith
once v (x ∷ xs) h =
    let more = sum_by-cons (one_if v) x xs in
    let rest = once v xs h.1 in
    elim (cases_Bool (x == v)) [
      | inl t ↦
          let here : one_if v x ≡ 1 = ap (λ b. cond b 1 0) t in
          let none = absent v xs (subst (λ n. is_among xs n ≡ false) (eqb-true x v t) h.0) in
          omega (arith, here, more, none)
      | inr f ↦ let here : one_if v x ≡ 0 = ap (λ b. cond b 1 0) f in omega (arith, here, more, rest)
    ]

distinct_by : (xs : List ℕ) → ((v : ℕ) → times v xs ≤ 1) → AreDistinctIndices xs
distinct_by [] h = tt
distinct_by (x ∷ xs) h = (
  false_from_ne_true (is_among xs x) (λ there.
      let here : one_if x x ≡ 1 = ap (λ b. cond b 1 0) (eq-eqb x x refl) in
      let more = sum_by-cons (one_if x) x xs in
      let some = present x xs there in
      let most = h x in
      omega (arith, here, more, some, most)),
  distinct_by xs (λ v.
      let more = sum_by-cons (one_if v) x xs in
      let most = h v in
      omega (arith, more, most)),
)

-- numbers that differ do so in each order
pub distinct_permuted : (xs ys : List ℕ) → IsPermutation xs ys → AreDistinctIndices xs → AreDistinctIndices ys
distinct_permuted xs ys same h =
    distinct_by ys (λ v.
    let n = sum_by-IsPermutation (one_if v) xs ys same in
    let most = once v xs h in
    omega (arith, n, most))

pub in_permuted : (xs ys : List ℕ) (v : ℕ) → IsPermutation xs ys → is_among xs v ≡ true → is_among ys v ≡ true
in_permuted xs ys v same h = sym (list_any-IsPermutation (λ x. x == v) xs ys same) ∙ h

-- ---- numbers below a count

numbers_low : (n k m : ℕ) → slice_get (numbers_below n) k ≡ Some m → m < n
numbers_low n k m at =
    let low = slice_get_within (numbers_below n) k m at in
    let long = length_numbers n in
    let l : k < n = omega (arith, low, long) in
    let e : k ≡ m = same_Some k m (sym (number_at n k l) ∙ at) in
    omega (arith, l, e)

-- ---- an area's first page

part_of_front : (n m size : ℕ) (xs : List ℕ) → n + m ≤ size → take m (drop n (take size xs)) ≡ take m (drop n xs)
part_of_front n m size xs h =
    let rest : ℕ = size - n in
    let whole : size ≡ n + rest = omega (arith, h) in
    let low : m ≤ rest = omega (arith, h) in
    ap (λ k. take m (drop n (take k xs))) whole ∙ ap (take m) (drop-take n rest xs) ∙ take-take m rest (drop n xs) low

front_index : (bytes : List ℕ) (k : ℕ) → 16 * k + 16 ≤ 4096 → area_index (take 4096 bytes) k ≡ area_index bytes k
unfolding area_index
front_index bytes k h = ap le_number (part_of_front (16 * k) 4 4096 bytes (omega (arith, h)))

front_value : (bytes : List ℕ) (k : ℕ) → 16 * k + 16 ≤ 4096 → area_value (take 4096 bytes) k ≡ area_value bytes k
unfolding area_value
front_value bytes k h = ap le_number (part_of_front (16 * k + 8) 8 4096 bytes (omega (arith, h)))

-- ---- entries

abbrev entry_at : List ℕ → ℕ → AreaEntry
entry_at area i = record { index = area_index area i; value = area_value area i }

indices_at : (area : List ℕ) (is : List ℕ) → indices (map (entry_at area) is) ≡ map (area_index area) is
indices_at area [] = refl
indices_at area (i ∷ is) = ap (λ xs. area_index area i ∷ xs) (indices_at area is)

zero_entry : (es : List AreaEntry) (v : ℕ) → ((k : ℕ) (e : AreaEntry) → slice_get es k ≡ Some e → e.value ≡ 0) → is_among (indices es) v ≡ true → entry_value es v ≡ Some 0
zero_entry [] v h there = absurd (cc (there))
zero_entry (e ∷ es) v h there =
    let here : e.value ≡ 0 = h 0 e refl in
    elim (cases_Bool (e.index == v)) [
      | inl t ↦ ap (λ b. if b then Some e.value else entry_value es v) t ∙ ap Some here
      | inr f ↦ ap (λ b. if b then Some e.value else entry_value es v) f ∙ zero_entry es v (λ k. h (suc k)) (let g = rw f at there in g)
    ]

-- what is granted is one of the granted
pub granted_in : (msrs : List Msr) (v : ℕ) (write : Bool) → is_granted msrs v write ≡ true → is_among (map (λ m. m.index) msrs) v ≡ true
granted_in [] v write h = absurd (cc (h))
granted_in (m ∷ ms) v write h =
    elim (or_cases ((m.index == v) && (if write then m.write else m.read)) (is_granted ms v write) h) [
      | inl t ↦ or_left (m.index == v) (is_among (map (λ m. m.index) ms) v) (and_parts (m.index == v) (if write then m.write else m.read) t).0
      | inr t ↦ or_right (m.index == v) (is_among (map (λ m. m.index) ms) v) (granted_in ms v write t)
    ]

-- its value at the start is 0
pub zero_value : (msrs : List Msr) (v : ℕ) → is_among (map (λ m. m.index) msrs) v ≡ true → msr_value (map (λ m. (m.index, 0)) msrs) v ≡ Some 0
zero_value [] v h = absurd (cc (h))
zero_value (m ∷ ms) v h =
    elim (cases_Bool (m.index == v)) [
      | inl t ↦ ap (λ b. if b then Some 0 else msr_value (map (λ m. (m.index, 0)) ms) v) t
      | inr f ↦ ap (λ b. if b then Some 0 else msr_value (map (λ m. (m.index, 0)) ms) v) f ∙ zero_value ms v (let g = rw f at h in g)
    ]

-- ---- a subject's area

-- an area whose first page is this, and what is said of its entries
module _ (n : Subject) (bytes : List ℕ) (count : ℕ) (few : 16 * count ≤ 4096) (each : IsPermutation (map (λ m. m.index) (msrs_of n)) (map (area_index bytes) (numbers_below count))) where
  page_indices : indices (entries_in count (take 4096 bytes)) ≡ map (area_index bytes) (numbers_below count)
  page_indices = indices_at (take 4096 bytes) (numbers_below count) ∙ same_below (area_index (take 4096 bytes)) (area_index bytes) count (λ k l. front_index bytes k (omega (arith, few, l)))

  in_entries : (v : ℕ) → HasMsr n v → is_among (indices (entries_in count (take 4096 bytes))) v ≡ true
  in_entries v has = subst (λ is. is_among is v ≡ true) (sym page_indices) (in_permuted (map (λ m. m.index) (msrs_of n)) (map (area_index bytes) (numbers_below count)) v each (granted_in (msrs_of n) v has.0 has.1))

  -- each index is there once, and each granted MSR is there
  pub area_entries : AreDistinctIndices (map (λ m. m.index) (msrs_of n)) → AreEntries n (entries_in count (take 4096 bytes))
  area_entries differ = record {
    distinct = subst AreDistinctIndices (sym page_indices) (distinct_permuted (map (λ m. m.index) (msrs_of n)) (map (area_index bytes) (numbers_below count)) each differ);
    covers = in_entries;
  }

  -- a granted MSR has the value 0 in the area, and in the system
  pub area_values : ((k : ℕ) → k < count → area_value bytes k ≡ 0) → (v : ℕ) → HasMsr n v → entry_value (entries_in count (take 4096 bytes)) v ≡ msr_value (map (λ m. (m.index, 0)) (msrs_of n)) v
  area_values zeros v has =
      zero_entry (entries_in count (take 4096 bytes)) v
      (λ k e at.
      let f = from_some (entry_at (take 4096 bytes)) (slice_get (numbers_below count) k) e (sym (slice_get-map (entry_at (take 4096 bytes)) (numbers_below count) k) ∙ at) in
      let low = numbers_low count k f.0 f.1 in
      sym (ap (λ e. e.value) f.2) ∙ front_value bytes f.0 (omega (arith, few, low)) ∙ zeros f.0 low)
      (in_entries v has)
      ∙ sym (zero_value (msrs_of n) v (granted_in (msrs_of n) v has.0 has.1))
