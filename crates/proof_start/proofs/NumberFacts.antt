-- Each number below the count of spans is that of a span.
use Rattle.std.proofs.Common.{◌≡◌, ℕ, zero, suc, ◌/◌, ◌<◌, ◌≤◌, true, false, cond, List, [], ◌∷◌, length, map, Some, refl, sym, subst, ◌∙◌, inl, inr, arith}
use Rattle.std.specs.Prelude.{◌==◌, slice_get}
use Rattle.std.specs.List.{find, list_any}
use Rattle.std.proofs.lemmas.Bool.{cases_Bool, cases_eq, eq-eqb, eqb-true, ne_eqb}
use Rattle.std.proofs.lemmas.List.{length-map}
use Rattle.std.proofs.lemmas.Map.Keys.{any_passes_from_place}
use Rattle.image_memory.specs.Memory.{page_of_span}
use Rattle.image_pack.specs.SpanConditions.{AreSpans}
use Rattle.image_pack.specs.declared.parts.SpanPart.{SpanPart}
use Rattle.muen_num.proofs.Indexed.{any_passing, pairs_at}
use Rattle.image_memory.proofs.SpanNumbers.{first_page_of, found_by}
use Rattle.muen_num.proofs.Lists.{all_at}

-- a number isn't in the list
abbrev Out : ℕ → List ℕ → Type 0
Out n [] = Unit {0}
Out n (m ∷ ms) = (m ≡ n → ⊥) × Out n ms

abbrev Distinct : List ℕ → Type 0
Distinct [] = Unit {0}
Distinct (n ∷ ns) = Out n ns × Distinct ns

abbrev Below : ℕ → List ℕ → Type 0
Below b [] = Unit {0}
Below b (n ∷ ns) = (n < b) × Below b ns

-- the list with each of this number left out
abbrev less : ℕ → List ℕ → List ℕ
less b [] = []
less b (n ∷ ns) = cond (n == b) (less b ns) (n ∷ less b ns)

out_less : (b n : ℕ) (ms : List ℕ) → Out n ms → Out n (less b ms)
out_less b n [] h = tt
out_less b n (m ∷ ms) h =
    elim (m == b) as (λ t. Out n (cond t (less b ms) (m ∷ less b ms))) [
      | true ↦ out_less b n ms h.1
      | false ↦ (h.0, out_less b n ms h.1)
    ]

distinct_less : (b : ℕ) (ns : List ℕ) → Distinct ns → Distinct (less b ns)
distinct_less b [] h = tt
distinct_less b (n ∷ ns) h =
    elim (n == b) as (λ t. Distinct (cond t (less b ns) (n ∷ less b ns))) [
      | true ↦ distinct_less b ns h.1
      | false ↦ (out_less b n ns h.0, distinct_less b ns h.1)
    ]

below_less : (b : ℕ) (ns : List ℕ) → Below (suc b) ns → Below b (less b ns)
below_less b [] h = tt
below_less b (n ∷ ns) h =
    elim (cases_eq n b) [
      | inl e ↦ rw (eq-eqb n b e) (below_less b ns h.1)
      | inr ne ↦ rw (ne_eqb n b ne) (smaller n b h.0 ne, below_less b ns h.1)
    ]
  where
    smaller : (n b : ℕ) → n < suc b → (n ≡ b → ⊥) → n < b
    smaller n b h ne = omega (arith, h, ne)

-- where the number isn't there, all is left
all_left : (b : ℕ) (ns : List ℕ) → Out b ns → length ns ≤ length (less b ns)
all_left b [] h = omega arith
all_left b (n ∷ ns) h = let l = all_left b ns h.1 in rw (ne_eqb n b h.0) (omega (arith, l))

-- at most one is left out
one_less : (b : ℕ) (ns : List ℕ) → Distinct ns → length ns ≤ suc (length (less b ns))
one_less b [] h = omega arith
one_less b (n ∷ ns) h =
    elim (cases_eq n b) [
      | inl e ↦ let l = all_left b ns (subst (λ m. Out m ns) e h.0) in rw (eq-eqb n b e) (omega (arith, l))
      | inr ne ↦ let l = one_less b ns h.1 in rw (ne_eqb n b ne) (omega (arith, l))
    ]

-- there are at most b different numbers below b
few_below : (b : ℕ) (ns : List ℕ) → Distinct ns → Below b ns → length ns ≤ b
few_below zero [] d h = omega arith
few_below zero (n ∷ ns) d h = absurd (let l = h.0 in omega (arith, l))
few_below (suc b) ns d h =
    let l = few_below b (less b ns) (distinct_less b ns d) (below_less b ns h) in
    let one = one_less b ns d in
    omega (arith, l, one)

-- ---- the numbers of spans

abbrev numbers_of : List SpanPart → List ℕ
numbers_of ss = map (λ s. s.number) ss

out_numbers : (n : ℕ) (ss : List SpanPart) → ((k : ℕ) (s : SpanPart) → slice_get ss k ≡ Some s → s.number ≡ n → ⊥) → Out n (numbers_of ss)
out_numbers n [] h = tt
out_numbers n (s ∷ ss) h = (h 0 s refl, out_numbers n ss (λ k t at. h (suc k) t at))

distinct_numbers : (ss : List SpanPart) → ((i j : ℕ) (s t : SpanPart) → i < j → slice_get ss i ≡ Some s → slice_get ss j ≡ Some t → t.number ≡ s.number → ⊥) → Distinct (numbers_of ss)
distinct_numbers [] h = tt
distinct_numbers (s ∷ ss) h = (out_numbers s.number ss (λ k t at. h 0 (suc k) s t (omega arith) refl at), distinct_numbers ss (λ i j t u less. h (suc i) (suc j) t u (omega (arith, less))))

below_numbers : (b : ℕ) (ss : List SpanPart) → ((k : ℕ) (s : SpanPart) → slice_get ss k ≡ Some s → s.number < b) → Below b (numbers_of ss)
below_numbers b [] h = tt
below_numbers b (s ∷ ss) h = (h 0 s refl, below_numbers b ss (λ k t at. h (suc k) t at))

pub some_number : (xs : List SpanPart) → AreSpans xs → (n : ℕ) → n < length xs → list_any (λ s. s.number == n) xs ≡ true
some_number xs h n low =
    elim (cases_Bool (list_any (λ (s : SpanPart). s.number == n) xs)) [
      | inl t ↦ t
      | inr f ↦
          let out = out_numbers n xs (λ k s at e. let t : true ≡ false = sym (any_passes_from_place (λ (s : SpanPart). s.number == n) xs k s at (eq-eqb s.number n e)) ∙ f in cc (t)) in
          let distinct = distinct_numbers xs (λ i j s t less at to e. pairs_at (λ u v. u.number ≡ v.number → ⊥) xs i j s t h.differ less at to (sym e)) in
          let below = below_numbers (length xs) xs (λ k s at. all_at (λ u. u.number < length xs) xs k s h.numbered at) in
          let few = few_below (length xs) (n ∷ numbers_of xs) (out, distinct) (low, below) in
          let many = length-map xs (λ (s : SpanPart). s.number) in
          absurd (omega (arith, few, many))
    ]

-- the span of a number below the count
pub record SpanOf (xs : List SpanPart) (n : ℕ) : Type 0 where
  pub index : ℕ
  pub span : SpanPart
  pub here : slice_get xs index ≡ Some span
  pub number : span.number ≡ n
  pub found : find (λ s. s.number == n) xs ≡ Some span
  pub first : page_of_span xs n ≡ span.address / 4096

pub span_of : (xs : List SpanPart) → AreSpans xs → (n : ℕ) → n < length xs → SpanOf xs n
span_of xs h n low =
    let p = any_passing (λ s. s.number == n) xs (some_number xs h n low) in
    let is = eqb-true p.one.number n p.passes in
    let found = found_by xs h p.index n p.one p.here is in
    record { index = p.index; span = p.one; here = p.here; number = is; found = found; first = first_page_of xs n p.one found }
