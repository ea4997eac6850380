-- A search where each element is held against a condition of its own, then against each before it.
use Rattle.std.proofs.Common.{◌≡◌, ℕ, zero, suc, Bool, true, false, List, [], ◌∷◌, ◌++◌, ◌+◌, cond, take, Option, Some, refl, sym, ap, ◌∙◌, subst, arith}
use Rattle.std.specs.Prelude.{not, option_map, slice_get}
use Rattle.std.specs.List.{list_all, position_or_len}
use Rattle.std.specs.Option.{option_or}
use Rattle.std.proofs.lemmas.Bool.{and_parts, and_from}
use Rattle.muen_num.specs.Search.{first_in, first_after, first_pair, unless}
use Rattle.muen_num.proofs.SearchLaws.{option_or_assoc}
use Rattle.policy_lawful.specs.Offences.{alone}
use Rattle.policy_lawful.specs.Rules.{overlapping, first_overlap}
use Rattle.policy_lawful.specs.declared.offence.Extent.{Extent}

-- its own condition, then the first before it that it offends with
abbrev pub own_then_earlier : {X O : Type 0} → (X → Bool) → (X → O) → (X → X → Option O) → List X → X → Option O
own_then_earlier own o at before x = option_or (unless (own x) (o x)) (first_in (λ b. at b x) before)

-- the first n keep the condition, and the next one, if there is one, doesn't
pub record BreaksAt {X : Type 0} (own : X → Bool) (xs : List X) (n : ℕ) : Type 0 where
  pub before : list_all own (take n xs) ≡ true
  pub there : (x : X) → slice_get xs n ≡ Some x → own x ≡ false

-- behind some elements
after : {X O : Type 0} (own : X → Bool) (o : X → O) (at : X → X → Option O) (before xs : List X) (n : ℕ) → BreaksAt own xs n
    → first_after (own_then_earlier own o at) before xs ≡ option_or (first_after (λ before x. first_in (λ b. at b x) before) before (take n xs)) (option_map o (slice_get xs n))
after own o at before [] zero h = refl
after own o at before [] (suc n) h = refl
after own o at before (x ∷ xs) zero h =
    ap (λ b. option_or (option_or (unless b (o x)) (first_in (λ b. at b x) before)) (first_after (own_then_earlier own o at) (before ++ x ∷ []) xs)) (h.there x refl)
after own o at before (x ∷ xs) (suc n) h =
    let parts = and_parts (own x) (list_all own (take n xs)) h.before in
    let rest : BreaksAt own xs n = record { before = parts.1; there = h.there } in
    ap (λ b. option_or (option_or (unless b (o x)) (first_in (λ b. at b x) before)) (first_after (own_then_earlier own o at) (before ++ x ∷ []) xs)) parts.0
    ∙ ap (option_or (first_in (λ b. at b x) before)) (after own o at (before ++ x ∷ []) xs n rest)
    ∙ sym (option_or_assoc (first_in (λ b. at b x) before) _ (option_map o (slice_get xs n)))

-- it finds the first pair of those that keep the condition, else the one that doesn't
pub own_then_pairs : {X O : Type 0} (own : X → Bool) (o : X → O) (at : X → X → Option O) (xs : List X) (n : ℕ) → BreaksAt own xs n
    → first_after (own_then_earlier own o at) [] xs ≡ option_or (first_pair at (take n xs)) (option_map o (slice_get xs n))
own_then_pairs own o at xs n h = after own o at [] xs n h

-- of ranges, as `first_fault` answers
pub first_fault_is : (own : Extent → Bool) (xs : List Extent) (n : ℕ) → BreaksAt own xs n
    → first_after (λ before x. option_or (unless (own x) (alone x.name)) (first_in (λ b. overlapping b x) before)) [] xs ≡ option_or (first_overlap (take n xs)) (option_map (λ e. alone e.name) (slice_get xs n))
unfolding first_overlap
first_fault_is own xs n h = own_then_pairs own (λ e. alone e.name) overlapping xs n h

one_more : {X : Type 0} (own : X → Bool) (x : X) (xs : List X) (n : ℕ) → own x ≡ true → BreaksAt own xs n → BreaksAt own (x ∷ xs) (suc n)
one_more own x xs n e rest = record { before = and_from (own x) (list_all own (take n xs)) e rest.before; there = rest.there }

-- the first that doesn't keep the condition stands where it is broken
pub breaks_at_first : {X : Type 0} (own : X → Bool) (xs : List X) → BreaksAt own xs (position_or_len (λ x. not (own x)) xs)
breaks_at_first own [] = record { before = refl; there = λ x e. absurd (cc) }
breaks_at_first {X} own (x ∷ xs) =
    let later : ℕ = position_or_len (λ x. not (own x)) xs in
    let e : suc later ≡ 1 + later = omega arith in
    elim (own x) as (λ b. own x ≡ b → BreaksAt own (x ∷ xs) (cond (not (not b)) (1 + later) 0)) [
      | true ↦ λ holds. subst (BreaksAt own (x ∷ xs)) e (one_more own x xs later holds (breaks_at_first own xs))
      | false ↦ λ fails. record { before = refl; there = λ y is. let same : x ≡ y = cc in subst (λ z. own z ≡ false) same fails }
    ] refl
