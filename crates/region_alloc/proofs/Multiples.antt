-- The lowest multiple of an alignment in a gap.
use Rattle.std.proofs.Common.{◌≡◌, ℕ, ◌+◌, ◌-◌, ◌*◌, ◌/◌, ◌%◌, ◌^◌, ◌<◌, ◌≤◌, ◌⊎◌, inl, inr, true, false, Some, ap, ◌∙◌, arith}
use Rattle.std.specs.Prelude.{◌==◌, nat_le}
use Rattle.std.specs.Int.{next_multiple_of}
use Rattle.std.proofs.Math.Nat.{mul-le-mul_left, mul-mod_right}
use Rattle.std.proofs.lemmas.Bool.{and_from, and_parts, both_ways, cases_eq, cases_lt, eq-eqb, eqb-true, false_from_ne_true, le-leb, leb-true}
use Rattle.std.proofs.lemmas.Nat.{mod_below, mod-mul-add}
use Rattle.region_alloc.specs.Gaps.{IsLeast, fits_in_gap, holds}
use Rattle.region_alloc.specs.declared.gaps.Gap.{Gap}

small_rest : (b m : ℕ) → b < m → b % m ≡ b
small_rest b m l =
    let e : b ≡ 0 * m + b = omega arith in
    ap (λ z. z % m) e ∙ mod-mul-add 0 m b l

whole_rest : (m : ℕ) → m % m ≡ 0
whole_rest m =
    let e : m ≡ m * 1 = omega arith in
    ap (λ z. z % m) e ∙ mul-mod_right m 1

-- the least multiple that is n or more, by the quotient
next_is : (n m : ℕ) → 0 < m → ((n % m ≡ 0) × (next_multiple_of n m ≡ n)) ⊎ ((0 < n % m) × (next_multiple_of n m ≡ m * (n / m + 1)))
next_is n m some = elim (cases_eq (n % m) 0) [
  | inl none ↦
      let d : m - n % m ≡ m = omega arith in
      let e : (m - n % m) % m ≡ 0 = ap (λ z. z % m) d ∙ whole_rest m in
      inl (none, omega arith)
  | inr rest ↦
      let r = mod_below n m some in
      let l : 0 < n % m = omega arith in
      let e : (m - n % m) % m ≡ m - n % m = small_rest (m - n % m) m (omega arith) in
      inr (l, omega arith)
]

next_multiple : (n m : ℕ) → 0 < m → next_multiple_of n m % m ≡ 0
next_multiple n m some = elim (next_is n m some) [
  | inl here ↦ ap (λ z. z % m) here.1 ∙ here.0
  | inr there ↦ ap (λ z. z % m) there.1 ∙ mul-mod_right m (n / m + 1)
]

next_from : (n m : ℕ) → n ≤ next_multiple_of n m
next_from n m = omega arith

-- no multiple between
next_least : (n m a : ℕ) → 0 < m → n ≤ a → a % m ≡ 0 → next_multiple_of n m ≤ a
next_least n m a some l e = elim (next_is n m some) [
  | inl here ↦ omega (arith, here.1)
  | inr there ↦ elim (cases_lt (n / m) (a / m)) [
    | inl less ↦
        let k = mul-le-mul_left m less in
        omega (arith, there.1)
    | inr more ↦
        let k = mul-le-mul_left m more in
        let r = there.0 in
        absurd (omega arith)
  ]
]

-- ---- in a gap

module _ (alignment size : ℕ) (g : Gap) (some : 0 < alignment) where
  -- what fits is that multiple, or lies behind it
  from_next : (a : ℕ) → fits_in_gap alignment size g a ≡ true → next_multiple_of g.start alignment ≤ a
  from_next a h =
      let both = and_parts (a % alignment == 0) (holds g a size) h in
      let within = and_parts (nat_le g.start a) (nat_le (a + size) g.end) both.1 in
      next_least g.start alignment a some (leb-true _ _ within.0) (eqb-true _ _ both.0)

  ends : (a : ℕ) → fits_in_gap alignment size g a ≡ true → a + size ≤ g.end
  ends a h =
      let both = and_parts (a % alignment == 0) (holds g a size) h in
      let within = and_parts (nat_le g.start a) (nat_le (a + size) g.end) both.1 in
      leb-true _ _ within.1

  no_fit : (a : ℕ) → (fits_in_gap alignment size g a ≡ true → ⊥) → fits_in_gap alignment size g a ≡ false
  no_fit a h = false_from_ne_true _ h

  pub none_beyond : (next_multiple_of g.start alignment < 2 ^ 64 → ⊥) → g.end < 2 ^ 64 → (a : ℕ) → fits_in_gap alignment size g a ≡ false
  none_beyond far end a = no_fit a (λ h.
      let p = from_next a h in
      let q = ends a h in
      far (omega arith))

  pub none_here : holds g (next_multiple_of g.start alignment) size ≡ false → (a : ℕ) → fits_in_gap alignment size g a ≡ false
  none_here out a = no_fit a (λ h.
      let p = from_next a h in
      let q = ends a h in
      let in' : holds g (next_multiple_of g.start alignment) size ≡ true = and_from _ _ (le-leb _ _ (next_from g.start alignment)) (le-leb _ _ (omega arith)) in
      both_ways _ out in')

  pub here : holds g (next_multiple_of g.start alignment) size ≡ true → IsLeast (fits_in_gap alignment size g) (Some (next_multiple_of g.start alignment))
  here in' = (
    and_from _ _ (eq-eqb _ _ (next_multiple g.start alignment some)) in',
    λ b l. no_fit b (λ h. let p = from_next b h in absurd (omega arith)),
  )
