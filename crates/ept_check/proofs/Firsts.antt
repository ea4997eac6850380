-- Searches in order, in parts.
use Rattle.std.proofs.Common.{◌≡◌, ℕ, zero, suc, ◌+◌, ◌-◌, ◌<◌, ◌≤◌, [], ◌∷◌, Option, Some, None, refl, sym, ap, ◌∙◌, inl, inr, arith}
use Rattle.std.specs.Option.{option_or}
use Rattle.std.proofs.lemmas.Bool.{cases_lt}
use Rattle.ept_check.specs.Search.{first_from}
use Rattle.muen_num.proofs.SearchLaws.{first_in-append, none_both, option_or_assoc}
use Rattle.muen_num.specs.Range.{numbers_below}
use Rattle.muen_num.specs.Search.{first_in}

module _ {O : Type 0} (at : ℕ → Option O) where
  one : (n : ℕ) → first_from at n 1 ≡ option_or (at n) None
  unfolding first_from
  one n = refl

  pub split : (lo a b n mid : ℕ) → n ≡ a + b → mid ≡ lo + a → first_from at lo n ≡ option_or (first_from at lo a) (first_from at mid b)
  unfolding first_from
  split lo zero b n mid e f =
      let x : n ≡ b = omega (arith, e) in let y : mid ≡ lo = omega (arith, f) in rw (x, y) refl
  split lo (suc a) b zero mid e f = absurd (omega (arith, e))
  split lo (suc a) b (suc n) mid e f =
      ap (option_or (at lo)) (split (suc lo) a b n mid (omega (arith, e)) (omega (arith, f)))
      ∙ sym (option_or_assoc (at lo) (first_from at (suc lo) a) (first_from at mid b))

  pub none_from : (lo n : ℕ) → ((k : ℕ) → lo ≤ k → k < lo + n → at k ≡ None) → first_from at lo n ≡ None
  unfolding first_from
  none_from lo zero h = refl
  none_from lo (suc n) h =
      let here = h lo (omega arith) (omega arith) in
      rw here (none_from (suc lo) n (λ k a b. h k (omega (arith, a)) (omega (arith, b))))

  pub none_at : (lo n : ℕ) → first_from at lo n ≡ None → (k : ℕ) → lo ≤ k → k < lo + n → at k ≡ None
  unfolding first_from
  none_at lo zero h k a b = absurd (omega (arith, a, b))
  none_at lo (suc n) h k a b =
      let parts = none_both (at lo) (first_from at (suc lo) n) h in
      elim (cases_lt lo k) [
        | inl l ↦ none_at (suc lo) n parts.1 k (omega (arith, l)) (omega (arith, b))
        | inr l ↦ let e : k ≡ lo = omega (arith, a, l) in ap at e ∙ parts.0
      ]

  pub head_found : (lo n : ℕ) (x : O) → at lo ≡ Some x → 0 < n → first_from at lo n ≡ Some x
  unfolding first_from
  head_found lo zero x h l = absurd (omega (arith, l))
  head_found lo (suc n) x h l = rw h refl

  pub none_joined : (lo a b n mid : ℕ) → n ≡ a + b → mid ≡ lo + a → first_from at lo a ≡ None → first_from at mid b ≡ None → first_from at lo n ≡ None
  none_joined lo a b n mid e f g h = split lo a b n mid e f ∙ rw (g, h) refl

  pub later_found : (lo a b n mid : ℕ) (x : O) → a + b ≤ n → mid ≡ lo + a → first_from at lo a ≡ None → first_from at mid b ≡ Some x → first_from at lo n ≡ Some x
  later_found lo a b n mid x l f g h =
      let all : n ≡ (a + b) + (n - (a + b)) = omega (arith, l) in
      let whole : first_from at lo (a + b) ≡ Some x = split lo a b (a + b) mid refl f ∙ rw (g, h) refl in
      split lo (a + b) (n - (a + b)) n (lo + (a + b)) all refl ∙ rw whole refl

  pub in_below : (n : ℕ) → first_in at (numbers_below n) ≡ first_from at 0 n
  in_below zero = unfold first_from in refl
  in_below (suc n) =
      first_in-append at (numbers_below n) (n ∷ [])
      ∙ ap (λ o. option_or o (option_or (at n) None)) (in_below n)
      ∙ sym (split 0 n 1 (suc n) n (omega arith) (omega arith) ∙ ap (option_or (first_from at 0 n)) (one n))

pub same_from : {O : Type 0} (at to : ℕ → Option O) (lo n : ℕ) → ((k : ℕ) → lo ≤ k → k < lo + n → at k ≡ to k) → first_from at lo n ≡ first_from to lo n
unfolding first_from
same_from at to lo zero h = refl
same_from at to lo (suc n) h =
    let here = h lo (omega arith) (omega arith) in
    rw here (ap (option_or (to lo)) (same_from at to (suc lo) n (λ k a b. h k (omega (arith, a)) (omega (arith, b)))))

-- where something is found
pub record IsFoundAt {O : Type 0} (at : ℕ → Option O) (lo n : ℕ) (x : O) : Type 0 where
  pub k : ℕ
  pub low : lo ≤ k
  pub high : k < lo + n
  pub here : at k ≡ Some x

found_by : {O : Type 0} (at : ℕ → Option O) (lo n : ℕ) (x : O) (o : Option O) → at lo ≡ o → (first_from at (suc lo) n ≡ Some x → IsFoundAt at (suc lo) n x) → option_or o (first_from at (suc lo) n) ≡ Some x → IsFoundAt at lo (suc n) x
found_by at lo n x (Some y) is rest h = record { k = lo; low = omega arith; high = omega arith; here = is ∙ h }
found_by at lo n x None is rest h =
    let r = rest h in
    let a = r.low in
    let b = r.high in
    record { k = r.k; low = omega (arith, a); high = omega (arith, b); here = r.here }

pub found_at : {O : Type 0} (at : ℕ → Option O) (lo n : ℕ) (x : O) → first_from at lo n ≡ Some x → IsFoundAt at lo n x
unfolding first_from
found_at at lo zero x h = absurd (cc)
found_at at lo (suc n) x h = found_by at lo n x (at lo) refl (found_at at (suc lo) n x) h
