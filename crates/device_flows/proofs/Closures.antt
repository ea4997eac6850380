-- The closure is the least closed set with its start: as many rounds as there are elements are enough.
use Rattle.std.proofs.Common.{◌≡◌, ℕ, zero, suc, ◌<◌, Bool, true, List, length, filter, sym, subst, ◌⊎◌, inl, inr, arith}
use Rattle.std.specs.Prelude.{◌&&◌}
use Rattle.std.specs.List.{All, list_any}
use Rattle.std.proofs.lemmas.Bool.{and_from, and_parts, or_cases, or_left, or_right}
use Rattle.muen_num.proofs.Members.{In, all_from, all_in, any_in, any_some, filter_fits, filter_grows, filter_in, filter_some}
use Rattle.policy_flows.specs.Flows.{rounds}
use Rattle.device_flows.specs.Closures.{AreWithin, IsClosedUnder, IsLeastFrom, closure_from, joined}

module _ {X : Type 0} (leads : X → X → Bool) (xs : List X) (start : X → Bool) where
  -- the members after so many rounds
  abbrev pub members_after : ℕ → X → Bool
  members_after n = rounds n (joined leads xs) start

  -- one of these leads to a member
  abbrev leads_in : ℕ → X → Bool
  leads_in n x = list_any (λ y. members_after n y && leads x y) xs

  stays : (n : ℕ) (x : X) → members_after n x ≡ true → members_after (suc n) x ≡ true
  stays n x h = or_left (members_after n x) (leads_in n x) h

  starts : (n : ℕ) (x : X) → start x ≡ true → members_after n x ≡ true
  starts zero x h = h
  starts (suc n) x h = stays n x (starts n x h)

  -- ---- least

  module _ (others : X → Bool) (has : AreWithin leads xs start others) (closed : IsClosedUnder leads xs others) where
    within_others : (n : ℕ) (x : X) → In x xs → members_after n x ≡ true → others x ≡ true
    within_others zero x i h = all_in (λ x. start x ≡ true → others x ≡ true) xs has x i h
    within_others (suc n) x i h =
        elim (or_cases (members_after n x) (leads_in n x) h) as (λ _. others x ≡ true) [
          | inl e ↦ within_others n x i e
          | inr e ↦
              let to = any_some (λ y. members_after n y && leads x y) xs e in
              let both = and_parts (members_after n to.one) (leads x to.one) to.passes in
              all_in (λ x. leads x to.one ≡ true → others x ≡ true) xs
              (all_in (λ y. others y ≡ true → All (λ x. leads x y ≡ true → others x ≡ true) xs) xs closed.sources to.one to.within (within_others n to.one to.within both.0))
              x i both.1
        ]

  -- ---- closed

  -- a further round adds none of these
  abbrev Stops : ℕ → Type 0
  Stops n = (x : X) → In x xs → members_after (suc n) x ≡ true → members_after n x ≡ true

  stops_later : (n : ℕ) → Stops n → Stops (suc n)
  stops_later n stops x i h =
      elim (or_cases (members_after (suc n) x) (leads_in (suc n) x) h) as (λ _. members_after (suc n) x ≡ true) [
        | inl e ↦ e
        | inr e ↦
            let to = any_some (λ y. members_after (suc n) y && leads x y) xs e in
            let both = and_parts (members_after (suc n) to.one) (leads x to.one) to.passes in
            or_right (members_after n x) (leads_in n x)
            (any_in (λ y. members_after n y && leads x y) xs to.one to.within (and_from (members_after n to.one) (leads x to.one) (stops to.one to.within both.0) both.1))
      ]

  stops_where : (n : ℕ) → filter (members_after n) xs ≡ filter (members_after (suc n)) xs → Stops n
  stops_where n same x i h = (filter_some (members_after n) xs x (subst (In x) (sym same) (filter_in (members_after (suc n)) xs x i h))).1

  -- or there are more than so many members
  abbrev Steady : ℕ → Type 0
  Steady n = Stops n ⊎ (n < length (filter (members_after (suc n)) xs))

  steady : (n : ℕ) → Steady n
  steady zero =
      elim (filter_grows (members_after zero) (members_after (suc zero)) xs (λ x i. stays zero x)) as (λ _. Steady zero) [
        | inl same ↦ inl (stops_where zero same)
        | inr more ↦ inr (omega (arith, more))
      ]
  steady (suc n) =
      elim (steady n) as (λ _. Steady (suc n)) [
        | inl stops ↦ inl (stops_later n stops)
        | inr many ↦
            elim (filter_grows (members_after (suc n)) (members_after (suc (suc n))) xs (λ x i. stays (suc n) x)) as (λ _. Steady (suc n)) [
              | inl same ↦ inl (stops_where (suc n) same)
              | inr more ↦ inr (omega (arith, many, more))
            ]
      ]

  enough : Stops (length xs)
  enough =
      elim (steady (length xs)) as (λ _. Stops (length xs)) [
        | inl stops ↦ stops
        | inr many ↦ absurd (let few = filter_fits (members_after (suc (length xs))) xs in omega (arith, many, few))
      ]

  closed_after : (y x : X) → In y xs → In x xs → members_after (length xs) y ≡ true → leads x y ≡ true → members_after (length xs) x ≡ true
  closed_after y x j i h to =
      enough x i
      (or_right (members_after (length xs) x) (leads_in (length xs) x)
      (any_in (λ y. members_after (length xs) y && leads x y) xs y j (and_from (members_after (length xs) y) (leads x y) h to)))

  pub closure_is_least : IsLeastFrom leads xs start (closure_from leads xs start)
  unfolding closure_from
  closure_is_least =
      let members = members_after (length xs) in
      record {
        has = all_from (λ x. start x ≡ true → members x ≡ true) xs (λ x i. starts (length xs) x);
        closed = record {
          sources = all_from (λ y. members y ≡ true → All (λ x. leads x y ≡ true → members x ≡ true) xs) xs
              (λ y j h. all_from (λ x. leads x y ≡ true → members x ≡ true) xs (λ x i to. closed_after y x j i h to));
        };
        least = λ others has closed. all_from (λ x. members x ≡ true → others x ≡ true) xs (λ x i. within_others others has closed (length xs) x i);
      }
