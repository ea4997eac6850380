-- Paths by which walks come to tables, and what is known of the tables that were come to.
use Rattle.std.proofs.Common.{◌≡◌, ◌≢◌, ℕ, zero, suc, ◌+◌, ◌-◌, ◌*◌, ◌/◌, ◌%◌, ◌^◌, ◌<◌, ◌≤◌, Bool, true, false, List, [], ◌∷◌, Option, Some, None, refl, sym, ap, subst, ◌∙◌, inl, inr, arith}
use Rattle.std.specs.Prelude.{◌==◌, ◌&&◌, not, unwrap_or, option_and_then}
use Rattle.std.specs.List.{list_any}
use Rattle.std.proofs.lemmas.Bool.{and_from, and_parts, cases_Bool, cases_eq, cases_lt, eq-eqb, eqb-true, true≢false}
use Rattle.std.proofs.lemmas.Option.{same_Some}
use Rattle.dma_check.proofs.Sounds.{any_step, apart, no_step, same_of}
use Rattle.dma_check.specs.Faults.{is_clash, is_twice, same_path, same_way, steps}
use Rattle.dma_check.specs.Marked.{IsMarked, Marked, way_of}
use Rattle.dma_check.specs.Sound.{Comes}
use Rattle.dma_check.specs.Views.{View, addr_of, bus_of, source_of, table_at, table_below}
use Rattle.dma_check.specs.declared.path.Way.{Way}
use Rattle.ept_check.proofs.Anys.{none_below}
use Rattle.ept_check.specs.Faults.{same_table}
use Rattle.machine_layout.specs.Walks.{entry_size}
use Rattle.muen_num.proofs.NumbersBelow.{any_below}

module _ (v : View) where
  -- ---- tables below each other

  -- where there is none, nor is there one below
  pub none_next : (q n : ℕ) → table_at v q n ≡ None → table_at v q (suc n) ≡ None
  unfolding table_at
  none_next q zero h = absurd (cc)
  none_next q (suc zero) h = rw h refl
  none_next q (suc (suc n)) h = rw h refl

  pub none_after : (q d n m : ℕ) → m ≡ d + n → table_at v q n ≡ None → table_at v q m ≡ None
  none_after q zero n m e h = let same : m ≡ n = omega (arith, e) in ap (table_at v q) same ∙ h
  none_after q (suc d) n m e h = none_after q d (suc n) m (omega (arith, e)) (none_next q n h)

  -- a table of the second level has a highest one above it
  some_highest : (q n t : ℕ) → (o : Option ℕ) → table_at v q 2 ≡ o → table_at v q (suc (suc n)) ≡ Some t → unwrap_or o 0 ≡ unwrap_or (table_at v q 2) 0 × (o ≡ Some (unwrap_or o 0))
  some_highest q n t None is h = let none = none_after q n 2 (suc (suc n)) (omega arith) is in absurd (let bad = sym h ∙ none in cc)
  some_highest q n t (Some a) is h = (rw is refl, refl)

  highest_is : (q n t : ℕ) → table_at v q (suc (suc n)) ≡ Some t → table_at v q 2 ≡ Some (unwrap_or (table_at v q 2) 0)
  highest_is q n t h = (some_highest q n t (table_at v q 2) refl h).1

  -- ---- paths

  depth_is : (q n : ℕ) → (way_of v q n).depth ≡ n
  depth_is q zero = refl
  depth_is q (suc zero) = refl
  depth_is q (suc (suc n)) = refl

  one_way : (p q n t u : ℕ) → table_at v p n ≡ Some t → table_at v q n ≡ Some u → way_of v p n ≡ way_of v q n → same_way v p q n ≡ true
  one_way p q zero t u a b h = refl
  one_way p q (suc zero) t u a b h = eq-eqb _ _ (ap (λ (w : Way). w.part) h)
  one_way p q (suc (suc n)) t u a b h =
      let top : unwrap_or (table_at v p 2) 0 ≡ unwrap_or (table_at v q 2) 0 = ap (λ (w : Way). w.highest) h in
      and_from _ _ (same_of (table_at v p 2) (table_at v q 2) (unwrap_or (table_at v q 2) 0) (highest_is p n t a ∙ ap (λ x. Some x) top) (highest_is q n u b)) (eq-eqb _ _ (ap (λ (w : Way). w.part) h))

  pub one_path_by : (p m q n t u : ℕ) → table_at v p m ≡ Some t → table_at v q n ≡ Some u → way_of v p m ≡ way_of v q n → same_path v p m q n ≡ true
  one_path_by p m q n t u a b h =
      let depth : m ≡ n = sym (depth_is p m) ∙ ap (λ (w : Way). w.depth) h ∙ depth_is q n in
      and_from _ _ (eq-eqb m n depth) (one_way p q n t u (ap (table_at v p) (sym depth) ∙ a) b (ap (way_of v p) (sym depth) ∙ h))

  same_highest : (a b : Option ℕ) → same_table a b ≡ true → unwrap_or a 0 ≡ unwrap_or b 0
  same_highest None b h = absurd (cc)
  same_highest (Some a) None h = absurd (cc)
  same_highest (Some a) (Some b) h = eqb-true a b h

  way_by : (p q n : ℕ) → same_way v p q n ≡ true → way_of v p n ≡ way_of v q n
  way_by p q zero h = refl
  way_by p q (suc zero) h = ap (λ b. record { depth = 1; highest = 0; part = b }) (eqb-true _ _ h)
  way_by p q (suc (suc n)) h =
      let both = and_parts (same_table (table_at v p 2) (table_at v q 2)) _ h in
      let top = same_highest (table_at v p 2) (table_at v q 2) both.0 in
      let part = eqb-true _ _ both.1 in
      ap (λ a. record { depth = suc (suc n); highest = a; part = addr_of p / entry_size (4 - n) }) top
      ∙ ap (λ b. record { depth = suc (suc n); highest = unwrap_or (table_at v q 2) 0; part = b }) part

  pub way_of_path : (p m q n : ℕ) → same_path v p m q n ≡ true → way_of v p m ≡ way_of v q n
  way_of_path p m q n h =
      let both = and_parts (m == n) _ h in
      let depth : m ≡ n = eqb-true m n both.0 in
      ap (way_of v p) depth ∙ way_by p q n both.1

  module _ (seen : ℕ → Option Way) where
    -- ---- what is known of all tables so far

    -- no table is come to on two paths by a walk that is passed
    pub once_by : (k q : ℕ) → Marked v seen k → 6 * q + 5 < k → is_twice v q ≡ false
    unfolding is_twice
    once_by k q known low = none_below (λ o. list_any (λ n. list_any (λ m. is_clash v q n o m) steps) steps) (suc q) (λ o b.
        no_step (λ n. list_any (λ m. is_clash v q n o m) steps) (λ n c.
        no_step (λ m. is_clash v q n o m) (λ m d.
        apart v o m q n (λ t e f.
        let one = known.all o m t (omega (arith, b, d, low)) (record { depth = d; here = e }) in
        let two = known.all q n t (omega (arith, c, low)) (record { depth = c; here = f }) in
        one_path_by o m q n t t e f (same_Some _ _ (sym one ∙ two))))))

    -- a table that has another path
    pub twice_by : (k q n t : ℕ) (w : Way) → Marked v seen k → k ≡ 6 * q + n → Comes v q n t → seen t ≡ Some w → w ≢ way_of v q n → is_twice v q ≡ true
    unfolding is_twice
    twice_by k q n t w known e comes here other =
        let r = known.only t w here in
        let some = comes.depth in
        let before = r.before in
        let low : r.p < suc q = omega (arith, before, e, some) in
        let path : same_path v r.p r.m q n ≡ false = elim (cases_Bool (same_path v r.p r.m q n)) [
          | inl y ↦ absurd (other (sym r.way ∙ way_of_path r.p r.m q n y))
          | inr y ↦ y
        ] in
        let clash : is_clash v q n r.p r.m ≡ true = and_from _ _ (same_of (table_at v r.p r.m) (table_at v q n) t r.comes.here comes.here) (ap not path) in
        any_below (λ o. list_any (λ k. list_any (λ j. is_clash v q k o j) steps) steps) (suc q) r.p low
        (any_step (λ k. list_any (λ j. is_clash v q k r.p j) steps) n comes.depth
        (any_step (λ j. is_clash v q n r.p j) r.m r.comes.depth clash))

    weaker : (k j t : ℕ) (w : Way) → k ≤ j → IsMarked v k t w → IsMarked v j t w
    weaker k j t w le r = let b = r.before in record { p = r.p; m = r.m; before = omega (arith, b, le); comes = r.comes; way = r.way }

    -- steps that come to tables as earlier ones do
    pub moves : (k j : ℕ) → Marked v seen k → k ≤ j → ((p m t : ℕ) → 6 * p + m < j → Comes v p m t → IsMarked v k t (way_of v p m)) → Marked v seen j
    moves k j known le old = record {
      only = λ t w h. weaker k j t w le (known.only t w h);
      all = λ p m t low comes.
          let r = old p m t low comes in
          known.all r.p r.m t r.before r.comes ∙ ap (λ w. Some w) r.way;
    }

    pub itself : (k p m t : ℕ) → 6 * p + m < k → Comes v p m t → IsMarked v k t (way_of v p m)
    itself k p m t low comes = record { p = p; m = m; before = low; comes = comes; way = refl }

    -- the step is this one, or an earlier one
    is_here : (k q n p m : ℕ) → k ≡ 6 * q + n → n < 6 → m < 6 → 6 * p + m < k + 1 → k ≤ 6 * p + m → (p ≡ q) × (m ≡ n)
    is_here k q n p m e a b c d = (omega (arith, e, a, b, c, d), omega (arith, e, a, b, c, d))

    -- it comes to no table
    pub marks_none : (k q n : ℕ) → Marked v seen k → k ≡ 6 * q + n → n < 6 → table_at v q n ≡ None → Marked v seen (k + 1)
    marks_none k q n known e few none = moves k (k + 1) known (omega arith) (λ p m t low comes. elim (cases_lt (6 * p + m) k) [
      | inl lt ↦ itself k p m t lt comes
      | inr ge ↦
          let same = is_here k q n p m e few comes.depth low ge in
          absurd (let bad = sym comes.here ∙ ap (λ x. table_at v x m) same.0 ∙ ap (table_at v q) same.1 ∙ none in cc)
    ])

    -- to one that has this path
    pub marks_old : (k q n t : ℕ) → Marked v seen k → k ≡ 6 * q + n → n < 6 → table_at v q n ≡ Some t → seen t ≡ Some (way_of v q n) → Marked v seen (k + 1)
    marks_old k q n t known e few here has = moves k (k + 1) known (omega arith) (λ p m u low comes. elim (cases_lt (6 * p + m) k) [
      | inl lt ↦ itself k p m u lt comes
      | inr ge ↦
          let same = is_here k q n p m e few comes.depth low ge in
          let way : way_of v p m ≡ way_of v q n = ap (λ x. way_of v x m) same.0 ∙ ap (way_of v q) same.1 in
          let table : u ≡ t = same_Some u t (sym comes.here ∙ ap (λ x. table_at v x m) same.0 ∙ ap (table_at v q) same.1 ∙ here) in
          subst (λ w. IsMarked v k u w) (sym way) (subst (λ x. IsMarked v k x (way_of v q n)) (sym table) (known.only t (way_of v q n) has))
    ])

    -- to one that none came to
    pub marks_new : (after : ℕ → Option Way) (k q n t : ℕ) → Marked v seen k → k ≡ 6 * q + n → n < 6 → table_at v q n ≡ Some t → seen t ≡ None → after t ≡ Some (way_of v q n) → ((u : ℕ) → u ≢ t → after u ≡ seen u) → Marked v after (k + 1)
    marks_new after k q n t known e few here free set others = record {
      only = λ u w h. elim (cases_eq u t) [
        | inl same ↦
            let way : way_of v q n ≡ w = same_Some _ _ (sym set ∙ ap after (sym same) ∙ h) in
            record { p = q; m = n; before = omega (arith, e); comes = record { depth = few; here = here ∙ ap (λ x. Some x) (sym same) }; way = way }
        | inr ne ↦ weaker k (k + 1) u w (omega arith) (known.only u w (sym (others u ne) ∙ h))
      ];
      all = λ p m u low comes. elim (cases_lt (6 * p + m) k) [
        | inl lt ↦
            let was = known.all p m u lt comes in
            others u (λ same. let bad = sym was ∙ ap seen same ∙ free in cc) ∙ was
        | inr ge ↦
            let same = is_here k q n p m e few comes.depth low ge in
            let way : way_of v p m ≡ way_of v q n = ap (λ x. way_of v x m) same.0 ∙ ap (way_of v q) same.1 in
            let table : u ≡ t = same_Some u t (sym comes.here ∙ ap (λ x. table_at v x m) same.0 ∙ ap (table_at v q) same.1 ∙ here) in
            ap after table ∙ set ∙ ap (λ w. Some w) (sym way)
      ];
    }
