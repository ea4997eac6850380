-- What is known of tables, and the tests at a position.
use Rattle.std.proofs.Common.{◌≡◌, ◌≢◌, ℕ, zero, suc, ◌+◌, ◌-◌, ◌*◌, ◌/◌, ◌%◌, ◌<◌, ◌≤◌, ◌⊎◌, Bool, true, false, [], Option, Some, None, refl, sym, ap, subst, ◌∙◌, inl, inr, arith}
use Rattle.std.specs.Prelude.{slice_get, option_map, not, ◌&&◌}
use Rattle.std.specs.List.{list_any}
use Rattle.std.proofs.lemmas.Bool.{cases_Bool, cases_lt, cases_eq, and_parts, and_from, eqb-true, eq-eqb, ne_eqb, true≢false}
use Rattle.std.proofs.lemmas.Map.Keys.{any_passes_from_place}
use Rattle.std.proofs.lemmas.Option.{same_Some}
use Rattle.muen_num.proofs.NumbersBelow.{any_below}
use Rattle.ept_check.proofs.Anys.{none_below, none_of}
use Rattle.ept_check.proofs.Comes.{come_same, table_come}
use Rattle.ept_check.proofs.Sizes.{above_is, before_is, here_is, index_is, not_before, page_some, part_is, subject_is}
use Rattle.ept_check.specs.Entries.{leads_on, pages}
use Rattle.ept_check.specs.Faults.{is_clash, is_outside, is_twice, levels, same_path, same_table}
use Rattle.ept_check.specs.Known.{IsBefore, IsSameWalkPath, Known, Reads, by_entry, come}
use Rattle.ept_check.specs.Tables.{Tables, addr_of, addresses, root_at, table_read}
use Rattle.machine_layout.specs.Walks.{addresses_from, bits_of, entry_size, goes_on, index_at}

pub and_false : (b : Bool) → (b && not true) ≡ false
and_false true = refl
and_false false = refl

pub in_levels : (test : ℕ → Bool) → ((k : ℕ) → k ≤ 3 → test k ≡ false) → list_any test levels ≡ false
in_levels test h =
    let a = h 0 (omega arith) in
    let b = h 1 (omega arith) in
    let c = h 2 (omega arith) in
    let d = h 3 (omega arith) in
    rw (a, b, c, d) refl

module _ (v : Tables) where
  -- ---- reads

  pub read_here : (q l t r : ℕ) → l ≤ 3 → come v q (3 - l) l ≡ Some (t, r) → Reads v q l t
  read_here q l t r a h = record { depth = a; here = table_come v q l a ∙ ap (option_map (λ s. s.0)) h }

  -- positions above one table read the same one
  pub same_read : (p o m t : ℕ) → p / pages (suc m) ≡ o / pages (suc m) → Reads v p m t → Reads v o m t
  same_read p o m t h r =
      let l = r.depth in
      record { depth = l; here = table_come v o m l ∙ ap (option_map (λ s. s.0)) (come_same v (3 - m) m o p (omega (arith, l)) (sym h)) ∙ sym (table_come v p m l) ∙ r.here }

  pub one_read : (p m t u : ℕ) → Reads v p m t → Reads v p m u → t ≡ u
  one_read p m t u a b = same_Some t u (sym a.here ∙ b.here)

  come_below : (p up level : ℕ) → come v p up (suc level) ≡ None → come v p (suc up) level ≡ None
  unfolding come
  come_below p up level h = rw h refl

  -- where nothing is come to, nor is it below
  come_lower : (d p up level : ℕ) → come v p up (d + level) ≡ None → come v p (d + up) level ≡ None
  come_lower zero p up level h =
      let a : 0 + level ≡ level = omega arith in
      let b : 0 + up ≡ up = omega arith in
      rw b (rw a at h)
  come_lower (suc d) p up level h =
      let a : suc d + level ≡ d + suc level = omega arith in
      let b : suc d + up ≡ suc (d + up) = omega arith in
      let above = come_lower d p up (suc level) (rw a at h) in
      rw b (come_below p (d + up) level above)

  come_on : (p up level t r : ℕ) → come v p up (suc level) ≡ Some (t, r) → by_entry (suc level) r (v.entry t (index_at (suc level) (addr_of p))) ≡ None → come v p (suc up) level ≡ None
  unfolding come
  come_on p up level t r h s = rw h s

  -- where a entry doesn't point on, no table below is read
  pub no_lower : (p l t r m u : ℕ) → l ≤ 3 → come v p (3 - l) l ≡ Some (t, r) → by_entry l r (v.entry t (index_at l (addr_of p))) ≡ None → Reads v p m u → m < l → ⊥
  no_lower p zero t r m u a h s reads l = omega (arith, l)
  no_lower p (suc l) t r m u a h s reads lt =
      let stop : come v p (suc (3 - suc l)) l ≡ None = come_on p (3 - suc l) l t r h s in
      let d = l - m in
      let e : d + m ≡ l = omega (arith, lt) in
      let f : d + suc (3 - suc l) ≡ 3 - m = omega (arith, lt, a) in
      let here : come v p (d + suc (3 - suc l)) m ≡ None = come_lower d p (suc (3 - suc l)) m (ap (come v p (suc (3 - suc l))) e ∙ stop) in
      let none : come v p (3 - m) m ≡ None = ap (λ n. come v p n m) (sym f) ∙ here in
      let bad : Some u ≡ None = sym reads.here ∙ table_come v p m reads.depth ∙ ap (option_map (λ s. s.0)) none in
      absurd (cc)

  -- as many places as levels
  few_on : (addr level : ℕ) (o : Option ℕ) (k at : ℕ) → ((t k at : ℕ) → slice_get (addresses_from v.entry addr level t) k ≡ Some at → k ≤ level) → slice_get (goes_on (suc level) o [] (λ t. addresses_from v.entry addr level t)) k ≡ Some at → suc k ≤ suc level
  few_on addr level None k at rest h = absurd (cc)
  few_on addr level (Some e) k at rest h = elim (cases_Bool (leads_on (suc level) e)) [
    | inl on ↦ omega (arith, rest (bits_of e 12 51) k at (rw on at h))
    | inr off ↦ let bad = rw off at h in absurd (cc)
  ]

  few_from : (addr level t k at : ℕ) → slice_get (addresses_from v.entry addr level t) k ≡ Some at → k ≤ level
  few_from addr zero t zero at h = omega arith
  few_from addr zero t (suc k) at h = absurd (cc)
  few_from addr (suc level) t zero at h = omega arith
  few_from addr (suc level) t (suc k) at h = few_on addr level (v.entry t (index_at (suc level) addr)) k at (few_from addr level) h

  pub few_addresses : (p n at : ℕ) → slice_get (addresses v p) n ≡ Some at → n ≤ 3
  unfolding addresses
  few_addresses p n at h = few_from (addr_of p) 3 (root_at v p) n at h

  pub table_is : (p m n at : ℕ) → 3 - m ≡ n → slice_get (addresses v p) n ≡ Some at → table_read v p m ≡ Some (at / 4096)
  unfolding table_read
  table_is p m n at level h = rw level (rw h refl)

  module _ (seen : ℕ → Bool) where
    -- ---- moving on

    -- a read that was known before, of the same table at the same path
    pub record IsOld (p m t x q l : ℕ) : Type 0 where
      pub o : ℕ
      pub reads : Reads v o m t
      pub before : IsBefore o m x q l
      pub above : p / pages (suc m) ≡ o / pages (suc m)

    pub moves : (x q l y o k : ℕ) → Known v seen x q l → ((p m t : ℕ) → Reads v p m t → IsBefore p m y o k → IsOld p m t x q l) → ((p m t : ℕ) → Reads v p m t → IsBefore p m x q l → IsBefore p m y o k) → Known v seen y o k
    moves x q l y o k known old new = record {
      only = λ t h. let r = known.only t h in record { p = r.p; m = r.m; reads = r.reads; before = new r.p r.m t r.reads r.before };
      all = λ p m t r b. let d = old p m t r b in known.all d.o m t d.reads d.before;
      apart = λ p m z n t a b c d.
          let one = old p m t a c in
          let two = old z n t b d in
          let path = known.apart one.o m two.o n t one.reads two.reads one.before two.before in
          record { level = path.level; above = one.above ∙ path.above ∙ sym (subst (λ j. z / pages (suc j) ≡ two.o / pages (suc j)) (sym path.level) two.above) };
      tables = known.tables;
    }

    itself : (p m t x q l : ℕ) → Reads v p m t → IsBefore p m x q l → IsOld p m t x q l
    itself p m t x q l r b = record { o = p; reads = r; before = b; above = refl }

    -- past the entries of a table
    pub past : (x q l o k : ℕ) → q < x → o < x → Known v seen x q l → Known v seen x o k
    past x q l o k a b known = moves x q l x o k known
        (λ p m t r h. itself p m t x q l r (inl (elim h [ inl c ↦ c | inr c ↦ let e = c.0 in omega (arith, e, b) ])))
        (λ p m t r h. inl (elim h [ inl c ↦ c | inr c ↦ let e = c.0 in omega (arith, e, a) ]))

    -- at a entry of the table, for what is below it
    pub below : (l q i x : ℕ) → l ≤ 3 → q % pages (suc l) ≡ 0 → x ≡ q + i * pages l → i < 512 → Known v seen x q l → Known v seen x x l
    below l q i x a b c d known = moves x q l x x l known
        (λ p m t r h. elim h [
          | inl e ↦ itself p m t x q l r (inl e)
          | inr e ↦
              let deep = r.depth in
              let here = e.0 in
              let same : p / pages (suc m) ≡ q / pages (suc m) = above_is l m q i x p e.1 deep b c d (omega (arith, here)) (omega (arith, here, page_some l)) in
              record { o = q; reads = same_read p q m t same r; before = inr (refl, e.1); above = same }
        ])
        (λ p m t r h. elim h [
          | inl e ↦ inl e
          | inr e ↦ let le = not_before l q i x c in let here = e.0 in elim (cases_lt p x) as (λ _. IsBefore p m x x l) [
            | inl lt ↦ inl lt
            | inr ge ↦ inr (omega (arith, le, here, ge), e.1)
          ]
        ])

    -- past a entry that points to no table
    pub ended_here : (l q i x t r : ℕ) → l ≤ 3 → q % pages (suc l) ≡ 0 → x ≡ q + i * pages l → i < 512 → come v q (3 - l) l ≡ Some (t, r) → by_entry l r (v.entry t (index_at l (addr_of x))) ≡ None → Known v seen x q l → Known v seen (x + pages l) q l
    ended_here l q i x t r a b c d come_here entry_none known = moves x q l (x + pages l) q l known
        (λ p m u z h. elim h [
          | inr e ↦ itself p m u x q l z (inr e)
          | inl lt ↦ elim (cases_lt p x) [
            | inl e ↦ itself p m u x q l z (inl e)
            | inr e ↦
                let same : p / pages (suc l) ≡ q / pages (suc l) = above_is l l q i x p (omega arith) a b c d e lt in
                let come_p : come v p (3 - l) l ≡ Some (t, r) = come_same v (3 - l) l p q (omega (arith, a)) same ∙ come_here in
                let i_p : index_at l (addr_of p) ≡ index_at l (addr_of x) = index_is l p a ∙ ap (λ n. n % 512) (here_is l q i x p a b c e lt) ∙ sym (index_is l x a) in
                let none : by_entry l r (v.entry t (index_at l (addr_of p))) ≡ None = ap (λ n. by_entry l r (v.entry t n)) i_p ∙ entry_none in
                elim (cases_lt m l) as (λ _. IsOld p m u x q l) [
                  | inl f ↦ absurd (no_lower p l t r m u a come_p none z f)
                  | inr f ↦
                      let up : p / pages (suc m) ≡ q / pages (suc m) = above_is l m q i x p f z.depth b c d e lt in
                      record { o = q; reads = same_read p q m u up z; before = inr (refl, f); above = up }
                ]
          ]
        ])
        (λ p m u z h. elim h [ inl e ↦ inl (omega (arith, e)) | inr e ↦ inr e ])

    -- ---- entering a table that wasn't seen

    abbrev IsNew : ℕ → ℕ → ℕ → ℕ → ℕ → ℕ → ℕ → Type 0
    IsNew q l t p m u x = IsBefore p m x q (suc l) ⊎ ((p ≡ q) × (m ≡ l) × (u ≡ t))

    new_or_old : (q l t p m u : ℕ) → Reads v q l t → Reads v p m u → IsBefore p m q q l → IsNew q l t p m u q
    new_or_old q l t p m u here r h = elim h as (λ _. IsNew q l t p m u q) [
      | inl e ↦ inl (inl e)
      | inr e ↦ elim (cases_lt l m) as (λ _. IsNew q l t p m u q) [
        | inl f ↦ inl (inr (e.0, omega (arith, f)))
        | inr f ↦
            let is : p ≡ q = e.0 in
            let level : m ≡ l = omega (arith, e.1, f) in
            let same : Reads v q l u = subst (λ o. Reads v o l u) is (subst (λ n. Reads v p n u) level r) in
            inr (is, level, one_read q l u t same here)
      ]
    ]

    pub entered : (after : ℕ → Bool) (q l t : ℕ) → Reads v q l t → seen t ≡ false → v.is_table t ≡ true → after t ≡ true → ((u : ℕ) → u ≢ t → after u ≡ seen u) → Known v seen q q (suc l) → Known v after q q l
    entered after q l t here unseen table marked others known = record {
      only = λ u h. elim (cases_eq u t) [
        | inl e ↦ let same = sym e in record { p = q; m = l; reads = subst (λ w. Reads v q l w) same here; before = inr (refl, omega arith) }
        | inr ne ↦
            let r = known.only u (sym (others u ne) ∙ h) in
            record { p = r.p; m = r.m; reads = r.reads; before = elim r.before [ inl e ↦ inl e | inr e ↦ inr (e.0, omega (arith, e.1)) ] }
      ];
      all = λ p m u r b. elim (new_or_old q l t p m u here r b) [
        | inl old ↦ let was = known.all p m u r old in others u (λ e. true≢false (sym was ∙ ap seen e ∙ unseen)) ∙ was
        | inr new ↦ ap after new.2 ∙ marked
      ];
      apart = λ p m o n u a b c d. elim (new_or_old q l t p m u here a c) [
        | inl e ↦ elim (new_or_old q l t o n u here b d) [
          | inl f ↦ known.apart p m o n u a b e f
          | inr f ↦ absurd (true≢false (sym (known.all p m u a e) ∙ ap seen f.2 ∙ unseen))
        ]
        | inr e ↦ elim (new_or_old q l t o n u here b d) [
          | inl f ↦ absurd (true≢false (sym (known.all o n u b f) ∙ ap seen e.2 ∙ unseen))
          | inr f ↦ record { level = e.1 ∙ sym f.1; above = ap (λ w. w / pages (suc m)) (e.0 ∙ sym f.0) }
        ]
      ];
      tables = λ u h. elim (cases_eq u t) [
        | inl e ↦ ap v.is_table e ∙ table
        | inr ne ↦ known.tables u (sym (others u ne) ∙ h)
      ];
    }

    -- ---- what was seen

    pub same_table_of : (o : Option ℕ) (u : ℕ) → (p : Option ℕ) → o ≡ Some u → p ≡ Some u → same_table o p ≡ true
    same_table_of o u p a b = rw (a, b) (eq-eqb u u refl)

    pub at_level : (test : ℕ → Bool) (l : ℕ) → l ≤ 3 → test l ≡ true → list_any test levels ≡ true
    at_level test l a h = elim (cases_eq l 0) [
      | inl e ↦ any_passes_from_place test levels 0 0 refl (ap test (sym e) ∙ h)
      | inr n ↦ elim (cases_eq l 1) [
        | inl e ↦ any_passes_from_place test levels 1 1 refl (ap test (sym e) ∙ h)
        | inr k ↦ elim (cases_eq l 2) [
          | inl e ↦ any_passes_from_place test levels 2 2 refl (ap test (sym e) ∙ h)
          | inr j ↦ let e : 3 ≡ l = omega (arith, a, n, k, j) in any_passes_from_place test levels 3 3 refl (ap test e ∙ h)
        ]
      ]
    ]

    other_path : (p m q l : ℕ) → l ≤ 3 → q % pages (suc l) ≡ 0 → IsBefore p m q q (suc l) → (b : Bool) → same_path p m q l ≡ b → b ≡ false
    other_path p m q l a first h false is = refl
    other_path p m q l a first h true is =
        let one = and_parts _ _ is in
        let two = and_parts _ _ one.1 in
        let level : m ≡ l = eqb-true _ _ two.0 in
        let above : addr_of p / entry_size (suc l) ≡ addr_of q / entry_size (suc l) = subst (λ n. addr_of p / entry_size (suc n) ≡ addr_of q / entry_size (suc l)) level (eqb-true _ _ two.1) in
        elim h [
          | inl e ↦ absurd (before_is l p q a first e (eqb-true _ _ one.0) above)
          | inr e ↦ let far = e.1 in absurd (omega (arith, far, level))
        ]

    pub seen_twice : (q l t : ℕ) → Reads v q l t → q % pages (suc l) ≡ 0 → seen t ≡ true → Known v seen q q (suc l) → is_twice v q ≡ true
    unfolding is_twice
    seen_twice q l t here first h known =
        let r = known.only t h in
        let low : r.p < suc q = elim r.before [ inl e ↦ omega (arith, e) | inr e ↦ let same = e.0 in omega (arith, same) ] in
        let path = other_path r.p r.m q l here.depth first r.before (same_path r.p r.m q l) refl in
        let clash : is_clash v q l r.p r.m ≡ true = and_from _ _ (same_table_of _ t _ r.reads.here here.here) (ap not path) in
        any_below (λ p. list_any (λ k. list_any (λ m. is_clash v q k p m) levels) levels) (suc q) r.p low
        (at_level (λ k. list_any (λ m. is_clash v q k r.p m) levels) l here.depth
        (at_level (λ m. is_clash v q l r.p m) r.m r.reads.depth clash))

    -- ---- positions that are passed

    pub one_table : (a b : Option ℕ) → ((t : ℕ) → a ≡ Some t → b ≡ Some t → ⊥) → same_table a b ≡ false
    one_table None b h = refl
    one_table (Some t) None h = refl
    one_table (Some t) (Some u) h = ne_eqb t u (λ e. h t refl (ap (λ n. Some n) (sym e)))

    pub path_of : (o m p l : ℕ) → m ≤ 3 → IsSameWalkPath o m p l → same_path o m p l ≡ true
    path_of o m p l a h =
        let part : addr_of o / entry_size (suc m) ≡ addr_of p / entry_size (suc l) = subst (λ n. addr_of o / entry_size (suc m) ≡ addr_of p / entry_size (suc n)) h.level (part_is m o p a h.above) in
        and_from _ _ (eq-eqb _ _ (subject_is m o p a h.above)) (and_from _ _ (eq-eqb _ _ h.level) (eq-eqb _ _ part))

    no_clash : (x q l p k o m : ℕ) → Known v seen x q l → p < x → o < suc p → k ≤ 3 → m ≤ 3 → is_clash v p k o m ≡ false
    no_clash x q l p k o m known a b c d = elim (cases_Bool (same_path o m p k)) [
      | inl e ↦ rw e (and_false (same_table (table_read v o m) (table_read v p k)))
      | inr e ↦
          let apart = one_table (table_read v o m) (table_read v p k) (λ t f g.
          true≢false (sym (path_of o m p k d (known.apart o m p k t (record { depth = d; here = f }) (record { depth = c; here = g }) (inl (omega (arith, a, b))) (inl a))) ∙ e)) in
          rw apart refl
    ]

    pub not_twice : (x q l p : ℕ) → Known v seen x q l → p < x → is_twice v p ≡ false
    unfolding is_twice
    not_twice x q l p known a = none_below (λ o. list_any (λ k. list_any (λ m. is_clash v p k o m) levels) levels) (suc p) (λ o b.
        in_levels (λ k. list_any (λ m. is_clash v p k o m) levels) (λ k c. in_levels (λ m. is_clash v p k o m) (λ m d. no_clash x q l p k o m known a b c d)))

    pub not_outside : (x q l p : ℕ) → Known v seen x q l → p < x → is_outside v p ≡ false
    unfolding is_outside
    not_outside x q l p known a = none_of (λ at. not (v.is_table (at / 4096))) (addresses v p) (λ n at here.
        let few = few_addresses p n at here in
        let level : 3 - (3 - n) ≡ n = omega (arith, few) in
        let r : Reads v p (3 - n) (at / 4096) = record { depth = omega arith; here = table_is p (3 - n) n at level here } in
        ap not (known.tables (at / 4096) (known.all p (3 - n) (at / 4096) r (inl a))))
