-- Marking a table with the path to it.
use Rattle.std.proofs.Common.{◌≡◌, ◌≢◌, ℕ, zero, suc, ◌+◌, ◌-◌, ◌*◌, ◌/◌, ◌^◌, ◌<◌, ◌≤◌, Bool, true, false, cond, List, length, Option, Some, None, refl, sym, ap, subst, ◌∙◌, inl, inr, arith, get_or-set_same, get_or-set_other}
use Rattle.std.specs.Prelude.{◌&&◌, ◌||◌, not, nat_le, if◌then◌else◌, slice_index_or, slice_set, unwrap_or}
use Rattle.std.proofs.lemmas.Bool.{and_parts, cases_lt, le-leb, leb-true}
use Rattle.dma_check.proofs.Ways.{marks_none, marks_old, marks_new, moves, twice_by}
use Rattle.dma_check.proofs.Sounds.{in_range, in_source}
use Rattle.dma_check.specs.Faults.{is_outside, is_twice}
use Rattle.dma_check.specs.Marked.{HasAnother, HasOne, IsMarked, IsPath, Marked, Marks, has_outside, is_out, seen_in, way_of}
use Rattle.dma_check.specs.Sound.{Comes}
use Rattle.dma_check.specs.Views.{View, addr_of, source_of, table_at}
use Rattle.dma_check.specs.declared.path.Path.{Path}
use Rattle.dma_check.specs.declared.path.Way.{Way}
use Rattle.machine_layout.specs.Walks.{entry_size}

-- ---- the list

module _ (root : ℕ) (old : List (Option Way)) (t : ℕ) (low : root ≤ t) (high : t < root + length old) where
  pub seen_at : (ways : List (Option Way)) → seen_in root ways t ≡ slice_index_or ways (t - root) None
  seen_at ways = let le = le-leb root t low in rw le refl

  seen_other : (w : Way) (u : ℕ) → u ≢ t → (b : Bool) → nat_le root u ≡ b → cond b (slice_index_or (slice_set old (t - root) (Some w)) (u - root) None) None ≡ cond b (slice_index_or old (u - root) None) None
  seen_other w u ne false is = refl
  seen_other w u ne true is = let from = leb-true root u is in get_or-set_other old (t - root) (u - root) (Some w) None (λ e. ne (omega (arith, e, from, low)))

  pub set_one : (w : Way) → slice_index_or old (t - root) None ≡ None → HasOne (seen_in root old) (seen_in root (slice_set old (t - root) (Some w))) t w
  set_one w free = inr (seen_at old ∙ free, (seen_at (slice_set old (t - root) (Some w)) ∙ get_or-set_same old (t - root) (Some w) None (omega (arith, low, high)), λ u ne. seen_other w u ne (nat_le root u) refl))

  pub has_one : (w : Way) → slice_index_or old (t - root) None ≡ Some w → HasOne (seen_in root old) (seen_in root old) t w
  has_one w h = inl (seen_at old ∙ h, λ u. refl)

  pub has_other : (o w : Way) → slice_index_or old (t - root) None ≡ Some o → o ≢ w → HasAnother (seen_in root old) t w
  has_other o w h ne = (o, (seen_at old ∙ h, ne))

-- ---- what is known

module _ (v : View) where
  same_known : (old new : ℕ → Option Way) (k : ℕ) → ((u : ℕ) → new u ≡ old u) → Marked v old k → Marked v new k
  same_known old new k same known = record {
    only = λ t w h. known.only t w (sym (same t) ∙ h);
    all = λ p m t low comes. same t ∙ known.all p m t low comes;
  }

  -- a step more, or a table with two paths
  pub data Told (old new : ℕ → Option Way) (q n : ℕ) : Bool → Type 0 where
    one : Marked v new (6 * q + n + 1) → Told old new q n true
    two : is_twice v q ≡ true → Told old new q n false

  pub marks_step : (old new : ℕ → Option Way) (q n : ℕ) (table : Option ℕ) (way : Way) (b : Bool) → n < 6 → table ≡ table_at v q n → way ≡ way_of v q n → Marks old new table way b → Marked v old (6 * q + n) → Told old new q n b
  marks_step old new q n None way true few is same h known = one (same_known old new (6 * q + n + 1) h.1 (marks_none v old (6 * q + n) q n known refl few (sym is)))
  marks_step old new q n None way false few is same h known = absurd (let bad = h.0 in cc)
  marks_step old new q n (Some t) way true few is same (inl h) known = one (same_known old new (6 * q + n + 1) h.1 (marks_old v old (6 * q + n) q n t known refl few (sym is) (h.0 ∙ ap (λ w. Some w) same)))
  marks_step old new q n (Some t) way true few is same (inr h) known = one (marks_new v old new (6 * q + n) q n t known refl few (sym is) h.0 (h.1.0 ∙ ap (λ w. Some w) same) h.1.1)
  marks_step old new q n (Some t) way false few is same h known =
      two (twice_by v old (6 * q + n) q n t h.0 known refl (record { depth = few; here = sym is }) h.1.0 (λ e. h.1.1 (e ∙ sym same)))

  -- ---- step by step

  -- all steps so far where there is `true`, or a table with two paths
  pub record IsUpTo (q : ℕ) (seen : ℕ → Option Way) (k : ℕ) (b : Bool) : Type 0 where
    pub marks : b ≡ true → Marked v seen k
    pub twice : b ≡ false → is_twice v q ≡ true

  pub starts : (q : ℕ) (seen : ℕ → Option Way) → Marked v seen (6 * q) → IsUpTo q seen (6 * q + 0) true
  starts q seen known = record { marks = λ h. let same : 6 * q ≡ 6 * q + 0 = omega arith in subst (Marked v seen) same known; twice = λ h. absurd (cc) }

  of_told : (old new : ℕ → Option Way) (q n : ℕ) (b : Bool) → Told old new q n b → IsUpTo q new (6 * q + suc n) b
  of_told old new q n true (one known) = record { marks = λ h. let same : 6 * q + n + 1 ≡ 6 * q + suc n = omega arith in subst (Marked v new) same known; twice = λ h. absurd (cc) }
  of_told old new q n false (two twice) = record { marks = λ h. absurd (cc); twice = λ h. twice }

  pub steps_on : (old new : ℕ → Option Way) (q n : ℕ) (table : Option ℕ) (way : Way) (a b : Bool) → n < 6 → table ≡ table_at v q n → way ≡ way_of v q n → Marks old new table way b → IsUpTo q old (6 * q + n) a → IsUpTo q new (6 * q + suc n) (a && b)
  steps_on old new q n table way true b few is same h upto = of_told old new q n b (marks_step old new q n table way b few is same h (upto.marks refl))
  steps_on old new q n table way false b few is same h upto = record { marks = λ x. absurd (cc); twice = λ x. upto.twice refl }

  -- ---- tables that the file hasn't

  pub six : (a b c d e f : Bool) → (a || (b || (c || (d || (e || (f || false)))))) ≡ (a || (b || (c || (d || (e || f)))))
  six true b c d e f = refl
  six false true c d e f = refl
  six false false true d e f = refl
  six false false false true e f = refl
  six false false false false true f = refl
  six false false false false false true = refl
  six false false false false false false = refl

  pub outside_by : (q : ℕ) (path : Path) → IsPath v q path → has_outside v.is_table path ≡ is_outside v q
  unfolding is_outside
  outside_by q path h =
      let e0 = h.root in
      let e1 = sym h.context in
      let e2 = sym h.level_3 in
      let e3 = sym h.level_2 in
      let e4 = sym h.level_1 in
      let e5 = sym h.level_0 in
      rw (e0, e1, e2, e3, e4, e5) (sym (six (not (v.is_table path.root)) (is_out v.is_table path.context) (is_out v.is_table path.level_3) (is_out v.is_table path.level_2) (is_out v.is_table path.level_1) (is_out v.is_table path.level_0)))

  -- ---- all of a walk

  module _ (source addr : ℕ) (low : addr < 2 ^ 48) where
    way_1 : (n : ℕ) → n ≡ source → record { depth = 1; highest = 0; part = n / 256 } ≡ way_of v (2 ^ 48 * source + addr) 1
    way_1 n e = ap (λ s. record { depth = 1; highest = 0; part = s / 256 }) (e ∙ sym (in_source source addr low))

    way_2 : (h : ℕ) → h ≡ unwrap_or (table_at v (2 ^ 48 * source + addr) 2) 0 → record { depth = 2; highest = h; part = 0 } ≡ way_of v (2 ^ 48 * source + addr) 2
    way_2 h e =
        let part : 0 ≡ addr_of (2 ^ 48 * source + addr) / entry_size 4 = omega arith in
        ap (λ x. record { depth = 2; highest = x; part = 0 }) e ∙ ap (λ x. record { depth = 2; highest = unwrap_or (table_at v (2 ^ 48 * source + addr) 2) 0; part = x }) part

    way_below : (n h size : ℕ) → h ≡ unwrap_or (table_at v (2 ^ 48 * source + addr) 2) 0 → size ≡ entry_size (4 - n) → record { depth = suc (suc n); highest = h; part = addr / size } ≡ way_of v (2 ^ 48 * source + addr) (suc (suc n))
    way_below n h size e f =
        ap (λ x. record { depth = suc (suc n); highest = x; part = addr / size }) e
        ∙ ap (λ x. record { depth = suc (suc n); highest = unwrap_or (table_at v (2 ^ 48 * source + addr) 2) 0; part = addr / x }) f
        ∙ ap (λ x. record { depth = suc (suc n); highest = unwrap_or (table_at v (2 ^ 48 * source + addr) 2) 0; part = x / entry_size (4 - n) }) (sym (in_range source addr low))

    pub all_marked : (path : Path) → IsPath v (2 ^ 48 * source + addr) path → (s0 s1 s2 s3 s4 s5 s6 : ℕ → Option Way) (b0 b1 b2 b3 b4 b5 : Bool) (from highest size_3 size_2 size_1 : ℕ)
        → from ≡ source → highest ≡ unwrap_or path.level_3 0 → size_3 ≡ entry_size 3 → size_2 ≡ entry_size 2 → size_1 ≡ entry_size 1
        → Marks s0 s1 (Some path.root) (record { depth = 0; highest = 0; part = 0 }) b0
        → Marks s1 s2 path.context (record { depth = 1; highest = 0; part = from / 256 }) b1
        → Marks s2 s3 path.level_3 (record { depth = 2; highest = highest; part = 0 }) b2
        → Marks s3 s4 path.level_2 (record { depth = 3; highest = highest; part = addr / size_3 }) b3
        → Marks s4 s5 path.level_1 (record { depth = 4; highest = highest; part = addr / size_2 }) b4
        → Marks s5 s6 path.level_0 (record { depth = 5; highest = highest; part = addr / size_1 }) b5
        → Marked v s0 (6 * (2 ^ 48 * source + addr)) → IsUpTo (2 ^ 48 * source + addr) s6 (6 * (2 ^ 48 * source + addr) + 6) (((((b0 && b1) && b2) && b3) && b4) && b5)
    all_marked path is s0 s1 s2 s3 s4 s5 s6 b0 b1 b2 b3 b4 b5 from highest size_3 size_2 size_1 ef eh e3 e2 e1 m0 m1 m2 m3 m4 m5 known =
        let q = 2 ^ 48 * source + addr in
        let top : highest ≡ unwrap_or (table_at v q 2) 0 = eh ∙ ap (λ o. unwrap_or o 0) is.level_3 in
        let u0 = steps_on s0 s1 q 0 (Some path.root) _ true b0 (omega arith) (sym is.root) refl m0 (starts q s0 known) in
        let u1 = steps_on s1 s2 q 1 path.context _ b0 b1 (omega arith) is.context (way_1 from ef) m1 u0 in
        let u2 = steps_on s2 s3 q 2 path.level_3 _ (b0 && b1) b2 (omega arith) is.level_3 (way_2 highest top) m2 u1 in
        let u3 = steps_on s3 s4 q 3 path.level_2 _ ((b0 && b1) && b2) b3 (omega arith) is.level_2 (way_below 1 highest size_3 top e3) m3 u2 in
        let u4 = steps_on s4 s5 q 4 path.level_1 _ (((b0 && b1) && b2) && b3) b4 (omega arith) is.level_1 (way_below 2 highest size_2 top e2) m4 u3 in
        steps_on s5 s6 q 5 path.level_0 _ ((((b0 && b1) && b2) && b3) && b4) b5 (omega arith) is.level_0 (way_below 3 highest size_1 top e1) m5 u4
