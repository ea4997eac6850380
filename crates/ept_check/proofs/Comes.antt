-- Where the walk for a position comes.
use Rattle.std.proofs.Common.{◌≡◌, ℕ, zero, suc, ◌+◌, ◌-◌, ◌*◌, ◌/◌, ◌%◌, ◌≤◌, Bool, true, false, cond, List, [], ◌∷◌, Option, Some, None, refl, sym, ap, subst, ◌∙◌, arith}
use Rattle.std.specs.Prelude.{slice_get, slice_index, option_map, bit_and}
use Rattle.ept_check.proofs.Reading.{reads_on}
use Rattle.ept_check.proofs.Sizes.{index_is, wider}
use Rattle.ept_check.specs.Entries.{leads_on, pages}
use Rattle.ept_check.specs.Known.{by_entry, by_table, come}
use Rattle.ept_check.specs.Tables.{Tables, addr_of, addresses, root_at, subject_of, table_read, walk}
use Rattle.machine_layout.specs.Walks.{addresses_from, bits_of, entry_address, goes_on, index_at, reads, walk_from}
use Rattle.machine_layout.proofs.WalkSteps.{walk_is}
use Rattle.muen_num.specs.Access.{kind_bit}
use Rattle.muen_num.specs.declared.access.AccessKind.{AccessKind}

-- ---- pairs

abbrev first_or : Option (ℕ × ℕ) → ℕ
first_or None = 0
first_or (Some s) = s.0

abbrev second_or : Option (ℕ × ℕ) → ℕ
second_or None = 0
second_or (Some s) = s.1

pub first_is : (s t : ℕ × ℕ) → Some s ≡ Some t → s.0 ≡ t.0
first_is s t h = ap first_or h

pub second_is : (s t : ℕ × ℕ) → Some s ≡ Some t → s.1 ≡ t.1
second_is s t h = ap second_or h

-- ---- steps

-- an entry that references a table
pub record IsStep (level r : ℕ) (o : Option ℕ) (t s : ℕ) : Type 0 where
  pub e : ℕ
  pub is : o ≡ Some e
  pub on : leads_on level e ≡ true
  pub table : t ≡ bits_of e 12 51
  pub rights : s ≡ bit_and r (bits_of e 0 2)

step_at : (level r e t s : ℕ) (b : Bool) → leads_on level e ≡ b → cond {A = Option (ℕ × ℕ)} b (Some (bits_of e 12 51, bit_and r (bits_of e 0 2))) None ≡ Some (t, s) → IsStep level r (Some e) t s
step_at level r e t s true on h =
    record { e = e; is = refl; on = on; table = sym (first_is _ _ h); rights = sym (second_is _ _ h) }
step_at level r e t s false on h = absurd (cc)

pub step_of : (level r : ℕ) (o : Option ℕ) (t s : ℕ) → by_entry level r o ≡ Some (t, s) → IsStep level r o t s
step_of level r None t s h = absurd (cc)
step_of level r (Some e) t s h = step_at level r e t s (leads_on level e) refl h

none_cond : {A : Type 0} (b : Bool) (x : A) (ys : List ℕ) (k : ℕ) → cond b (Some x) None ≡ None → slice_get (cond b ys []) k ≡ None
none_cond true x ys k h = absurd (cc)
none_cond false x ys k h = refl

none_on : (level r : ℕ) (o : Option ℕ) (f : ℕ → List ℕ) (k : ℕ) → by_entry level r o ≡ None → slice_get (goes_on level o [] f) k ≡ None
none_on level r None f k h = refl
none_on level r (Some e) f k h = none_cond (leads_on level e) (bits_of e 12 51, bit_and r (bits_of e 0 2)) (f (bits_of e 12 51)) k h

module _ (entry : ℕ → ℕ → Option ℕ) (there : ℕ → Bool) (addr : ℕ) where
  pub walk_step : (want level table rights t r : ℕ) → IsStep (suc level) rights (entry table (index_at (suc level) addr)) t r → walk_from entry there addr want (suc level) table rights ≡ walk_from entry there addr want level t r
  walk_step want level table rights t r w =
      let is = w.is in
      let deep = λ (u s : ℕ). walk_from entry there addr want level u s in
      let here : walk_from entry there addr want (suc level) table rights ≡ walk_from entry there addr want level (bits_of w.e 12 51) (bit_and rights (bits_of w.e 0 2)) =
      walk_is entry there addr want (suc level) table rights
      ∙ ap (λ o. reads there (suc level) addr want rights o deep) is
      ∙ reads_on there (suc level) addr want rights w.e deep w.on in
      here ∙ ap (λ x. walk_from entry there addr want level x (bit_and rights (bits_of w.e 0 2))) (sym w.table) ∙ ap (walk_from entry there addr want level t) (sym w.rights)

  pub addresses_step : (level table rights t r : ℕ) → IsStep (suc level) rights (entry table (index_at (suc level) addr)) t r → addresses_from entry addr (suc level) table ≡ entry_address table (index_at (suc level) addr) ∷ addresses_from entry addr level t
  addresses_step level table rights t r w =
      let is = w.is in
      let on = w.on in
      let here : addresses_from entry addr (suc level) table ≡ entry_address table (index_at (suc level) addr) ∷ addresses_from entry addr level (bits_of w.e 12 51) = rw (is, on) refl in
      here ∙ ap (λ x. entry_address table (index_at (suc level) addr) ∷ addresses_from entry addr level x) (sym w.table)

module _ (v : Tables) where
  by_same : (level q x : ℕ) (o : Option (ℕ × ℕ)) → index_at level (addr_of q) ≡ index_at level (addr_of x) → by_table v q level o ≡ by_table v x level o
  by_same level q x None i = refl
  by_same level q x (Some s) i = ap (λ n. by_entry level s.1 (v.entry s.0 n)) i

  pub come_same : (up level q x : ℕ) → up + level ≡ 3 → q / pages (suc level) ≡ x / pages (suc level) → come v q up level ≡ come v x up level
  unfolding come
  come_same zero level q x e h =
      let top : level ≡ 3 = omega (arith, e) in
      let far : q / pages (suc 3) ≡ x / pages (suc 3) = subst (λ l. q / pages (suc l) ≡ x / pages (suc l)) top h in
      let subject : subject_of q ≡ subject_of x = far in
      ap (λ n. Some (slice_index v.roots n, 7)) subject
  come_same (suc up) level q x e h =
      let low : level ≤ 2 = omega (arith, e) in
      let one = come_same up (suc level) q x (omega (arith, e)) (wider level q x low h) in
      let i : index_at (suc level) (addr_of q) ≡ index_at (suc level) (addr_of x) = index_is (suc level) q (omega (arith, low)) ∙ ap (λ n. n % 512) h ∙ sym (index_is (suc level) x (omega (arith, low))) in
      ap (by_table v q (suc level)) one ∙ by_same (suc level) q x (come v x up (suc level)) i

  -- the step above
  pub record IsStepUp (q up level t r : ℕ) : Type 0 where
    pub s : ℕ × ℕ
    pub above : come v q up (suc level) ≡ Some s
    pub step : IsStep (suc level) s.1 (v.entry s.0 (index_at (suc level) (addr_of q))) t r

  up_at : (q up level t r : ℕ) (o : Option (ℕ × ℕ)) → come v q up (suc level) ≡ o → by_table v q (suc level) o ≡ Some (t, r) → IsStepUp q up level t r
  up_at q up level t r None is h = absurd (cc)
  up_at q up level t r (Some s) is h = record { s = s; above = is; step = step_of (suc level) s.1 _ t r h }

  pub step_up : (q up level t r : ℕ) → come v q (suc up) level ≡ Some (t, r) → IsStepUp q up level t r
  unfolding come
  step_up q up level t r h = up_at q up level t r (come v q up (suc level)) refl h

  pub come_walk : (q : ℕ) (kind : AccessKind) (up level t r : ℕ) → up + level ≡ 3 → come v q up level ≡ Some (t, r) → walk v q kind ≡ walk_from v.entry v.there (addr_of q) (kind_bit kind) level t r
  unfolding come
  come_walk q kind zero level t r e h =
      let top : level ≡ 3 = omega (arith, e) in
      let a : root_at v q ≡ t = first_is _ _ h in
      let b : 7 ≡ r = second_is _ _ h in
      rw (top, ← a, ← b) refl
  come_walk q kind (suc up) level t r e h =
      let u = step_up q up level t r h in
      come_walk q kind up (suc level) u.s.0 u.s.1 (omega (arith, e)) u.above ∙ walk_step v.entry v.there (addr_of q) (kind_bit kind) level u.s.0 u.s.1 t r u.step

  pub come_addresses : (q up level t r : ℕ) → up + level ≡ 3 → come v q up level ≡ Some (t, r) → (k n : ℕ) → n ≡ up + k → slice_get (addresses v q) n ≡ slice_get (addresses_from v.entry (addr_of q) level t) k
  unfolding come addresses
  come_addresses q zero level t r e h k n f =
      let top : level ≡ 3 = omega (arith, e) in
      let a : root_at v q ≡ t = first_is _ _ h in
      let same : n ≡ k = omega (arith, f) in
      rw (top, same) (subst (λ x. slice_get (addresses v q) k ≡ slice_get (addresses_from v.entry (addr_of q) 3 x) k) a refl)
  come_addresses q (suc up) level t r e h k n f =
      let u = step_up q up level t r h in
      come_addresses q up (suc level) u.s.0 u.s.1 (omega (arith, e)) u.above (suc k) n (omega (arith, f)) ∙ ap (λ xs. slice_get xs (suc k)) (addresses_step v.entry v.there (addr_of q) level u.s.0 u.s.1 t r u.step)

  none_here : (q up level : ℕ) → up + suc level ≡ 3 → (come v q up (suc level) ≡ None → (k n : ℕ) → n ≡ up + k → slice_get (addresses v q) n ≡ None) → (o : Option (ℕ × ℕ)) → come v q up (suc level) ≡ o → by_table v q (suc level) o ≡ None → (k n : ℕ) → n ≡ suc up + k → slice_get (addresses v q) n ≡ None
  none_here q up level e rest None is h k n f = rest is (suc k) n (omega (arith, f))
  none_here q up level e rest (Some s) is h k n f =
      come_addresses q up (suc level) s.0 s.1 e is (suc k) n (omega (arith, f))
      ∙ none_on (suc level) s.1 (v.entry s.0 (index_at (suc level) (addr_of q))) (λ t. addresses_from v.entry (addr_of q) level t) k h

  pub come_none : (q up level : ℕ) → up + level ≡ 3 → come v q up level ≡ None → (k n : ℕ) → n ≡ up + k → slice_get (addresses v q) n ≡ None
  unfolding come
  come_none q zero level e h k n f = absurd (cc)
  come_none q (suc up) level e h k n f =
      none_here q up level (omega (arith, e)) (come_none q up (suc level) (omega (arith, e))) (come v q up (suc level)) refl h k n f

  pub head_is : (m t addr : ℕ) → slice_get (addresses_from v.entry addr m t) 0 ≡ Some (entry_address t (index_at m addr))
  head_is zero t addr = refl
  head_is (suc m) t addr = refl

  -- the table that is read on a level is that to which the search comes there
  table_at : (q m : ℕ) → m ≤ 3 → (o : Option (ℕ × ℕ)) → come v q (3 - m) m ≡ o → table_read v q m ≡ option_map (λ s. s.0) o
  unfolding table_read
  table_at q m l None is = let none = come_none q (3 - m) m (omega (arith, l)) is 0 (3 - m) (omega arith) in rw none refl
  table_at q m l (Some s) is =
      let some = come_addresses q (3 - m) m s.0 s.1 (omega (arith, l)) is 0 (3 - m) (omega arith) ∙ head_is m s.0 (addr_of q) in
      let t : (4096 * s.0 + 8 * (index_at m (addr_of q))) / 4096 ≡ s.0 = omega arith in
      rw some (ap (λ n. Some n) t)

  pub table_come : (q m : ℕ) → m ≤ 3 → table_read v q m ≡ option_map (λ s. s.0) (come v q (3 - m) m)
  table_come q m l = table_at q m l (come v q (3 - m) m) refl
