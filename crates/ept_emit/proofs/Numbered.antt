-- Tables are numbered one after another, entry by entry.
use Rattle.std.proofs.Common.{◌≡◌, ◌≢◌, ◌⊎◌, inl, inr, ℕ, zero, suc, ◌+◌, ◌-◌, ◌*◌, ◌/◌, ◌%◌, ◌<◌, ◌≤◌, true, false, List, Some, None, refl, ap, sym, ◌∙◌, arith}
use Rattle.std.proofs.lemmas.Bool.{cases_eq, cases_lt}
use Rattle.std.proofs.Math.Nat.{div-div-eq-div-mul, mul-div_cancel, mul-le-mul_left}
use Rattle.ept_emit.specs.declared.window.Window.{Window}
use Rattle.machine_layout.specs.Walks.{entry_size}
use Rattle.policy_types.specs.declared.rights.Rights.{Rights}
use Rattle.ept_emit.specs.Entries.{is_whole, leaf_entry, table_entry, window_touching}
use Rattle.ept_emit.specs.Tables.{IsWritten, Below, IsReference, IsTableReached, AreNumbered, child}
use Rattle.ept_emit.proofs.EntryBits.{rights_small}
use Rattle.ept_emit.proofs.Found.{span_some, around}
use Rattle.ept_emit.proofs.Written.{Under, Meets, word_of, window_of, written_from, below_parts, below_from, below_lowest, below_lower, stands_none, stands_leaf, stands_table, leads_none, leads_leaf, leads_to, leads_from, keeps, below_keeps, below_within}

-- ---- entries that reference no table

pub below_none : (out : ℕ → ℕ) (base : ℕ) (ws : List Window) (l k g l2 k2 : ℕ) → window_of ws l g ≡ None → Below out base ws l k g l2 k2 → ⊥
below_none out base ws zero k g l2 k2 none b = below_lowest out base ws k g l2 k2 b
below_none out base ws (suc l) k g l2 k2 none b =
    leads_none (λ c. Meets out base ws l c g l2 k2) (child base (word_of out (suc l) k g)) (suc l) (g / entry_size (suc l)) (window_of ws (suc l) g) none (below_parts out base ws l k g l2 k2 b)

pub below_leaf : (out : ℕ → ℕ) (base : ℕ) (ws : List Window) (l k g l2 k2 : ℕ) (w : Window) → window_of ws l g ≡ Some w → is_whole w l (g / entry_size l) ≡ true → Below out base ws l k g l2 k2 → ⊥
below_leaf out base ws zero k g l2 k2 w some whole b = below_lowest out base ws k g l2 k2 b
below_leaf out base ws (suc l) k g l2 k2 w some whole b =
    leads_leaf (λ c. Meets out base ws l c g l2 k2) (child base (word_of out (suc l) k g)) (suc l) (g / entry_size (suc l)) (window_of ws (suc l) g) w some whole (below_parts out base ws l k g l2 k2 b)

-- the set of one entry's addresses
abbrev pub InEntry : ℕ → ℕ → ℕ → Type 0
InEntry l e g = g / entry_size l ≡ e

-- of the addresses of a whole table
abbrev pub InTable : ℕ → ℕ → ℕ → Type 0
InTable l p g = g / entry_size l / 512 ≡ p

-- of its first i entries
abbrev pub InFirst : ℕ → ℕ → ℕ → ℕ → Type 0
InFirst l p i g = (g / entry_size l / 512 ≡ p) × (g / entry_size l < 512 * p + i)

none_below : (pointers : Rights) (out : ℕ → ℕ) (base used : ℕ) (ws : List Window) (l k : ℕ) (P : ℕ → Type 0) → ((g : ℕ) → P g → IsWritten pointers out base used used ws l k g) → ((g l2 k2 : ℕ) → P g → Below out base ws l k g l2 k2 → ⊥) → AreNumbered pointers out base used used ws l k P
none_below pointers out base used ws l k P written none =
    record {
      written = written;
      paths = λ g h l2 j k2 a b c d. absurd (none g l2 k2 a c);
      reached = λ k2 a b. absurd (omega arith);
      order = λ h l2 j k2 a b c d. absurd (none h l2 k2 a b);
      ascending = λ g l2 k2 j i a b c d. absurd (none g l2 k2 a b);
    }

pub numbered_free : (pointers : Rights) (out : ℕ → ℕ) (base used : ℕ) (ws : List Window) (l k e : ℕ) → out (512 * k + e % 512) ≡ 0 → window_touching ws (entry_size l * e) (entry_size l) ≡ None → AreNumbered pointers out base used used ws l k (InEntry l e)
numbered_free pointers out base used ws l k e at none =
    none_below pointers out base used ws l k (InEntry l e) (λ g within. written_from pointers out base used used ws l k g (stands_none pointers (Under pointers out base used used ws l g) base used used l (g / entry_size l) (word_of out l k g) (window_of ws l g) (rw within none) (rw within at))) (λ g l2 k2 within b. below_none out base ws l k g l2 k2 (rw within none) b)

pub numbered_leaf : (pointers : Rights) (out : ℕ → ℕ) (base used : ℕ) (ws : List Window) (l k e : ℕ) (w : Window) → out (512 * k + e % 512) ≡ leaf_entry w l e → window_touching ws (entry_size l * e) (entry_size l) ≡ Some w → is_whole w l e ≡ true → AreNumbered pointers out base used used ws l k (InEntry l e)
numbered_leaf pointers out base used ws l k e w at some whole =
    none_below pointers out base used ws l k (InEntry l e) (λ g within. written_from pointers out base used used ws l k g (stands_leaf pointers (Under pointers out base used used ws l g) base used used l (g / entry_size l) (word_of out l k g) (window_of ws l g) w (rw within some) (rw within whole) (rw within at))) (λ g l2 k2 within b. below_leaf out base ws l k g l2 k2 w (rw within some) (rw within whole) b)

-- ---- an entry that references a table

child_is : (pointers : Rights) (base c word : ℕ) → word ≡ table_entry pointers (base + c) → child base word ≡ c
child_is pointers base c word h = omega (arith, rights_small pointers)

reference_is : (pointers : Rights) (base c hi word : ℕ) → word ≡ table_entry pointers (base + c) → c < hi → IsReference pointers base c hi word
reference_is pointers base c hi word h lt =
    let same = child_is pointers base c word h in
    record {
      is = h ∙ ap (λ k. table_entry pointers (base + k)) (sym same);
      low = omega (arith, same);
      high = omega (arith, same);
    }

-- an address of an entry is one of the table that it references
pub entry_table : (l e g : ℕ) → g / entry_size (suc l) ≡ e → g / entry_size l / 512 ≡ e
entry_table l e g h =
    let m : entry_size l * 512 ≡ 512 * entry_size l = omega arith in
    div-div-eq-div-mul g (entry_size l) 512 ∙ (ap (λ n. g / n) m ∙ h)

pub table_entry_of : (l e g : ℕ) → g / entry_size l / 512 ≡ e → g / entry_size (suc l) ≡ e
table_entry_of l e g h =
    let m : entry_size l * 512 ≡ 512 * entry_size l = omega arith in
    sym (ap (λ n. g / n) m) ∙ (sym (div-div-eq-div-mul g (entry_size l) 512) ∙ h)

pub first_address : (l e : ℕ) → entry_size l * e / entry_size l ≡ e
first_address l e = let m : entry_size l * e ≡ e * entry_size l = omega arith in let some : 0 < entry_size l = omega (arith, span_some l) in ap (λ n. n / entry_size l) m ∙ mul-div_cancel e {n = entry_size l} some

module _ (pointers : Rights) (out : ℕ → ℕ) (base used top : ℕ) (ws : List Window) (l k e : ℕ) (w : Window) (at : out (512 * k + e % 512) ≡ table_entry pointers (base + used)) (some : window_touching ws (entry_size (suc l) * e) (entry_size (suc l)) ≡ Some w) (part : is_whole w (suc l) e ≡ false) (more : used < top) (below : AreNumbered pointers out base (used + 1) top ws l used (InTable l e)) where
  abbrev Deep : ℕ → ℕ → ℕ → ℕ → Type 0
  Deep g l2 k2 c = Meets out base ws l c g l2 k2

  down : (g l2 k2 : ℕ) → InEntry (suc l) e g → Below out base ws (suc l) k g l2 k2 → Meets out base ws l used g l2 k2
  down g l2 k2 within b =
      let c : child base (word_of out (suc l) k g) ≡ used = child_is pointers base used (word_of out (suc l) k g) (rw within at) in
      let p = leads_to (Deep g l2 k2) (child base (word_of out (suc l) k g)) (suc l) (g / entry_size (suc l)) (window_of ws (suc l) g) w (rw within some) (rw within part) (below_parts out base ws l k g l2 k2 b) in
      rw c at p

  up : (g l2 k2 : ℕ) → InEntry (suc l) e g → Meets out base ws l used g l2 k2 → Below out base ws (suc l) k g l2 k2
  up g l2 k2 within m =
      let c : child base (word_of out (suc l) k g) ≡ used = child_is pointers base used (word_of out (suc l) k g) (rw within at) in
      below_from out base ws l k g l2 k2 (leads_from (Deep g l2 k2) (child base (word_of out (suc l) k g)) (suc l) (g / entry_size (suc l)) (window_of ws (suc l) g) w (rw within some) (rw within part) (rw c m))

  within_below : (g l2 k2 : ℕ) → InEntry (suc l) e g → Below out base ws l used g l2 k2 → used < k2
  within_below g l2 k2 within b =
      let p = below_within pointers out base (used + 1) top ws l used g l2 k2 (below.written g (entry_table l e g within)) b in
      omega (arith, p.0)

  table_written : (g : ℕ) → InEntry (suc l) e g → IsWritten pointers out base used top ws (suc l) k g
  table_written g within =
      let word = word_of out (suc l) k g in
      let is : word ≡ table_entry pointers (base + used) = rw within at in
      let c : child base word ≡ used = child_is pointers base used word is in
      let there = keeps pointers out out base (used + 1) top used top ws (omega arith) (omega arith) (λ _ _ _. refl) l used g refl (below.written g (entry_table l e g within)) in
      written_from pointers out base used top ws (suc l) k g (stands_table pointers (Under pointers out base used top ws (suc l) g) base used top (suc l) (g / entry_size (suc l)) word (window_of ws (suc l) g) w (rw within some) (rw within part) (reference_is pointers base used top word is more) (rw c there))

  table_paths : (g h l2 j k2 : ℕ) → InEntry (suc l) e g → InEntry (suc l) e h → Below out base ws (suc l) k g l2 k2 → Below out base ws (suc l) k h j k2 → (l2 ≡ j) × (g / entry_size (suc l2) ≡ h / entry_size (suc l2))
  table_paths g h l2 j k2 a b c d =
      elim (down g l2 k2 a c) [
        | inl e1 ↦ elim (down h j k2 b d) [
          | inl e2 ↦ (e1.0 ∙ sym e2.0, rw e1.0 (a ∙ sym b))
          | inr d2 ↦ let lt = within_below h j k2 b d2 in absurd (omega (arith, e1.1))
        ]
        | inr d1 ↦ elim (down h j k2 b d) [
          | inl e2 ↦ let lt = within_below g l2 k2 a d1 in absurd (omega (arith, e2.1))
          | inr d2 ↦ below.paths g h l2 j k2 (entry_table l e g a) (entry_table l e h b) d1 d2
        ]
      ]

  table_reached : (k2 : ℕ) → used ≤ k2 → k2 < top → IsTableReached out base ws (suc l) k (InEntry (suc l) e) k2
  table_reached k2 a b =
      elim (cases_eq k2 used) [
        | inl same ↦
            let g = entry_size (suc l) * e in
            let within : g / entry_size (suc l) ≡ e = first_address (suc l) e in
            record { addr = g; depth = l; within = within; below = up g l k2 within (inl (refl, same)) }
        | inr ne ↦
            let r = below.reached k2 (omega arith) b in
            let within = table_entry_of l e r.addr r.within in
            record { addr = r.addr; depth = r.depth; within = within; below = up r.addr r.depth k2 within (inr r.below) }
      ]

  table_order : (h l2 j k2 : ℕ) → InEntry (suc l) e h → Below out base ws (suc l) k h l2 k2 → used ≤ j → j ≤ k2 → IsTableReached out base ws (suc l) k (λ g. InEntry (suc l) e g × (g ≤ h)) j
  table_order h l2 j k2 a b c d =
      elim (cases_eq j used) [
        | inl same ↦
            record { addr = h; depth = l; within = (a, omega arith); below = up h l j a (inl (refl, same)) }
        | inr ne ↦ elim (down h l2 k2 a b) [
          | inl e1 ↦ absurd (omega (arith, e1.1))
          | inr d1 ↦
              let r = below.order h l2 j k2 (entry_table l e h a) d1 (omega arith) d in
              let within = table_entry_of l e r.addr r.within.0 in
              record { addr = r.addr; depth = r.depth; within = (within, r.within.1); below = up r.addr r.depth j within (inr r.below) }
        ]
      ]

  table_ascending : (g l2 k2 j i : ℕ) → InEntry (suc l) e g → Below out base ws (suc l) k g l2 k2 → Below out base ws (suc l) k g j i → j < l2 → k2 < i
  table_ascending g l2 k2 j i a b c lt =
      elim (down g l2 k2 a b) [
        | inl e1 ↦ elim (down g j i a c) [
          | inl e2 ↦ absurd (omega (arith, e1.0, e2.0, lt))
          | inr d2 ↦ let up = within_below g j i a d2 in omega (arith, e1.1, up)
        ]
        | inr d1 ↦ elim (down g j i a c) [
          | inl e2 ↦ let low = below_lower out base ws l used g l2 k2 d1 in absurd (omega (arith, e2.0, low, lt))
          | inr d2 ↦ below.ascending g l2 k2 j i (entry_table l e g a) d1 d2 lt
        ]
      ]

  pub numbered_table : AreNumbered pointers out base used top ws (suc l) k (InEntry (suc l) e)
  numbered_table =
      record {
        written = table_written;
        paths = table_paths;
        reached = table_reached;
        order = table_order;
        ascending = table_ascending;
      }

-- ---- one entry after others

module _ (pointers : Rights) (out new : ℕ → ℕ) (base used top result : ℕ) (ws : List Window) (l k : ℕ) (P Q R : ℕ → Type 0) (some : used ≤ top) (more : top ≤ result) (split : (g : ℕ) → R g → P g ⊎ Q g) (left : (g : ℕ) → P g → R g) (right : (g : ℕ) → Q g → R g) (before : (g h : ℕ) → P g → Q h → g ≤ h) (same : (j : ℕ) → 512 * used ≤ j → j < 512 * top → new j ≡ out j) (at : (g : ℕ) → P g → word_of new l k g ≡ word_of out l k g) (old : AreNumbered pointers out base used top ws l k P) (next : AreNumbered pointers new base top result ws l k Q) where
  old_written : (g : ℕ) → P g → IsWritten pointers new base used top ws l k g
  old_written g p = keeps pointers out new base used top used top ws (omega arith) (omega arith) same l k g (at g p) (old.written g p)

  old_below : (g l2 k2 : ℕ) → P g → Below new base ws l k g l2 k2 → Below out base ws l k g l2 k2
  old_below g l2 k2 p b = below_keeps pointers new out base used top ws (λ j x y. sym (same j x y)) l k g l2 k2 (sym (at g p)) (old_written g p) b

  new_below : (g l2 k2 : ℕ) → P g → Below out base ws l k g l2 k2 → Below new base ws l k g l2 k2
  new_below g l2 k2 p b = below_keeps pointers out new base used top ws same l k g l2 k2 (at g p) (old.written g p) b

  old_low : (g l2 k2 : ℕ) → P g → Below new base ws l k g l2 k2 → k2 < top
  old_low g l2 k2 p b = let w = below_within pointers new base used top ws l k g l2 k2 (old_written g p) b in w.1

  next_high : (g l2 k2 : ℕ) → Q g → Below new base ws l k g l2 k2 → top ≤ k2
  next_high g l2 k2 q b = let w = below_within pointers new base top result ws l k g l2 k2 (next.written g q) b in w.0

  both_written : (g : ℕ) → R g → IsWritten pointers new base used result ws l k g
  both_written g r =
      elim (split g r) [
        | inl p ↦ keeps pointers new new base used top used result ws (omega arith) more (λ _ _ _. refl) l k g refl (old_written g p)
        | inr q ↦ keeps pointers new new base top result used result ws some (omega arith) (λ _ _ _. refl) l k g refl (next.written g q)
      ]

  both_paths : (g h l2 j k2 : ℕ) → R g → R h → Below new base ws l k g l2 k2 → Below new base ws l k h j k2 → (l2 ≡ j) × (g / entry_size (suc l2) ≡ h / entry_size (suc l2))
  both_paths g h l2 j k2 a b c d =
      elim (split g a) [
        | inl p ↦ elim (split h b) [
          | inl p2 ↦ old.paths g h l2 j k2 p p2 (old_below g l2 k2 p c) (old_below h j k2 p2 d)
          | inr q2 ↦ let x = old_low g l2 k2 p c in let y = next_high h j k2 q2 d in absurd (omega arith)
        ]
        | inr q ↦ elim (split h b) [
          | inl p2 ↦ let x = old_low h j k2 p2 d in let y = next_high g l2 k2 q c in absurd (omega arith)
          | inr q2 ↦ next.paths g h l2 j k2 q q2 c d
        ]
      ]

  both_reached : (k2 : ℕ) → used ≤ k2 → k2 < result → IsTableReached new base ws l k R k2
  both_reached k2 a b =
      elim (cases_lt k2 top) [
        | inr high ↦
            let r = next.reached k2 high b in
            record { addr = r.addr; depth = r.depth; within = right r.addr r.within; below = r.below }
        | inl low ↦
            let r = old.reached k2 a low in
            record { addr = r.addr; depth = r.depth; within = left r.addr r.within; below = new_below r.addr r.depth k2 r.within r.below }
      ]

  both_order : (h l2 j k2 : ℕ) → R h → Below new base ws l k h l2 k2 → used ≤ j → j ≤ k2 → IsTableReached new base ws l k (λ g. R g × (g ≤ h)) j
  both_order h l2 j k2 a b c d =
      elim (split h a) [
        | inl p ↦
            let r = old.order h l2 j k2 p (old_below h l2 k2 p b) c d in
            record { addr = r.addr; depth = r.depth; within = (left r.addr r.within.0, r.within.1); below = new_below r.addr r.depth j r.within.0 r.below }
        | inr q ↦ elim (cases_lt j top) [
          | inr high ↦
              let r = next.order h l2 j k2 q b high d in
              record { addr = r.addr; depth = r.depth; within = (right r.addr r.within.0, r.within.1); below = r.below }
          | inl low ↦
              let r = old.reached j c low in
              record { addr = r.addr; depth = r.depth; within = (left r.addr r.within, before r.addr h r.within q); below = new_below r.addr r.depth j r.within r.below }
        ]
      ]

  both_ascending : (g l2 k2 j i : ℕ) → R g → Below new base ws l k g l2 k2 → Below new base ws l k g j i → j < l2 → k2 < i
  both_ascending g l2 k2 j i a b c lt =
      elim (split g a) [
        | inl p ↦ old.ascending g l2 k2 j i p (old_below g l2 k2 p b) (old_below g j i p c) lt
        | inr q ↦ next.ascending g l2 k2 j i q b c lt
      ]

  pub numbered_both : AreNumbered pointers new base used result ws l k R
  numbered_both =
      record {
        written = both_written;
        paths = both_paths;
        reached = both_reached;
        order = both_order;
        ascending = both_ascending;
      }

-- ---- sets of addresses

pub numbered_same : (pointers : Rights) (out : ℕ → ℕ) (base used top : ℕ) (ws : List Window) (l k : ℕ) (P Q : ℕ → Type 0) → ((g : ℕ) → P g → Q g) → ((g : ℕ) → Q g → P g) → AreNumbered pointers out base used top ws l k P → AreNumbered pointers out base used top ws l k Q
numbered_same pointers out base used top ws l k P Q to from old =
    record {
      written = λ g q. old.written g (from g q);
      paths = λ g h l2 j k2 a b c d. old.paths g h l2 j k2 (from g a) (from h b) c d;
      reached = λ k2 a b. let r = old.reached k2 a b in record { addr = r.addr; depth = r.depth; within = to r.addr r.within; below = r.below };
      order = λ h l2 j k2 a b c d. let r = old.order h l2 j k2 (from h a) b c d in record { addr = r.addr; depth = r.depth; within = (to r.addr r.within.0, r.within.1); below = r.below };
      ascending = λ g l2 k2 j i a b c lt. old.ascending g l2 k2 j i (from g a) b c lt;
    }

earlier : (l g h e : ℕ) → g / entry_size l < e → h / entry_size l ≡ e → g ≤ h
earlier l g h e lt eq =
    let a = around l g in
    let b = around l h in
    let here : entry_size l * e ≤ h = rw eq at b.0 in
    let next : g / entry_size l + 1 ≤ e = omega arith in
    let m : entry_size l * (g / entry_size l + 1) ≤ entry_size l * e = mul-le-mul_left (entry_size l) next in
    omega (arith, a.1, here, m)

-- one entry more of a table
pub one_more : (pointers : Rights) (out new : ℕ → ℕ) (base used top result : ℕ) (ws : List Window) (l k p i : ℕ) → k < used → used ≤ top → top ≤ result → i < 512 → AreNumbered pointers out base used top ws l k (InFirst l p i) → AreNumbered pointers new base top result ws l k (InEntry l (512 * p + i)) → ((j : ℕ) → j < 512 * top → j ≢ 512 * k + (512 * p + i) % 512 → new j ≡ out j) → AreNumbered pointers new base used result ws l k (InFirst l p (i + 1))
one_more pointers out new base used top result ws l k p i in_used some more small old next rest =
    numbered_both pointers out new base used top result ws l k (InFirst l p i) (InEntry l (512 * p + i)) (InFirst l p (i + 1)) some more (λ g r. elim (cases_eq (g / entry_size l) (512 * p + i)) [
      | inl e ↦ inr e
      | inr ne ↦ inl (r.0, omega (arith, r.1))
    ]) (λ g a. (a.0, omega (arith, a.1))) (λ g e. (omega arith, omega arith)) (λ g h a b. earlier l g h (512 * p + i) a.1 b) (λ j a b. rest j b (λ h. omega arith)) (λ g a. let a0 = a.0 in let a1 = a.1 in rest _ (omega arith) (λ h. omega arith)) old next

-- all entries of a table
pub whole_table : (pointers : Rights) (out : ℕ → ℕ) (base used top : ℕ) (ws : List Window) (l k p i : ℕ) → i ≡ 512 → AreNumbered pointers out base used top ws l k (InFirst l p i) → AreNumbered pointers out base used top ws l k (InTable l p)
whole_table pointers out base used top ws l k p i all old =
    numbered_same pointers out base used top ws l k (InFirst l p i) (InTable l p) (λ g a. a.0) (λ g a. (a, omega arith)) old

-- ---- at a level that isn't the lowest

pub span_up : (l : ℕ) → l ≢ 0 → entry_size (suc (l - 1)) ≡ entry_size l
span_up l ne = let e : suc (l - 1) ≡ l = omega arith in ap entry_size e

pub numbered_table_at : (pointers : Rights) (out : ℕ → ℕ) (base used top : ℕ) (ws : List Window) (l k e : ℕ) (w : Window) → l ≢ 0 → out (512 * k + e % 512) ≡ table_entry pointers (base + used) → window_touching ws (entry_size l * e) (entry_size l) ≡ Some w → is_whole w l e ≡ false → used < top → AreNumbered pointers out base (used + 1) top ws (l - 1) used (InTable (l - 1) e) → AreNumbered pointers out base used top ws l k (InEntry l e)
numbered_table_at pointers out base used top ws zero k e w ne at some part more below = absurd (ne refl)
numbered_table_at pointers out base used top ws (suc l) k e w ne at some part more below =
    let f : suc l - 1 ≡ l = omega arith in
    numbered_table pointers out base used top ws l k e w at some part more (rw f at below)

-- ---- numbers of entries

pub entry_small : (l e n : ℕ) → entry_size l * (e + 1) ≤ n → e + 1 ≤ n
entry_small l e n h = omega (arith, mul-le-mul_left (e + 1) (span_some l))

pub entry_in : (l p i n : ℕ) → entry_size (suc l) * (p + 1) ≤ n → i < 512 → entry_size l * (512 * p + i + 1) ≤ n
entry_in l p i n h lt =
    let a : 512 * p + i + 1 ≤ 512 * p + 512 = omega arith in
    omega (arith, mul-le-mul_left (entry_size l) a)
