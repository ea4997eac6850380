-- Which tables walks read.
use Rattle.std.proofs.Common.{◌≡◌, inl, inr, ℕ, zero, suc, ◌+◌, ◌-◌, ◌*◌, ◌/◌, ◌^◌, ◌<◌, ◌≤◌, true, false, List, [], ◌∷◌, length, get_or, Option, Some, None, refl, ap, sym, ◌∙◌, arith, All, subst}
use Rattle.ept_emit.specs.declared.window.Window.{Window}
use Rattle.machine_layout.specs.Walks.{entry_size, index_at, entry_address, addresses_from, goes_on}
use Rattle.policy_types.specs.declared.rights.Rights.TheVariants.{Rwx}
use Rattle.ept_emit.specs.Entries.{IsEmittable, is_whole, leaf_entry}
use Rattle.ept_emit.specs.Tables.{IsWritten, child}
use Rattle.ept_emit.proofs.EntryBits.{goes_free, goes_page, goes_table}
use Rattle.ept_emit.proofs.Walked.{Has, mapped_on}
use Rattle.ept_emit.proofs.Written.{Under, Meets, Free, Whole, Part, kind_of, word_of, window_of, written_parts, none_of, leaf_of, child_of, leads_none, leads_leaf, leads_to, leads_from, below_parts, below_from, below_lowest}

-- address i of those read is in a table that is met
pub record IsMet (out : ℕ → ℕ) (base hi : ℕ) (ws : List Window) (l k addr i address : ℕ) : Type 0 where
  pub table : ℕ
  pub meets : Meets out base ws l k addr (l - i) table
  pub depth : i ≤ l
  pub low : 4096 * (base + table) ≤ address
  pub high : address + 8 ≤ 4096 * (base + table) + 4096

-- a table that is met is among those read
pub record IsRead (addresses : List ℕ) (base l l2 k2 : ℕ) : Type 0 where
  pub level : l2 ≤ l
  pub within : l - l2 < length addresses
  pub here : get_or addresses (l - l2) 0 / 4096 ≡ base + k2

met_first : (out : ℕ → ℕ) (base hi : ℕ) (ws : List Window) (l k addr : ℕ) → IsMet out base hi ws l k addr 0 (entry_address (base + k) (index_at l addr))
met_first out base hi ws l k addr =
    record {
      table = k;
      meets = inl (omega arith, refl);
      depth = omega arith;
      low = omega arith;
      high = omega arith;
    }

read_first : (base l k i : ℕ) (rest : List ℕ) → i < 512 → IsRead (entry_address (base + k) i ∷ rest) base l l k
read_first base l k i rest lt =
    let e : l - l ≡ 0 = omega arith in
    record {
      level = omega arith;
      within = omega arith;
      here = rw e (omega arith);
    }

module _ (entry : ℕ → ℕ → Option ℕ) (out : ℕ → ℕ) (base lo hi : ℕ) (ws : List Window) (addr : ℕ) (small : base + hi ≤ 2 ^ 28) (has : Has entry out base hi) (ok : All IsEmittable ws) where
  abbrev after : ℕ → ℕ → List ℕ
  after l k = goes_on (suc l) (entry (base + k) (index_at (suc l) addr)) [] (λ t. addresses_from entry addr l t)

  after_free : (l k : ℕ) → k < hi → window_of ws (suc l) addr ≡ None → IsWritten Rwx out base lo hi ws (suc l) k addr → after l k ≡ []
  after_free l k lt none h =
      let word = none_of Rwx (Under Rwx out base lo hi ws (suc l) addr) base lo hi (suc l) (addr / entry_size (suc l)) (word_of out (suc l) k addr) (window_of ws (suc l) addr) none (written_parts Rwx out base lo hi ws (suc l) k addr h) in
      ap (λ o. goes_on (suc l) o [] (λ t. addresses_from entry addr l t)) (has k (index_at (suc l) addr) lt (omega arith)) ∙ goes_free (suc l) (word_of out (suc l) k addr) [] (λ t. addresses_from entry addr l t) word

  after_page : (l k : ℕ) (w : Window) → k < hi → window_of ws (suc l) addr ≡ Some w → is_whole w (suc l) (addr / entry_size (suc l)) ≡ true → IsWritten Rwx out base lo hi ws (suc l) k addr → after l k ≡ []
  after_page l k w lt some whole h =
      let e = addr / entry_size (suc l) in
      let m = mapped_on ws (suc l) addr w ok some whole in
      let word = leaf_of Rwx (Under Rwx out base lo hi ws (suc l) addr) base lo hi (suc l) e (word_of out (suc l) k addr) (window_of ws (suc l) addr) w some whole (written_parts Rwx out base lo hi ws (suc l) k addr h) in
      ap (λ o. goes_on (suc l) o [] (λ t. addresses_from entry addr l t)) (has k (index_at (suc l) addr) lt (omega arith))
      ∙ (ap (λ q. goes_on (suc l) (Some q) [] (λ t. addresses_from entry addr l t)) word
      ∙ goes_page (suc l) (leaf_entry w (suc l) e) [] (λ t. addresses_from entry addr l t) m.present m.fine m.leaf)

  after_table : (l k : ℕ) (w : Window) → k < hi → window_of ws (suc l) addr ≡ Some w → is_whole w (suc l) (addr / entry_size (suc l)) ≡ false → IsWritten Rwx out base lo hi ws (suc l) k addr → after l k ≡ addresses_from entry addr l (base + child base (word_of out (suc l) k addr))
  after_table l k w lt some part h =
      let q = child_of Rwx out base lo hi ws l k addr w some part h in
      let c = child base (word_of out (suc l) k addr) in
      ap (λ o. goes_on (suc l) o [] (λ t. addresses_from entry addr l t)) (has k (index_at (suc l) addr) lt (omega arith))
      ∙ goes_table l (word_of out (suc l) k addr) (base + c) [] (λ t. addresses_from entry addr l t) q.0.is (omega (arith, q.0.high))

  none_after : (xs : List ℕ) (i : ℕ) → xs ≡ [] → i < length xs → ⊥
  none_after xs i e lt = let z = rw e at lt in omega arith

  pub met : (l k i : ℕ) (d : ℕ) → k < hi → IsWritten Rwx out base lo hi ws l k addr → i < length (addresses_from entry addr l (base + k)) → IsMet out base hi ws l k addr i (get_or (addresses_from entry addr l (base + k)) i d)
  met zero k zero d lt h within = met_first out base hi ws zero k addr
  met zero k (suc i) d lt h within = absurd (omega arith)
  met (suc l) k zero d lt h within = met_first out base hi ws (suc l) k addr
  met (suc l) k (suc i) d lt h within =
      let c = child base (word_of out (suc l) k addr) in
      elim (kind_of ws (suc l) addr) [
        | Free none ↦ absurd (none_after (after l k) i (after_free l k lt none h) (omega arith))
        | Whole w some whole ↦ absurd (none_after (after l k) i (after_page l k w lt some whole h) (omega arith))
        | Part w some part ↦
            let e = after_table l k w lt some part h in
            let q = child_of Rwx out base lo hi ws l k addr w some part h in
            let inside : i < length (after l k) = omega arith in
            let r = met l c i d q.0.high q.1 (rw e at inside) in
            let same : suc l - suc i ≡ l - i = omega arith in
            record {
              table = r.table;
              meets = rw same (inr (below_from out base ws l k addr (l - i) r.table (leads_from (λ c. Meets out base ws l c addr (l - i) r.table) c (suc l) (addr / entry_size (suc l)) (window_of ws (suc l) addr) w some part r.meets)));
              depth = omega (arith, r.depth);
              low = subst (λ (xs : List ℕ). 4096 * (base + r.table) ≤ get_or xs i d) (sym e) r.low;
              high = subst (λ (xs : List ℕ). get_or xs i d + 8 ≤ 4096 * (base + r.table) + 4096) (sym e) r.high;
            }
      ]

  -- deeper by one
  read_next : (l k l2 k2 : ℕ) (p : ℕ) (xs ys : List ℕ) → xs ≡ ys → IsRead ys base l l2 k2 → IsRead (p ∷ xs) base (suc l) l2 k2
  read_next l k l2 k2 p xs ys e r =
      let next : suc l - l2 ≡ suc (l - l2) = omega (arith, r.level) in
      record {
        level = omega (arith, r.level);
        within = rw (next, e) (omega (arith, r.within));
        here = rw (next, e) r.here;
      }

  pub read : (l k l2 k2 : ℕ) → k < hi → IsWritten Rwx out base lo hi ws l k addr → Meets out base ws l k addr l2 k2 → IsRead (addresses_from entry addr l (base + k)) base l l2 k2
  read zero k l2 k2 lt h (inl e) = rw (e.0, e.1) (read_first base zero k (index_at zero addr) [] (omega arith))
  read zero k l2 k2 lt h (inr b) = absurd (below_lowest out base ws k addr l2 k2 b)
  read (suc l) k l2 k2 lt h (inl e) = rw (e.0, e.1) (read_first base (suc l) k (index_at (suc l) addr) (after l k) (omega arith))
  read (suc l) k l2 k2 lt h (inr b) =
      let c = child base (word_of out (suc l) k addr) in
      let deeper : ℕ → Type 0 = λ c. Meets out base ws l c addr l2 k2 in
      let p = below_parts out base ws l k addr l2 k2 b in
      elim (kind_of ws (suc l) addr) [
        | Free none ↦ absurd (leads_none deeper c (suc l) (addr / entry_size (suc l)) (window_of ws (suc l) addr) none p)
        | Whole w some whole ↦ absurd (leads_leaf deeper c (suc l) (addr / entry_size (suc l)) (window_of ws (suc l) addr) w some whole p)
        | Part w some part ↦
            let q = child_of Rwx out base lo hi ws l k addr w some part h in
            read_next l k l2 k2 (entry_address (base + k) (index_at (suc l) addr)) (after l k) (addresses_from entry addr l (base + c)) (after_table l k w lt some part h) (read l c l2 k2 q.0.high q.1 (leads_to deeper c (suc l) (addr / entry_size (suc l)) (window_of ws (suc l) addr) w some part p))
      ]
