-- Walks of second-level tables go where the windows lead.
use Rattle.std.proofs.Common.{◌≡◌, ℕ, zero, suc, ◌+◌, ◌-◌, ◌*◌, ◌/◌, ◌%◌, ◌^◌, ◌<◌, ◌≤◌, ◌&&◌, true, false, Bool, List, Option, Some, None, All, refl, sym, ap, ◌∙◌, arith}
use Rattle.std.specs.Prelude.{if◌then◌else◌, option_and_then}
use Rattle.std.proofs.lemmas.Bool.{and_from, and_left, eq-eqb, ne_eqb}
use Rattle.dma_emit.specs.Reached.{device_access_kind}
use Rattle.dma_emit.specs.Ready.{IsForDevices}
use Rattle.dma_tables.specs.DmaWalk.{are_zero, has_right, is_paging, next_page, page_in, paged}
use Rattle.ept_emit.specs.Emitted.{window_at}
use Rattle.ept_emit.specs.Entries.{IsEmittable, is_whole, leaf_entry, level_of, table_entry, type_of}
use Rattle.ept_emit.specs.Tables.{IsWritten, child}
use Rattle.ept_emit.specs.declared.window.Leaf.{Leaf}
use Rattle.ept_emit.specs.declared.window.Leaf.TheVariants.{Small}
use Rattle.ept_emit.specs.declared.window.Window.{Window}
use Rattle.ept_emit.proofs.Found.{All_on, around, none_within, not_lowest, whole_parts, whole_within}
use Rattle.ept_emit.proofs.Walked.{Has, fits, mapped_on}
use Rattle.ept_emit.proofs.Written.{Under, Free, Whole, Part, child_of, kind_of as kind_at, leaf_of, none_of, window_of, word_of, written_parts}
use Rattle.machine_layout.specs.Walks.{bits_of, entry_size, index_at}
use Rattle.policy_lawful.specs.Rights.{allows, may_execute, rights_bits}
use Rattle.policy_lawful.specs.rights.Caching.{Caching}
use Rattle.policy_lawful.specs.rights.Caching.TheVariants.{Uc}
use Rattle.policy_lawful.specs.rights.Rights.{Rights}
use Rattle.policy_lawful.specs.rights.Rights.TheVariants.{R, Rw, Rx, Rwx}

-- ---- what an entry says

-- the page that it refers to, if it is one with the right
abbrev pub read : Bool → ℕ → Option ℕ
read write entry = if is_paging write entry then Some (page_in entry) else None

read_some : (write : Bool) (entry page : ℕ) → is_paging write entry ≡ true → page_in entry ≡ page → read write entry ≡ Some page
read_some write entry page h e = ap (λ b. if b then Some (page_in entry) else None) h ∙ ap Some e

read_none : (write : Bool) (entry : ℕ) → is_paging write entry ≡ false → read write entry ≡ None
read_none write entry h = ap (λ b. if b then Some (page_in entry) else None) h

read_zero : (write : Bool) (entry : ℕ) → entry ≡ 0 → read write entry ≡ None
read_zero true entry e = ap (read true) e
read_zero false entry e = ap (read false) e

-- all bits are zero but those of an address and the two rights
rest_zero : (x r : ℕ) → x % 4096 ≡ 0 → x < 2 ^ 40 → r < 4 → (are_zero (x + r) 2 11 && are_zero (x + r) 40 63) ≡ true
rest_zero x r a b c =
    let low : bits_of (x + r) 2 11 ≡ 0 = omega arith in
    let high : bits_of (x + r) 40 63 ≡ 0 = omega arith in
    and_from _ _ (eq-eqb _ _ low) (eq-eqb _ _ high)

page_of_entry : (x r : ℕ) → x % 4096 ≡ 0 → x < 2 ^ 40 → r < 4 → page_in (x + r) ≡ x / 4096
page_of_entry x r a b c = omega arith

may_read : (x r : ℕ) → x % 4096 ≡ 0 → r % 2 ≡ 1 → has_right false (x + r) ≡ true
may_read x r a odd = let bit : bits_of (x + r) 0 0 ≡ 1 = omega arith in eq-eqb _ _ bit

may_write_three : (x : ℕ) → x % 4096 ≡ 0 → has_right true (x + 3) ≡ true
may_write_three x a = let bit : bits_of (x + 3) 1 1 ≡ 1 = omega arith in eq-eqb _ _ bit

not_write_one : (x : ℕ) → x % 4096 ≡ 0 → has_right true (x + 1) ≡ false
not_write_one x a = let bit : bits_of (x + 1) 1 1 ≡ 0 = omega arith in ne_eqb _ _ (λ h. omega arith)

reads_with : (write : Bool) (x r : ℕ) → x % 4096 ≡ 0 → x < 2 ^ 40 → r < 4 → has_right write (x + r) ≡ true → read write (x + r) ≡ Some (x / 4096)
reads_with write x r a b c h = read_some write (x + r) (x / 4096) (and_from _ _ h (rest_zero x r a b c)) (page_of_entry x r a b c)

-- an entry of a window's page
reads_page : (rights : Rights) (write : Bool) (x : ℕ) → may_execute rights ≡ false → x % 4096 ≡ 0 → x < 2 ^ 40
    → read write (x + rights_bits rights) ≡ (if allows rights (device_access_kind write) then Some (x / 4096) else None)
reads_page R true x e a b = read_none true (x + 1) (and_left _ _ (not_write_one x a))
reads_page R false x e a b = reads_with false x 1 a b (omega arith) (may_read x 1 a refl)
reads_page Rw true x e a b = reads_with true x 3 a b (omega arith) (may_write_three x a)
reads_page Rw false x e a b = reads_with false x 3 a b (omega arith) (may_read x 3 a refl)
reads_page Rx write x e a b = absurd (cc)
reads_page Rwx write x e a b = absurd (cc)

-- an entry that references a table
reads_table : (write : Bool) (p : ℕ) → p < 2 ^ 28 → read write (table_entry Rw p) ≡ Some p
reads_table true p small =
    let page : 4096 * p / 4096 ≡ p = omega arith in
    reads_with true (4096 * p) 3 (omega arith) (omega arith) (omega arith) (may_write_three (4096 * p) (omega arith)) ∙ ap Some page
reads_table false p small =
    let page : 4096 * p / 4096 ≡ p = omega arith in
    reads_with false (4096 * p) 3 (omega arith) (omega arith) (omega arith) (may_read (4096 * p) 3 (omega arith) refl) ∙ ap Some page

-- ---- the walk, level by level

abbrev pub descend : (ℕ → ℕ → Option ℕ) → ℕ → Bool → ℕ → ℕ → Option ℕ
descend word addr write zero table = next_page word addr write 0 table
descend word addr write (suc l) table = option_and_then (descend word addr write l) (next_page word addr write (suc l) table)

chained : (f g h : ℕ → Option ℕ) (o : Option ℕ) → option_and_then f (option_and_then g (option_and_then h o)) ≡ option_and_then (λ t. option_and_then (λ u. option_and_then f (g u)) (h t)) o
chained f g h None = refl
chained f g h (Some t) =
    elim (h t) as (λ q. option_and_then f (option_and_then g q) ≡ option_and_then (λ u. option_and_then f (g u)) q) [ None ↦ refl | Some u ↦ refl ]

pub paged_is : (word : ℕ → ℕ → Option ℕ) (addr : ℕ) (write : Bool) (table : ℕ) → paged word addr write table ≡ descend word addr write 3 table
paged_is word addr write table = chained (next_page word addr write 0) (next_page word addr write 1) (next_page word addr write 2) (next_page word addr write 3 table)

-- ---- where it ends

-- the page that a window leads to, where it has the right
abbrev pub led_page : Option Window → ℕ → Bool → Option ℕ
led_page None addr write = None
led_page (Some w) addr write = if allows w.rights (device_access_kind write) then Some ((w.address + (addr - w.guest)) / 4096) else None

small_leaf : (leaf : Leaf) → leaf ≡ Small → level_of leaf ≡ 0
small_leaf leaf e = ap level_of e

no_type : (caching : Caching) → caching ≡ Uc → type_of caching ≡ 0
no_type caching e = ap type_of e

-- nothing above the lowest level maps a page
not_whole : (w : Window) (l e : ℕ) → IsForDevices w → is_whole w (suc l) e ≡ true → ⊥
not_whole w l e h whole =
    let p = whole_parts w (suc l) e (λ z. omega arith) whole in
    let none = small_leaf w.leaf h.leaf in
    omega (arith, p.0, none)

module _ (word : ℕ → ℕ → Option ℕ) (out : ℕ → ℕ) (base lo hi : ℕ) (ws : List Window) (addr : ℕ) (write : Bool) (small : base + hi ≤ 2 ^ 28) (has : Has word out base hi) (ok : All IsEmittable ws) (fine : All IsForDevices ws) where
  at_entry : (l k : ℕ) → k < hi → next_page word addr write l (base + k) ≡ read write (word_of out l k addr)
  at_entry l k lt = ap (option_and_then (read write)) (has k (index_at l addr) lt (omega arith))

  word_none : (l k : ℕ) → window_of ws l addr ≡ None → IsWritten Rw out base lo hi ws l k addr → word_of out l k addr ≡ 0
  word_none l k none h =
      none_of Rw (Under Rw out base lo hi ws l addr) base lo hi l (addr / entry_size l) (word_of out l k addr) (window_of ws l addr) none (written_parts Rw out base lo hi ws l k addr h)

  free_at : (l : ℕ) → window_of ws l addr ≡ None → window_at ws addr ≡ None
  free_at l none =
      let a = around l addr in
      none_within ws (entry_size l * (addr / entry_size l)) (entry_size l) addr none a.0 a.1

  lowest_page : (k : ℕ) (w : Window) → k < hi → window_of ws 0 addr ≡ Some w → is_whole w 0 (addr / entry_size 0) ≡ true → IsWritten Rw out base lo hi ws 0 k addr
      → next_page word addr write 0 (base + k) ≡ led_page (window_at ws addr) addr write
  lowest_page k w lt some whole h =
      let e = addr / 4096 in
      let a = around 0 addr in
      let f = fits ws 0 e w ok some whole in
      let m = mapped_on ws 0 addr w ok some whole in
      let d = All_on IsForDevices ws (4096 * e) 4096 w fine some in
      let ready = All_on IsEmittable ws (4096 * e) 4096 w ok some in
      let x = w.address + (4096 * e - w.guest) in
      let none = no_type w.caching d.caching in
      let is : word_of out 0 k addr ≡ leaf_entry w 0 e = leaf_of Rw (Under Rw out base lo hi ws 0 addr) base lo hi 0 e (word_of out 0 k addr) (window_of ws 0 addr) w some whole (written_parts Rw out base lo hi ws 0 k addr h) in
      let plain : leaf_entry w 0 e ≡ x + rights_bits w.rights = omega (arith, none) in
      let here : window_at ws addr ≡ Some w = whole_within ws (4096 * e) 4096 addr w some a.0 a.1 f.begins f.ends in
      let same : x / 4096 ≡ (w.address + (addr - w.guest)) / 4096 = omega (arith, f.begins, a.0, a.1, ready.guest, ready.address) in
      at_entry 0 k lt
      ∙ (ap (read write) (is ∙ plain)
      ∙ (reads_page w.rights write x d.rights m.pages m.small
      ∙ (ap (λ p. if allows w.rights (device_access_kind write) then Some p else None) same
      ∙ ap (λ o. led_page o addr write) (sym here))))

  free_page : (l k : ℕ) → k < hi → window_of ws l addr ≡ None → IsWritten Rw out base lo hi ws l k addr → next_page word addr write l (base + k) ≡ None
  free_page l k lt none h = at_entry l k lt ∙ read_zero write (word_of out l k addr) (word_none l k none h)

  -- from any table on
  pub descended : (l k : ℕ) → k < hi → IsWritten Rw out base lo hi ws l k addr → descend word addr write l (base + k) ≡ led_page (window_at ws addr) addr write
  descended zero k lt h =
      elim (kind_at ws zero addr) [
        | Free none ↦ free_page zero k lt none h ∙ ap (λ o. led_page o addr write) (sym (free_at zero none))
        | Whole w some whole ↦ lowest_page k w lt some whole h
        | Part w some part ↦ absurd (not_lowest w zero (addr / entry_size zero) part refl)
      ]
  descended (suc l) k lt h =
      elim (kind_at ws (suc l) addr) [
        | Free none ↦
            ap (option_and_then (descend word addr write l)) (free_page (suc l) k lt none h)
            ∙ ap (λ o. led_page o addr write) (sym (free_at (suc l) none))
        | Whole w some whole ↦
            absurd (not_whole w l (addr / entry_size (suc l)) (All_on IsForDevices ws (entry_size (suc l) * (addr / entry_size (suc l))) (entry_size (suc l)) w fine some) whole)
        | Part w some part ↦
            let q = child_of Rw out base lo hi ws l k addr w some part h in
            let c = child base (word_of out (suc l) k addr) in
            let next : next_page word addr write (suc l) (base + k) ≡ Some (base + c) =
            at_entry (suc l) k lt ∙ (ap (read write) q.0.is ∙ reads_table write (base + c) (omega (arith, q.0.high))) in
            ap (option_and_then (descend word addr write l)) next ∙ descended l c q.0.high q.1
      ]
