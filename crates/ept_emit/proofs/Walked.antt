-- Walks over what is written go where the windows lead.
use Rattle.std.proofs.Common.{◌≡◌, inl, inr, ℕ, zero, suc, ◌+◌, ◌-◌, ◌*◌, ◌/◌, ◌%◌, ◌^◌, ◌<◌, ◌≤◌, ◌==◌, true, false, Bool, List, Option, Some, None, refl, ap, sym, ◌∙◌, arith, All, subst}
use Rattle.std.specs.Prelude.{bit_and, if◌then◌else◌, option_map}
use Rattle.std.proofs.lemmas.Bool.{and_from, or_right, le-leb, cases_eq, true≢false}
use Rattle.std.proofs.Math.Nat.{mod-eq-sub-mul-div}
use Rattle.ept_emit.specs.declared.window.Leaf.{Leaf}
use Rattle.ept_emit.specs.declared.window.Leaf.TheVariants.{Small, Large, Huge}
use Rattle.ept_emit.specs.declared.window.Window.{Window}
use Rattle.ept_emit.specs.Pages.{AreApart, ranges_of}
use Rattle.machine_layout.specs.declared.walk.Walk.{Walk}
use Rattle.machine_layout.specs.declared.walk.Walk.TheVariants.{At, Violation, Misconfigured}
use Rattle.machine_layout.specs.Walks.{bits_of, entry_size, index_at, reads, leaf_end, walk_from, is_present, is_misconfigured, is_leaf, end_entry_size, end_entry, goes_on}
use Rattle.policy_types.specs.Rights.{rights_bits}
use Rattle.policy_types.specs.declared.rights.Rights.TheVariants.{Rwx}
use Rattle.ept_emit.specs.Entries.{IsEmittable, is_whole, leaf_entry, level_of, type_of, window_touching}
use Rattle.ept_emit.specs.Tables.{IsWritten, child}
use Rattle.ept_emit.specs.Emitted.{window_at, IsInside, IsGreatestSize}
use Rattle.ept_emit.proofs.EntryBits.{maps_rights, maps_type, maps_address, maps_leaf, maps_present, maps_fine, rights_odd, rights_small, type_small, reads_free, reads_page, reads_table, goes_page, goes_table}
use Rattle.ept_emit.proofs.Found.{All_on, All_at, around, first_held, first_touched, none_within, not_lowest, not_whole, whole_parts, whole_within}
use Rattle.ept_emit.proofs.Written.{Under, Free, Whole, Part, kind_of, word_of, window_of, written_parts, none_of, leaf_of, child_of}

-- the entries of these tables are what memory gives
abbrev pub Has : (ℕ → ℕ → Option ℕ) → (ℕ → ℕ) → ℕ → ℕ → Type 0
Has entry out base n = (k i : ℕ) → k < n → i < 512 → entry (base + k) i ≡ Some (out (512 * k + i))

-- the pages that each window leads to are there
abbrev pub AreThere : (ℕ → Bool) → List Window → Type 0
AreThere there ws = All (λ w. (k : ℕ) → w.address ≤ 4096 * k → 4096 * k < w.address + w.size → there k ≡ true) ws

-- ---- a page that lies in a window

pub level_low : (leaf : Leaf) → level_of leaf ≤ 2
level_low Small = omega arith
level_low Large = omega arith
level_low Huge = omega arith

pub record Fits (w : Window) (l e : ℕ) : Type 0 where
  pub allowed : l ≤ level_of w.leaf
  pub begins : w.guest ≤ entry_size l * e
  pub ends : entry_size l * e + entry_size l ≤ w.guest + w.size

-- the page of an entry, also at the lowest level
fits_at : (w : Window) (l e : ℕ) → IsEmittable w → w.guest < entry_size l * e + entry_size l → entry_size l * e < w.guest + w.size → is_whole w l e ≡ true → Fits w l e
fits_at w zero e ok a b h =
    record {
      allowed = omega arith;
      begins = omega (arith, ok.guest);
      ends = omega (arith, ok.guest, ok.size);
    }
fits_at w (suc l) e ok a b h =
    let p = whole_parts w (suc l) e (λ z. omega arith) h in
    record {
      allowed = p.0;
      begins = p.1;
      ends = p.2;
    }

pub fits : (ws : List Window) (l e : ℕ) (w : Window) → All IsEmittable ws → window_touching ws (entry_size l * e) (entry_size l) ≡ Some w → is_whole w l e ≡ true → Fits w l e
fits ws l e w all some whole =
    let p = first_touched ws (entry_size l * e) (entry_size l) w some in
    fits_at w l e (All_on IsEmittable ws (entry_size l * e) (entry_size l) w all some) p.0 p.1 whole

by_level : (d l to from : ℕ) → d ≤ 2 → l ≤ d → to % entry_size d ≡ from % entry_size d → to % entry_size l ≡ from % entry_size l
by_level zero zero to from a b h = h
by_level zero (suc l) to from a b h = absurd (omega arith)
by_level (suc zero) zero to from a b h = omega arith
by_level (suc zero) (suc zero) to from a b h = h
by_level (suc zero) (suc (suc l)) to from a b h = absurd (omega arith)
by_level (suc (suc zero)) zero to from a b h = omega arith
by_level (suc (suc zero)) (suc zero) to from a b h = omega arith
by_level (suc (suc zero)) (suc (suc zero)) to from a b h = h
by_level (suc (suc zero)) (suc (suc (suc l))) to from a b h = absurd (omega arith)
by_level (suc (suc (suc d))) l to from a b h = absurd (omega arith)

address_aligned : (l e to from : ℕ) → l ≤ 2 → from ≤ entry_size l * e → to % entry_size l ≡ from % entry_size l → (to + (entry_size l * e - from)) % entry_size l ≡ 0
address_aligned zero e to from a b h = omega arith
address_aligned (suc zero) e to from a b h = omega arith
address_aligned (suc (suc zero)) e to from a b h = omega arith
address_aligned (suc (suc (suc l))) e to from a b h = absurd (omega arith)

in_pages : (l x : ℕ) → l ≤ 2 → x % entry_size l ≡ 0 → x % 4096 ≡ 0
in_pages zero x a h = h
in_pages (suc zero) x a h = omega arith
in_pages (suc (suc zero)) x a h = omega arith
in_pages (suc (suc (suc l))) x a h = absurd (omega arith)

-- where the page of an entry lies
abbrev pub address_at : Window → ℕ → ℕ → ℕ
address_at w l e = w.address + (entry_size l * e - w.guest)

pub record Mapped (w : Window) (l e : ℕ) : Type 0 where
  pub low : l ≤ 2
  pub aligned : address_at w l e % entry_size l ≡ 0
  pub pages : address_at w l e % 4096 ≡ 0
  pub small : address_at w l e < 2 ^ 40
  pub present : is_present (leaf_entry w l e) ≡ true
  pub fine : is_misconfigured l (leaf_entry w l e) ≡ false
  pub leaf : is_leaf l (leaf_entry w l e) ≡ true

mapped : (w : Window) (l e : ℕ) → IsEmittable w → Fits w l e → 0 < entry_size l → Mapped w l e
mapped w l e ok f some =
    let low : l ≤ 2 = omega (arith, level_low w.leaf, f.allowed) in
    let x = address_at w l e in
    let same = by_level (level_of w.leaf) l w.address w.guest (level_low w.leaf) f.allowed ok.aligned in
    let aligned : x % entry_size l ≡ 0 = address_aligned l e w.address w.guest low f.begins same in
    let pages : x % 4096 ≡ 0 = in_pages l x low aligned in
    let small : x < 2 ^ 40 = omega (arith, f.begins, f.ends, ok.address_end) in
    let below : l < 3 = omega arith in
    let t = type_small w.caching in
    record {
      low = low;
      aligned = aligned;
      pages = pages;
      small = small;
      present = maps_present l x (type_of w.caching) (rights_bits w.rights) pages (rights_small w.rights) (rights_odd w.rights);
      fine = maps_fine l x (rights_bits w.rights) w.caching below pages aligned small (rights_small w.rights) (rights_odd w.rights);
      leaf = maps_leaf l x (type_of w.caching) (rights_bits w.rights) below pages t (rights_small w.rights);
    }

pub mapped_on : (ws : List Window) (l g : ℕ) (w : Window) → All IsEmittable ws → window_of ws l g ≡ Some w → is_whole w l (g / entry_size l) ≡ true → Mapped w l (g / entry_size l)
mapped_on ws l g w all some whole =
    let a = around l g in
    mapped w l (g / entry_size l) (All_on IsEmittable ws (entry_size l * (g / entry_size l)) (entry_size l) w all some) (fits ws l (g / entry_size l) w all some whole) (omega (arith, a.0, a.1))

-- ---- where a walk ends

abbrev pub leads : Option Window → ℕ → ℕ → Walk
leads None addr want = Violation 0
leads (Some w) addr want =
    if bit_and (rights_bits w.rights) want == want then At (w.address + (addr - w.guest)) else Violation (rights_bits w.rights)

ends_there : (there : ℕ → Bool) (addr want r address : ℕ) → there (address / 4096) ≡ true → leaf_end there addr want r address ≡ (if bit_and r want == want then At address else Violation r)
ends_there there addr want r address h = rw h refl

-- at a page of the window
page_walk : (there : ℕ → Bool) (l addr want word : ℕ) (w : Window) (new : ℕ → ℕ → Walk) → IsEmittable w → Fits w l (addr / entry_size l) → Mapped w l (addr / entry_size l) → ((k : ℕ) → w.address ≤ 4096 * k → 4096 * k < w.address + w.size → there k ≡ true) → word ≡ leaf_entry w l (addr / entry_size l) → reads there l addr want 7 (Some word) new ≡ leads (Some w) addr want
page_walk there l addr want word w new ok f m addresses is =
    let e = addr / entry_size l in
    let x = address_at w l e in
    let t = type_of w.caching in
    let a = around l addr in
    let rest = mod-eq-sub-mul-div addr (entry_size l) in
    let address : x + addr % entry_size l ≡ w.address + (addr - w.guest) = omega (arith, f.begins, a.0, rest) in
    let inside : w.address + (addr - w.guest) < w.address + w.size = omega (arith, f.begins, f.ends, a.0, a.1) in
    let low : w.address ≤ 4096 * ((w.address + (addr - w.guest)) / 4096) = omega (arith, ok.address) in
    let there_it : there ((w.address + (addr - w.guest)) / 4096) ≡ true = addresses ((w.address + (addr - w.guest)) / 4096) low (omega arith) in
    ap (λ q. reads there l addr want 7 (Some q) new) is
    ∙ (reads_page there l addr want (leaf_entry w l e) (rights_bits w.rights) x new m.present m.fine m.leaf (maps_rights l x t (rights_bits w.rights) m.pages (rights_small w.rights)) (rights_small w.rights) (maps_address l x t (rights_bits w.rights) m.pages m.small (type_small w.caching) (rights_small w.rights))
    ∙ (ap (leaf_end there addr want (rights_bits w.rights)) address
    ∙ ends_there there addr want (rights_bits w.rights) (w.address + (addr - w.guest)) there_it))

abbrev pub deeper_walk : (ℕ → ℕ → Option ℕ) → (ℕ → Bool) → ℕ → ℕ → ℕ → ℕ → ℕ → Walk
deeper_walk entry there addr want zero t r = Misconfigured
deeper_walk entry there addr want (suc l) t r = walk_from entry there addr want l t r

walk_is : (entry : ℕ → ℕ → Option ℕ) (there : ℕ → Bool) (addr want l table rights : ℕ) → walk_from entry there addr want l table rights ≡ reads there l addr want rights (entry table (index_at l addr)) (deeper_walk entry there addr want l)
unfolding walk_from
walk_is entry there addr want zero table rights = refl
walk_is entry there addr want (suc l) table rights = refl

module _ (entry : ℕ → ℕ → Option ℕ) (there : ℕ → Bool) (out : ℕ → ℕ) (base lo hi : ℕ) (ws : List Window) (addr want : ℕ) (small : base + hi ≤ 2 ^ 28) (has : Has entry out base hi) (ok : All IsEmittable ws) (addresses : AreThere there ws) where
  at_entry : (l k : ℕ) → k < hi → walk_from entry there addr want l (base + k) 7 ≡ reads there l addr want 7 (Some (word_of out l k addr)) (deeper_walk entry there addr want l)
  at_entry l k lt =
      walk_is entry there addr want l (base + k) 7
      ∙ ap (λ o. reads there l addr want 7 o (deeper_walk entry there addr want l)) (has k (index_at l addr) lt (omega arith))

  at_free : (l k : ℕ) → k < hi → window_of ws l addr ≡ None → IsWritten Rwx out base lo hi ws l k addr → walk_from entry there addr want l (base + k) 7 ≡ leads (window_at ws addr) addr want
  at_free l k lt none h =
      let a = around l addr in
      let word = none_of Rwx (Under Rwx out base lo hi ws l addr) base lo hi l (addr / entry_size l) (word_of out l k addr) (window_of ws l addr) none (written_parts Rwx out base lo hi ws l k addr h) in
      at_entry l k lt
      ∙ (reads_free there l addr want (word_of out l k addr) (deeper_walk entry there addr want l) word
      ∙ sym (ap (λ o. leads o addr want) (none_within ws (entry_size l * (addr / entry_size l)) (entry_size l) addr none a.0 a.1)))

  at_page : (l k : ℕ) (w : Window) → k < hi → window_of ws l addr ≡ Some w → is_whole w l (addr / entry_size l) ≡ true → IsWritten Rwx out base lo hi ws l k addr → walk_from entry there addr want l (base + k) 7 ≡ leads (window_at ws addr) addr want
  at_page l k w lt some whole h =
      let a = around l addr in
      let e = addr / entry_size l in
      let f = fits ws l e w ok some whole in
      let m = mapped_on ws l addr w ok some whole in
      let word = leaf_of Rwx (Under Rwx out base lo hi ws l addr) base lo hi l e (word_of out l k addr) (window_of ws l addr) w some whole (written_parts Rwx out base lo hi ws l k addr h) in
      let here = whole_within ws (entry_size l * e) (entry_size l) addr w some a.0 a.1 f.begins f.ends in
      at_entry l k lt
      ∙ (page_walk there l addr want (word_of out l k addr) w (deeper_walk entry there addr want l) (All_on IsEmittable ws (entry_size l * e) (entry_size l) w ok some) f m (All_on (λ w. (k : ℕ) → w.address ≤ 4096 * k → 4096 * k < w.address + w.size → there k ≡ true) ws (entry_size l * e) (entry_size l) w addresses some) word
      ∙ sym (ap (λ o. leads o addr want) here))

  -- from any table on
  pub walk_written : (l k : ℕ) → k < hi → IsWritten Rwx out base lo hi ws l k addr → walk_from entry there addr want l (base + k) 7 ≡ leads (window_at ws addr) addr want
  walk_written zero k lt h =
      elim (kind_of ws zero addr) [
        | Free none ↦ at_free zero k lt none h
        | Whole w some whole ↦ at_page zero k w lt some whole h
        | Part w some part ↦ absurd (not_lowest w zero (addr / entry_size zero) part refl)
      ]
  walk_written (suc l) k lt h =
      elim (kind_of ws (suc l) addr) [
        | Free none ↦ at_free (suc l) k lt none h
        | Whole w some whole ↦ at_page (suc l) k w lt some whole h
        | Part w some part ↦
            let q = child_of Rwx out base lo hi ws l k addr w some part h in
            let c = child base (word_of out (suc l) k addr) in
            at_entry (suc l) k lt
            ∙ (reads_table there l addr want (word_of out (suc l) k addr) (base + c) (deeper_walk entry there addr want (suc l)) q.0.is (omega (arith, q.0.high))
            ∙ walk_written l c q.0.high q.1)
      ]

-- ---- the size of the page

module _ (entry : ℕ → ℕ → Option ℕ) (out : ℕ → ℕ) (base lo hi : ℕ) (ws : List Window) (addr : ℕ) (t : Window) (small : base + hi ≤ 2 ^ 28) (has : Has entry out base hi) (ok : All IsEmittable ws) (apart : AreApart (ranges_of ws)) (held : window_at ws addr ≡ Some t) where
  whole_from : (l : ℕ) → l ≤ level_of t.leaf → IsInside t l addr → is_whole t l (addr / entry_size l) ≡ true
  whole_from zero a h = refl
  whole_from (suc l) a h = or_right (suc l == 0) _ (and_from _ _ (le-leb _ _ a) (and_from _ _ (le-leb _ _ h.begins) (le-leb _ _ h.ends)))

  -- from any table on, where no greater page will do
  pub size_written : (l k : ℕ) → k < hi → IsWritten Rwx out base lo hi ws l k addr → ((h : ℕ) → h ≤ level_of t.leaf → IsInside t h addr → h ≤ l) → IsGreatestSize t addr (end_entry_size entry addr l (base + k))
  size_written zero k lt h up =
      let p = first_held ws addr t held in
      let fine = All_at IsEmittable ws addr t ok held in
      let inside : IsInside t 0 addr = record {
        begins = omega (arith, fine.guest, p.0);
        ends = omega (arith, fine.guest, fine.size, p.1);
      } in
      record {
        level = 0;
        is = refl;
        allowed = omega arith;
        inside = inside;
        greatest = up;
      }
  size_written (suc l) k lt h up =
      let e = addr / entry_size (suc l) in
      let a = around (suc l) addr in
      let word = word_of out (suc l) k addr in
      let deeper : ℕ → ℕ = λ c. end_entry_size entry addr l c in
      let read = has k (index_at (suc l) addr) lt (omega arith) in
      elim (kind_of ws (suc l) addr) [
        | Free none ↦
            let no_window = none_within ws (entry_size (suc l) * e) (entry_size (suc l)) addr none a.0 a.1 in
            let bad : Some t ≡ None = sym held ∙ no_window in
            absurd cc
        | Whole w some whole ↦
            let f = fits ws (suc l) e w ok some whole in
            let m = mapped_on ws (suc l) addr w ok some whole in
            let here = whole_within ws (entry_size (suc l) * e) (entry_size (suc l)) addr w some a.0 a.1 f.begins f.ends in
            let both : Some w ≡ Some t = sym here ∙ held in
            let same : w ≡ t = cc in
            let is : word ≡ leaf_entry w (suc l) e = leaf_of Rwx (Under Rwx out base lo hi ws (suc l) addr) base lo hi (suc l) e word (window_of ws (suc l) addr) w some whole (written_parts Rwx out base lo hi ws (suc l) k addr h) in
            let size : end_entry_size entry addr (suc l) (base + k) ≡ entry_size (suc l) = ap (λ o. goes_on (suc l) o (entry_size (suc l)) deeper) read ∙ (ap (λ q. goes_on (suc l) (Some q) (entry_size (suc l)) deeper) is ∙ goes_page (suc l) (leaf_entry w (suc l) e) (entry_size (suc l)) deeper m.present m.fine m.leaf) in
            let ft = subst (λ (y : Window). Fits y (suc l) e) same f in
            record {
              level = suc l;
              is = size;
              allowed = ft.allowed;
              inside = record {
                begins = ft.begins;
                ends = ft.ends;
              };
              greatest = up;
            }
        | Part w some part ↦
            let q = child_of Rwx out base lo hi ws l k addr w some part h in
            let c = child base word in
            let less = not_whole ws (suc l) addr w t apart (λ z. omega arith) some part held in
            let size : end_entry_size entry addr (suc l) (base + k) ≡ end_entry_size entry addr l (base + c) = ap (λ o. goes_on (suc l) o (entry_size (suc l)) deeper) read ∙ goes_table l word (base + c) (entry_size (suc l)) deeper q.0.is (omega (arith, q.0.high)) in
            let below = size_written l c q.0.high q.1 (λ d a b. elim (cases_eq d (suc l)) [
              | inl same ↦ absurd (true≢false (sym (whole_from (suc l) (rw same at a) (rw same at b)) ∙ less))
              | inr ne ↦ let le = up d a b in omega arith
            ]) in
            subst (IsGreatestSize t addr) (sym size) below
      ]

-- ---- the memory type of the page

module _ (entry : ℕ → ℕ → Option ℕ) (out : ℕ → ℕ) (base lo hi : ℕ) (ws : List Window) (addr : ℕ) (t : Window) (small : base + hi ≤ 2 ^ 28) (has : Has entry out base hi) (ok : All IsEmittable ws) (held : window_at ws addr ≡ Some t) where
  -- of an entry that maps a page around the address
  type_mapped : (l : ℕ) (w : Window) → window_of ws l addr ≡ Some w → is_whole w l (addr / entry_size l) ≡ true → bits_of (leaf_entry w l (addr / entry_size l)) 3 5 ≡ type_of t.caching
  type_mapped l w some whole =
      let e = addr / entry_size l in
      let a = around l addr in
      let f = fits ws l e w ok some whole in
      let m = mapped_on ws l addr w ok some whole in
      let fine = All_on IsEmittable ws (entry_size l * e) (entry_size l) w ok some in
      let here = whole_within ws (entry_size l * e) (entry_size l) addr w some a.0 a.1 f.begins f.ends in
      let both : Some w ≡ Some t = sym here ∙ held in
      let same : w ≡ t = cc in
      maps_type l (address_at w l e) (type_of w.caching) (rights_bits w.rights) m.pages (type_small w.caching) (rights_small w.rights)
      ∙ ap (λ (y : Window). type_of y.caching) same

  never_free : (l : ℕ) → window_of ws l addr ≡ None → ⊥
  never_free l none =
      let a = around l addr in
      let no_window = none_within ws (entry_size l * (addr / entry_size l)) (entry_size l) addr none a.0 a.1 in
      let bad : Some t ≡ None = sym held ∙ no_window in
      absurd cc

  -- from any table on
  pub type_written : (l k : ℕ) → k < hi → IsWritten Rwx out base lo hi ws l k addr → option_map (λ e. bits_of e 3 5) (end_entry entry addr l (base + k)) ≡ Some (type_of t.caching)
  type_written zero k lt h =
      let read = has k (index_at zero addr) lt (omega arith) in
      elim (kind_of ws zero addr) [
        | Free none ↦ absurd (never_free zero none)
        | Whole w some whole ↦
            let is : word_of out zero k addr ≡ leaf_entry w zero (addr / entry_size zero) = leaf_of Rwx (Under Rwx out base lo hi ws zero addr) base lo hi zero (addr / entry_size zero) (word_of out zero k addr) (window_of ws zero addr) w some whole (written_parts Rwx out base lo hi ws zero k addr h) in
            ap (option_map (λ e. bits_of e 3 5)) read ∙ (ap (λ q. Some (bits_of q 3 5)) is ∙ ap Some (type_mapped zero w some whole))
        | Part w some part ↦ absurd (not_lowest w zero (addr / entry_size zero) part refl)
      ]
  type_written (suc l) k lt h =
      let e = addr / entry_size (suc l) in
      let word = word_of out (suc l) k addr in
      let deeper : ℕ → Option ℕ = λ c. end_entry entry addr l c in
      let read = has k (index_at (suc l) addr) lt (omega arith) in
      elim (kind_of ws (suc l) addr) [
        | Free none ↦ absurd (never_free (suc l) none)
        | Whole w some whole ↦
            let m = mapped_on ws (suc l) addr w ok some whole in
            let is : word ≡ leaf_entry w (suc l) e = leaf_of Rwx (Under Rwx out base lo hi ws (suc l) addr) base lo hi (suc l) e word (window_of ws (suc l) addr) w some whole (written_parts Rwx out base lo hi ws (suc l) k addr h) in
            let last : end_entry entry addr (suc l) (base + k) ≡ Some (leaf_entry w (suc l) e) = ap (λ o. goes_on (suc l) o o deeper) read ∙ (ap (λ q. goes_on (suc l) (Some q) (Some q) deeper) is ∙ goes_page (suc l) (leaf_entry w (suc l) e) (Some (leaf_entry w (suc l) e)) deeper m.present m.fine m.leaf) in
            ap (option_map (λ e. bits_of e 3 5)) last ∙ ap Some (type_mapped (suc l) w some whole)
        | Part w some part ↦
            let q = child_of Rwx out base lo hi ws l k addr w some part h in
            let c = child base word in
            let last : end_entry entry addr (suc l) (base + k) ≡ end_entry entry addr l (base + c) = ap (λ o. goes_on (suc l) o o deeper) read ∙ goes_table l word (base + c) (Some word) deeper q.0.is (omega (arith, q.0.high)) in
            ap (option_map (λ e. bits_of e 3 5)) last ∙ type_written l c q.0.high q.1
      ]
