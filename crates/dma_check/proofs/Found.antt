-- The fault at a position, and the first at the positions of a source.
use Rattle.std.proofs.Common.{◌≡◌, ℕ, zero, suc, ◌+◌, ◌-◌, ◌*◌, ◌/◌, ◌%◌, ◌^◌, ◌<◌, ◌≤◌, Bool, true, false, cond, List, [], ◌∷◌, Option, Some, None, All, refl, sym, ap, subst, ◌∙◌, arith}
use Rattle.std.specs.Prelude.{◌||◌, ◌&&◌, nat_le, nat_lt, if◌then◌else◌, option_map, option_and_then, not, length}
use Rattle.std.specs.List.{find}
use Rattle.std.proofs.lemmas.Bool.{and_parts, leb-true, ltb-true, not-false, or_parts}
use Rattle.std.proofs.lemmas.Option.{same_Some}
use Rattle.dma_check.proofs.Alike.{marked_past, none_alike, page_by}
use Rattle.dma_check.proofs.Sounds.{contents_only, in_range, in_source, inside, outside_first, twice_first}
use Rattle.dma_check.proofs.Ways.{once_by}
use Rattle.dma_check.specs.Faults.{contents, expected, fault_at, fault_of_kind, is_outside, is_twice, walk}
use Rattle.dma_check.specs.Held.{AreFor, IsLow, has_address, told, view_by}
use Rattle.dma_check.specs.Marked.{AreWithin, IsPath, IsWithin, Marked, Reaches, has_outside, is_out, seen_in}
use Rattle.dma_check.specs.Pieces.{AreAlike, Keeps}
use Rattle.dma_check.specs.Views.{View, addr_of, has_page, source_of, table_at}
use Rattle.dma_check.specs.declared.fault.FaultKind.TheVariants.{Outside, Twice}
use Rattle.dma_check.specs.declared.fault.TableFault.{TableFault}
use Rattle.dma_check.specs.declared.held.DmaWindow.{DmaWindow}
use Rattle.dma_check.specs.declared.path.Path.{Path}
use Rattle.dma_check.specs.declared.path.Way.{Way}
use Rattle.dma_tables.specs.DmaFile.{page_count_of}
use Rattle.dma_tables.specs.DmaWalk.{paged, root_page}
use Rattle.dma_tables.specs.declared.file.DmaFile.{DmaFile}
use Rattle.image_pack.specs.declared.parts.SpanPart.{SpanPart}
use Rattle.ept_check.proofs.Firsts.{head_found, later_found, none_joined}
use Rattle.ept_check.specs.Search.{first_from}
use Rattle.muen_num.specs.declared.limits.TheConstants.{PAGE}

-- ---- contents

pub contents_same : (is_memory : ℕ → Bool) (w x t u : ℕ → Bool → Option ℕ) (q : ℕ) → ((write : Bool) → w q write ≡ x q write) → ((write : Bool) → t q write ≡ u q write) → contents is_memory w t q ≡ contents is_memory x u q
contents_same is_memory w x t u q h k =
    let a = h false in
    let b = h true in
    let c = k false in
    let d = k true in
    rw (a, b, c, d) refl

module _ (v : View) (ws : List DmaWindow) (source addr : ℕ) (low : addr < 2 ^ 48) (highest : Option ℕ) (own : AreFor v.declared source ws) (is : highest ≡ table_at v (2 ^ 48 * source + addr) 2) where
  walk_is : (write : Bool) → walk v (2 ^ 48 * source + addr) write ≡ option_map (λ page. PAGE * page + addr % PAGE) (option_and_then (paged v.word addr write) highest)
  walk_is write =
      let q = 2 ^ 48 * source + addr in
      let at = in_range source addr low in
      ap (option_map (λ page. PAGE * page + addr_of q % PAGE)) (page_by v q write)
      ∙ ap (λ a. option_map (λ page. PAGE * page + a % PAGE) (option_and_then (paged v.word a write) (table_at v q 2))) at
      ∙ ap (λ o. option_map (λ page. PAGE * page + addr % PAGE) (option_and_then (paged v.word addr write) o)) (sym is)

  told_is : (write : Bool) → expected v (2 ^ 48 * source + addr) write ≡ told ws addr write
  told_is write =
      ap (λ s. v.declared s (addr_of (2 ^ 48 * source + addr)) write) (in_source source addr low)
      ∙ ap (λ a. v.declared source a write) (in_range source addr low) ∙ own addr write

  pub contents_is : (wr ww tr tw : Option ℕ)
      → wr ≡ option_map (λ page. PAGE * page + addr % PAGE) (option_and_then (paged v.word addr false) highest)
      → ww ≡ option_map (λ page. PAGE * page + addr % PAGE) (option_and_then (paged v.word addr true) highest)
      → tr ≡ told ws addr false → tw ≡ told ws addr true
      → contents v.is_memory (λ q write. if write then ww else wr) (λ q write. if write then tw else tr) (2 ^ 48 * source + addr) ≡ contents v.is_memory (walk v) (expected v) (2 ^ 48 * source + addr)
  contents_is wr ww tr tw a b c d = contents_same v.is_memory (λ q write. if write then ww else wr) (walk v) (λ q write. if write then tw else tr) (expected v) (2 ^ 48 * source + addr)
      (λ write. elim write as (λ w. (if w then ww else wr) ≡ walk v (2 ^ 48 * source + addr) w) [ true ↦ b ∙ sym (walk_is true) | false ↦ a ∙ sym (walk_is false) ])
      (λ write. elim write as (λ w. (if w then tw else tr) ≡ expected v (2 ^ 48 * source + addr) w) [ true ↦ d ∙ sym (told_is true) | false ↦ c ∙ sym (told_is false) ])

-- ---- a position

module _ (v : View) (q : ℕ) where
  pub outside_found : (f : TableFault) → f ≡ fault_of_kind Outside q → is_outside v q ≡ true → Some f ≡ fault_at v q
  outside_found f e h = ap (λ x. Some x) e ∙ sym (outside_first v q h)

  pub twice_found : (f : TableFault) → f ≡ fault_of_kind Twice q → is_outside v q ≡ false → is_twice v q ≡ true → Some f ≡ fault_at v q
  twice_found f e h k = ap (λ x. Some x) e ∙ sym (twice_first v q h k)

  pub contents_found : (o : Option TableFault) (seen : ℕ → Option Way) → o ≡ contents v.is_memory (walk v) (expected v) q → is_outside v q ≡ false → Marked v seen (6 * q + 6) → o ≡ fault_at v q
  contents_found o seen e h known = e ∙ sym (contents_only v q h (once_by v seen (6 * q + 6) q known (omega arith)))

-- ---- position by position

module _ (v : View) (ws : List DmaWindow) (source addr : ℕ) (low : addr < 2 ^ 48) (own : AreFor v.declared source ws) where
  -- no fault at an address, then none at those that are like it
  pub none_further : (seen : ℕ → Option Way) (level count most : ℕ) → Marked v seen (6 * (2 ^ 48 * source + addr) + 6) → fault_at v (2 ^ 48 * source + addr) ≡ None
      → Reaches v (2 ^ 48 * source + addr) level → AreAlike (2 ^ 48 * source + addr) most level → 0 < count → count ≤ most → All (Keeps addr (addr + count)) ws
      → (first_from (fault_at v) (2 ^ 48 * source + addr) count ≡ None) × Marked v seen (6 * (2 ^ 48 * source + (addr + count)))
  none_further seen level count most known none reach alike some few keeps =
      let x = 2 ^ 48 * source + addr in
      let y = x + count in
      let a : addr_of x ≡ addr = in_range source addr low in
      let s : source_of x ≡ source = in_source source addr low in
      let out = inside v x none in
      let here = sym (contents_only v x out (once_by v seen (6 * x + 6) x known (omega arith))) ∙ none in
      let like : (p : ℕ) → x ≤ p → p < y → _ = λ p le lt. alike p le (omega (arith, lt, few)) in
      let span : y - x ≡ count = omega arith in
      let free = none_alike v ws x y level (addr + count) (omega (arith, some)) like reach (omega (arith, a)) (subst (λ n. All (Keeps n (addr + count)) ws) (sym a) keeps) (subst (λ n. AreFor v.declared n ws) (sym s) own) seen known out here in
      let past = marked_past v seen x y level (omega (arith, some)) known reach like in
      let next : 6 * y ≡ 6 * (2 ^ 48 * source + (addr + count)) = omega arith in
      (subst (λ n. first_from (fault_at v) x n ≡ None) span free, subst (Marked v seen) next past)

  pub none_so_far : (count : ℕ) → first_from (fault_at v) (2 ^ 48 * source) addr ≡ None → first_from (fault_at v) (2 ^ 48 * source + addr) count ≡ None → first_from (fault_at v) (2 ^ 48 * source) (addr + count) ≡ None
  none_so_far count a b = none_joined (fault_at v) (2 ^ 48 * source) addr count (addr + count) (2 ^ 48 * source + addr) refl refl a b

  pub found_here : (f : TableFault) → first_from (fault_at v) (2 ^ 48 * source) addr ≡ None → Some f ≡ fault_at v (2 ^ 48 * source + addr) → Some f ≡ first_from (fault_at v) (2 ^ 48 * source) (2 ^ 48)
  found_here f none h =
      sym (later_found (fault_at v) (2 ^ 48 * source) addr (2 ^ 48 - addr) (2 ^ 48) (2 ^ 48 * source + addr) f (omega (arith, low)) refl none
      (head_found (fault_at v) (2 ^ 48 * source + addr) (2 ^ 48 - addr) f (sym h) (omega (arith, low))))

-- ---- tables in the file

module _ (t : DmaFile) where
  within_one : (root : ℕ) (o : Option ℕ) → root ≡ root_page t → is_out (has_page t) o ≡ false → IsWithin root (page_count_of t) o
  within_one root None e h = tt
  within_one root (Some page) e h =
      let both = and_parts (nat_le (root_page t) page) (nat_lt (page - root_page t) (page_count_of t)) (not-false (has_page t page) h) in
      let low = leb-true (root_page t) page both.0 in
      let high = ltb-true (page - root_page t) (page_count_of t) both.1 in
      (omega (arith, e, low), omega (arith, e, low, high))

  root_first : has_page t (root_page t) ≡ true → 0 < page_count_of t
  root_first h =
      let both = and_parts (nat_le (root_page t) (root_page t)) (nat_lt (root_page t - root_page t) (page_count_of t)) h in
      let high = ltb-true (root_page t - root_page t) (page_count_of t) both.1 in
      omega (arith, high)

  pub within_by : (path : Path) (count : ℕ) → count ≡ page_count_of t → path.root ≡ root_page t → has_outside (has_page t) path ≡ false → AreWithin path count
  within_by path count many e h =
      let a = or_parts (not (has_page t path.root)) _ h in
      let b = or_parts (is_out (has_page t) path.context) _ a.1 in
      let c = or_parts (is_out (has_page t) path.level_3) _ b.1 in
      let d = or_parts (is_out (has_page t) path.level_2) _ c.1 in
      let f = or_parts (is_out (has_page t) path.level_1) _ d.1 in
      rw many (record {
        some = root_first (ap (has_page t) (sym e) ∙ not-false (has_page t path.root) a.0);
        context = within_one path.root path.context e b.0;
        level_3 = within_one path.root path.level_3 e c.0;
        level_2 = within_one path.root path.level_2 e d.0;
        level_1 = within_one path.root path.level_1 e f.0;
        level_0 = within_one path.root path.level_0 e f.1;
      })

  pub root_is : (spans : List SpanPart) (declared : ℕ → ℕ → Bool → Option ℕ) (q : ℕ) (path : Path) → IsPath (view_by t spans declared) q path → path.root ≡ root_page t
  unfolding table_at
  root_is spans declared q path h = sym (same_Some _ _ h.root)

-- ---- the window that is found

pub found_low : (ws : List DmaWindow) (a : ℕ) (w : DmaWindow) → find (has_address a) ws ≡ Some w → All IsLow ws → (has_address a w ≡ true) × IsLow w
found_low [] a w h all = absurd (cc)
found_low (x ∷ ws) a w h all = elim (has_address a x) as (λ b. has_address a x ≡ b → cond b (Some x) (find (has_address a) ws) ≡ Some w → (has_address a w ≡ true) × IsLow w) [
  | true ↦ λ is e. let same : x ≡ w = same_Some x w e in (ap (has_address a) (sym same) ∙ is, subst IsLow same (all 0 x (omega arith)))
  | false ↦ λ is e. found_low ws a w e (λ k d l. all (suc k) d (omega (arith, l)))
] refl h

pub none_at_start : (v : View) (source : ℕ) → first_from (fault_at v) (2 ^ 48 * source) 0 ≡ None
unfolding first_from
none_at_start v source = refl
