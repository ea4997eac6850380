-- Positions that are alike have the same tables, and the same faults.
use Rattle.std.proofs.Common.{◌≡◌, ◌≢◌, ℕ, zero, suc, ◌+◌, ◌-◌, ◌*◌, ◌/◌, ◌%◌, ◌^◌, ◌<◌, ◌≤◌, ◌⊎◌, Bool, true, false, cond, List, [], ◌∷◌, Option, Some, None, refl, sym, ap, subst, ◌∙◌, inl, inr, arith, All, length}
use Rattle.std.specs.Prelude.{◌==◌, ◌&&◌, ◌||◌, not, unwrap_or, option_and_then, option_map, if◌then◌else◌, nat_le, nat_lt, slice_index_or}
use Rattle.std.specs.List.{find, list_any}
use Rattle.std.specs.Option.{option_map_or}
use Rattle.std.proofs.lemmas.Bool.{and_parts, cases_Bool, cases_lt, leb-true, or_left, or_right}
use Rattle.dma_check.proofs.Sounds.{contents_led, contents_only, led_contents}
use Rattle.dma_check.proofs.Ways.{itself, moves, none_after, once_by}
use Rattle.dma_check.specs.Faults.{contents, expected, fault_at, is_outside, is_twice, walk}
use Rattle.dma_check.specs.Held.{AreFor, has_address, told, told_by}
use Rattle.dma_check.specs.Marked.{IsMarked, Marked, Reaches, way_of}
use Rattle.dma_check.specs.Pieces.{IsAlike, Keeps}
use Rattle.dma_check.specs.Sound.{Comes}
use Rattle.dma_check.specs.Views.{View, addr_of, bus_of, devfn_of, is_present, place_of, source_of, table_at, table_below}
use Rattle.dma_check.specs.declared.fault.TableFault.{TableFault}
use Rattle.dma_check.specs.declared.held.DmaWindow.{DmaWindow}
use Rattle.dma_check.specs.declared.path.Way.{Way}
use Rattle.dma_tables.specs.DmaWalk.{context_table, device_page, highest_table, is_paging, next_page, page_in, paged}
use Rattle.ept_check.proofs.Firsts.{none_from}
use Rattle.ept_check.specs.Search.{first_from}
use Rattle.machine_layout.specs.Walks.{entry_size, index_at}
use Rattle.muen_num.specs.declared.access.AccessKind.TheVariants.{Read, Write}
use Rattle.muen_num.specs.declared.limits.TheConstants.{PAGE}
use Rattle.policy_lawful.specs.Rights.{allows}

-- ---- parts of addresses

part_up : (k a b : ℕ) → k ≤ 3 → a / entry_size k ≡ b / entry_size k → a / entry_size (suc k) ≡ b / entry_size (suc k)
part_up zero a b l h = omega (arith, h)
part_up (suc zero) a b l h = omega (arith, h)
part_up (suc (suc zero)) a b l h = omega (arith, h)
part_up (suc (suc (suc zero))) a b l h = omega (arith, h)
part_up (suc (suc (suc (suc k)))) a b l h = absurd (omega (arith, l))

part_above : (d k l a b : ℕ) → l ≡ d + k → l ≤ 4 → a / entry_size k ≡ b / entry_size k → a / entry_size l ≡ b / entry_size l
part_above zero k l a b e few h = let same : l ≡ k = omega (arith, e) in subst (λ n. a / entry_size n ≡ b / entry_size n) (sym same) h
part_above (suc d) k l a b e few h = part_above d (suc k) l a b (omega (arith, e)) few (part_up k a b (omega (arith, e, few)) h)

part_of : (k l a b : ℕ) → k ≤ l → l ≤ 4 → a / entry_size k ≡ b / entry_size k → a / entry_size l ≡ b / entry_size l
part_of k l a b le few h = part_above (l - k) k l a b (omega (arith, le)) few h

index_alike : (k l p x : ℕ) → k ≤ l → l ≤ 3 → IsAlike p x k → index_at l (addr_of p) ≡ index_at l (addr_of x)
index_alike k l p x le few h = ap (λ n. n % 512) (part_of k l (addr_of p) (addr_of x) le (omega (arith, few)) h.part)

module _ (v : View) where
  -- ---- tables

  below_same : (a b level : ℕ) (o : Option ℕ) → index_at level a ≡ index_at level b → option_and_then (table_below v.word a level) o ≡ option_and_then (table_below v.word b level) o
  below_same a b level None e = refl
  below_same a b level (Some t) e = ap (λ i. option_and_then (λ entry. if is_present entry then Some (page_in entry) else None) (v.word t i)) e

  -- down to the level, and one below it
  pub table_same : (p x level n : ℕ) → level ≤ 4 → IsAlike p x level → n + level ≤ 6 → n < 6 → table_at v p n ≡ table_at v x n
  unfolding table_at
  table_same p x level zero few h low deep = refl
  table_same p x level (suc zero) few h low deep = ap (λ s. context_table v.word v.root (bus_of s)) h.source
  table_same p x level (suc (suc zero)) few h low deep = ap (λ s. option_and_then (λ table. highest_table v.word table (devfn_of s)) (context_table v.word v.root (bus_of s))) h.source
  table_same p x level (suc (suc (suc n))) few h low deep =
      ap (option_and_then (table_below v.word (addr_of p) (3 - n))) (table_same p x level (suc (suc n)) few h (omega (arith, low)) (omega (arith, deep)))
      ∙ below_same (addr_of p) (addr_of x) (3 - n) (table_at v x (suc (suc n))) (index_alike level (3 - n) p x (omega (arith, low, deep)) (omega arith) h)

  -- where the walk stops, there is no table
  pub stopped : (x level n : ℕ) → Reaches v x level → 6 ≤ n + level → n < 6 → table_at v x n ≡ None
  stopped x level n h low deep = elim h.stops [
    | inl e ↦ absurd (omega (arith, e, low, deep))
    | inr e ↦ let few = h.few in none_after v x (n - (6 - level)) (6 - level) n (omega (arith, low, few)) e
  ]

  reached : (p x level : ℕ) → IsAlike p x level → Reaches v x level → Reaches v p level
  reached p x level a h = record {
    few = h.few;
    stops = elim h.stops [
      | inl e ↦ inl e
      | inr e ↦ elim (cases_lt 0 level) [
        | inl some ↦ let few = h.few in inr (table_same p x level (6 - level) few a (omega (arith, few)) (omega (arith, some)) ∙ e)
        | inr none ↦ inl (omega (arith, none))
      ]
    ];
  }

  pub table_alike : (p x level n : ℕ) → IsAlike p x level → Reaches v x level → n < 6 → table_at v p n ≡ table_at v x n
  table_alike p x level n a h deep = elim (cases_lt (n + level) 7) [
    | inl low ↦ table_same p x level n h.few a (omega (arith, low)) deep
    | inr high ↦ stopped p level n (reached p x level a h) (omega (arith, high)) deep ∙ sym (stopped x level n h (omega (arith, high)) deep)
  ]

  -- it comes to a table above where it stops
  above : (x level n t : ℕ) → Reaches v x level → Comes v x n t → n + level < 6
  above x level n t h comes = elim (cases_lt (n + level) 6) [
    | inl low ↦ low
    | inr high ↦ absurd (let bad = sym comes.here ∙ stopped x level n h (omega (arith, high)) comes.depth in cc)
  ]

  pub way_alike : (p x level n : ℕ) → IsAlike p x level → Reaches v x level → n + level < 6 → way_of v p n ≡ way_of v x n
  way_alike p x level zero a h low = refl
  way_alike p x level (suc zero) a h low = ap (λ s. record { depth = 1; highest = 0; part = bus_of s }) a.source
  way_alike p x level (suc (suc n)) a h low =
      ap (λ o. record { depth = suc (suc n); highest = unwrap_or o 0; part = addr_of p / entry_size (4 - n) }) (table_alike p x level 2 a h (omega arith))
      ∙ ap (λ b. record { depth = suc (suc n); highest = unwrap_or (table_at v x 2) 0; part = b }) (part_of level (4 - n) (addr_of p) (addr_of x) (omega (arith, low)) (omega arith) a.part)

  comes_alike : (p x level n t : ℕ) → IsAlike p x level → Reaches v x level → Comes v p n t → Comes v x n t
  comes_alike p x level n t a h comes = record { depth = comes.depth; here = sym (table_alike p x level n a h comes.depth) ∙ comes.here }

  -- all that is known at the first of positions that are alike is known past them
  pub marked_past : (seen : ℕ → Option Way) (x y level : ℕ) → x < y → Marked v seen (6 * x + 6) → Reaches v x level → ((p : ℕ) → x ≤ p → p < y → IsAlike p x level) → Marked v seen (6 * y)
  marked_past seen x y level more known h alike = moves v seen (6 * x + 6) (6 * y) known (omega (arith, more)) (λ p m t low comes. elim (cases_lt (6 * p + m) (6 * x + 6)) [
    | inl lt ↦ itself v seen (6 * x + 6) p m t lt comes
    | inr ge ↦
        let deep = comes.depth in
        let a = alike p (omega (arith, ge, deep)) (omega (arith, low)) in
        let here = comes_alike p x level m t a h comes in
        record { p = x; m = m; before = omega (arith, deep); comes = here; way = sym (way_alike p x level m a h (above x level m t h here)) }
  ])

  pub outside_alike : (p x level : ℕ) → IsAlike p x level → Reaches v x level → is_outside v p ≡ is_outside v x
  unfolding is_outside
  outside_alike p x level a h =
      let e0 = table_alike p x level 0 a h (omega arith) in
      let e1 = table_alike p x level 1 a h (omega arith) in
      let e2 = table_alike p x level 2 a h (omega arith) in
      let e3 = table_alike p x level 3 a h (omega arith) in
      let e4 = table_alike p x level 4 a h (omega arith) in
      let e5 = table_alike p x level 5 a h (omega arith) in
      rw (e0, e1, e2, e3, e4, e5) refl

  -- ---- walks

  abbrev page_of : ℕ → Bool → Option ℕ
  page_of q write = device_page v.word v.root (place_of (source_of q)) (addr_of q) write

  -- a step with a right is one with some right
  abbrev IsUnder : Option ℕ → Option ℕ → Type 0
  IsUnder a b = (a ≡ None) ⊎ (a ≡ b)

  right_some : (write : Bool) (e : ℕ) → is_paging write e ≡ true → is_present e ≡ true
  right_some true e h = or_left (is_paging true e) (is_paging false e) h
  right_some false e h = or_right (is_paging true e) (is_paging false e) h

  entry_under : (write : Bool) (o : Option ℕ) → IsUnder (option_and_then (λ entry. if is_paging write entry then Some (page_in entry) else None) o) (option_and_then (λ entry. if is_present entry then Some (page_in entry) else None) o)
  entry_under write None = inr refl
  entry_under write (Some e) = elim (cases_Bool (is_paging write e)) [
    | inl y ↦ let some = right_some write e y in inr (rw (y, some) refl)
    | inr n ↦ inl (rw n refl)
  ]

  step_under : (addr level : ℕ) (write : Bool) (a b : Option ℕ) → IsUnder a b → IsUnder (option_and_then (next_page v.word addr write level) a) (option_and_then (table_below v.word addr level) b)
  step_under addr level write a b (inl e) = inl (rw e refl)
  step_under addr level write None b (inr e) = inl refl
  step_under addr level write (Some t) b (inr e) = subst (λ o. IsUnder (option_and_then (next_page v.word addr write level) (Some t)) (option_and_then (table_below v.word addr level) o)) e (entry_under write (v.word t (index_at level addr)))

  pub page_by : (q : ℕ) (write : Bool) → page_of q write ≡ option_and_then (paged v.word (addr_of q) write) (table_at v q 2)
  unfolding table_at
  page_by q write = refl

  paged_none : (q : ℕ) (write : Bool) (o : Option ℕ) → table_at v q 2 ≡ o → table_at v q 5 ≡ None → option_and_then (paged v.word (addr_of q) write) o ≡ None
  unfolding table_at
  paged_none q write None is h = refl
  paged_none q write (Some t) is h =
      let a = addr_of q in
      let third = step_under a 3 write (Some t) (table_at v q 2) (inr (sym is)) in
      let second = step_under a 2 write _ _ third in
      let first = step_under a 1 write _ _ second in
      let none : option_and_then (next_page v.word a write 1) (option_and_then (next_page v.word a write 2) (next_page v.word a write 3 t)) ≡ None = elim first [ inl e ↦ e | inr e ↦ e ∙ h ] in
      ap (option_and_then (next_page v.word a write 0)) none

  pub no_page : (q : ℕ) (write : Bool) → table_at v q 5 ≡ None → page_of q write ≡ None
  no_page q write h = page_by q write ∙ paged_none q write (table_at v q 2) refl h

  next_same : (a b level : ℕ) (write : Bool) (o : Option ℕ) → index_at level a ≡ index_at level b → option_and_then (next_page v.word a write level) o ≡ option_and_then (next_page v.word b write level) o
  next_same a b level write None e = refl
  next_same a b level write (Some t) e = ap (λ i. option_and_then (λ entry. if is_paging write entry then Some (page_in entry) else None) (v.word t i)) e

  paged_same : (p x : ℕ) (write : Bool) (o : Option ℕ) → IsAlike p x 0 → option_and_then (paged v.word (addr_of p) write) o ≡ option_and_then (paged v.word (addr_of x) write) o
  paged_same p x write None a = refl
  paged_same p x write (Some t) a =
      let at = λ (l : ℕ). λ (few : l ≤ 3). index_alike 0 l p x (omega arith) few a in
      let e3 : next_page v.word (addr_of p) write 3 t ≡ next_page v.word (addr_of x) write 3 t = next_same (addr_of p) (addr_of x) 3 write (Some t) (at 3 (omega arith)) in
      let e2 = ap (option_and_then (next_page v.word (addr_of p) write 2)) e3 ∙ next_same (addr_of p) (addr_of x) 2 write _ (at 2 (omega arith)) in
      let e1 = ap (option_and_then (next_page v.word (addr_of p) write 1)) e2 ∙ next_same (addr_of p) (addr_of x) 1 write _ (at 1 (omega arith)) in
      ap (option_and_then (next_page v.word (addr_of p) write 0)) e1 ∙ next_same (addr_of p) (addr_of x) 0 write _ (at 0 (omega arith))

  page_same : (p x : ℕ) (write : Bool) → IsAlike p x 0 → page_of p write ≡ page_of x write
  page_same p x write a =
      page_by p write ∙ paged_same p x write (table_at v p 2) a ∙ ap (option_and_then (paged v.word (addr_of x) write)) (table_same p x 0 2 (omega arith) a (omega arith) (omega arith)) ∙ sym (page_by x write)

  byte_on : (o : Option ℕ) (a b k : ℕ) → a / 4096 ≡ b / 4096 → a ≡ b + k → option_map (λ page. PAGE * page + a % PAGE) o ≡ option_map (λ n. n + k) (option_map (λ page. PAGE * page + b % PAGE) o)
  byte_on None a b k h e = refl
  byte_on (Some page) a b k h e = let same : PAGE * page + a % PAGE ≡ PAGE * page + b % PAGE + k = omega (arith, h, e) in ap (λ n. Some n) same

  addr_on : (p x level : ℕ) → IsAlike p x level → x ≤ p → addr_of p ≡ addr_of x + (p - x)
  addr_on p x level a le = let same = a.source in omega (arith, same, le)

  walk_on : (p x level : ℕ) (write : Bool) → IsAlike p x level → Reaches v x level → x ≤ p → walk v p write ≡ option_map (λ n. n + (p - x)) (walk v x write)
  walk_on p x level write a h le = elim (cases_lt 0 level) [
    | inl some ↦
        let here = no_page x write (stopped x level 5 h (omega (arith, some)) (omega arith)) in
        let there = no_page p write (stopped p level 5 (reached p x level a h) (omega (arith, some)) (omega arith)) in
        rw (here, there) refl
    | inr none ↦
        let zero_level : level ≡ 0 = omega (arith, none) in
        let one = subst (IsAlike p x) zero_level a in
        ap (option_map (λ page. PAGE * page + addr_of p % PAGE)) (page_same p x write one) ∙ byte_on (page_of x write) (addr_of p) (addr_of x) (p - x) one.part (addr_on p x level a le)
  ]

-- ---- windows

find_same : (ws : List DmaWindow) (a b : ℕ) → ((k : ℕ) (d : DmaWindow) → k < length ws → has_address a (slice_index_or ws k d) ≡ has_address b (slice_index_or ws k d)) → find (has_address a) ws ≡ find (has_address b) ws
find_same [] a b h = refl
find_same (w ∷ ws) a b h =
    ap (λ x. cond x (Some w) (find (has_address a) ws)) (h 0 w (omega arith))
    ∙ ap (λ o. cond (has_address b w) (Some w) o) (find_same ws a b (λ k d l. h (suc k) d (omega (arith, l))))

abbrev IsFrom : ℕ → Option DmaWindow → Type 0
IsFrom a None = Unit {0}
IsFrom a (Some w) = w.guest ≤ a

found_from : (ws : List DmaWindow) (a : ℕ) → IsFrom a (find (has_address a) ws)
found_from [] a = tt
found_from (w ∷ ws) a = elim (cases_Bool (has_address a w)) [
  | inl y ↦ let low = leb-true w.guest a (and_parts (nat_le w.guest a) _ y).0 in subst (λ x. IsFrom a (cond x (Some w) (find (has_address a) ws))) (sym y) low
  | inr n ↦ subst (λ x. IsFrom a (cond x (Some w) (find (has_address a) ws))) (sym n) (found_from ws a)
]

by_right : (b : Bool) (m n k : ℕ) → m ≡ n + k → cond b (Some m) None ≡ option_map (λ x. x + k) (cond b (Some n) None)
by_right true m n k e = ap (λ x. Some x) e
by_right false m n k e = refl

told_further : (o : Option DmaWindow) (a k : ℕ) (write : Bool) → IsFrom a o → told_by o (a + k) write ≡ option_map (λ x. x + k) (told_by o a write)
told_further None a k write h = refl
told_further (Some w) a k write h = by_right (allows w.rights (if write then Write else Read)) (w.address + (a + k - w.guest)) (w.address + (a - w.guest)) k (omega (arith, h))

pub told_on : (ws : List DmaWindow) (a high k : ℕ) (write : Bool) → All (Keeps a high) ws → a + k < high → told ws (a + k) write ≡ option_map (λ x. x + k) (told ws a write)
told_on ws a high k write keeps l =
    ap (λ o. told_by o (a + k) write) (find_same ws (a + k) a (λ j d m. keeps j d m (a + k) (omega arith) l)) ∙ told_further (find (has_address a) ws) a k write (found_from ws a)

-- ---- positions that are alike, without a fault at the first

module _ (v : View) (ws : List DmaWindow) (x y level high : ℕ) (more : x < y) (alike : (p : ℕ) → x ≤ p → p < y → IsAlike p x level) (reach : Reaches v x level) (near : addr_of x + (y - x) ≤ high) (keeps : All (Keeps (addr_of x) high) ws) (own : AreFor v.declared (source_of x) ws) where
  expected_on : (p : ℕ) (write : Bool) → x ≤ p → p < y → expected v p write ≡ option_map (λ n. n + (p - x)) (expected v x write)
  expected_on p write le lt =
      let a = alike p le lt in
      let addr = addr_on v p x level a le in
      ap (λ s. v.declared s (addr_of p) write) a.source ∙ own (addr_of p) write ∙ ap (λ n. told ws n write) addr
      ∙ told_on ws (addr_of x) high (p - x) write keeps (omega (arith, near, le, lt)) ∙ ap (option_map (λ n. n + (p - x))) (sym (own (addr_of x) write))

  pub contents_on : (p : ℕ) → x ≤ p → p < y → contents v.is_memory (walk v) (expected v) x ≡ None → contents v.is_memory (walk v) (expected v) p ≡ None
  contents_on p le lt h = led_contents v.is_memory (walk v) (expected v) p (λ write.
      walk_on v p x level write (alike p le lt) reach le
      ∙ ap (option_map (λ n. n + (p - x))) (contents_led v.is_memory (walk v) (expected v) x h write)
      ∙ sym (expected_on p write le lt))

  -- no fault at the first, then none at the others
  pub none_alike : (seen : ℕ → Option Way) → Marked v seen (6 * x + 6) → is_outside v x ≡ false → contents v.is_memory (walk v) (expected v) x ≡ None → first_from (fault_at v) x (y - x) ≡ None
  none_alike seen known inside h =
      let past = marked_past v seen x y level more known reach alike in
      none_from (fault_at v) x (y - x) (λ p le lt.
      let low : p < y = omega (arith, lt, more) in
      contents_only v p (outside_alike v p x level (alike p le low) reach ∙ inside) (once_by v seen (6 * y) p past (omega (arith, low))) ∙ contents_on p le low h)
