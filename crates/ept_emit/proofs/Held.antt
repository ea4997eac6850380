-- A memory that has the tables.
use Rattle.std.proofs.Common.{◌≡◌, ◌⊎◌, inl, inr, ℕ, suc, ◌+◌, ◌-◌, ◌*◌, ◌/◌, ◌%◌, ◌^◌, ◌<◌, ◌≤◌, ◌==◌, List, length, get_or, take, drop, Option, Some, None, refl, ap, sym, ◌∙◌, arith, All, subst}
use Rattle.std.specs.Prelude.{IfSome, bit_and, if◌then◌else◌, option_map}
use Rattle.std.proofs.lemmas.Bool.{cases_eq, cases_lt}
use Rattle.std.proofs.lemmas.List.{drop-take, drop-drop, take-take}
use Rattle.ept_emit.specs.declared.window.Window.{Window}
use Rattle.ept_emit.specs.Pages.{AreApart, ranges_of}
use Rattle.machine_layout.specs.declared.walk.Walk.TheVariants.{At, Violation}
use Rattle.machine_layout.specs.Memory.{Page, page_of, is_there, le_number, load_of}
use Rattle.machine_layout.specs.Walks.{bits_of, entry_size, entry_of, root_of, walk_of, walk_from, addresses_read, addresses_from, leaf_size, leaf_type, end_entry_size, end_entry}
use Rattle.muen_num.specs.Access.{kind_bit}
use Rattle.muen_num.specs.declared.access.AccessKind.{AccessKind}
use Rattle.muen_num.specs.declared.access.AccessKind.TheVariants.{Read, Write, Fetch}
use Rattle.policy_types.specs.Rights.{allows, rights_bits}
use Rattle.policy_types.specs.declared.rights.Rights.{Rights}
use Rattle.policy_types.specs.declared.rights.Rights.TheVariants.{R, Rw, Rx, Rwx}
use Rattle.ept_emit.specs.Entries.{IsEmittable, type_of, word_at}
use Rattle.ept_emit.specs.Emitted.{HasWindowPages, HasTables, IsGreatestSize, IsReadBy, eptp_of, translation, translation_in, window_at}
use Rattle.machine_layout.specs.Reads.{Reads}
use Rattle.ept_emit.specs.Tables.{AreNumbered, Below}
use Rattle.ept_emit.proofs.Addresses.{IsRead, met, read}
use Rattle.ept_emit.proofs.Walked.{Has, leads, level_low, walk_written, size_written, type_written}
use Rattle.ept_emit.proofs.Written.{Meets, below_lower, below_within}

part_of : (xs : List ℕ) (a b w n : ℕ) → a + w ≤ n → take w (drop a (take n (drop b xs))) ≡ take w (drop (b + a) xs)
part_of xs a b w n h =
    let e : n ≡ a + (n - a) = omega arith in
    ap (λ m. take w (drop a (take m (drop b xs)))) e
    ∙ (ap (take w) (drop-take a (n - a) (drop b xs))
    ∙ (take-take w (n - a) (drop a (drop b xs)) (omega arith)
    ∙ ap (take w) (drop-drop a b xs)))

load_here : (m : List Page) (p o w : ℕ) (bytes : List ℕ) → o < 4096 → page_of m p ≡ Some bytes → load_of m (4096 * p + o) w ≡ Some (le_number (take w (drop o bytes)))
load_here m p o w bytes lt at =
    let q : (4096 * p + o) / 4096 ≡ p = omega arith in
    let r : (4096 * p + o) % 4096 ≡ o = omega arith in
    rw (q, r, at) refl

pub has_entries : (m : List Page) (at n : ℕ) (out : List ℕ) → 4096 * n ≤ length out → HasTables m at out → Has (entry_of m) (word_at out) (at / 4096) n
has_entries m at n out room h k i lt small =
    let e : 4096 * k + 8 * i ≡ 8 * (512 * k + i) = omega arith in
    load_here m (at / 4096 + k) (8 * i) 8 (take 4096 (drop (4096 * k) out)) (omega arith) (h k (omega arith))
    ∙ (ap (λ bytes. Some (le_number bytes)) (part_of out (8 * i) (4096 * k) 8 4096 (omega arith))
    ∙ ap (λ j. Some (le_number (take 8 (drop j out)))) e)

allowed_is : (rights : Rights) (kind : AccessKind) → allows rights kind ≡ (bit_and (rights_bits rights) (kind_bit kind) == kind_bit kind)
allowed_is R Read = refl
allowed_is R Write = refl
allowed_is R Fetch = refl
allowed_is Rw Read = refl
allowed_is Rw Write = refl
allowed_is Rw Fetch = refl
allowed_is Rx Read = refl
allowed_is Rx Write = refl
allowed_is Rx Fetch = refl
allowed_is Rwx Read = refl
allowed_is Rwx Write = refl
allowed_is Rwx Fetch = refl

leads_is : (o : Option Window) (addr : ℕ) (kind : AccessKind) → leads o addr (kind_bit kind) ≡ translation_in o addr kind
leads_is None addr kind = refl
leads_is (Some w) addr kind = ap (λ b. if b then At (w.address + (addr - w.guest)) else Violation (rights_bits w.rights)) (sym (allowed_is w.rights kind))

root_is : (at : ℕ) → at % 4096 ≡ 0 → root_of (eptp_of at) ≡ at / 4096 + 0
root_is at h = omega arith

-- all addresses
abbrev pub InAll : ℕ → Type 0
InAll addr = addr < 2 ^ 48

module _ (m : List Page) (at n total : ℕ) (out : List ℕ) (ws : List Window) (page : at % 4096 ≡ 0) (some : 1 ≤ n) (few : n ≤ total) (end : at + 4096 * total ≤ 2 ^ 40) (room : length out ≡ 4096 * total) (ok : All IsEmittable ws) (numbered : AreNumbered Rwx (word_at out) (at / 4096) 1 n ws 3 0 InAll) (held : HasTables m at out) where
  abbrev base : ℕ
  base = at / 4096

  entries : Has (entry_of m) (word_at out) (at / 4096) n
  entries = has_entries m at n out (omega arith) held

  bounded : at / 4096 + n ≤ 2 ^ 28
  bounded = omega arith

  pub walk_held : (addr : ℕ) (kind : AccessKind) → addr < 2 ^ 48 → HasWindowPages m ws → walk_of m (eptp_of at) addr kind ≡ translation ws addr kind
  walk_held addr kind lt addresses =
      ap (λ t. walk_from (entry_of m) (is_there m) addr (kind_bit kind) 3 t 7) (root_is at page)
      ∙ (walk_written (entry_of m) (is_there m) (word_at out) (at / 4096) 1 n ws addr (kind_bit kind) bounded entries ok addresses 3 0 some (numbered.written addr lt)
      ∙ leads_is (window_at ws addr) addr kind)

  pub size_held : (addr : ℕ) (o : Option Window) → window_at ws addr ≡ o → addr < 2 ^ 48 → AreApart (ranges_of ws) → IfSome o (λ w. IsGreatestSize w addr (leaf_size m (eptp_of at) addr))
  size_held addr None is lt apart = tt
  size_held addr (Some w) is lt apart =
      let size = size_written (entry_of m) (word_at out) (at / 4096) 1 n ws addr w bounded entries ok apart is 3 0 some (numbered.written addr lt) (λ h allowed inside. let low = level_low w.leaf in omega arith) in
      subst (λ (t : ℕ). IsGreatestSize w addr (end_entry_size (entry_of m) addr 3 t)) (sym (root_is at page)) size

  pub type_held : (addr : ℕ) (o : Option Window) → window_at ws addr ≡ o → addr < 2 ^ 48 → IfSome o (λ w. leaf_type m (eptp_of at) addr ≡ Some (type_of w.caching))
  type_held addr None is lt = tt
  type_held addr (Some w) is lt =
      let mapped = type_written (entry_of m) (word_at out) (at / 4096) 1 n ws addr w bounded entries ok is 3 0 some (numbered.written addr lt) in
      subst (λ (t : ℕ). option_map (λ e. bits_of e 3 5) (end_entry (entry_of m) addr 3 t) ≡ Some (type_of w.caching)) (sym (root_is at page)) mapped

  -- a table that is read
  record Tells (addr level pg : ℕ) : Type 0 where
    table : ℕ
    is : pg ≡ at / 4096 + table
    meets : Meets (word_at out) (at / 4096) ws 3 0 addr level table

  tells_at : (addr level pg : ℕ) → addr < 2 ^ 48 → level ≤ 3 → 3 - level < length (addresses_from (entry_of m) addr 3 (at / 4096 + 0)) → get_or (addresses_from (entry_of m) addr 3 (at / 4096 + 0)) (3 - level) 0 / 4096 ≡ pg → Tells addr level pg
  tells_at addr level pg lt depth within here =
      let r = met (entry_of m) (word_at out) (at / 4096) 1 n ws addr bounded entries ok 3 0 (3 - level) 0 some (numbered.written addr lt) within in
      let same : 3 - (3 - level) ≡ level = omega arith in
      record {
        table = r.table;
        is = omega (arith, here, r.low, r.high);
        meets = rw same at r.meets;
      }

  tells : (addr level pg : ℕ) → addr < 2 ^ 48 → Reads m (eptp_of at) addr level pg → Tells addr level pg
  tells addr level pg lt r =
      subst (λ (t : ℕ). 3 - level < length (addresses_from (entry_of m) addr 3 t) → get_or (addresses_from (entry_of m) addr 3 t) (3 - level) 0 / 4096 ≡ pg → Tells addr level pg) (sym (root_is at page)) (tells_at addr level pg lt r.depth) r.within r.here

  reads_of : (addr l2 k2 : ℕ) (addresses : List ℕ) → IsRead addresses (at / 4096) 3 l2 k2 → (l2 ≤ 3) × (3 - l2 < length addresses) × (get_or addresses (3 - l2) 0 / 4096 ≡ at / 4096 + k2)
  reads_of addr l2 k2 addresses r = (r.level, r.within, r.here)

  told : (addr l2 k2 : ℕ) → addr < 2 ^ 48 → Meets (word_at out) (at / 4096) ws 3 0 addr l2 k2 → Reads m (eptp_of at) addr l2 (at / 4096 + k2)
  told addr l2 k2 lt meets =
      let r = read (entry_of m) (word_at out) (at / 4096) 1 n ws addr bounded entries ok 3 0 l2 k2 some (numbered.written addr lt) meets in
      let q = subst (λ (t : ℕ). IsRead (addresses_from (entry_of m) addr 3 t) (at / 4096) 3 l2 k2) (sym (root_is at page)) r in
      record {
        depth = q.level;
        within = q.within;
        here = q.here;
      }

  table_in : (addr l2 k2 : ℕ) → addr < 2 ^ 48 → Below (word_at out) (at / 4096) ws 3 0 addr l2 k2 → (1 ≤ k2) × (k2 < n)
  table_in addr l2 k2 lt b = below_within Rwx (word_at out) (at / 4096) 1 n ws 3 0 addr l2 k2 (numbered.written addr lt) b

  table_low : (addr l2 k2 : ℕ) → addr < 2 ^ 48 → Meets (word_at out) (at / 4096) ws 3 0 addr l2 k2 → k2 < n
  table_low addr l2 k2 lt (inl e) = omega (arith, e.1)
  table_low addr l2 k2 lt (inr b) = let p = table_in addr l2 k2 lt b in p.1

  pub alone_held : (addr : ℕ) → addr < 2 ^ 48 → All (λ address. (at ≤ address) × (address + 8 ≤ at + length out)) (addresses_read m (eptp_of at) addr)
  alone_held addr lt =
      subst (λ (t : ℕ). All (λ address. (at ≤ address) × (address + 8 ≤ at + length out)) (addresses_from (entry_of m) addr 3 t)) (sym (root_is at page)) (λ i d within.
      let r = met (entry_of m) (word_at out) (at / 4096) 1 n ws addr bounded entries ok 3 0 i d some (numbered.written addr lt) within in
      let low = table_low addr (3 - i) r.table lt r.meets in
      (omega (arith, r.low), omega (arith, r.high)))

  root_path : (a level : ℕ) → a < 2 ^ 48 → level ≡ 3 → a / entry_size (suc level) ≡ 0
  root_path a level lt e = rw e (omega arith)

  paths_of : (a b level other k : ℕ) → a < 2 ^ 48 → b < 2 ^ 48 → Meets (word_at out) (at / 4096) ws 3 0 a level k → Meets (word_at out) (at / 4096) ws 3 0 b other k → (level ≡ other) × (a / entry_size (suc level) ≡ b / entry_size (suc level))
  paths_of a b level other k la lb (inl x) (inl y) = (x.0 ∙ sym y.0, root_path a level la x.0 ∙ sym (root_path b level lb x.0))
  paths_of a b level other k la lb (inl x) (inr y) = let p = table_in b other k lb y in absurd (omega (arith, x.1, p.0))
  paths_of a b level other k la lb (inr x) (inl y) = let p = table_in a level k la x in absurd (omega (arith, y.1, p.0))
  paths_of a b level other k la lb (inr x) (inr y) = numbered.paths a b level other k la lb x y

  pub paths_held : (a b level other pg : ℕ) → a < 2 ^ 48 → b < 2 ^ 48 → Reads m (eptp_of at) a level pg → Reads m (eptp_of at) b other pg → (level ≡ other) × (a / entry_size (suc level) ≡ b / entry_size (suc level))
  paths_held a b level other pg la lb ra rb =
      let x = tells a level pg la ra in
      let y = tells b other pg lb rb in
      let same : y.table ≡ x.table = omega (arith, x.is, y.is) in
      paths_of a b level other x.table la lb x.meets (rw same at y.meets)

  ascending_of : (addr level k lower j : ℕ) → addr < 2 ^ 48 → Meets (word_at out) (at / 4096) ws 3 0 addr level k → Meets (word_at out) (at / 4096) ws 3 0 addr lower j → lower < level → k < j
  ascending_of addr level k lower j lt (inl x) (inl y) less = absurd (omega (arith, x.0, y.0, less))
  ascending_of addr level k lower j lt (inl x) (inr y) less = let p = table_in addr lower j lt y in omega (arith, x.1, p.0)
  ascending_of addr level k lower j lt (inr x) (inl y) less = let low = below_lower (word_at out) (at / 4096) ws 3 0 addr level k x in absurd (omega (arith, y.0, low, less))
  ascending_of addr level k lower j lt (inr x) (inr y) less = numbered.ascending addr level k lower j lt x y less

  pub ascending_held : (addr level pg lower low : ℕ) → addr < 2 ^ 48 → Reads m (eptp_of at) addr level pg → Reads m (eptp_of at) addr lower low → lower < level → pg < low
  ascending_held addr level pg lower low lt r q less =
      let x = tells addr level pg lt r in
      let y = tells addr lower low lt q in
      let up = ascending_of addr level x.table lower y.table lt x.meets y.meets less in
      omega (arith, x.is, y.is, up)

  -- the PML4 table
  root_read : (addr pg : ℕ) → addr < 2 ^ 48 → pg ≡ at / 4096 → IsReadBy m (eptp_of at) addr pg
  root_read addr pg lt e =
      let z : pg ≡ at / 4096 + 0 = omega arith in
      record {
        addr = addr;
        level = 3;
        small = omega arith;
        reads = rw z (told addr 3 0 lt (inl (refl, refl)));
      }

  order_of : (addr level j k : ℕ) → addr < 2 ^ 48 → 1 ≤ j → j ≤ k → Meets (word_at out) (at / 4096) ws 3 0 addr level k → IsReadBy m (eptp_of at) addr (at / 4096 + j)
  order_of addr level j k lt some_j le (inl x) = absurd (omega (arith, x.1))
  order_of addr level j k lt some_j le (inr b) =
      let r = numbered.order addr level j k lt b some_j le in
      record {
        addr = r.addr;
        level = r.depth;
        small = r.within.1;
        reads = told r.addr r.depth j (omega (arith, r.within.1)) (inr r.below);
      }

  pub order_held : (addr level pg k : ℕ) → addr < 2 ^ 48 → Reads m (eptp_of at) addr level pg → at / 4096 ≤ k → k ≤ pg → IsReadBy m (eptp_of at) addr k
  order_held addr level pg k lt r low high =
      let x = tells addr level pg lt r in
      elim (cases_eq k (at / 4096)) [
        | inl e ↦ root_read addr k lt e
        | inr ne ↦
            let is : k ≡ at / 4096 + (k - at / 4096) = omega arith in
            subst (λ (q : ℕ). IsReadBy m (eptp_of at) addr q) (sym is) (order_of addr level (k - at / 4096) x.table lt (omega arith) (omega (arith, x.is)) x.meets)
      ]

  pub rest_held : (k : ℕ) → k < total → ((j : ℕ) → 512 * n ≤ j → word_at out j ≡ 0) → IsReadBy m (eptp_of at) (2 ^ 48 - 1) (at / 4096 + k) ⊎ ((i : ℕ) → i < 512 → word_at out (512 * k + i) ≡ 0)
  rest_held k lt none =
      elim (cases_lt k n) [
        | inl used ↦ elim (cases_eq k 0) [
          | inl e ↦ inl (rw e (root_read (2 ^ 48 - 1) (at / 4096 + 0) (omega arith) (omega arith)))
          | inr ne ↦
              let r = numbered.reached k (omega arith) used in
              let below : r.addr < 2 ^ 48 = r.within in
              inl (record {
                addr = r.addr;
                level = r.depth;
                small = omega arith;
                reads = told r.addr r.depth k below (inr r.below);
              })
        ]
        | inr free ↦ inr (λ i small. none (512 * k + i) (omega arith))
      ]
