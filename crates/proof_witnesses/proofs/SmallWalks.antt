-- Walks in the small image lead to the one page that its subject maps, and read one entry of each of its tables on the way.
use Rattle.std.proofs.Common.{◌≡◌, ℕ, zero, suc, ◌+◌, ◌*◌, ◌/◌, ◌%◌, ◌^◌, ◌<◌, ◌≤◌, true, cond, List, [], ◌∷◌, length, take, drop, Some, refl, sym, ap, subst, ◌∙◌, arith, inl, inr}
use Rattle.std.specs.Prelude.{codes, is_some, option_map, slice_index, slice_index_or}
use Rattle.std.proofs.lemmas.Bool.{cases_lt}
use Rattle.image_memory.proofs.SpanPages.{SpanIn, page_there}
use Rattle.image_memory.specs.Memory.{memory_of}
use Rattle.image_pack.specs.declared.parts.SpanKind.TheVariants.{Own, Kernel}
use Rattle.machine_layout.proofs.WalkSteps.{walk_absent, walk_deeper, walk_leaf}
use Rattle.machine_layout.specs.Memory.{Page, is_there, le_number, page_of}
use Rattle.machine_layout.specs.Walks.{addresses_from, entry_address, entry_of, goes_on, index_at, leaf_end, walk_from}
use Rattle.machine_layout.specs.declared.walk.Walk.{Walk}
use Rattle.machine_layout.specs.declared.walk.Walk.TheVariants.{At, Misconfigured, Violation}
use Rattle.muen_num.specs.declared.tag.TagPart.TheVariants.{Ept, Whole}
use Rattle.proof_witnesses.proofs.SmallBytes.{first_entry, first_page, last_page, other_entry, second_page, tables_long, third_page, zeros_long}
use Rattle.proof_witnesses.proofs.SmallConditions.{keeps}
use Rattle.proof_witnesses.specs.SmallImage.{leaf_entry, small_image, small_span, small_tables, table_entry, table_page, zero_page}

-- ---- an entry of a table

module _ (m : List Page) where
  -- the table in this page has this first entry, and no other one is present
  pub record IsTable (page e : ℕ) : Type 0 where
    pub first : entry_of m page 0 ≡ Some e
    pub others : (k : ℕ) → 0 < k → k < 512 → entry_of m page k ≡ Some 0

  entry_at : (page : ℕ) (bytes : List ℕ) → page_of m page ≡ Some bytes → (k : ℕ) → k < 512 → entry_of m page k ≡ Some (le_number (take 8 (drop (8 * k) bytes)))
  entry_at page bytes there k low =
      let number : (4096 * page + 8 * k) / 4096 ≡ page = omega (arith, low) in
      let offset : (4096 * page + 8 * k) % 4096 ≡ 8 * k = omega (arith, low) in
      (λ j. option_map le_number (option_map (λ (b : List ℕ). take 8 (drop (offset j) b)) (page_of m (number j))))
      ∙ ap (λ o. option_map le_number (option_map (λ (b : List ℕ). take 8 (drop (8 * k) b)) o)) there

  is_table : (page e : ℕ) → e < 256 ^ 8 → page_of m page ≡ Some (table_page e) → IsTable page e
  is_table page e low there = record {
    first = entry_at page (table_page e) there 0 (omega arith) ∙ ap (λ n. Some n) (first_entry e low);
    others = λ k some few. entry_at page (table_page e) there k few ∙ ap (λ n. Some n) (other_entry e k some);
  }

-- ---- the pages

abbrev memory : List Page
memory = memory_of small_image

tables_span : SpanIn small_image (small_span 258 4 2 Kernel (codes "one") Ept, small_tables)
tables_span = record { index = 2; span = refl; content = refl; long = tables_long }

code_span : SpanIn small_image (small_span 256 1 0 Own (codes "code") Whole, zero_page)
code_span = record { index = 0; span = refl; content = refl; long = zeros_long }

first_is : IsTable memory 258 (table_entry 259)
first_is =
    is_table memory 258 (table_entry 259) (omega arith)
    (page_there small_image keeps (small_span 258 4 2 Kernel (codes "one") Ept, small_tables) tables_span 0 (omega arith) ∙ ap (λ (b : List ℕ). Some b) first_page)

second_is : IsTable memory 259 (table_entry 260)
second_is =
    is_table memory 259 (table_entry 260) (omega arith)
    (page_there small_image keeps (small_span 258 4 2 Kernel (codes "one") Ept, small_tables) tables_span 1 (omega arith) ∙ ap (λ (b : List ℕ). Some b) second_page)

third_is : IsTable memory 260 (table_entry 261)
third_is =
    is_table memory 260 (table_entry 261) (omega arith)
    (page_there small_image keeps (small_span 258 4 2 Kernel (codes "one") Ept, small_tables) tables_span 2 (omega arith) ∙ ap (λ (b : List ℕ). Some b) third_page)

last_is : IsTable memory 261 leaf_entry
last_is =
    is_table memory 261 leaf_entry (omega arith)
    (page_there small_image keeps (small_span 258 4 2 Kernel (codes "one") Ept, small_tables) tables_span 3 (omega arith) ∙ ap (λ (b : List ℕ). Some b) last_page)

code_there : is_there memory 256 ≡ true
code_there = ap is_some (page_there small_image keeps (small_span 256 1 0 Own (codes "code") Whole, zero_page) code_span 0 (omega arith))

-- ---- walks

module _ (addr want : ℕ) where
  abbrev from : ℕ → ℕ → Walk
  from level page = walk_from (entry_of memory) (is_there memory) addr want level page 7

  stops : (level page e : ℕ) → IsTable memory page e → 0 < index_at level addr → from level page ≡ Violation 0
  stops level page e t some =
      sym (walk_absent (entry_of memory) (is_there memory) addr want level page 7 0 (sym (t.others (index_at level addr) some (omega arith))) refl)

  first_on : index_at 3 addr ≡ 0 → from 3 258 ≡ from 2 259
  first_on z =
      sym (walk_deeper (entry_of memory) (is_there memory) addr want 3 258 7 (table_entry 259) (sym (ap (entry_of memory 258) z ∙ first_is.first)) (from 2 259) 7 259 refl refl refl refl refl refl)

  second_on : index_at 2 addr ≡ 0 → from 2 259 ≡ from 1 260
  second_on z =
      sym (walk_deeper (entry_of memory) (is_there memory) addr want 2 259 7 (table_entry 260) (sym (ap (entry_of memory 259) z ∙ second_is.first)) (from 1 260) 7 260 refl refl refl refl refl refl)

  third_on : index_at 1 addr ≡ 0 → from 1 260 ≡ from 0 261
  third_on z =
      sym (walk_deeper (entry_of memory) (is_there memory) addr want 1 260 7 (table_entry 261) (sym (ap (entry_of memory 260) z ∙ third_is.first)) (from 0 261) 7 261 refl refl refl refl refl refl)

  abbrev ends : Walk
  ends = leaf_end (is_there memory) addr want 5 (1048576 + addr % 4096)

  at_leaf : index_at 0 addr ≡ 0 → from 0 261 ≡ ends
  at_leaf z =
      sym (walk_leaf (entry_of memory) (is_there memory) addr want 0 261 7 leaf_entry (sym (ap (entry_of memory 261) z ∙ last_is.first)) ends 5 256 4096 refl refl refl refl refl refl refl)

  -- below the end of the page
  pub near : addr < 4096 → from 3 258 ≡ ends
  near low =
      let z3 : addr / 549755813888 % 512 ≡ 0 = omega (arith, low) in
      let z2 : addr / 1073741824 % 512 ≡ 0 = omega (arith, low) in
      let z1 : addr / 2097152 % 512 ≡ 0 = omega (arith, low) in
      let z0 : addr / 4096 % 512 ≡ 0 = omega (arith, low) in
      first_on z3 ∙ second_on z2 ∙ third_on z1 ∙ at_leaf z0

  -- and behind it
  pub far : 4096 ≤ addr → addr < 2 ^ 48 → from 3 258 ≡ Violation 0
  far high low = elim (cases_lt 0 (addr / 549755813888 % 512)) [
    | inl some ↦ stops 3 258 (table_entry 259) first_is some
    | inr none3 ↦
        let z3 : addr / 549755813888 % 512 ≡ 0 = omega (arith, none3) in
        first_on z3
        ∙ elim (cases_lt 0 (addr / 1073741824 % 512)) [
          | inl some ↦ stops 2 259 (table_entry 260) second_is some
          | inr none2 ↦
              let z2 : addr / 1073741824 % 512 ≡ 0 = omega (arith, none2) in
              second_on z2
              ∙ elim (cases_lt 0 (addr / 2097152 % 512)) [
                | inl some ↦ stops 1 260 (table_entry 261) third_is some
                | inr none1 ↦
                    let z1 : addr / 2097152 % 512 ≡ 0 = omega (arith, none1) in
                    third_on z1
                    ∙ elim (cases_lt 0 (addr / 4096 % 512)) [
                      | inl some ↦ stops 0 261 leaf_entry last_is some
                      | inr none0 ↦ absurd (omega (arith, z3, z2, z1, none0, high, low))
                    ]
              ]
        ]
  ]

-- where a page is mapped, it is there
pub found : (addr : ℕ) → cond (is_there memory ((1048576 + addr % 4096) / 4096)) (At (1048576 + addr % 4096)) Misconfigured ≡ At (1048576 + addr % 4096)
found addr =
    let page : (1048576 + addr % 4096) / 4096 ≡ 256 = omega arith in
    ap (λ b. cond b (At (1048576 + addr % 4096)) Misconfigured) (ap (is_there memory) page ∙ code_there)

-- ---- what is read on the way

-- below this address all entries before the table n steps down are the first ones
abbrev pub limit : ℕ → ℕ
limit n = slice_index_or (281474976710656 ∷ 549755813888 ∷ 1073741824 ∷ 2097152 ∷ []) n 0

-- an entry of the table n steps down
pub record IsReadAt (addr n at : ℕ) : Type 0 where
  pub place : ℕ
  pub low : place < 512
  pub few : n < 4
  pub is : at ≡ 4096 * (258 + n) + 8 * place
  pub below : addr < limit n

abbrev pub AreReadFrom : ℕ → ℕ → List ℕ → Type 0
AreReadFrom addr n [] = Unit {0}
AreReadFrom addr n (at ∷ ats) = IsReadAt addr n at × AreReadFrom addr (suc n) ats

module _ (addr : ℕ) where
  abbrev places : ℕ → ℕ → List ℕ
  places level page = addresses_from (entry_of memory) addr level page

  here : (n level : ℕ) → n < 4 → addr < limit n → IsReadAt addr n (entry_address (258 + n) (index_at level addr))
  here n level few below = record { place = index_at level addr; low = omega arith; few = few; is = refl; below = below }

  last_places : addr < 2097152 → AreReadFrom addr 3 (places 0 261)
  last_places below = (here 3 0 (omega arith) below, tt)

  third_places : addr < 1073741824 → AreReadFrom addr 2 (places 1 260)
  third_places below =
      elim (cases_lt 0 (addr / 2097152 % 512)) [
        | inl some ↦
            let stop : places 1 260 ≡ entry_address 260 (index_at 1 addr) ∷ [] =
            ap (λ o. entry_address 260 (index_at 1 addr) ∷ goes_on 1 o [] (λ t. places 0 t)) (third_is.others (index_at 1 addr) some (omega arith)) in
            subst (AreReadFrom addr 2) (sym stop) (here 2 1 (omega arith) below, tt)
        | inr none ↦
            let z : addr / 2097152 % 512 ≡ 0 = omega (arith, none) in
            let on : places 1 260 ≡ entry_address 260 (index_at 1 addr) ∷ places 0 261 =
            ap (λ o. entry_address 260 (index_at 1 addr) ∷ goes_on 1 o [] (λ t. places 0 t)) (ap (entry_of memory 260) z ∙ third_is.first) in
            subst (AreReadFrom addr 2) (sym on) (here 2 1 (omega arith) below, last_places (omega (arith, z, below)))
      ]

  second_places : addr < 549755813888 → AreReadFrom addr 1 (places 2 259)
  second_places below =
      elim (cases_lt 0 (addr / 1073741824 % 512)) [
        | inl some ↦
            let stop : places 2 259 ≡ entry_address 259 (index_at 2 addr) ∷ [] =
            ap (λ o. entry_address 259 (index_at 2 addr) ∷ goes_on 2 o [] (λ t. places 1 t)) (second_is.others (index_at 2 addr) some (omega arith)) in
            subst (AreReadFrom addr 1) (sym stop) (here 1 2 (omega arith) below, tt)
        | inr none ↦
            let z : addr / 1073741824 % 512 ≡ 0 = omega (arith, none) in
            let on : places 2 259 ≡ entry_address 259 (index_at 2 addr) ∷ places 1 260 =
            ap (λ o. entry_address 259 (index_at 2 addr) ∷ goes_on 2 o [] (λ t. places 1 t)) (ap (entry_of memory 259) z ∙ second_is.first) in
            subst (AreReadFrom addr 1) (sym on) (here 1 2 (omega arith) below, third_places (omega (arith, z, below)))
      ]

  pub first_places : addr < 281474976710656 → AreReadFrom addr 0 (places 3 258)
  first_places below =
      elim (cases_lt 0 (addr / 549755813888 % 512)) [
        | inl some ↦
            let stop : places 3 258 ≡ entry_address 258 (index_at 3 addr) ∷ [] =
            ap (λ o. entry_address 258 (index_at 3 addr) ∷ goes_on 3 o [] (λ t. places 2 t)) (first_is.others (index_at 3 addr) some (omega arith)) in
            subst (AreReadFrom addr 0) (sym stop) (here 0 3 (omega arith) below, tt)
        | inr none ↦
            let z : addr / 549755813888 % 512 ≡ 0 = omega (arith, none) in
            let on : places 3 258 ≡ entry_address 258 (index_at 3 addr) ∷ places 2 259 =
            ap (λ o. entry_address 258 (index_at 3 addr) ∷ goes_on 3 o [] (λ t. places 2 t)) (ap (entry_of memory 258) z ∙ first_is.first) in
            subst (AreReadFrom addr 0) (sym on) (here 0 3 (omega arith) below, second_places (omega (arith, z, below)))
      ]

  -- one of them
  pub read_at : (n : ℕ) (ats : List ℕ) → AreReadFrom addr n ats → (k : ℕ) → k < length ats → IsReadAt addr (n + k) (slice_index ats k)
  read_at n [] all k low = absurd (omega (arith, low))
  read_at n (at ∷ ats) all zero low = let same : n ≡ n + 0 = omega arith in subst (λ j. IsReadAt addr j at) same all.0
  read_at n (at ∷ ats) all (suc k) low =
      let same : suc n + k ≡ n + suc k = omega arith in
      subst (λ j. IsReadAt addr j (slice_index ats k)) same (read_at (suc n) ats all.1 k (omega (arith, low)))
