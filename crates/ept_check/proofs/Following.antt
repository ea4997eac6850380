-- A table that is entered, and an entry of it that is followed.
use Rattle.std.proofs.Common.{◌≡◌, ◌≢◌, ℕ, zero, suc, ◌+◌, ◌-◌, ◌*◌, ◌%◌, ◌<◌, ◌≤◌, Bool, true, false, List, [], Option, Some, None, refl, sym, ap, subst, ◌∙◌, inl, inr, arith}
use Rattle.std.specs.Prelude.{bit_and, slice_index_or}
use Rattle.std.proofs.lemmas.Bool.{cases_lt, true≢false}
use Rattle.ept_check.proofs.Checks.{ended_found, entry_steps, entry_stops, out_here, out_rest, outside_first, twice_first}
use Rattle.ept_check.proofs.Comes.{come_same}
use Rattle.ept_check.proofs.Firsts.{head_found, later_found, none_joined}
use Rattle.ept_check.proofs.Knowns.{below, ended_here, entered, past, read_here, seen_twice}
use Rattle.ept_check.proofs.Reading.{lowest}
use Rattle.ept_check.proofs.Sizes.{above_is, entries_within, first_here, index_here, one_up, page_some}
use Rattle.ept_check.proofs.Steps.{told, told_here}
use Rattle.ept_check.specs.Entries.{leads_on, pages}
use Rattle.ept_check.specs.Faults.{contents, table_fault_of_kind, table_fault_at}
use Rattle.ept_check.specs.Known.{Known, come}
use Rattle.ept_check.specs.Pieces.{leaves, led_by_entry}
use Rattle.ept_check.specs.Search.{first_from}
use Rattle.ept_check.specs.Tables.{Tables, addr_of, subject_of}
use Rattle.ept_check.specs.declared.types.FaultKind.TheVariants.{Outside, Twice}
use Rattle.ept_check.specs.declared.types.TableFault.{TableFault}
use Rattle.ept_emit.specs.declared.window.Window.{Window}
use Rattle.machine_layout.specs.Walks.{bits_of, index_at}

-- ---- a table that is entered

-- at position q a walk comes to the table in page t, of level l, with the rights r
pub record ComesTo (v : Tables) (q l t r : ℕ) : Type 0 where
  pub few : l ≤ 3
  pub at : come v q (3 - l) l ≡ Some (t, r)

-- a table stands for some positions
some_positions : (l : ℕ) → 0 < 512 * pages l
some_positions l = omega (arith, page_some l)

module _ {v : Tables} {q l t r : ℕ} (c : ComesTo v q l t r) where
  -- what is found at the first position is the first fault
  found_here : (f : TableFault) → table_fault_at v q ≡ Some f → Some f ≡ first_from (table_fault_at v) q (512 * pages l)
  found_here f h = sym (head_found (table_fault_at v) q (512 * pages l) f h (some_positions l))

  -- a walk leaves the tables from this address as from the first position
  leaves_from : (addr : ℕ) → addr ≡ addr_of q → leaves v.entry v.is_table (addr_of q) l t ≡ leaves v.entry v.is_table addr l t
  leaves_from addr e = ap (λ a. leaves v.entry v.is_table a l t) (sym e)

  -- the page isn't declared to be a table
  pub not_table : (f : TableFault) → f ≡ table_fault_of_kind Outside q → v.is_table t ≡ false → Some f ≡ first_from (table_fault_at v) q (512 * pages l)
  not_table f e h = found_here f (outside_first v q (out_here v q l t r c.few c.at h) ∙ ap (λ x. Some x) (sym e))

  -- the table was entered before, and a walk leaves the tables below it
  pub leaves_below : {seen : ℕ → Bool} (f : TableFault) (addr : ℕ) → f ≡ table_fault_of_kind Outside q → Known v seen q q (suc l) → addr ≡ addr_of q → leaves v.entry v.is_table addr l t ≡ true
      → Some f ≡ first_from (table_fault_at v) q (512 * pages l)
  leaves_below {seen} f addr e known same h =
      found_here f (outside_first v q (out_rest v q l t r c.few c.at seen known ∙ leaves_from addr same ∙ h) ∙ ap (λ x. Some x) (sym e))

  -- .. and none does
  pub seen_before : {seen : ℕ → Bool} (f : TableFault) (addr : ℕ) → f ≡ table_fault_of_kind Twice q → q % pages (suc l) ≡ 0 → Known v seen q q (suc l) → seen t ≡ true → addr ≡ addr_of q
      → leaves v.entry v.is_table addr l t ≡ false → Some f ≡ first_from (table_fault_at v) q (512 * pages l)
  seen_before {seen} f addr e first known was same h =
      let stays = out_rest v q l t r c.few c.at seen known ∙ leaves_from addr same ∙ h in
      let twice = seen_twice v seen q l t (read_here v q l t r c.few c.at) first was known in
      found_here f (twice_first v q stays twice ∙ ap (λ x. Some x) (sym e))

  -- the table is entered for the first time
  pub enters : {seen : ℕ → Bool} (after : ℕ → Bool) → v.is_table t ≡ true → seen t ≡ false → after t ≡ true → ((u : ℕ) → u ≢ t → after u ≡ seen u)
      → Known v seen q q (suc l) → (x : ℕ) → x ≡ q → Known v after x q l
  enters {seen} after table unseen marked others known x e =
      subst (λ y. Known v after y q l) (sym e) (entered v seen after q l t (read_here v q l t r c.few c.at) unseen table marked others known)

-- ---- entry by entry

-- of no entry there is no fault
pub start_none : (f : ℕ → Option TableFault) (q l : ℕ) → first_from f q (0 * pages l) ≡ None
unfolding first_from
start_none f q l = let none : 0 * pages l ≡ 0 = omega arith in rw none refl

-- a fault behind entries without one is the first
pub found_later : (f : ℕ → Option TableFault) (q l i x : ℕ) (y : TableFault) → l ≤ 3 → i < 512 → x ≡ q + i * pages l → first_from f q (i * pages l) ≡ None
    → first_from f x (pages l) ≡ Some y → Some y ≡ first_from f q (512 * pages l)
found_later f q l i x y a b e none some = sym (later_found f q (i * pages l) (pages l) (512 * pages l) x y (entries_within l i a b) e none some)

-- no fault in an entry more
pub none_later : (f : ℕ → Option TableFault) (q l i : ℕ) → first_from f q (i * pages l) ≡ None → first_from f (q + i * pages l) (pages l) ≡ None
    → first_from f q ((i + 1) * pages l) ≡ None
none_later f q l i a b = none_joined f q (i * pages l) (pages l) ((i + 1) * pages l) (q + i * pages l) (omega arith) refl a b

-- behind an entry the next one begins
pub next_known : (v : Tables) (seen : ℕ → Bool) (q l i : ℕ) → Known v seen (q + i * pages l + pages l) q l → Known v seen (q + (i + 1) * pages l) q l
next_known v seen q l i h = let e : q + i * pages l + pages l ≡ q + (i + 1) * pages l = omega arith in subst (λ x. Known v seen x q l) e h

-- behind the last entry the table ends
pub last_known : (v : Tables) (seen : ℕ → Bool) (q l i : ℕ) → i ≡ 512 → Known v seen (q + i * pages l) q l → Known v seen (q + 512 * pages l) q l
last_known v seen q l i e h = subst (λ n. Known v seen (q + n * pages l) q l) e h

-- ---- an entry that is followed

-- entry i of such a table is e, and the table begins where one of its level can
pub record Follows (v : Tables) (q l t r i e : ℕ) : Type 0 where
  pub comes : ComesTo v q l t r
  pub first : q % pages (suc l) ≡ 0
  pub inside : i < 512
  pub is : v.entry t i ≡ Some e

-- what entering the table below requires, at this position
pub record GoesBelow (v : Tables) (seen : ℕ → Bool) (x l t r bound : ℕ) : Type 0 where
  pub some : 0 < l
  pub first : x % pages (suc (l - 1)) ≡ 0
  pub last : x + pages (suc (l - 1)) ≤ bound
  pub at : come v x (3 - (l - 1)) (l - 1) ≡ Some (t, r)
  pub known : Known v seen x x (suc (l - 1))

-- the first position of entry i
abbrev place : ℕ → ℕ → ℕ → ℕ
place q l i = q + i * pages l

-- where an entry leads on, a walk comes to the table below
come_child : (v : Tables) (x l t r e : ℕ) → 0 < l → l ≤ 3 → come v x (3 - l) l ≡ Some (t, r) → v.entry t (index_at l (addr_of x)) ≡ Some e → leads_on l e ≡ true
    → come v x (3 - (l - 1)) (l - 1) ≡ Some (bits_of e 12 51, bit_and r (bits_of e 0 2))
unfolding come
come_child v x zero t r e some a at is on = absurd (omega (arith, some))
come_child v x (suc l) t r e some a at is on =
    let one : suc l - 1 ≡ l = omega arith in
    let up : 3 - l ≡ suc (3 - suc l) = omega (arith, a) in
    rw (one, up) (rw at (entry_steps (suc l) r e (v.entry t (index_at (suc l) (addr_of x))) is on))

module _ {v : Tables} {q l t r i e : ℕ} (f : Follows v q l t r i e) where
  -- a walk for its first position reads the entry
  entry_here : v.entry t (index_at l (addr_of (place q l i))) ≡ Some e
  entry_here = ap (v.entry t) (index_here l q i f.comes.few f.first f.inside) ∙ f.is

  -- .. in this table
  come_here : come v (place q l i) (3 - l) l ≡ Some (t, r)
  come_here =
      let x = place q l i in
      let above = above_is l l q i x x (omega arith) f.comes.few f.first refl f.inside (omega arith) (omega (arith, page_some l)) in
      come_same v (3 - l) l x q (omega (arith, f.comes.few)) above ∙ f.comes.at

  -- ---- it references no table

  -- nothing more is known behind it
  pub stops_known : {seen : ℕ → Bool} → leads_on l e ≡ false → Known v seen (place q l i) q l → Known v seen (place q l i + pages l) q l
  stops_known {seen} stop known =
      ended_here v seen l q i (place q l i) t r f.comes.few f.first refl f.inside f.comes.at (entry_stops l r e _ entry_here stop) known

  -- what is found against the windows of the subject is the first fault of its positions
  pub stops_found : {seen : ℕ → Bool} (x : ℕ) (ws : List Window) → leads_on l e ≡ false → Known v seen (place q l i) q l → place q l i ≡ x
      → slice_index_or v.windows (subject_of (place q l i)) [] ≡ ws
      → first_from (contents (led_by_entry v.there l e r) (told ws)) x (pages l) ≡ first_from (table_fault_at v) (place q l i) (pages l)
  stops_found {seen} x ws stop known same own =
      ap (λ n. first_from (contents (led_by_entry v.there l e r) (told ws)) n (pages l)) (sym same)
      ∙ told_here v l e r (place q l i) ws f.comes.few (first_here l q i f.comes.few f.first) own
      ∙ sym (ended_found v seen q l t r e i (place q l i) f.comes.few f.first refl f.inside f.comes.at entry_here stop (stops_known stop known))

  -- ---- it references a table

  -- the lowest level references none
  level_some : leads_on l e ≡ true → 0 < l
  level_some on = elim (cases_lt 0 l) [
    | inl h ↦ h
    | inr h ↦ let low : l ≡ 0 = omega (arith, h) in absurd (true≢false (sym on ∙ ap (λ n. leads_on n e) low ∙ lowest e))
  ]

  -- that table can be entered
  pub goes_below : {seen : ℕ → Bool} (x page over bound : ℕ) → leads_on l e ≡ true → Known v seen (place q l i) q l → place q l i ≡ x
      → page ≡ bits_of e 12 51 → over ≡ bits_of e 0 2 → q + 512 * pages l ≤ bound → GoesBelow v seen x l page (bit_and r over) bound
  goes_below {seen} x page over bound on known same page_is over_is last =
      let some = level_some on in
      let up = one_up l some in
      subst (λ n. GoesBelow v seen n l page (bit_and r over) bound) same (record {
        some = some;
        first = subst (λ n. place q l i % pages n ≡ 0) (sym up) (first_here l q i f.comes.few f.first);
        last = subst (λ n. place q l i + pages n ≤ bound) (sym up) (omega (arith, entries_within l i f.comes.few f.inside, last));
        at =
            come_child v (place q l i) l t r e some f.comes.few come_here entry_here on
            ∙ ap (λ n. Some (n, bit_and r (bits_of e 0 2))) (sym page_is)
            ∙ ap (λ n. Some (page, bit_and r n)) (sym over_is);
        known = rw up (below v seen l q i (place q l i) f.comes.few f.first refl f.inside known);
      })

  -- what is found in it is the first fault of the entry's positions
  pub below_found : (x : ℕ) → leads_on l e ≡ true → place q l i ≡ x → first_from (table_fault_at v) x (pages (suc (l - 1))) ≡ first_from (table_fault_at v) (place q l i) (pages l)
  below_found x on same =
      ap (λ n. first_from (table_fault_at v) n (pages (suc (l - 1)))) (sym same)
      ∙ ap (λ n. first_from (table_fault_at v) (place q l i) (pages n)) (one_up l (level_some on))

  -- what is known behind it is known behind the entry
  pub below_past : (after : ℕ → Bool) (x : ℕ) → leads_on l e ≡ true → place q l i ≡ x → Known v after (x + pages (suc (l - 1))) x (l - 1) → Known v after (place q l i + pages l) q l
  below_past after x on same known =
      let up = one_up l (level_some on) in
      let some = page_some l in
      let here = subst (λ n. Known v after (n + pages (suc (l - 1))) n (l - 1)) (sym same) known in
      past v after (place q l i + pages l) (place q l i) (l - 1) q l (omega (arith, some)) (omega (arith, some))
      (subst (λ n. Known v after (place q l i + pages n) (place q l i) (l - 1)) up here)
