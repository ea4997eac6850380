-- No fault, and soundness.
use Rattle.std.proofs.Common.{◌≡◌, ℕ, suc, ◌+◌, ◌*◌, ◌/◌, ◌%◌, ◌^◌, ◌<◌, ◌≤◌, Bool, true, false, List, [], ◌∷◌, Option, Some, None, IfSome, length, refl, sym, ap, subst, ◌∙◌, inl, inr, arith}
use Rattle.std.specs.Prelude.{not, slice_index, slice_index_or}
use Rattle.std.specs.List.{All, list_any}
use Rattle.std.proofs.lemmas.Bool.{cases_Bool, cases_lt, and_parts, and_from, eqb-true, true≢false, not-false}
use Rattle.std.proofs.lemmas.Option.{slice_get-get_or, get_or_from_slice_get, slice_get_within}
use Rattle.ept_check.proofs.Anys.{none_below, none_of}
use Rattle.ept_check.proofs.Checks.{contents_only, none_at as none_here, outside_first, twice_first}
use Rattle.ept_check.proofs.Firsts.{found_at, in_below, none_at, none_from}
use Rattle.ept_check.proofs.Knowns.{and_false, at_level, in_levels, one_table, path_of, same_table_of}
use Rattle.ept_check.proofs.Onward.{addresses_onward, onward, translation_onward, walk_onward}
use Rattle.ept_check.proofs.Pieces.{contents_led, led_contents}
use Rattle.ept_check.proofs.Sizes.{above_of}
use Rattle.ept_check.specs.Entries.{pages}
use Rattle.ept_check.specs.Faults.{contents, table_fault_of_kind, table_fault_at, is_clash, is_outside, is_twice, levels, same_path, same_table, table_fault}
use Rattle.ept_check.specs.Known.{IsSameWalkPath, Reads}
use Rattle.ept_check.specs.Search.{first_from, when}
use Rattle.ept_check.specs.Sound.{AreSound, AreSubjectWindows, HasOnePathPerTable}
use Rattle.ept_check.specs.Tables.{Tables, addr_of, addresses, expected_walk, look_at, root_at, subject_of, table_read, walk, walk_at}
use Rattle.ept_check.specs.declared.types.FaultKind.{FaultKind}
use Rattle.ept_check.specs.declared.types.FaultKind.TheVariants.{Outside, Twice}
use Rattle.ept_check.specs.declared.types.TableFault.{TableFault}
use Rattle.machine_layout.specs.Walks.{addresses_from, entry_size}
use Rattle.muen_num.proofs.NumbersBelow.{any_below}
use Rattle.muen_num.specs.Access.{kind_bit}
use Rattle.muen_num.specs.Search.{first_of}
use Rattle.muen_num.specs.declared.access.AccessKind.{AccessKind}

-- ---- no fault, then sound

abbrev count : Tables → ℕ
count v = 2 ^ 36 * length v.roots

fault_from : (v : Tables) → table_fault v ≡ first_from (table_fault_at v) 0 (count v)
unfolding table_fault
fault_from v = in_below (table_fault_at v) (count v)

no_fault : (v : Tables) → table_fault v ≡ None → (q : ℕ) → q < count v → table_fault_at v q ≡ None
no_fault v h q l = none_at (table_fault_at v) 0 (count v) (sym (fault_from v) ∙ h) q (omega arith) (omega (arith, l))

inside : (v : Tables) (q : ℕ) → table_fault_at v q ≡ None → is_outside v q ≡ false
inside v q h = elim (cases_Bool (is_outside v q)) [
  | inr e ↦ e
  | inl e ↦ let bad = sym h ∙ outside_first v q e in absurd (cc)
]

once : (v : Tables) (q : ℕ) → table_fault_at v q ≡ None → is_twice v q ≡ false
once v q h = elim (cases_Bool (is_twice v q)) [
  | inr e ↦ e
  | inl e ↦ let bad = sym h ∙ twice_first v q (inside v q h) e in absurd (cc)
]

led_well : (v : Tables) (q : ℕ) → table_fault_at v q ≡ None → (kind : AccessKind) → walk v q kind ≡ expected_walk v q kind
led_well v q h = contents_led (walk v) (expected_walk v) q (sym (contents_only v q (inside v q h) (once v q h)) ∙ h)

abbrev AreTables : Tables → List ℕ → Type 0
AreTables v ats = All (λ at. v.is_table (at / 4096) ≡ true) ats

tables_all : (v : Tables) (q : ℕ) → is_outside v q ≡ false → AreTables v (addresses v q)
unfolding is_outside
tables_all v q h = λ k d l.
    not-false (v.is_table (slice_index_or (addresses v q) k d / 4096)) (none_here (λ at. not (v.is_table (at / 4096))) (addresses v q) k (slice_index_or (addresses v q) k d) h (slice_get-get_or (addresses v q) k d l))

addresses_are : (v : Tables) (q : ℕ) → addresses v q ≡ addresses_from v.entry (addr_of q) 3 (root_at v q)
unfolding addresses
addresses_are v q = refl

-- the position of an address
at_position : (subject addr : ℕ) → addr < 2 ^ 48 → addr_of (2 ^ 36 * subject + addr / 4096) ≡ 4096 * (addr / 4096)
at_position subject addr l = omega (arith, l)

in_subject : (subject addr : ℕ) → addr < 2 ^ 48 → subject_of (2 ^ 36 * subject + addr / 4096) ≡ subject
in_subject subject addr l = omega (arith, l)

pub sound : (v : Tables) → ((k : ℕ) → AreSubjectWindows v.there (slice_index_or v.windows k [])) → table_fault v ≡ None → AreSound v
sound v fine h = record {
  led = λ subject addr kind few low.
      let q = 2 ^ 36 * subject + addr / 4096 in
      let b = 4096 * (addr / 4096) in
      let d = addr % 4096 in
      let whole : b % 4096 ≡ 0 = omega arith in
      let small : d < 4096 = omega arith in
      let is : addr ≡ b + d = omega arith in
      let here : walk_at v subject b kind ≡ look_at v subject b kind =
      subst (λ s. walk_at v s b kind ≡ look_at v s b kind) (in_subject subject addr low)
      (subst (λ a. walk_at v (subject_of q) a kind ≡ look_at v (subject_of q) a kind) (at_position subject addr low)
      (led_well v q (no_fault v h q (omega (arith, few, low))) kind)) in
      ap (λ a. walk_at v subject a kind) is
      ∙ walk_onward v.entry v.there b d whole small (kind_bit kind) 3 (slice_index v.roots subject) 7 (omega arith)
      ∙ ap (onward d) here
      ∙ sym (translation_onward (slice_index_or v.windows subject []) b d kind whole small (fine subject).whole)
      ∙ ap (λ a. look_at v subject a kind) (sym is);
  tables = λ subject addr few low.
      let q = 2 ^ 36 * subject + addr / 4096 in
      let b = 4096 * (addr / 4096) in
      let d = addr % 4096 in
      let whole : b % 4096 ≡ 0 = omega arith in
      let small : d < 4096 = omega arith in
      let is : b + d ≡ addr = omega arith in
      let all = tables_all v q (inside v q (no_fault v h q (omega (arith, few, low)))) in
      let here : addresses v q ≡ addresses_from v.entry addr 3 (slice_index v.roots subject) =
      addresses_are v q
      ∙ ap (λ s. addresses_from v.entry (addr_of q) 3 (slice_index v.roots s)) (in_subject subject addr low)
      ∙ ap (λ a. addresses_from v.entry a 3 (slice_index v.roots subject)) (at_position subject addr low)
      ∙ sym (addresses_onward v.entry v.there b d whole small 3 (slice_index v.roots subject) (omega arith))
      ∙ ap (λ a. addresses_from v.entry a 3 (slice_index v.roots subject)) is in
      subst (AreTables v) here all;
}

-- ---- paths

path_from : (p m q l : ℕ) → m ≤ 3 → same_path p m q l ≡ true → IsSameWalkPath p m q l
path_from p m q l a h =
    let one = and_parts _ _ h in
    let two = and_parts _ _ one.1 in
    let level : m ≡ l = eqb-true _ _ two.0 in
    let part : addr_of p / entry_size (suc m) ≡ addr_of q / entry_size (suc m) = subst (λ n. addr_of p / entry_size (suc m) ≡ addr_of q / entry_size (suc n)) (sym level) (eqb-true _ _ two.1) in
    record { level = level; above = above_of m p q a (eqb-true _ _ one.0) part }

-- where there is no clash, a table is on one path
no_clash_path : (v : Tables) (q : ℕ) → is_twice v q ≡ false → (p m l t : ℕ) → p ≤ q → Reads v p m t → Reads v q l t → IsSameWalkPath p m q l
unfolding is_twice
no_clash_path v q h p m l t le r s = elim (cases_Bool (same_path p m q l)) [
  | inl e ↦ path_from p m q l r.depth e
  | inr e ↦
      let clash : is_clash v q l p m ≡ true = and_from _ _ (same_table_of v (λ _. false) _ t _ r.here s.here) (ap not e) in
      absurd (true≢false (sym (any_below (λ o. list_any (λ k. list_any (λ n. is_clash v q k o n) levels) levels) (suc q) p (omega (arith, le))
      (at_level v (λ _. false) (λ k. list_any (λ n. is_clash v q k p n) levels) l s.depth
      (at_level v (λ _. false) (λ n. is_clash v q l p n) m r.depth clash))) ∙ h))
]

turn : (p m q l : ℕ) → IsSameWalkPath q l p m → IsSameWalkPath p m q l
turn p m q l h = record { level = sym h.level; above = subst (λ n. p / pages (suc n) ≡ q / pages (suc n)) h.level (sym h.above) }

pub one_path : (v : Tables) → table_fault v ≡ None → HasOnePathPerTable v
one_path v h p m q l t a b r s = elim (cases_lt p q) [
  | inl lt ↦ no_clash_path v q (once v q (no_fault v h q b)) p m l t (omega (arith, lt)) r s
  | inr ge ↦ turn p m q l (no_clash_path v p (once v p (no_fault v h p a)) q l m t ge s r)
]

-- ---- sound on one path, then no fault

outside_none : (v : Tables) (q : ℕ) → AreTables v (addresses v q) → is_outside v q ≡ false
unfolding is_outside
outside_none v q all = none_of (λ at. not (v.is_table (at / 4096))) (addresses v q) (λ k x here.
    ap not (sym (ap (λ n. v.is_table (n / 4096)) (get_or_from_slice_get (addresses v q) k x x here)) ∙ all k x (slice_get_within (addresses v q) k x here)))

tables_here : (v : Tables) (q : ℕ) → AreSound v → subject_of q < length v.roots → AreTables v (addresses v q)
tables_here v q s low = subst (AreTables v) (sym (addresses_are v q)) (s.tables (subject_of q) (addr_of q) low (omega arith))

twice_none : (v : Tables) (q : ℕ) → q < count v → HasOnePathPerTable v → is_twice v q ≡ false
unfolding is_twice
twice_none v q low h = none_below (λ o. list_any (λ k. list_any (λ m. is_clash v q k o m) levels) levels) (suc q) (λ o b.
    in_levels (λ k. list_any (λ m. is_clash v q k o m) levels) (λ k c. in_levels (λ m. is_clash v q k o m) (λ m d.
    elim (cases_Bool (same_path o m q k)) [
      | inl e ↦ rw e (and_false (same_table (table_read v o m) (table_read v q k)))
      | inr e ↦
          let apart = one_table v (λ _. false) (table_read v o m) (table_read v q k) (λ t f g.
          true≢false (sym (path_of v (λ _. false) o m q k d (h o m q k t (omega (arith, b, low)) low (record { depth = d; here = f }) (record { depth = c; here = g }))) ∙ e)) in
          rw apart refl
    ])))

pub no_faults : (v : Tables) → AreSound v → HasOnePathPerTable v → table_fault v ≡ None
no_faults v s one = fault_from v ∙ none_from (table_fault_at v) 0 (count v) (λ q ge lt.
    let low : q < count v = omega (arith, lt) in
    let subject : subject_of q < length v.roots = omega (arith, low) in
    let addr : addr_of q < 2 ^ 48 = omega arith in
    contents_only v q (outside_none v q (tables_here v q s subject)) (twice_none v q low one)
    ∙ led_contents (walk v) (expected_walk v) q (λ kind. s.led (subject_of q) (addr_of q) kind subject addr))

-- ---- every fault but one says that they aren't sound

abbrev kind_or : FaultKind → Option TableFault → FaultKind
kind_or k None = k
kind_or k (Some f) = f.kind

twice_only : (q : ℕ) (a b : Bool) (o : Option TableFault) (f : TableFault) → a ≡ false → o ≡ None → first_of (when a (table_fault_of_kind Outside q) ∷ when b (table_fault_of_kind Twice q) ∷ o ∷ []) ≡ Some f → f.kind ≡ Twice
twice_only q true b o f e g h = absurd (cc)
twice_only q false b (Some x) f e g h = absurd (cc)
twice_only q false true None f e g h = sym (ap (kind_or Twice) h)
twice_only q false false None f e g h = absurd (cc)

fault_twice : (v : Tables) (q : ℕ) (f : TableFault) → is_outside v q ≡ false → contents (walk v) (expected_walk v) q ≡ None → table_fault_at v q ≡ Some f → f.kind ≡ Twice
unfolding table_fault_at
fault_twice v q f a b h = twice_only q (is_outside v q) (is_twice v q) (contents (walk v) (expected_walk v) q) f a b h

pub unsound : (v : Tables) (f : TableFault) → Some f ≡ table_fault v → AreSound v → f.kind ≡ Twice
unsound v f h s =
    let r = found_at (table_fault_at v) 0 (count v) f (sym (fault_from v) ∙ sym h) in
    let high = r.high in
    let low : r.k < count v = omega (arith, high) in
    let subject : subject_of r.k < length v.roots = omega (arith, low) in
    let addr : addr_of r.k < 2 ^ 48 = omega arith in
    fault_twice v r.k f (outside_none v r.k (tables_here v r.k s subject)) (led_contents (walk v) (expected_walk v) r.k (λ kind. s.led (subject_of r.k) (addr_of r.k) kind subject addr)) r.here

pub unsound_if : (v : Tables) (o : Option TableFault) → o ≡ table_fault v → IfSome o (λ f. AreSound v → f.kind ≡ Twice)
unsound_if v None h = tt
unsound_if v (Some f) h = unsound v f h
