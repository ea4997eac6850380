-- No fault, and soundness.
use Rattle.std.proofs.Common.{◌≡◌, ℕ, zero, suc, ◌+◌, ◌-◌, ◌*◌, ◌/◌, ◌%◌, ◌^◌, ◌<◌, ◌≤◌, Bool, true, false, List, [], ◌∷◌, Option, Some, None, IfSome, refl, sym, ap, subst, ◌∙◌, inl, inr, arith}
use Rattle.std.specs.Prelude.{◌==◌, ◌&&◌, ◌||◌, not, if◌then◌else◌}
use Rattle.std.specs.List.{list_any}
use Rattle.std.specs.Option.{option_map_or}
use Rattle.std.proofs.lemmas.Bool.{and_from, and_parts, cases_Bool, cases_lt, eq-eqb, eqb-true, not-false, or_left, or_parts, or_right, true≢false}
use Rattle.dma_check.specs.Faults.{astray, contents, expected, fault_at, fault_of_kind, is_clash, is_lack, is_outside, is_twice, positions, same_end, same_path, same_way, steps, table_fault, walk, writes}
use Rattle.dma_check.specs.Sound.{AreSound, Comes, HasOnePathPerTable}
use Rattle.dma_check.specs.Sources.{SOURCES}
use Rattle.dma_check.specs.Views.{View, addr_of, bus_of, source_of, table_at, walk_at}
use Rattle.dma_check.specs.declared.fault.FaultKind.{FaultKind}
use Rattle.dma_check.specs.declared.fault.FaultKind.TheVariants.{Leak, Lacks, Outside, Twice}
use Rattle.dma_check.specs.declared.fault.TableFault.{TableFault}
use Rattle.ept_check.proofs.Anys.{none_below}
use Rattle.ept_check.proofs.Firsts.{found_at, in_below, none_at, none_from}
use Rattle.ept_check.proofs.Knowns.{and_false}
use Rattle.ept_check.specs.Faults.{same_table}
use Rattle.ept_check.specs.Search.{first_from, when}
use Rattle.machine_layout.specs.Walks.{entry_size}
use Rattle.muen_num.proofs.NumbersBelow.{any_below}
use Rattle.muen_num.proofs.SearchLaws.{option_or-None}
use Rattle.muen_num.specs.Search.{first_of}

-- ---- the steps below the root

pub any_step : (test : ℕ → Bool) (n : ℕ) → n < 6 → test n ≡ true → list_any test steps ≡ true
any_step test zero l h = or_left (test 0) _ h
any_step test (suc zero) l h = or_right (test 0) _ (or_left (test 1) _ h)
any_step test (suc (suc zero)) l h = or_right (test 0) _ (or_right (test 1) _ (or_left (test 2) _ h))
any_step test (suc (suc (suc zero))) l h = or_right (test 0) _ (or_right (test 1) _ (or_right (test 2) _ (or_left (test 3) _ h)))
any_step test (suc (suc (suc (suc zero)))) l h = or_right (test 0) _ (or_right (test 1) _ (or_right (test 2) _ (or_right (test 3) _ (or_left (test 4) _ h))))
any_step test (suc (suc (suc (suc (suc zero))))) l h =
    or_right (test 0) _ (or_right (test 1) _ (or_right (test 2) _ (or_right (test 3) _ (or_right (test 4) _ (or_left (test 5) _ h)))))
any_step test (suc (suc (suc (suc (suc (suc n)))))) l h = absurd (omega (arith, l))

pub each_step : (test : ℕ → Bool) → list_any test steps ≡ false → (n : ℕ) → n < 6 → test n ≡ false
each_step test none n l = elim (cases_Bool (test n)) [
  | inl e ↦ absurd (true≢false (sym (any_step test n l e) ∙ none))
  | inr e ↦ e
]

pub no_step : (test : ℕ → Bool) → ((n : ℕ) → n < 6 → test n ≡ false) → list_any test steps ≡ false
no_step test h =
    let a = h 0 (omega arith) in
    let b = h 1 (omega arith) in
    let c = h 2 (omega arith) in
    let d = h 3 (omega arith) in
    let e = h 4 (omega arith) in
    let f = h 5 (omega arith) in
    rw (a, b, c, d, e, f) refl

-- ---- where accesses come to

end_is : (a b : Option ℕ) → same_end a b ≡ true → a ≡ b
end_is None None h = refl
end_is (Some a) (Some b) h = ap (λ n. Some n) (eqb-true a b h)
end_is (Some a) None h = absurd (cc)
end_is None (Some b) h = absurd (cc)

end_itself : (a : Option ℕ) → same_end a a ≡ true
end_itself None = refl
end_itself (Some a) = eq-eqb a a refl

module _ (is_memory : ℕ → Bool) where
  abbrev out : Option ℕ → Option ℕ → Bool
  out walked told = option_map_or (λ a. not (is_memory a)) (astray walked told) false

  abbrev leak : Option ℕ → Option ℕ → Bool
  leak walked told = option_map_or is_memory (astray walked told) false

  -- an access that is neither astray nor lacks anything comes where it is declared
  end_told : (walked told : Option ℕ) → out walked told ≡ false → leak walked told ≡ false → is_lack walked told ≡ false → walked ≡ told
  end_told None None a b c = refl
  end_told None (Some t) a b c = absurd (cc)
  end_told (Some w) told a b c =
      elim (same_end (Some w) told) as (λ s. same_end (Some w) told ≡ s → option_map_or (λ n. not (is_memory n)) (if s then None else Some w) false ≡ false → option_map_or is_memory (if s then None else Some w) false ≡ false → Some w ≡ told) [
        | true ↦ λ e x y. end_is (Some w) told e
        | false ↦ λ e x y. absurd (true≢false (sym (not-false (is_memory w) x) ∙ y))
      ] refl a b

  out_itself : (told : Option ℕ) → out told told ≡ false
  out_itself None = refl
  out_itself (Some a) = let e = eq-eqb a a refl in rw e refl

  leak_itself : (told : Option ℕ) → leak told told ≡ false
  leak_itself None = refl
  leak_itself (Some a) = let e = eq-eqb a a refl in rw e refl

  lack_itself : (told : Option ℕ) → is_lack told told ≡ false
  lack_itself None = refl
  lack_itself (Some a) = refl

  three : (a b c : Bool) (x y z : TableFault) → first_of (when a x ∷ when b y ∷ when c z ∷ []) ≡ None → (a ≡ false) × (b ≡ false) × (c ≡ false)
  three true b c x y z h = absurd (cc)
  three false true c x y z h = absurd (cc)
  three false false true x y z h = absurd (cc)
  three false false false x y z h = (refl, refl, refl)

  pub contents_led : (walked told : ℕ → Bool → Option ℕ) (q : ℕ) → contents is_memory walked told q ≡ None → (write : Bool) → walked q write ≡ told q write
  contents_led walked told q h write =
      let parts = three (list_any (λ write. out (walked q write) (told q write)) writes) (list_any (λ write. leak (walked q write) (told q write)) writes) (list_any (λ write. is_lack (walked q write) (told q write)) writes) (fault_of_kind Outside q) (fault_of_kind Leak q) (fault_of_kind Lacks q) h in
      let a = or_parts (out (walked q false) (told q false)) _ parts.0 in
      let b = or_parts (leak (walked q false) (told q false)) _ parts.1 in
      let c = or_parts (is_lack (walked q false) (told q false)) _ parts.2 in
      elim write as (λ w. walked q w ≡ told q w) [
        | false ↦ end_told (walked q false) (told q false) a.0 b.0 c.0
        | true ↦ end_told (walked q true) (told q true) (or_parts (out (walked q true) (told q true)) false a.1).0 (or_parts (leak (walked q true) (told q true)) false b.1).0 (or_parts (is_lack (walked q true) (told q true)) false c.1).0
      ]

  itself : (told : ℕ → Bool → Option ℕ) (q : ℕ) → contents is_memory told told q ≡ None
  itself told q =
      let a = out_itself (told q false) in
      let b = out_itself (told q true) in
      let c = leak_itself (told q false) in
      let d = leak_itself (told q true) in
      let e = lack_itself (told q false) in
      let f = lack_itself (told q true) in
      rw (a, b, c, d, e, f) refl

  of_two : (a b : Bool → Option ℕ) (t : ℕ → Bool → Option ℕ) (q : ℕ) → ((write : Bool) → a write ≡ t q write) → contents is_memory (λ _. a) t q ≡ contents is_memory t t q
  of_two a b t q h =
      let x = h false in
      let y = h true in
      rw (x, y) refl

  pub led_contents : (walked told : ℕ → Bool → Option ℕ) (q : ℕ) → ((write : Bool) → walked q write ≡ told q write) → contents is_memory walked told q ≡ None
  led_contents walked told q h = of_two (walked q) (walked q) told q h ∙ itself told q

-- ---- the tests at a position, in order

pub outside_first : (v : View) (q : ℕ) → is_outside v q ≡ true → fault_at v q ≡ Some (fault_of_kind Outside q)
unfolding fault_at
outside_first v q h = rw h refl

pub twice_first : (v : View) (q : ℕ) → is_outside v q ≡ false → is_twice v q ≡ true → fault_at v q ≡ Some (fault_of_kind Twice q)
unfolding fault_at
twice_first v q a b = rw (a, b) refl

pub contents_only : (v : View) (q : ℕ) → is_outside v q ≡ false → is_twice v q ≡ false → fault_at v q ≡ contents v.is_memory (walk v) (expected v) q
unfolding fault_at
contents_only v q a b = rw (a, b) (option_or-None (contents v.is_memory (walk v) (expected v) q))

pub inside : (v : View) (q : ℕ) → fault_at v q ≡ None → is_outside v q ≡ false
inside v q h = elim (cases_Bool (is_outside v q)) [
  | inr e ↦ e
  | inl e ↦ let bad = sym h ∙ outside_first v q e in absurd (cc)
]

pub once : (v : View) (q : ℕ) → fault_at v q ≡ None → is_twice v q ≡ false
once v q h = elim (cases_Bool (is_twice v q)) [
  | inr e ↦ e
  | inl e ↦ let bad = sym h ∙ twice_first v q (inside v q h) e in absurd (cc)
]

led_well : (v : View) (q : ℕ) → fault_at v q ≡ None → (write : Bool) → walk v q write ≡ expected v q write
led_well v q h = contents_led v.is_memory (walk v) (expected v) q (sym (contents_only v q (inside v q h) (once v q h)) ∙ h)

-- ---- all positions

pub how_many : positions ≡ 2 ^ 48 * SOURCES
unfolding positions
how_many = refl

pub fault_from : (v : View) → table_fault v ≡ first_from (fault_at v) 0 positions
unfolding table_fault
fault_from v = in_below (fault_at v) positions

no_fault : (v : View) → table_fault v ≡ None → (q : ℕ) → q < positions → fault_at v q ≡ None
no_fault v h q l = none_at (fault_at v) 0 positions (sym (fault_from v) ∙ h) q (omega arith) (omega (arith, l))

pub in_source : (source addr : ℕ) → addr < 2 ^ 48 → source_of (2 ^ 48 * source + addr) ≡ source
in_source source addr l = omega (arith, l)

pub in_range : (source addr : ℕ) → addr < 2 ^ 48 → addr_of (2 ^ 48 * source + addr) ≡ addr
in_range source addr l = omega (arith, l)

below_all : (source addr : ℕ) → source < SOURCES → addr < 2 ^ 48 → 2 ^ 48 * source + addr < positions
below_all source addr a b = let m = how_many in omega (arith, a, b, m)

source_below : (q : ℕ) → q < positions → source_of q < SOURCES
source_below q l = let m = how_many in omega (arith, l, m)

addr_below : (q : ℕ) → addr_of q < 2 ^ 48
addr_below q = omega arith

again : (q : ℕ) → 2 ^ 48 * source_of q + addr_of q ≡ q
again q = omega arith

-- ---- tables

table_here : (v : View) (q n t : ℕ) → is_outside v q ≡ false → Comes v q n t → v.is_table t ≡ true
unfolding is_outside
table_here v q n t h comes =
    let none : option_map_or (λ t. not (v.is_table t)) (table_at v q n) false ≡ false = each_step (λ n. option_map_or (λ t. not (v.is_table t)) (table_at v q n) false) h n comes.depth in
    not-false (v.is_table t) (sym (ap (λ o. option_map_or (λ t. not (v.is_table t)) o false) comes.here) ∙ none)

none_outside : (v : View) (q : ℕ) → ((n t : ℕ) → Comes v q n t → v.is_table t ≡ true) → is_outside v q ≡ false
unfolding is_outside
none_outside v q h = no_step (λ n. option_map_or (λ t. not (v.is_table t)) (table_at v q n) false) (λ n l.
    elim (table_at v q n) as (λ o. table_at v q n ≡ o → option_map_or (λ t. not (v.is_table t)) o false ≡ false) [
      | None ↦ λ e. refl
      | Some t ↦ λ e. ap not (h n t (record { depth = l; here = e }))
    ] refl)

-- ---- no fault, then sound

pub sound : (v : View) → table_fault v ≡ None → AreSound v
sound v h = record {
  led = λ source addr write few low.
      let q = 2 ^ 48 * source + addr in
      subst (λ s. walk_at v s addr write ≡ v.declared s addr write) (in_source source addr low)
      (subst (λ a. walk_at v (source_of q) a write ≡ v.declared (source_of q) a write) (in_range source addr low)
      (led_well v q (no_fault v h q (below_all source addr few low)) write));
  tables = λ source addr n t few low comes.
      table_here v (2 ^ 48 * source + addr) n t (inside v (2 ^ 48 * source + addr) (no_fault v h (2 ^ 48 * source + addr) (below_all source addr few low))) comes;
}

-- ---- paths

pub same_of : (a b : Option ℕ) (t : ℕ) → a ≡ Some t → b ≡ Some t → same_table a b ≡ true
same_of a b t e f = rw (e, f) (eq-eqb t t refl)

table_turned : (a b : Option ℕ) → same_table a b ≡ true → same_table b a ≡ true
table_turned None b h = absurd (cc)
table_turned (Some t) None h = absurd (cc)
table_turned (Some t) (Some u) h = eq-eqb u t (sym (eqb-true t u h))

way_turned : (v : View) (p q n : ℕ) → same_way v p q n ≡ true → same_way v q p n ≡ true
way_turned v p q zero h = refl
way_turned v p q (suc zero) h = eq-eqb _ _ (sym (eqb-true _ _ h))
way_turned v p q (suc (suc n)) h =
    let both = and_parts (same_table (table_at v p 2) (table_at v q 2)) _ h in
    and_from _ _ (table_turned (table_at v p 2) (table_at v q 2) both.0) (eq-eqb _ _ (sym (eqb-true _ _ both.1)))

path_turned : (v : View) (p m q n : ℕ) → same_path v q n p m ≡ true → same_path v p m q n ≡ true
path_turned v p m q n h =
    let both = and_parts (n == m) (same_way v q p m) h in
    let same : n ≡ m = eqb-true n m both.0 in
    and_from (m == n) (same_way v p q n) (eq-eqb m n (sym same)) (subst (λ k. same_way v p q k ≡ true) (sym same) (way_turned v q p m both.1))

-- where there is no clash, a table is on one path
no_clash : (v : View) (q : ℕ) → is_twice v q ≡ false → (p m n t : ℕ) → p ≤ q → Comes v p m t → Comes v q n t → same_path v p m q n ≡ true
unfolding is_twice
no_clash v q h p m n t le r s = elim (cases_Bool (same_path v p m q n)) [
  | inl e ↦ e
  | inr e ↦
      let clash : is_clash v q n p m ≡ true = and_from _ _ (same_of (table_at v p m) (table_at v q n) t r.here s.here) (ap not e) in
      absurd (true≢false (sym (any_below (λ o. list_any (λ k. list_any (λ j. is_clash v q k o j) steps) steps) (suc q) p (omega (arith, le))
      (any_step (λ k. list_any (λ j. is_clash v q k p j) steps) n s.depth
      (any_step (λ j. is_clash v q n p j) m r.depth clash))) ∙ h))
]

pub one_path : (v : View) → table_fault v ≡ None → HasOnePathPerTable v
one_path v h p m q n t a b r s = elim (cases_lt p q) [
  | inl lt ↦ no_clash v q (once v q (no_fault v h q b)) p m n t (omega (arith, lt)) r s
  | inr ge ↦ path_turned v p m q n (no_clash v p (once v p (no_fault v h p a)) q n m t ge s r)
]

-- ---- sound on one path, then no fault

-- tables of which one is read on one path alone don't clash
pub apart : (v : View) (p m q n : ℕ) → ((t : ℕ) → table_at v p m ≡ Some t → table_at v q n ≡ Some t → same_path v p m q n ≡ true) → is_clash v q n p m ≡ false
apart v p m q n h = elim (cases_Bool (same_path v p m q n)) [
  | inl e ↦ rw e (and_false (same_table (table_at v p m) (table_at v q n)))
  | inr e ↦
      elim (table_at v p m) as (λ o. table_at v p m ≡ o → (same_table o (table_at v q n) && not (same_path v p m q n)) ≡ false) [
        | None ↦ λ x. refl
        | Some t ↦ λ x. elim (table_at v q n) as (λ o. table_at v q n ≡ o → (same_table (Some t) o && not (same_path v p m q n)) ≡ false) [
          | None ↦ λ y. refl
          | Some u ↦ λ y. elim (cases_Bool (t == u)) [
            | inl same ↦ absurd (true≢false (sym (h t x (y ∙ ap (λ k. Some k) (sym (eqb-true t u same)))) ∙ e))
            | inr other ↦ rw other refl
          ]
        ] refl
      ] refl
]

twice_none : (v : View) (q : ℕ) → q < positions → HasOnePathPerTable v → is_twice v q ≡ false
unfolding is_twice
twice_none v q low h = none_below (λ o. list_any (λ k. list_any (λ j. is_clash v q k o j) steps) steps) (suc q) (λ o b.
    no_step (λ k. list_any (λ j. is_clash v q k o j) steps) (λ k c.
    no_step (λ j. is_clash v q k o j) (λ j d.
    apart v o j q k (λ t e f. h o j q k t (omega (arith, b, low)) low (record { depth = d; here = e }) (record { depth = c; here = f })))))

outside_none : (v : View) (q : ℕ) → AreSound v → q < positions → is_outside v q ≡ false
outside_none v q s low = none_outside v q (λ n t comes.
    s.tables (source_of q) (addr_of q) n t (source_below q low) (addr_below q) (subst (λ k. Comes v k n t) (sym (again q)) comes))

contents_none : (v : View) (q : ℕ) → AreSound v → q < positions → contents v.is_memory (walk v) (expected v) q ≡ None
contents_none v q s low = led_contents v.is_memory (walk v) (expected v) q (λ write. s.led (source_of q) (addr_of q) write (source_below q low) (addr_below q))

pub no_faults : (v : View) → AreSound v → HasOnePathPerTable v → table_fault v ≡ None
no_faults v s one = fault_from v ∙ none_from (fault_at v) 0 positions (λ q ge lt.
    let low : q < positions = omega (arith, lt) in
    contents_only v q (outside_none v q s low) (twice_none v q low one) ∙ contents_none v q s low)

-- ---- every fault but one says that they aren't sound

abbrev kind_or : FaultKind → Option TableFault → FaultKind
kind_or k None = k
kind_or k (Some f) = f.kind

twice_only : (q : ℕ) (a b : Bool) (o : Option TableFault) (f : TableFault) → a ≡ false → o ≡ None → first_of (when a (fault_of_kind Outside q) ∷ when b (fault_of_kind Twice q) ∷ o ∷ []) ≡ Some f → f.kind ≡ Twice
twice_only q true b o f e g h = absurd (cc)
twice_only q false b (Some x) f e g h = absurd (cc)
twice_only q false true None f e g h = sym (ap (kind_or Twice) h)
twice_only q false false None f e g h = absurd (cc)

fault_twice : (v : View) (q : ℕ) (f : TableFault) → is_outside v q ≡ false → contents v.is_memory (walk v) (expected v) q ≡ None → fault_at v q ≡ Some f → f.kind ≡ Twice
unfolding fault_at
fault_twice v q f a b h = twice_only q (is_outside v q) (is_twice v q) (contents v.is_memory (walk v) (expected v) q) f a b h

pub unsound : (v : View) (f : TableFault) → table_fault v ≡ Some f → AreSound v → f.kind ≡ Twice
unsound v f h s =
    let r = found_at (fault_at v) 0 positions f (sym (fault_from v) ∙ h) in
    let high = r.high in
    let low : r.k < positions = omega (arith, high) in
    fault_twice v r.k f (outside_none v r.k s low) (contents_none v r.k s low) r.here
