-- The tests at a position, in order.
use Rattle.std.proofs.Common.{◌≡◌, ℕ, suc, ◌+◌, ◌-◌, ◌*◌, ◌/◌, ◌%◌, ◌<◌, ◌≤◌, Bool, true, false, List, Option, Some, None, refl, sym, ap, ◌∙◌, inl, inr, arith}
use Rattle.std.specs.Prelude.{not, slice_get, bit_and}
use Rattle.std.specs.List.{list_any}
use Rattle.std.proofs.lemmas.Bool.{cases_Bool, cases_lt, true≢false}
use Rattle.std.proofs.lemmas.Map.Keys.{any_passes_from_place}
use Rattle.ept_check.proofs.Anys.{none_of, some_of}
use Rattle.ept_check.proofs.Comes.{come_addresses, come_same, come_walk, head_is}
use Rattle.ept_check.proofs.Firsts.{same_from}
use Rattle.ept_check.proofs.Knowns.{not_outside, not_twice, table_is}
use Rattle.ept_check.proofs.Pieces.{contents_same}
use Rattle.ept_check.proofs.Reading.{reads_ended}
use Rattle.ept_check.proofs.Sizes.{above_is, here_is, index_is}
use Rattle.ept_check.specs.Entries.{ended, leads_on, pages}
use Rattle.ept_check.specs.Faults.{contents, table_fault_of_kind, table_fault_at, is_outside, is_twice}
use Rattle.ept_check.specs.Known.{Known, Reads, by_entry, come}
use Rattle.ept_check.specs.Pieces.{leaves, led_by_entry}
use Rattle.ept_check.specs.Search.{first_from}
use Rattle.ept_check.specs.Tables.{Tables, addr_of, addresses, expected_walk, walk}
use Rattle.ept_check.specs.declared.types.FaultKind.TheVariants.{Outside, Twice}
use Rattle.machine_layout.proofs.WalkSteps.{deeper, walk_is}
use Rattle.machine_layout.specs.Walks.{addresses_from, bits_of, entry_address, index_at, reads, walk_from}
use Rattle.muen_num.proofs.SearchLaws.{option_or-None}
use Rattle.muen_num.specs.Access.{kind_bit}

abbrev off : Tables → ℕ → Bool
off v at = not (v.is_table (at / 4096))

pub none_at : (test : ℕ → Bool) (xs : List ℕ) (k x : ℕ) → list_any test xs ≡ false → slice_get xs k ≡ Some x → test x ≡ false
none_at test xs k x none here = elim (cases_Bool (test x)) [
  | inl e ↦ absurd (true≢false (sym (any_passes_from_place test xs k x here e) ∙ none))
  | inr e ↦ e
]

module _ (v : Tables) (q l t r : ℕ) (low : l ≤ 3) (at : come v q (3 - l) l ≡ Some (t, r)) where
  place_at : (k n : ℕ) → n ≡ (3 - l) + k → slice_get (addresses v q) n ≡ slice_get (addresses_from v.entry (addr_of q) l t) k
  place_at k n e = come_addresses v q (3 - l) l t r (omega (arith, low)) at k n e

  -- the table itself isn't one
  pub out_here : v.is_table t ≡ false → is_outside v q ≡ true
  unfolding is_outside
  out_here h =
      let here : slice_get (addresses v q) (3 - l) ≡ Some (entry_address t (index_at l (addr_of q))) = place_at 0 (3 - l) (omega arith) ∙ head_is v l t (addr_of q) in
      let same : entry_address t (index_at l (addr_of q)) / 4096 ≡ t = omega arith in
      any_passes_from_place (off v) (addresses v q) (3 - l) (entry_address t (index_at l (addr_of q))) here (ap (λ n. not (v.is_table n)) same ∙ ap not h)

  -- those above are, and so it is a matter of those below
  pub out_rest : (seen : ℕ → Bool) → Known v seen q q (suc l) → is_outside v q ≡ leaves v.entry v.is_table (addr_of q) l t
  unfolding is_outside leaves
  out_rest seen known = elim (cases_Bool (list_any (off v) (addresses_from v.entry (addr_of q) l t))) [
    | inl e ↦
        let x = some_of (off v) (addresses_from v.entry (addr_of q) l t) e in
        any_passes_from_place (off v) (addresses v q) ((3 - l) + x.k) x.x (place_at x.k ((3 - l) + x.k) refl ∙ x.here) x.passes ∙ sym e
    | inr e ↦ none_of (off v) (addresses v q) (λ n place here. elim (cases_lt n (3 - l)) [
      | inl f ↦
          let level : 3 - (3 - n) ≡ n = omega (arith, f) in
          let read : Reads v q (3 - n) (place / 4096) = record { depth = omega arith; here = table_is v q (3 - n) n place level here } in
          ap not (known.tables (place / 4096) (known.all q (3 - n) (place / 4096) read (inr (refl, omega (arith, f)))))
      | inr f ↦
          let k = n - (3 - l) in
          none_at (off v) (addresses_from v.entry (addr_of q) l t) k place e (sym (place_at k n (omega (arith, f))) ∙ here)
    ]) ∙ sym e
  ]

-- ---- the first test

pub outside_first : (v : Tables) (q : ℕ) → is_outside v q ≡ true → table_fault_at v q ≡ Some (table_fault_of_kind Outside q)
unfolding table_fault_at
outside_first v q h = rw h refl

pub twice_first : (v : Tables) (q : ℕ) → is_outside v q ≡ false → is_twice v q ≡ true → table_fault_at v q ≡ Some (table_fault_of_kind Twice q)
unfolding table_fault_at
twice_first v q a b = rw (a, b) refl

pub contents_only : (v : Tables) (q : ℕ) → is_outside v q ≡ false → is_twice v q ≡ false → table_fault_at v q ≡ contents (walk v) (expected_walk v) q
unfolding table_fault_at
contents_only v q a b = rw (a, b) (option_or-None (contents (walk v) (expected_walk v) q))

-- ---- a entry that doesn't point on

pub walk_ended : (v : Tables) (addr want l t r e : ℕ) → v.entry t (index_at l addr) ≡ Some e → leads_on l e ≡ false → walk_from v.entry v.there addr want l t r ≡ ended v.there l e addr want r
walk_ended v addr want l t r e is stop =
    walk_is v.entry v.there addr want l t r
    ∙ ap (λ o. reads v.there l addr want r o (deeper v.entry v.there addr want l)) is
    ∙ reads_ended v.there l addr want r e (deeper v.entry v.there addr want l) stop

pub entry_stops : (l r e : ℕ) (o : Option ℕ) → o ≡ Some e → leads_on l e ≡ false → by_entry l r o ≡ None
entry_stops l r e o is stop = rw (is, stop) refl

pub entry_steps : (l r e : ℕ) (o : Option ℕ) → o ≡ Some e → leads_on l e ≡ true → by_entry l r o ≡ Some (bits_of e 12 51, bit_and r (bits_of e 0 2))
entry_steps l r e o is on = rw (is, on) refl

-- what is found among the positions of an entry that references no table
pub ended_found : (v : Tables) (seen : ℕ → Bool) (q l t r e i x : ℕ) → l ≤ 3 → q % pages (suc l) ≡ 0 → x ≡ q + i * pages l → i < 512 → come v q (3 - l) l ≡ Some (t, r) → v.entry t (index_at l (addr_of x)) ≡ Some e → leads_on l e ≡ false → Known v seen (x + pages l) q l → first_from (table_fault_at v) x (pages l) ≡ first_from (contents (led_by_entry v.there l e r) (expected_walk v)) x (pages l)
ended_found v seen q l t r e i x a b c d at is stop known = same_from (table_fault_at v) (contents (led_by_entry v.there l e r) (expected_walk v)) x (pages l) (λ p ge lt.
    let same : p / pages (suc l) ≡ q / pages (suc l) = above_is l l q i x p (omega arith) a b c d ge lt in
    let come_p : come v p (3 - l) l ≡ Some (t, r) = come_same v (3 - l) l p q (omega (arith, a)) same ∙ at in
    let i_p : index_at l (addr_of p) ≡ index_at l (addr_of x) = index_is l p a ∙ ap (λ n. n % 512) (here_is l q i x p a b c ge lt) ∙ sym (index_is l x a) in
    contents_only v p (not_outside v seen (x + pages l) q l p known lt) (not_twice v seen (x + pages l) q l p known lt)
    ∙ contents_same (walk v) (led_by_entry v.there l e r) (expected_walk v) (expected_walk v) p (λ kind. come_walk v p kind (3 - l) l t r (omega (arith, a)) come_p ∙ walk_ended v (addr_of p) (kind_bit kind) l t r e (ap (v.entry t) i_p ∙ is) stop) (λ kind. refl))
