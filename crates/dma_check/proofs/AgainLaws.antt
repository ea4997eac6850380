-- A source that an earlier one is like has no fault behind its first address.
use Rattle.std.proofs.Common.{◌≡◌, IfSome, length, get_or-set_same, get_or-set_other, ℕ, zero, suc, ◌+◌, ◌-◌, ◌*◌, ◌/◌, ◌%◌, ◌^◌, ◌<◌, ◌≤◌, Bool, false, List, Option, Some, None, refl, sym, ap, subst, ◌∙◌, inl, inr, arith}
use Rattle.std.specs.Prelude.{◌==◌, ◌&&◌, not, option_and_then, option_map, slice_index_or, slice_set, unwrap_or}
use Rattle.std.specs.Bool.{Decides}
use Rattle.std.specs.Option.{option_map_or}
use Rattle.std.proofs.lemmas.Bool.{cases_eq, cases_lt}
use Rattle.std.proofs.lemmas.Bool.Decides.{Decides-and, Decides-eqb, Decides-like}
use Rattle.std.proofs.lemmas.Option.{same_Some}
use Rattle.dma_check.proofs.Alike.{page_by, table_same}
use Rattle.dma_check.proofs.Sounds.{contents_led, contents_only, each_step, in_range, in_source, inside, led_contents, no_step, once}
use Rattle.dma_check.proofs.Ways.{itself, moves, once_by}
use Rattle.dma_check.specs.Again.{AreEarlier, IsKnown, highest_of}
use Rattle.dma_check.specs.Faults.{contents, expected, fault_at, is_outside, walk}
use Rattle.dma_check.specs.Held.{AreFor, view_by}
use Rattle.dma_check.specs.Marked.{IsMarked, Marked, way_of}
use Rattle.dma_check.specs.Pieces.{IsAlike}
use Rattle.dma_check.specs.Sound.{Comes}
use Rattle.dma_check.specs.Views.{View, addr_of, bus_of, devfn_of, source_of, table_at, table_below}
use Rattle.dma_check.specs.declared.fault.TableFault.{TableFault}
use Rattle.dma_check.specs.declared.held.DmaWindow.{DmaWindow}
use Rattle.dma_check.specs.declared.path.Way.{Way}
use Rattle.dma_tables.specs.DmaWalk.{context_table, highest_table, paged, root_page, word_of}
use Rattle.dma_tables.specs.declared.file.DmaFile.{DmaFile}
use Rattle.ept_check.proofs.Firsts.{head_found, none_at, none_from}
use Rattle.ept_check.specs.Search.{first_from}
use Rattle.image_pack.specs.declared.parts.SpanPart.{SpanPart}
use Rattle.machine_layout.specs.Walks.{entry_size}
use Rattle.policy_types.specs.contracts.rights.RightsPartialEq.TheImpl.{eq-value as same_rights}
use Rattle.policy_types.specs.declared.rights.Rights.{Rights}
use Rattle.policy_types.specs.declared.rights.Rights.TheVariants.{R, Rw, Rx, Rwx}
use Rattle.muen_num.specs.declared.limits.TheConstants.{PAGE}

module _ (v : View) (s source : ℕ) (before : s < source) (top : table_at v (2 ^ 48 * s) 2 ≡ table_at v (2 ^ 48 * source) 2) where
  -- the same address of the earlier source
  abbrev twin : ℕ → ℕ
  twin p = 2 ^ 48 * s + addr_of p

  twin_addr : (p : ℕ) → addr_of (twin p) ≡ addr_of p
  twin_addr p = in_range s (addr_of p) (omega arith)

  twin_before : (p : ℕ) → twin p < 2 ^ 48 * source
  twin_before p = omega (arith, before)

  of_one_source : (p x : ℕ) → source_of p ≡ source_of x → IsAlike p x 4
  of_one_source p x h = record { source = h; part = omega arith }

  first_of_source : (n : ℕ) → source_of (2 ^ 48 * n) ≡ n
  first_of_source n = omega arith

  -- the root, context and highest tables are those at the source's first address
  upper_same : (p n : ℕ) → source_of p ≡ source → n ≤ 2 → table_at v p n ≡ table_at v (2 ^ 48 * source) n
  upper_same p n own few = table_same v p (2 ^ 48 * source) 4 n (omega arith) (of_one_source p (2 ^ 48 * source) (own ∙ sym (first_of_source source))) (omega (arith, few)) (omega (arith, few))

  highest_same : (p : ℕ) → source_of p ≡ source → table_at v p 2 ≡ table_at v (twin p) 2
  highest_same p own =
      let there : source_of (twin p) ≡ source_of (2 ^ 48 * s) = in_source s (addr_of p) (omega arith) ∙ sym (first_of_source s) in
      upper_same p 2 own (omega arith) ∙ sym top ∙ sym (table_same v (twin p) (2 ^ 48 * s) 4 2 (omega arith) (of_one_source (twin p) (2 ^ 48 * s) there) (omega arith) (omega arith))

  -- those of the second level are the earlier source's
  lower_same : (p n : ℕ) → source_of p ≡ source → table_at v p (suc (suc n)) ≡ table_at v (twin p) (suc (suc n))
  unfolding table_at
  lower_same p zero own = highest_same p own
  lower_same p (suc n) own =
      ap (option_and_then (table_below v.word (addr_of p) (3 - n))) (lower_same p n own)
      ∙ ap (λ a. option_and_then (table_below v.word a (3 - n)) (table_at v (twin p) (suc (suc n)))) (sym (twin_addr p))

  lower_way : (p n : ℕ) → source_of p ≡ source → way_of v (twin p) (suc (suc n)) ≡ way_of v p (suc (suc n))
  lower_way p n own =
      ap (λ o. record { depth = suc (suc n); highest = unwrap_or o 0; part = addr_of (twin p) / entry_size (4 - n) }) (sym (highest_same p own))
      ∙ ap (λ a. record { depth = suc (suc n); highest = unwrap_or (table_at v p 2) 0; part = a / entry_size (4 - n) }) (twin_addr p)

  -- ---- marks

  comes_marked : (p m t : ℕ) → 2 ^ 48 * source < p → source_of p ≡ source → Comes v p m t → IsMarked v (6 * (2 ^ 48 * source) + 6) t (way_of v p m)
  comes_marked p zero t more own comes =
      record { p = 2 ^ 48 * source; m = 0; before = omega arith; comes = record { depth = omega arith; here = sym (upper_same p 0 own (omega arith)) ∙ comes.here }; way = refl }
  comes_marked p (suc zero) t more own comes =
      record {
        p = 2 ^ 48 * source;
        m = 1;
        before = omega arith;
        comes = record { depth = omega arith; here = sym (upper_same p 1 own (omega arith)) ∙ comes.here };
        way = ap (λ n. record { depth = 1; highest = 0; part = bus_of n }) (first_of_source source ∙ sym own);
      }
  comes_marked p (suc (suc n)) t more own comes =
      let deep = comes.depth in
      let low = twin_before p in
      record {
        p = twin p;
        m = suc (suc n);
        before = omega (arith, low, deep);
        comes = record { depth = comes.depth; here = sym (lower_same p n own) ∙ comes.here };
        way = lower_way p n own;
      }

  pub marked_again : (seen : ℕ → Option Way) → Marked v seen (6 * (2 ^ 48 * source) + 6) → Marked v seen (6 * (2 ^ 48 * (source + 1)))
  marked_again seen known = moves v seen (6 * (2 ^ 48 * source) + 6) (6 * (2 ^ 48 * (source + 1))) known (omega arith) (λ p m t low comes. elim (cases_lt (6 * p + m) (6 * (2 ^ 48 * source) + 6)) [
    | inl lt ↦ itself v seen (6 * (2 ^ 48 * source) + 6) p m t lt comes
    | inr ge ↦
        let deep = comes.depth in
        let more : 2 ^ 48 * source < p = omega (arith, ge, deep) in
        let less : p < 2 ^ 48 * (source + 1) = omega (arith, low) in
        comes_marked p m t more (omega (arith, more, less)) comes
  ])

  -- ---- faults

  each_inside : (q n : ℕ) → is_outside v q ≡ false → n < 6 → option_map_or (λ t. not (v.is_table t)) (table_at v q n) false ≡ false
  unfolding is_outside
  each_inside q n h few = each_step (λ n. option_map_or (λ t. not (v.is_table t)) (table_at v q n) false) h n few

  step_inside : (p n : ℕ) → source_of p ≡ source → is_outside v (2 ^ 48 * source) ≡ false → is_outside v (twin p) ≡ false → n < 6 → option_map_or (λ t. not (v.is_table t)) (table_at v p n) false ≡ false
  step_inside p zero own here there few = ap (λ o. option_map_or (λ t. not (v.is_table t)) o false) (upper_same p 0 own (omega arith)) ∙ each_inside (2 ^ 48 * source) 0 here few
  step_inside p (suc zero) own here there few = ap (λ o. option_map_or (λ t. not (v.is_table t)) o false) (upper_same p 1 own (omega arith)) ∙ each_inside (2 ^ 48 * source) 1 here few
  step_inside p (suc (suc n)) own here there few = ap (λ o. option_map_or (λ t. not (v.is_table t)) o false) (lower_same p n own) ∙ each_inside (twin p) (suc (suc n)) there few

  outside_again : (p : ℕ) → source_of p ≡ source → is_outside v (2 ^ 48 * source) ≡ false → is_outside v (twin p) ≡ false → is_outside v p ≡ false
  unfolding is_outside
  outside_again p own here there = no_step (λ n. option_map_or (λ t. not (v.is_table t)) (table_at v p n) false) (λ n few. step_inside p n own here there few)

  walk_by : (q : ℕ) (write : Bool) → walk v q write ≡ option_map (λ page. PAGE * page + addr_of q % PAGE) (option_and_then (paged v.word (addr_of q) write) (table_at v q 2))
  walk_by q write = ap (option_map (λ page. PAGE * page + addr_of q % PAGE)) (page_by v q write)

  walk_again : (p : ℕ) (write : Bool) → source_of p ≡ source → walk v p write ≡ walk v (twin p) write
  walk_again p write own =
      walk_by p write
      ∙ ap (λ o. option_map (λ page. PAGE * page + addr_of p % PAGE) (option_and_then (paged v.word (addr_of p) write) o)) (highest_same p own)
      ∙ ap (λ a. option_map (λ page. PAGE * page + a % PAGE) (option_and_then (paged v.word a write) (table_at v (twin p) 2))) (sym (twin_addr p))
      ∙ sym (walk_by (twin p) write)

  module _ (ws : List DmaWindow) (a : AreFor v.declared s ws) (b : AreFor v.declared source ws) where
    expected_again : (p : ℕ) (write : Bool) → source_of p ≡ source → expected v p write ≡ expected v (twin p) write
    expected_again p write own =
        ap (λ n. v.declared n (addr_of p) write) own
        ∙ b (addr_of p) write
        ∙ sym (a (addr_of p) write)
        ∙ ap (λ n. v.declared n (addr_of p) write) (sym (in_source s (addr_of p) (omega arith)))
        ∙ ap (λ n. v.declared (source_of (twin p)) n write) (sym (twin_addr p))

    contents_again : (p : ℕ) → source_of p ≡ source → fault_at v (twin p) ≡ None → contents v.is_memory (walk v) (expected v) p ≡ None
    contents_again p own none =
        let there = sym (contents_only v (twin p) (inside v (twin p) none) (once v (twin p) none)) ∙ none in
        led_contents v.is_memory (walk v) (expected v) p (λ write.
        walk_again p write own ∙ contents_led v.is_memory (walk v) (expected v) (twin p) there write ∙ sym (expected_again p write own))

    -- **no fault at the first address, then none at the others**
    pub none_again : (seen : ℕ → Option Way) → first_from (fault_at v) 0 (2 ^ 48 * source) ≡ None → fault_at v (2 ^ 48 * source) ≡ None → Marked v seen (6 * (2 ^ 48 * source) + 6) → first_from (fault_at v) (2 ^ 48 * source) (2 ^ 48) ≡ None
    none_again seen earlier none known =
        let all = marked_again seen known in
        none_from (fault_at v) (2 ^ 48 * source) (2 ^ 48) (λ p le lt.
        let own : source_of p ≡ source = omega (arith, le, lt) in
        let twin_below = twin_before p in
        let there = none_at (fault_at v) 0 (2 ^ 48 * source) earlier (twin p) (omega arith) (omega (arith, twin_below)) in
        let out = outside_again p own (inside v (2 ^ 48 * source) none) (inside v (twin p) there) in
        contents_only v p out (once_by v seen (6 * (2 ^ 48 * (source + 1))) p all (omega (arith, lt))) ∙ contents_again p own there)

-- ---- tables of a file

module _ (t : DmaFile) (spans : List SpanPart) (declared : ℕ → ℕ → Bool → Option ℕ) (ws : List DmaWindow) (source : ℕ) (own : AreFor declared source ws) where
  highest_at : (s : ℕ) → table_at (view_by t spans declared) (2 ^ 48 * s) 2 ≡ highest_of t s
  unfolding table_at
  highest_at s =
      let here : source_of (2 ^ 48 * s) ≡ s = omega arith in
      ap (λ n. option_and_then (λ table. highest_table (word_of t) table (devfn_of n)) (context_table (word_of t) (root_page t) (bus_of n))) here

  at_start : 2 ^ 48 * source + 0 ≡ 2 ^ 48 * source
  at_start = omega arith

  known_start : (seen : ℕ → Option Way) → Marked (view_by t spans declared) seen (6 * (2 ^ 48 * source + 0) + 6) → Marked (view_by t spans declared) seen (6 * (2 ^ 48 * source) + 6)
  known_start seen known = subst (λ n. Marked (view_by t spans declared) seen (6 * n + 6)) at_start known

  pub again_known : (seen : ℕ → Option Way) → IsKnown (view_by t spans declared) t ws source → Marked (view_by t spans declared) seen (6 * (2 ^ 48 * source + 0) + 6) → Marked (view_by t spans declared) seen (6 * (2 ^ 48 * (source + 1)))
  again_known seen k known =
      marked_again (view_by t spans declared) k.earlier source k.before (highest_at k.earlier ∙ k.highest ∙ sym (highest_at source)) seen (known_start seen known)

  pub again_found : (seen : ℕ → Option Way) (o : Option TableFault) → IsKnown (view_by t spans declared) t ws source → o ≡ fault_at (view_by t spans declared) (2 ^ 48 * source + 0) → (o ≡ None → Marked (view_by t spans declared) seen (6 * (2 ^ 48 * source + 0) + 6)) → o ≡ first_from (fault_at (view_by t spans declared)) (2 ^ 48 * source) (2 ^ 48)
  again_found seen None k e known =
      let v = view_by t spans declared in
      sym (none_again v k.earlier source k.before (highest_at k.earlier ∙ k.highest ∙ sym (highest_at source)) ws k.own own seen k.none (sym (e ∙ ap (fault_at v) at_start)) (known_start seen (known refl)))
  again_found seen (Some f) k e known =
      let v = view_by t spans declared in
      sym (head_found (fault_at v) (2 ^ 48 * source) (2 ^ 48) f (sym (e ∙ ap (fault_at v) at_start)) (omega arith))

-- ---- sources beside their highest tables

pub if_some : (o : Option ℕ) (P : ℕ → Type 0) → ((s : ℕ) → o ≡ Some s → P s) → IfSome o P
if_some None P h = tt
if_some (Some s) P h = h s refl

pub later : (t : DmaFile) (source : ℕ) (earlier : List (Option ℕ)) → AreEarlier t source earlier → AreEarlier t (source + 1) earlier
later t source earlier h = λ k s has. let r = h k s has in let low = r.0 in (omega (arith, low), r.1)

pub noted : (t : DmaFile) (source table : ℕ) (earlier : List (Option ℕ)) (j : ℕ) → AreEarlier t source earlier → highest_of t source ≡ Some table → root_page t + j ≡ table → j < length earlier → AreEarlier t (source + 1) (slice_set earlier j (Some source))
noted t source table earlier j h is at low = λ k s has. elim (cases_eq k j) [
  | inl same ↦
      let here : slice_index_or (slice_set earlier j (Some source)) k None ≡ Some source = ap (λ n. slice_index_or (slice_set earlier j (Some source)) n None) same ∙ get_or-set_same earlier j (Some source) None low in
      let own : source ≡ s = same_Some source s (sym here ∙ has) in
      let place : table ≡ root_page t + k = omega (arith, at, same) in
      (omega (arith, own), ap (highest_of t) (sym own) ∙ is ∙ ap (λ n. Some n) place)
  | inr ne ↦
      let r = h k s (sym (get_or-set_other earlier j k (Some source) None (λ e. ne (omega (arith, e)))) ∙ has) in
      let before = r.0 in
      (omega (arith, before), r.1)
]

-- ---- windows

rights_tell : (a b : Rights) → Decides (same_rights.it a b) (a ≡ b)
rights_tell R R = (λ _. refl, λ _. refl)
rights_tell Rw Rw = (λ _. refl, λ _. refl)
rights_tell Rx Rx = (λ _. refl, λ _. refl)
rights_tell Rwx Rwx = (λ _. refl, λ _. refl)
rights_tell _ _ = (λ h. absurd (cc (h)), λ h. absurd (cc (h)))

pub window_tells : (a b : DmaWindow) → Decides ((a.guest == b.guest) && ((a.size == b.size) && ((a.address == b.address) && same_rights.it a.rights b.rights))) (a ≡ b)
window_tells a b =
    Decides-like _ (λ h. let guest = h.0 in let size = h.1.0 in let address = h.1.1.0 in let rights = h.1.1.1 in (λ t. record { guest = guest t; size = size t; address = address t; rights = rights t }))
    (λ e. (ap (λ (x : DmaWindow). x.guest) e, (ap (λ (x : DmaWindow). x.size) e, (ap (λ (x : DmaWindow). x.address) e, ap (λ (x : DmaWindow). x.rights) e))))
    (Decides-and _ _ (Decides-eqb a.guest b.guest) (Decides-and _ _ (Decides-eqb a.size b.size) (Decides-and _ _ (Decides-eqb a.address b.address) (rights_tell a.rights b.rights))))
