-- The walk from a table whose level isn't known, by the entry there.
use Rattle.std.proofs.Common.{◌≡◌, ℕ, zero, suc, ◌+◌, ◌-◌, ◌*◌, ◌%◌, Bool, true, false, Option, None, Some, refl, sym, ap, ◌∙◌, arith}
use Rattle.std.specs.Prelude.{bit_and}
use Rattle.std.proofs.lemmas.Bool.{true≢false}
use Rattle.machine_layout.specs.Walks.{bits_of, entry_size, index_at, is_present, is_leaf, is_misconfigured, leaf_end, reads, walk_from}
use Rattle.machine_layout.specs.declared.walk.Walk.{Walk}
use Rattle.machine_layout.specs.declared.walk.Walk.TheVariants.{Violation, Misconfigured}

module _ (entry : ℕ → ℕ → Option ℕ) (there : ℕ → Bool) (addr want : ℕ) where
  -- what the levels below say
  abbrev pub deeper : ℕ → ℕ → ℕ → Walk
  deeper zero t r = Misconfigured
  deeper (suc level) t r = walk_from entry there addr want level t r

  pub walk_is : (level table rights : ℕ) → walk_from entry there addr want level table rights ≡ reads there level addr want rights (entry table (index_at level addr)) (deeper level)
  unfolding walk_from
  walk_is zero table rights = refl
  walk_is (suc level) table rights = refl

  deeper_is : (level t r e : ℕ) → is_leaf level e ≡ false → walk_from entry there addr want (level - 1) t r ≡ deeper level t r
  deeper_is zero t r e h = absurd (true≢false h)
  deeper_is (suc level) t r e h =
      let one : suc level - 1 ≡ level = omega arith in ap (λ l. walk_from entry there addr want l t r) one

  pub walk_none : (level table rights : ℕ) → None ≡ entry table (index_at level addr) → Misconfigured ≡ walk_from entry there addr want level table rights
  walk_none level table rights e =
      sym (walk_is level table rights ∙ ap (λ o. reads there level addr want rights o (deeper level)) (sym e))

  module _ (level table rights e : ℕ) (at : Some e ≡ entry table (index_at level addr)) where
    walk_some : walk_from entry there addr want level table rights ≡ reads there level addr want rights (Some e) (deeper level)
    walk_some = walk_is level table rights ∙ ap (λ o. reads there level addr want rights o (deeper level)) (sym at)

    pub walk_absent : false ≡ is_present e → Violation 0 ≡ walk_from entry there addr want level table rights
    walk_absent p = let absent = sym p in sym (walk_some ∙ rw absent refl)

    pub walk_bad : true ≡ is_present e → true ≡ is_misconfigured level e → Misconfigured ≡ walk_from entry there addr want level table rights
    walk_bad p b = let present = sym p in let bad = sym b in sym (walk_some ∙ rw (present, bad) refl)

    pub walk_leaf : (w : Walk) (found number size : ℕ) → w ≡ leaf_end there addr want (bit_and rights found) (4096 * number + addr % size) → found ≡ bits_of e 0 2 → number ≡ bits_of e 12 51 → size ≡ entry_size level → true ≡ is_present e → false ≡ is_misconfigured level e → true ≡ is_leaf level e → w ≡ walk_from entry there addr want level table rights
    walk_leaf w found number size h f n z p b l =
        let present = sym p in
        let good = sym b in
        let leaf = sym l in
        h ∙ rw (f, n, z) (sym (walk_some ∙ rw (present, good, leaf) refl))

    pub walk_deeper : (w : Walk) (found number : ℕ) → w ≡ walk_from entry there addr want (level - 1) number (bit_and rights found) → found ≡ bits_of e 0 2 → number ≡ bits_of e 12 51 → true ≡ is_present e → false ≡ is_misconfigured level e → false ≡ is_leaf level e → w ≡ walk_from entry there addr want level table rights
    walk_deeper w found number h f n p b l =
        let present = sym p in
        let good = sym b in
        let table_entry = sym l in
        h ∙ (deeper_is level number (bit_and rights found) e table_entry ∙ rw (f, n) (sym (walk_some ∙ rw (present, good, table_entry) refl)))
