-- Which entries a trace reads from a table whose level isn't known, by the entry there.
use Rattle.std.proofs.Common.{◌≡◌, ℕ, zero, suc, ◌-◌, ◌<◌, Bool, true, false, cond, List, [], ◌∷◌, length, get_or, set, Option, None, Some, refl, sym, ap, subst, ◌∙◌, arith}
use Rattle.std.specs.Prelude.{◌&&◌, ◌||◌, not}
use Rattle.std.specs.List.{All}
use Rattle.std.proofs.lemmas.Bool.{true≢false}
use Rattle.std.proofs.lemmas.List.{get_or-set_same}
use Rattle.machine_layout.specs.Walks.{bits_of, index_at, entry_address, is_present, is_leaf, is_misconfigured, goes_on, addresses_from}
use Rattle.ept_walk.specs.Ends.{IsEntryOf}

pub all_cons : (P : ℕ → Type 0) (x : ℕ) (xs : List ℕ) → P x → All P xs → All P (x ∷ xs)
all_cons P x xs p h zero d l = p
all_cons P x xs p h (suc k) d l = h k d (omega arith)

all_none : (P : ℕ → Type 0) → All P []
all_none P k d l = absurd (omega arith)

ends_alike : {A : Type 0} (b : Bool) (x : A) → cond b x x ≡ x
ends_alike true x = refl
ends_alike false x = refl

pub is_entry : (tables : List ℕ) (addr level table : ℕ) → level < 4 → get_or tables level 0 ≡ table → IsEntryOf tables (entry_address table (index_at level addr))
is_entry tables addr level table l h =
    record {
      level = level;
      within = l;
      index = index_at level addr;
      few = omega arith;
      is = ap (λ t. entry_address t (index_at level addr)) (sym h);
    }

pub is_written : (tables : List ℕ) (addr level table : ℕ) → level < 4 → length tables ≡ 4 → IsEntryOf (set tables level table) (entry_address table (index_at level addr))
is_written tables addr level table l long =
    is_entry (set tables level table) addr level table l (get_or-set_same tables level table 0 (omega arith))

pub is_noted : (tables after : List ℕ) (addr level table : ℕ) → level < 4 → length tables ≡ 4 → get_or after level 0 ≡ get_or (set tables level table) level 0 → IsEntryOf after (entry_address table (index_at level addr))
is_noted tables after addr level table l long stays =
    is_entry after addr level table l (stays ∙ get_or-set_same tables level table 0 (omega arith))

pub below_itself : (level e : ℕ) → false ≡ is_leaf level e → level - 1 < level
below_itself zero e h = absurd (true≢false (sym h))
below_itself (suc level) e h = omega arith

module _ (entry : ℕ → ℕ → Option ℕ) (addr : ℕ) where
  -- what the levels below read
  abbrev below : ℕ → ℕ → List ℕ
  below zero t = []
  below (suc level) t = addresses_from entry addr level t

  lowest : (o : Option ℕ) → goes_on 0 o [] (below 0) ≡ []
  lowest None = refl
  lowest (Some e) = ends_alike (is_present e && not (is_misconfigured 0 e || is_leaf 0 e)) []

  addresses_are : (level table : ℕ) → addresses_from entry addr level table ≡ entry_address table (index_at level addr) ∷ goes_on level (entry table (index_at level addr)) [] (below level)
  addresses_are zero table = ap (λ xs. entry_address table (index_at 0 addr) ∷ xs) (sym (lowest (entry table (index_at 0 addr))))
  addresses_are (suc level) table = refl

  below_is : (level t e : ℕ) → is_leaf level e ≡ false → addresses_from entry addr (level - 1) t ≡ below level t
  below_is zero t e h = absurd (true≢false h)
  below_is (suc level) t e h =
      let one : suc level - 1 ≡ level = omega arith in ap (λ l. addresses_from entry addr l t) one

  module _ (P : ℕ → Type 0) (level table : ℕ) (first : P (entry_address table (index_at level addr))) where
    ended : goes_on level (entry table (index_at level addr)) [] (below level) ≡ [] → All P (addresses_from entry addr level table)
    ended rest =
        subst (λ xs. All P xs) (sym (addresses_are level table)) (all_cons P _ _ first (subst (λ xs. All P xs) (sym rest) (all_none P)))

    pub noted_none : None ≡ entry table (index_at level addr) → All P (addresses_from entry addr level table)
    noted_none e = ended (ap (λ o. goes_on level o [] (below level)) (sym e))

    module _ (e : ℕ) (at : Some e ≡ entry table (index_at level addr)) where
      rest_some : goes_on level (entry table (index_at level addr)) [] (below level) ≡ goes_on level (Some e) [] (below level)
      rest_some = ap (λ o. goes_on level o [] (below level)) (sym at)

      pub noted_absent : false ≡ is_present e → All P (addresses_from entry addr level table)
      noted_absent p =
          ended (rest_some ∙ ap (λ b. cond (b && not (is_misconfigured level e || is_leaf level e)) (below level (bits_of e 12 51)) []) (sym p))

      pub noted_bad : true ≡ is_present e → true ≡ is_misconfigured level e → All P (addresses_from entry addr level table)
      noted_bad p b =
          ended (rest_some ∙ (ap (λ b. cond (b && not (is_misconfigured level e || is_leaf level e)) (below level (bits_of e 12 51)) []) (sym p) ∙ ap (λ b. cond (not (b || is_leaf level e)) (below level (bits_of e 12 51)) []) (sym b)))

      module _ (p : true ≡ is_present e) (b : false ≡ is_misconfigured level e) where
        on_leaf : goes_on level (entry table (index_at level addr)) [] (below level) ≡ cond (not (is_leaf level e)) (below level (bits_of e 12 51)) []
        on_leaf =
            rest_some ∙ (ap (λ b. cond (b && not (is_misconfigured level e || is_leaf level e)) (below level (bits_of e 12 51)) []) (sym p) ∙ ap (λ b. cond (not (b || is_leaf level e)) (below level (bits_of e 12 51)) []) (sym b))

        pub noted_leaf : true ≡ is_leaf level e → All P (addresses_from entry addr level table)
        noted_leaf l = ended (on_leaf ∙ ap (λ b. cond (not b) (below level (bits_of e 12 51)) []) (sym l))

        pub noted_deeper : (number : ℕ) → number ≡ bits_of e 12 51 → false ≡ is_leaf level e → All P (addresses_from entry addr (level - 1) number) → All P (addresses_from entry addr level table)
        noted_deeper number n l h =
            let rest : goes_on level (entry table (index_at level addr)) [] (below level) ≡ addresses_from entry addr (level - 1) number = on_leaf ∙ (ap (λ b. cond (not b) (below level (bits_of e 12 51)) []) (sym l) ∙ (ap (below level) (sym n) ∙ sym (below_is level number e (sym l)))) in
            subst (λ xs. All P xs) (sym (addresses_are level table)) (all_cons P _ _ first (subst (λ xs. All P xs) (sym rest) h))
