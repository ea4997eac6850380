-- Whether a walk reads outside the tables, from a table on.
use Rattle.std.proofs.Common.{◌≡◌, ℕ, zero, suc, ◌-◌, ◌/◌, ◌≤◌, Bool, true, false, List, [], ◌∷◌, Option, Some, refl, sym, ap, ◌∙◌, arith}
use Rattle.std.specs.Prelude.{not, ◌||◌}
use Rattle.std.specs.List.{list_any}
use Rattle.std.proofs.lemmas.Bool.{true≢false}
use Rattle.ept_check.proofs.Reading.{lowest}
use Rattle.ept_check.specs.Entries.{leads_on}
use Rattle.ept_check.specs.Pieces.{leaves}
use Rattle.machine_layout.specs.Walks.{addresses_from, bits_of, entry_address, goes_on, index_at}

-- an entry of a table of the lowest level references none
pub some_level : (l e : ℕ) → leads_on l e ≡ true → 1 ≤ l
some_level zero e on = absurd (true≢false (sym on ∙ lowest e))
some_level (suc l) e on = omega arith

module _ (entry : ℕ → ℕ → Option ℕ) (is_table : ℕ → Bool) (addr : ℕ) where
  abbrev rest : ℕ → ℕ → List ℕ
  rest zero t = []
  rest (suc l) t = goes_on (suc l) (entry t (index_at (suc l) addr)) [] (λ u. addresses_from entry addr l u)

  addresses_are : (l t : ℕ) → addresses_from entry addr l t ≡ entry_address t (index_at l addr) ∷ rest l t
  addresses_are zero t = refl
  addresses_are (suc l) t = refl

  abbrev off : ℕ → Bool
  off at = not (is_table (at / 4096))

  leaves_is : (l t : ℕ) → leaves entry is_table addr l t ≡ (not (is_table t) || list_any off (rest l t))
  unfolding leaves
  leaves_is l t =
      let same : entry_address t (index_at l addr) / 4096 ≡ t = omega arith in
      ap (list_any off) (addresses_are l t) ∙ ap (λ n. not (is_table n) || list_any off (rest l t)) same

  pub leaves_here : (l t : ℕ) → is_table t ≡ false → leaves entry is_table addr l t ≡ true
  leaves_here l t h = leaves_is l t ∙ rw h refl

  stops : (l t e : ℕ) → entry t (index_at l addr) ≡ Some e → leads_on l e ≡ false → rest l t ≡ []
  stops zero t e is stop = refl
  stops (suc l) t e is stop = rw (is, stop) refl

  pub leaves_not : (l t e : ℕ) → is_table t ≡ true → entry t (index_at l addr) ≡ Some e → leads_on l e ≡ false → leaves entry is_table addr l t ≡ false
  leaves_not l t e h is stop = leaves_is l t ∙ rw h (ap (list_any off) (stops l t e is stop))

  pub leaves_on : (l t e : ℕ) → is_table t ≡ true → entry t (index_at l addr) ≡ Some e → leads_on l e ≡ true → leaves entry is_table addr l t ≡ leaves entry is_table addr (l - 1) (bits_of e 12 51)
  unfolding leaves
  leaves_on zero t e h is on = absurd (true≢false (sym on ∙ lowest e))
  leaves_on (suc l) t e h is on =
      let one : suc l - 1 ≡ l = omega arith in
      leaves_is (suc l) t ∙ rw (h, one) (rw (is, on) refl)
