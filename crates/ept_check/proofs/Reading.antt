-- What an entry leads a walk to: on to a table, or to an end.
use Rattle.std.proofs.Common.{◌≡◌, ℕ, ◌+◌, ◌*◌, ◌%◌, Bool, true, false, cond, Some, refl}
use Rattle.std.specs.Prelude.{◌&&◌, ◌||◌, bit_and, not}
use Rattle.ept_check.specs.Entries.{ended, leads_on}
use Rattle.machine_layout.specs.Walks.{bits_of, entry_size, is_leaf, is_misconfigured, is_present, leaf_end, reads}
use Rattle.machine_layout.specs.declared.walk.Walk.{Walk}
use Rattle.machine_layout.specs.declared.walk.Walk.TheVariants.{Misconfigured, Violation}

on_parts : (p m l : Bool) → (p && not (m || l)) ≡ true → (p ≡ true) × (m ≡ false) × (l ≡ false)
on_parts true false false h = (refl, refl, refl)
on_parts true false true h = absurd (cc)
on_parts true true l h = absurd (cc)
on_parts false m l h = absurd (cc)

ended_by : {A : Type 0} (p m l : Bool) (none bad leaf deep : A) → (p && not (m || l)) ≡ false → cond p (cond m bad (cond l leaf deep)) none ≡ cond p (cond m bad leaf) none
ended_by false m l none bad leaf deep h = refl
ended_by true true l none bad leaf deep h = refl
ended_by true false true none bad leaf deep h = refl
ended_by true false false none bad leaf deep h = absurd (cc)

module _ (there : ℕ → Bool) (level addr want rights e : ℕ) (deeper : ℕ → ℕ → Walk) where
  pub reads_on : leads_on level e ≡ true → reads there level addr want rights (Some e) deeper ≡ deeper (bits_of e 12 51) (bit_and rights (bits_of e 0 2))
  reads_on h =
      let x = on_parts (is_present e) (is_misconfigured level e) (is_leaf level e) h in
      let p = x.0 in
      let m = x.1 in
      let l = x.2 in
      rw (p, m, l) refl

  pub reads_ended : leads_on level e ≡ false → reads there level addr want rights (Some e) deeper ≡ ended there level e addr want rights
  reads_ended h =
      ended_by (is_present e) (is_misconfigured level e) (is_leaf level e) (Violation 0) Misconfigured
      (leaf_end there addr want (bit_and rights (bits_of e 0 2)) (4096 * bits_of e 12 51 + addr % entry_size level))
      (deeper (bits_of e 12 51) (bit_and rights (bits_of e 0 2))) h

none_leads : (p b : Bool) → (p && not (b || true)) ≡ false
none_leads true true = refl
none_leads true false = refl
none_leads false b = refl

-- no entry of a page table references a table
pub lowest : (e : ℕ) → leads_on 0 e ≡ false
lowest e = none_leads (is_present e) (is_misconfigured 0 e)

pub ended_leaf : (there : ℕ → Bool) (level e addr want rights number size found : ℕ) → number ≡ bits_of e 12 51 → size ≡ entry_size level → found ≡ bits_of e 0 2 → is_present e ≡ true → is_misconfigured level e ≡ false → leaf_end there addr want (bit_and rights found) (4096 * number + addr % size) ≡ ended there level e addr want rights
ended_leaf there level e addr want rights number size found n z f p m = rw (n, z, f) (rw (p, m) refl)
