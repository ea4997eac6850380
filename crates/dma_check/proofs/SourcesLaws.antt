-- Source by source.
use Rattle.std.proofs.Common.{◌≡◌, ℕ, ◌+◌, ◌*◌, ◌^◌, ◌<◌, ◌≤◌, Option, Some, None, refl, sym, ap, ◌∙◌, arith}
use Rattle.dma_check.proofs.Sounds.{fault_from, how_many}
use Rattle.dma_check.specs.Faults.{fault_at, positions, table_fault}
use Rattle.dma_check.specs.Marked.{Marked}
use Rattle.dma_check.specs.Sources.{SOURCES}
use Rattle.dma_check.specs.Views.{View}
use Rattle.dma_check.specs.declared.fault.TableFault.{TableFault}
use Rattle.dma_check.specs.declared.path.Way.{Way}
use Rattle.ept_check.proofs.Firsts.{later_found, none_joined}
use Rattle.ept_check.specs.Search.{first_from}

module _ (v : View) where
  pub none_yet : first_from (fault_at v) 0 (2 ^ 48 * 0) ≡ None
  unfolding first_from
  none_yet = refl

  pub none_known : (seen : ℕ → Option Way) → ((t : ℕ) → seen t ≡ None) → Marked v seen (6 * (2 ^ 48 * 0))
  none_known seen h = record {
    only = λ t w has. absurd (let bad = sym has ∙ h t in cc);
    all = λ p m t low comes. absurd (omega (arith, low));
  }

  -- a fault of a source, and none of those before it
  pub one_source : (source : ℕ) (f : TableFault) → source < 65536 → first_from (fault_at v) 0 (2 ^ 48 * source) ≡ None → Some f ≡ first_from (fault_at v) (2 ^ 48 * source) (2 ^ 48) → Some f ≡ table_fault v
  one_source source f few none h =
      let many = how_many in
      sym (fault_from v ∙ later_found (fault_at v) 0 (2 ^ 48 * source) (2 ^ 48) positions (2 ^ 48 * source) f (omega (arith, few, many)) (omega arith) none (sym h))

  pub later_source : (source : ℕ) → first_from (fault_at v) 0 (2 ^ 48 * source) ≡ None → None ≡ first_from (fault_at v) (2 ^ 48 * source) (2 ^ 48) → first_from (fault_at v) 0 (2 ^ 48 * (source + 1)) ≡ None
  later_source source a b = none_joined (fault_at v) 0 (2 ^ 48 * source) (2 ^ 48) (2 ^ 48 * (source + 1)) (2 ^ 48 * source) (omega arith) (omega arith) a (sym b)

  pub all_none : (source : ℕ) → source ≡ 65536 → first_from (fault_at v) 0 (2 ^ 48 * source) ≡ None → None ≡ table_fault v
  all_none source e none =
      let many = how_many in
      let all : positions ≡ 2 ^ 48 * source = omega (arith, e, many) in
      sym (fault_from v ∙ ap (first_from (fault_at v) 0) all ∙ none)
