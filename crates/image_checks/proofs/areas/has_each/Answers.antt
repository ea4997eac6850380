use Rattle.std.proofs.Common.{◌≡◌, ◌≢◌, ◌+◌, ◌∙◌, ◌++◌, ℕ, ◌<◌, suc, length, map, get_or, drop, take, List, arith, sym, subst, ap}
use Rattle.std.specs.List.Sorted.{IsPermutation}
use Rattle.image_checks.proofs.AreaLaws.{none_left, not_left, taken_out}
use Rattle.machine_layout.specs.Exits.{area_index}
use Rattle.muen_num.specs.Range.{numbers_below}
use Rattle.image_checks.proofs.areas.has_each.Goals as goal

pub returns-in-None : goal.returns-in-None
returns-in-None c =
    let none : (k : ℕ) → k < length c.deref.result.now → get_or c.deref.result.now k 0 ≢ c.index_at-index.result = c.in-None.ensures in
    let differ : (k : ℕ) → k < length c.loop-entry.left.items → get_or c.loop-entry.left.items k 0 ≢ area_index c.args.area.now c.loop-entry.entry =
    λ k l e. none k (subst (λ (xs : List ℕ). k < length xs) (sym c.deref.ensures.value) l) (ap (λ (xs : List ℕ). get_or xs k 0) c.deref.ensures.value ∙ e ∙ sym c.index_at-index.ensures) in
    not_left (area_index c.args.area.now) c.loop-entry.entry c.args.count c.loop-entry.left.items c.args.granted.items (omega arith) c.loop-entry.invariant.moved differ

pub loop-entry-preserved : goal.loop-entry-preserved
loop-entry-preserved c =
    let left = c.loop-entry.left.items in
    let within : c.in-Some.at < length left = subst (λ (xs : List ℕ). c.in-Some.at < length xs) c.deref.ensures.value c.in-Some.ensures.0 in
    let here : get_or left c.in-Some.at 0 ≡ area_index c.args.area.now c.loop-entry.entry = sym (ap (λ (xs : List ℕ). get_or xs c.in-Some.at 0) c.deref.ensures.value) ∙ c.in-Some.ensures.1 ∙ c.index_at-index.ensures in
    let out = taken_out (area_index c.args.area.now) c.loop-entry.entry c.in-Some.at left c.args.granted.items within here c.loop-entry.invariant.moved in
    let next : suc c.loop-entry.entry ≡ c.loop-entry.entry + 1 = omega arith in
    record {
      many = omega (arith, c.remove.ensures.len);
      moved = subst (λ xs. IsPermutation (map (area_index c.args.area.now) (numbers_below (c.loop-entry.entry + 1)) ++ xs) c.args.granted.items) (sym c.remove.ensures.items)
          (subst (λ n. IsPermutation (map (area_index c.args.area.now) (numbers_below n) ++ (take c.in-Some.at left ++ drop (suc c.in-Some.at) left)) c.args.granted.items) next out);
    }

pub returns : goal.returns
returns c = none_left (area_index c.args.area.now) c.loop-entry.entry c.args.count c.loop-entry.left.items c.args.granted.items (omega arith) (omega arith) c.loop-entry.invariant.moved
