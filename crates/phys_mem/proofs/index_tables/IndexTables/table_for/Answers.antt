use Rattle.std.proofs.Common.{◌≡◌, ◌+◌, ◌-◌, ◌++◌, None, ℕ, Option, List, length, take, arith, replicate, ap, ◌∙◌}
use Rattle.std.proofs.lemmas.List.{get_or-replicate, take_all}
use Rattle.phys_mem.proofs.TableLaws.{made_tables, is_made, absent}
use Rattle.phys_mem.proofs.index_tables.IndexTables.table_for.Goals as goal

filled : (lower new : List (Option ℕ)) (base n : ℕ) → base ≡ length lower → n ≡ length lower → new ≡ take (base + 16384) lower ++ replicate (base + 16384 - n) None → new ≡ lower ++ replicate 16384 None
filled lower new base n a b e =
    let count : base + 16384 - n ≡ 16384 = omega (arith, a, b) in
    e ∙ (ap (λ k. take (base + 16384) lower ++ replicate k None) count ∙ ap (λ xs. xs ++ replicate 16384 None) (take_all (base + 16384) lower (omega (arith, a))))

pub invariant_of-self-2 : goal.invariant_of-self-2
invariant_of-self-2 c =
    let t = c.args.self.now in
    let base : c.len-base.result ≡ length t.lower.items = omega (arith, c.len-base.ensures, t.lower.ok.0) in
    let none = absent t.upper.items t.lower.items t.tables c.args.high c.index.result.now (omega (arith, c.requires)) c.index.ensures c.in_default.not-Some in
    record { tables = made_tables t.upper.items t.lower.items t.tables c.args.high (omega (arith, c.requires)) none c.len-base.result base c.resize.new.self.items (replicate 16384 None) (filled t.lower.items _ c.len-base.result _ base (omega (arith, t.lower.ok.0)) c.in_ok-resize.ensures.items) (omega (arith, c.in_ok-resize.ensures.len, c.resize.new.self.ok.0, base)) (λ j l. get_or-replicate 16384 j None None l) }

pub returns : goal.returns
returns c =
    let t = c.args.self.now in
    let base : c.len-base.result ≡ length t.lower.items = omega (arith, c.len-base.ensures, t.lower.ok.0) in
    let none = absent t.upper.items t.lower.items t.tables c.args.high c.index.result.now (omega (arith, c.requires)) c.index.ensures c.in_default.not-Some in
    is_made t.upper.items t.lower.items t.tables c.args.high (omega (arith, c.requires)) none c.len-base.result base c.resize.new.self.items (replicate 16384 None) (filled t.lower.items _ c.len-base.result _ base (omega (arith, t.lower.ok.0)) c.in_ok-resize.ensures.items) (omega (arith, c.in_ok-resize.ensures.len, c.resize.new.self.ok.0, base)) (λ j l. get_or-replicate 16384 j None None l)
