use Rattle.std.proofs.Common.{arith, Some, sym, ap, subst, ◌∙◌}
use Rattle.region_alloc.specs.Gaps.{IsLeast, fits_in_gap, holds}
use Rattle.region_alloc.proofs.Multiples.{here, none_beyond, none_here}
use Rattle.region_alloc.proofs.gaps.Gap.first_fit.Goals as goal

pub returns-in-None : goal.returns-in-None
returns-in-None c =
    let none = c.in-None.ensures in
    none_beyond c.args.alignment c.args.size c.args.self c.requires (λ l. none (c.requires, l)) (omega arith)

pub returns-then-holds : goal.returns-then-holds
returns-then-holds c =
    let some = c.in-Some.ensures in
    subst (λ a. IsLeast (fits_in_gap c.args.alignment c.args.size c.args.self) (Some a)) (sym some.1)
    (here c.args.alignment c.args.size c.args.self c.requires (ap (λ a. holds c.args.self a c.args.size) (sym some.1) ∙ sym c.if-holds.ensures))

pub returns-else-holds : goal.returns-else-holds
returns-else-holds c =
    let some = c.in-Some.ensures in
    none_here c.args.alignment c.args.size c.args.self c.requires (ap (λ a. holds c.args.self a c.args.size) (sym some.1) ∙ sym c.if-holds.ensures)
