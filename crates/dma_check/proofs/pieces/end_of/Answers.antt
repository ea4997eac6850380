use Rattle.std.proofs.Common.{◌≤◌, arith}
use Rattle.dma_check.proofs.PieceLaws.{ends_above, entry_alike}
use Rattle.dma_check.proofs.pieces.end_of.Goals as goal

pub returns-clause-low : goal.returns-clause-low
returns-clause-low c =
    let few : c.args.level ≤ 3 = omega (arith, c.requires.level, c.if-level-eq4.false) in
    (ends_above c.args.level c.args.addr c.entry_size-size.result few c.entry_size-size.ensures.value c.requires.addr).1

pub returns-clause-alike : goal.returns-clause-alike
returns-clause-alike c = λ source.
    let few : c.args.level ≤ 3 = omega (arith, c.requires.level, c.if-level-eq4.false) in
    entry_alike source c.args.level c.args.addr c.entry_size-size.result few c.entry_size-size.ensures.value c.requires.addr
