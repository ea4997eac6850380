use Rattle.std.proofs.Common.{◌/◌, ◌∙◌, ap, arith}
use Rattle.ept_check.proofs.Sizes.{pages_are}
use Rattle.ept_check.proofs.entries.pages.Goals as goal

pub returns-clause-value : goal.returns-clause-value
returns-clause-value c = ap (λ n. n / 4096) c.entry_size.ensures.value ∙ pages_are c.args.level (omega (arith, c.requires))
