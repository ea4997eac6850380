-- The number of each status of the program's own.
use Rattle.std.specs.Prelude.{ℕ}
use Rattle.lint_top.specs.declared.status.LintStatus.{LintStatus}
use Rattle.lint_top.specs.declared.status.LintStatus.TheVariants.{PolicyRefused}

abbrev pub number_of : LintStatus → ℕ
number_of PolicyRefused = 2
