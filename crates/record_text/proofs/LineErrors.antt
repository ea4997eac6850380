-- An answer with no want of memory is one that may have it.
use Rattle.std.proofs.Common.{Result, Ok, Err, refl}
use Rattle.record_text.specs.Saying.{Gives, with_line_error}
use Rattle.record_text.specs.declared.fault.LineWant.{LineWant}

pub Gives-with_line_error : {X : Type 0} (r : Result X LineWant) → Gives r (with_line_error r)
Gives-with_line_error (Ok x) = refl
Gives-with_line_error (Err want) = refl

pub ruleset line_errors = (Gives-with_line_error)
