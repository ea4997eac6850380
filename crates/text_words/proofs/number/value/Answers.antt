use Rattle.std.proofs.Common.{sym, arith}
use Rattle.text_words.proofs.Digits.{beyond_next}
use Rattle.text_words.proofs.number.value.Goals as goal

pub returns-in_err-checked_mul : goal.returns-in_err-checked_mul
returns-in_err-checked_mul c =
    rw c.from_residual.ensures (sym (beyond_next c.loop-c.n c.loop-c.c-index c.args.word.now (omega arith) c.loop-c.invariant.rest (cc) (omega (arith, c.in_err-checked_mul.ensures))))

pub returns-in_err-n : goal.returns-in_err-n
returns-in_err-n c =
    rw c.from_residual-in_err-n.ensures (
    sym (beyond_next c.loop-c.n c.loop-c.c-index c.args.word.now (omega arith) c.loop-c.invariant.rest (cc) (omega (arith, c.in_ok-checked_mul.ensures, c.from.ensures, c.in_err-n.ensures)))
    )
