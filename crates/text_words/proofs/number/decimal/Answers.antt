use Rattle.std.proofs.Common.{None, sym}
use Rattle.text_words.proofs.Digits.{is_value}
use Rattle.text_words.proofs.number.decimal.Goals as goal

pub returns-in-None : goal.returns-in-None
returns-in-None c =
    sym (is_value c.args.word.now None (sym c.if-is_badly_begun.ensures) (sym c.if-not-has_digits_alone.ensures) c.in-None.ensures)
