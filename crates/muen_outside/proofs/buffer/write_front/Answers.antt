use Rattle.std.proofs.Common.{◌≡◌, ◌∙◌, length, arith}
use Rattle.std.proofs.lemmas.List.{take-append-le}
use Rattle.muen_outside.proofs.buffer.write_front.Goals as goal

pub returns-clause-text : goal.returns-clause-text
returns-clause-text g c =
    let whole : length c.write_whole.new.space ≡ 256 = c.write_whole.ensures.whole in
    take-append-le c.write_whole.result c.write_whole.new.space _ (omega (arith, whole, c.write_whole.ensures.within)) ∙ c.write_whole.ensures.text
