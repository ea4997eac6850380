use Rattle.std.proofs.Common.{ap, ◌∙◌}
use Rattle.std.specs.Result.{result_ok}
use Rattle.text_words.specs.Numbers.{decimal}
use Rattle.muen_top.proofs.Numbers.{loaded}
use Rattle.muen_top.proofs.command.load_number.Goals as goal

pub returns : goal.returns
returns c =
    let spelled = c.decimal.ensures ∙ ap decimal c.as_bytes.ensures.value in
    c.ok-2.ensures.value ∙ loaded c.args.word.now c.in_ok-ok.field-0 c.try_from.result (c.in_ok-ok.ensures.value ∙ ap result_ok spelled) c.try_from.ensures
