use Rattle.std.proofs.Common.{sym, ap, ◌∙◌}
use Rattle.std.specs.Prelude.{◌&&◌}
use Rattle.dma_check.proofs.MarkLaws.{all_marked}
use Rattle.dma_check.specs.Marked.{seen_in}
use Rattle.dma_check.proofs.marks.mark_all.Goals as goal

pub returns-clause-marks : goal.returns-clause-marks
returns-clause-marks c = λ v is known one.
    let root = c.args.path.now.root in
    let all = all_marked v c.args.source c.args.addr c.requires.addr c.args.path.now is (seen_in root c.args.ways.now.items) (seen_in root c.mark-first.new.ways.items) (seen_in root c.mark-second.new.ways.items) (seen_in root c.mark-third.new.ways.items) (seen_in root c.mark-fourth.new.ways.items) (seen_in root c.mark-fifth.new.ways.items) (seen_in root c.mark-last.new.ways.items) c.mark-first.result c.mark-second.result c.mark-third.result c.mark-fourth.result c.mark-fifth.result c.mark-last.result c.from.result c.unwrap_or-highest.result c.entry_size.result c.entry_size-2.result c.entry_size-3.result c.from.ensures c.unwrap_or-highest.ensures c.entry_size.ensures.value c.entry_size-2.ensures.value c.entry_size-3.ensures.value c.mark-first.ensures.marks c.mark-second.ensures.marks c.mark-third.ensures.marks c.mark-fourth.ensures.marks c.mark-fifth.ensures.marks c.mark-last.ensures.marks known in
    all.marks (ap (λ b. ((((b && c.mark-third.result) && c.mark-fourth.result) && c.mark-fifth.result) && c.mark-last.result)) (sym c.both-second.ensures)
    ∙ ap (λ b. (((b && c.mark-fourth.result) && c.mark-fifth.result) && c.mark-last.result)) (sym c.both-third.ensures)
    ∙ ap (λ b. ((b && c.mark-fifth.result) && c.mark-last.result)) (sym c.both-fourth.ensures)
    ∙ ap (λ b. (b && c.mark-last.result)) (sym c.both-fifth.ensures) ∙ sym c.both.ensures ∙ one)

pub returns-clause-twice : goal.returns-clause-twice
returns-clause-twice c = λ v is known one.
    let root = c.args.path.now.root in
    let all = all_marked v c.args.source c.args.addr c.requires.addr c.args.path.now is (seen_in root c.args.ways.now.items) (seen_in root c.mark-first.new.ways.items) (seen_in root c.mark-second.new.ways.items) (seen_in root c.mark-third.new.ways.items) (seen_in root c.mark-fourth.new.ways.items) (seen_in root c.mark-fifth.new.ways.items) (seen_in root c.mark-last.new.ways.items) c.mark-first.result c.mark-second.result c.mark-third.result c.mark-fourth.result c.mark-fifth.result c.mark-last.result c.from.result c.unwrap_or-highest.result c.entry_size.result c.entry_size-2.result c.entry_size-3.result c.from.ensures c.unwrap_or-highest.ensures c.entry_size.ensures.value c.entry_size-2.ensures.value c.entry_size-3.ensures.value c.mark-first.ensures.marks c.mark-second.ensures.marks c.mark-third.ensures.marks c.mark-fourth.ensures.marks c.mark-fifth.ensures.marks c.mark-last.ensures.marks known in
    all.twice (ap (λ b. ((((b && c.mark-third.result) && c.mark-fourth.result) && c.mark-fifth.result) && c.mark-last.result)) (sym c.both-second.ensures)
    ∙ ap (λ b. (((b && c.mark-fourth.result) && c.mark-fifth.result) && c.mark-last.result)) (sym c.both-third.ensures)
    ∙ ap (λ b. ((b && c.mark-fifth.result) && c.mark-last.result)) (sym c.both-fourth.ensures)
    ∙ ap (λ b. (b && c.mark-last.result)) (sym c.both-fifth.ensures) ∙ sym c.both.ensures ∙ one)
