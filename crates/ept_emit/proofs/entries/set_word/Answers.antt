use Rattle.std.proofs.Common.{◌≡◌, ◌+◌, ◌*◌, ◌-◌, ◌∙◌, ap, arith}
use Rattle.machine_layout.proofs.StoreLaws.{spelt}
use Rattle.machine_layout.specs.Memory.{le_bytes}
use Rattle.ept_emit.specs.Entries.{word_at}
use Rattle.ept_emit.proofs.Bytes.{same_bytes, word_other}
use Rattle.ept_emit.proofs.entries.set_word.Goals as goal

pub returns-clause-others : goal.returns-clause-others
returns-clause-others c = λ j ne.
    let width : 8 * c.args.word + 8 - 8 * c.args.word ≡ 8 = omega arith in
    let out : c.copy_from_slice.new.self ≡ le_bytes 8 c.args.value = c.copy_from_slice.ensures.after ∙ (c.to_le_bytes.ensures ∙ same_bytes c.args.value) in
    ap (λ bytes. word_at bytes j) (spelt c.args.out.now c.copy_from_slice.new.self (8 * c.args.word) 8 _ c.args.value c.requires width out) ∙ word_other c.args.out.now c.args.word c.args.value j ne
