use Rattle.std.proofs.Common.{◌∙◌, ap, option_map}
use Rattle.guest_isa.specs.declared.opcode.Row.{Row}
use Rattle.guest_isa.proofs.Rows.{with_word}
use Rattle.guest_isa.proofs.opcode.opcode_with.Goals as goal

pub returns-in_err-row : goal.returns-in_err-row
returns-in_err-row c =
    c.from_residual.ensures ∙ ap (option_map (λ (r : Row). r.opcode)) c.in_err-row.ensures ∙ with_word c.args.rows.now c.args.word.now c.requires

pub returns : goal.returns
returns c = ap (option_map (λ (r : Row). r.opcode)) c.in_ok-row.ensures ∙ with_word c.args.rows.now c.args.word.now c.requires
