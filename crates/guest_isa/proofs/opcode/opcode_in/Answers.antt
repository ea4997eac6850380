use Rattle.std.proofs.Common.{◌∙◌, ap, option_map}
use Rattle.guest_isa.specs.declared.opcode.Row.{Row}
use Rattle.guest_isa.proofs.Rows.{at_number}
use Rattle.guest_isa.proofs.opcode.opcode_in.Goals as goal

pub returns-in_err-row : goal.returns-in_err-row
returns-in_err-row c =
    c.from_residual.ensures ∙ ap (option_map (λ (r : Row). r.opcode)) c.in_err-row.ensures ∙ at_number c.args.rows.now c.args.number c.requires

pub returns : goal.returns
returns c = ap (option_map (λ (r : Row). r.opcode)) c.in_ok-row.ensures ∙ at_number c.args.rows.now c.args.number c.requires
