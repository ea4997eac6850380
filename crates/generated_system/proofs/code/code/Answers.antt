use Rattle.guest_isa.specs.GuestIsa.{row_of}
use Rattle.generated_system.proofs.CodeParts.{code_parts, idle_valid, round_valid}
use Rattle.generated_system.proofs.code.code.Goals as goal

pub add_code-requires : goal.add_code-requires
unfolding row_of
add_code-requires c = round_valid c.own_number.result c.polling.result c.own_number.ensures.valid c.polling.ensures.valid

pub add_code-requires-2 : goal.add_code-requires-2
unfolding row_of
add_code-requires-2 c = idle_valid

pub returns : goal.returns
unfolding row_of
returns c =
    code_parts c.args.number c.args.subject c.own_number.result c.polling.result c.new-bytes.result.items c.add_code.new.bytes.items c.add_code-2.new.bytes.items c.add_code-3.new.bytes.items
    c.own_number.ensures.instruction c.polling.ensures.instruction c.new-bytes.ensures.items c.in_ok-add_code.ensures c.in_ok-add_code-2.ensures c.in_ok-add_code-3.ensures
