use Rattle.std.proofs.Common.{[], ◌∷◌}
use Rattle.policy_lawful.specs.MoreRules.{offence_6, offence_7}
use Rattle.policy_lawful.specs.Resolution.{source_of}
use Rattle.policy_lawful.specs.Rules.{offence_3, offence_4, offence_5, offence_8}
use Rattle.rules_told.proofs.RulesTold.{first_noted, last_noted, one_noted}
use Rattle.rules_told.proofs.broken.note_memory.Goals as goal

pub returns-clause-noted : goal.returns-clause-noted
returns-clause-noted c =
    let p = source_of c.args.policy.now in
    let to_3 = first_noted 3 c.args.found.now c.note.new.found c.cpus.result (offence_3 p) c.cpus.ensures.offence c.in_ok-note.ensures in
    let to_4 = one_noted 3 c.args.found.now c.note.new.found c.note-2.new.found (offence_3 p ∷ []) c.addresses.result (offence_4 p) to_3 c.addresses.ensures c.in_ok-note-2.ensures in
    let to_5 = one_noted 3 c.args.found.now c.note-2.new.found c.note-3.new.found (offence_3 p ∷ offence_4 p ∷ []) c.in_ok-windows_apart.field-0 (offence_5 p) to_4 c.in_ok-windows_apart.ensures c.in_ok-note-3.ensures in
    let to_6 = one_noted 3 c.args.found.now c.note-3.new.found c.note-4.new.found (offence_3 p ∷ offence_4 p ∷ offence_5 p ∷ []) c.in_ok-connected.field-0 (offence_6 p) to_5 c.in_ok-connected.ensures c.in_ok-note-4.ensures in
    let to_7 = one_noted 3 c.args.found.now c.note-4.new.found c.note-5.new.found (offence_3 p ∷ offence_4 p ∷ offence_5 p ∷ offence_6 p ∷ []) c.in_ok-mapped.field-0 (offence_7 p) to_6 c.in_ok-mapped.ensures c.in_ok-note-5.ensures in
    last_noted c.note-6.result 3 c.args.found.now c.note-5.new.found c.note-6.new.found (offence_3 p ∷ offence_4 p ∷ offence_5 p ∷ offence_6 p ∷ offence_7 p ∷ []) c.in_ok-writers.field-0 (offence_8 p) to_7 c.in_ok-writers.ensures c.note-6.ensures
