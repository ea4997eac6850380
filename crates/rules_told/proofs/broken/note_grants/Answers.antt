use Rattle.std.proofs.Common.{[], ◌∷◌}
use Rattle.policy_lawful.specs.MoreRules.{offence_9, offence_10, offence_11, offence_12, offence_13, offence_14, offence_15}
use Rattle.policy_lawful.specs.Resolution.{source_of}
use Rattle.rules_told.proofs.RulesTold.{first_noted, last_noted, one_noted}
use Rattle.rules_told.proofs.broken.note_grants.Goals as goal

pub returns : goal.returns
returns c =
    let p = source_of c.args.policy.now in
    let to_9 = first_noted 9 c.args.found.now c.note.new.found c.in_ok-granted_once.field-0 (offence_9 p) c.in_ok-granted_once.ensures c.in_ok-note.ensures in
    let to_10 = one_noted 9 c.args.found.now c.note.new.found c.note-2.new.found (offence_9 p ∷ []) c.in_ok-port_ranges.field-0 (offence_10 p) to_9 c.in_ok-port_ranges.ensures c.in_ok-note-2.ensures in
    let to_11 = one_noted 9 c.args.found.now c.note-2.new.found c.note-3.new.found (offence_9 p ∷ offence_10 p ∷ []) c.in_ok-msr_ranges.field-0 (offence_11 p) to_10 c.in_ok-msr_ranges.ensures c.in_ok-note-3.ensures in
    let to_12 = one_noted 9 c.args.found.now c.note-3.new.found c.note-4.new.found (offence_9 p ∷ offence_10 p ∷ offence_11 p ∷ []) c.in_ok-sourced.field-0 (offence_12 p) to_11 c.in_ok-sourced.ensures c.in_ok-note-4.ensures in
    let to_13 = one_noted 9 c.args.found.now c.note-4.new.found c.note-5.new.found (offence_9 p ∷ offence_10 p ∷ offence_11 p ∷ offence_12 p ∷ []) c.in_ok-modes.field-0 (offence_13 p) to_12 c.in_ok-modes.ensures c.in_ok-note-5.ensures in
    let to_14 = one_noted 9 c.args.found.now c.note-5.new.found c.note-6.new.found (offence_9 p ∷ offence_10 p ∷ offence_11 p ∷ offence_12 p ∷ offence_13 p ∷ []) c.in_ok-calls.field-0 (offence_14 p) to_13 c.in_ok-calls.ensures c.in_ok-note-6.ensures in
    last_noted c.note-7.result 9 c.args.found.now c.note-6.new.found c.note-7.new.found (offence_9 p ∷ offence_10 p ∷ offence_11 p ∷ offence_12 p ∷ offence_13 p ∷ offence_14 p ∷ []) c.in_ok-vectors.field-0 (offence_15 p) to_14 c.in_ok-vectors.ensures c.note-7.ensures
