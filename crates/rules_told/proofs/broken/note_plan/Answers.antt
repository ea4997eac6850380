use Rattle.std.proofs.Common.{[], ◌∷◌}
use Rattle.policy_lawful.specs.MoreRules.{offence_19}
use Rattle.policy_lawful.specs.Resolution.{source_of}
use Rattle.policy_lawful.specs.Rules.{offence_16, offence_17, offence_18, offence_20}
use Rattle.rules_told.proofs.RulesTold.{first_noted, last_noted, one_noted}
use Rattle.rules_told.proofs.broken.note_plan.Goals as goal

pub returns : goal.returns
returns c =
    let p = source_of c.args.policy.now in
    let to_16 = first_noted 16 c.args.found.now c.note.new.found c.major_frames.result (offence_16 p) c.major_frames.ensures c.in_ok-note.ensures in
    let to_17 = one_noted 16 c.args.found.now c.note.new.found c.note-2.new.found (offence_16 p ∷ []) c.in_ok-groups.field-0 (offence_17 p) to_16 c.in_ok-groups.ensures c.in_ok-note-2.ensures in
    let to_18 = one_noted 16 c.args.found.now c.note-2.new.found c.note-3.new.found (offence_16 p ∷ offence_17 p ∷ []) c.in_ok-blocks_apart.field-0 (offence_18 p) to_17 c.in_ok-blocks_apart.ensures c.in_ok-note-3.ensures in
    let to_19 = one_noted 16 c.args.found.now c.note-3.new.found c.note-4.new.found (offence_16 p ∷ offence_17 p ∷ offence_18 p ∷ []) c.in_ok-fixed_regions.field-0 (offence_19 p) to_18 c.in_ok-fixed_regions.ensures c.in_ok-note-4.ensures in
    last_noted c.note-5.result 16 c.args.found.now c.note-4.new.found c.note-5.new.found (offence_16 p ∷ offence_17 p ∷ offence_18 p ∷ offence_19 p ∷ []) c.in_ok-limits.field-0 (offence_20 p) to_19 c.in_ok-limits.ensures c.note-5.ensures
