use Rattle.std.proofs.Common.{[], ◌∷◌}
use Rattle.policy_lawful.specs.Domains.{offence_21, offence_22, offence_23, offence_24}
use Rattle.policy_lawful.specs.Resolution.{source_of}
use Rattle.rules_told.proofs.RulesTold.{first_noted, last_noted, one_noted}
use Rattle.rules_told.proofs.broken.note_domains.Goals as goal

pub returns : goal.returns
returns c =
    let p = source_of c.args.policy.now in
    let to_21 = first_noted 21 c.args.found.now c.note.new.found c.in_ok-domain_devices.field-0 (offence_21 p) c.in_ok-domain_devices.ensures c.in_ok-note.ensures in
    let to_22 = one_noted 21 c.args.found.now c.note.new.found c.note-2.new.found (offence_21 p ∷ []) c.in_ok-domain_windows.field-0 (offence_22 p) to_21 c.in_ok-domain_windows.ensures c.in_ok-note-2.ensures in
    let to_23 = one_noted 21 c.args.found.now c.note-2.new.found c.note-3.new.found (offence_21 p ∷ offence_22 p ∷ []) c.in_ok-regions_in_one_domain.field-0 (offence_23 p) to_22 c.in_ok-regions_in_one_domain.ensures c.in_ok-note-3.ensures in
    last_noted c.note-4.result 21 c.args.found.now c.note-3.new.found c.note-4.new.found (offence_21 p ∷ offence_22 p ∷ offence_23 p ∷ []) c.in_ok-monitors.field-0 (offence_24 p) to_23 c.in_ok-monitors.ensures c.note-4.ensures
