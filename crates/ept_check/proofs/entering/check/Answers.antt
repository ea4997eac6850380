use Rattle.std.proofs.Common.{sym, ◌∙◌}
use Rattle.ept_check.proofs.Given.{all_fine}
use Rattle.ept_check.proofs.Sounds.{no_faults, sound, unsound_if}
use Rattle.ept_check.specs.Tables.{tables_in}
use Rattle.machine_layout.specs.Memory.{is_there}
use Rattle.ept_check.proofs.entering.check.Goals as goal

pub returns-clause-sound : goal.returns-clause-sound
returns-clause-sound g c = λ h.
    let m = g.E.Entries.pages c.args.entries.now in
    sound (tables_in m c.args.tables.now c.args.subjects.now) (all_fine (is_there m) c.args.subjects.now c.requires.given.windows) (sym c.first_fault.ensures.fault ∙ h)

pub returns-clause-complete : goal.returns-clause-complete
returns-clause-complete g c = λ s one.
    c.first_fault.ensures.fault ∙ no_faults (tables_in (g.E.Entries.pages c.args.entries.now) c.args.tables.now c.args.subjects.now) s one

pub returns-clause-unsound : goal.returns-clause-unsound
returns-clause-unsound g c =
    unsound_if (tables_in (g.E.Entries.pages c.args.entries.now) c.args.tables.now c.args.subjects.now) c.first_fault.result c.first_fault.ensures.fault
