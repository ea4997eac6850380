-- The tables of events of a subject (this project's own format).
use Rattle.event_emit.specs.declared.event_tables.EventTables.{EventTables}
use Rattle.image_soundness.specs.TablesOf.{IsTable}
use Rattle.policy_lawful.specs.Resolution.{Resolution}
use Rattle.policy_lawful.specs.declared.resolved.Subject.{Subject}
use Rattle.policy_lawful.specs.source.SourceWay.TheVariants.{Call, Trap}

-- the tables of a subject
pub record AreTables (r : Resolution) (s : Subject) (t : EventTables) : Type 0 where
  pub calls : IsTable r s Call t.calls
  pub traps : IsTable r s Trap t.traps
