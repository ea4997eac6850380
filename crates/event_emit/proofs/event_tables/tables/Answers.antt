use Rattle.std.proofs.Common.{map, ◌≡◌}
use Rattle.std.specs.List.{AllZip}
use Rattle.std.proofs.lemmas.Result.{IfOk-weaker}
use Rattle.event_emit.specs.ByIndex.{event_tables_of}
use Rattle.event_emit.specs.Tables.{AreTables}
use Rattle.event_emit.proofs.EntriesReach.{with_letters}
use Rattle.event_emit.proofs.TablesByIndex.{are_tables, grants_reach_few}
use Rattle.event_emit.proofs.event_tables.tables.Goals as goal

pub all_tables-requires : goal.all_tables-requires
all_tables-requires c =
    let r = c.args.expanded.now.lawful in
    grants_reach_few r (with_letters r.subjects c.grants.ensures.named) c.grants.ensures.expanded.lawful c.grants.result.now c.grants.ensures.grants

pub returns : goal.returns
returns c =
    let r = c.args.expanded.now.lawful in
    IfOk-weaker c.all_tables.result (λ ts. ts ≡ map event_tables_of c.grants.result.now) (AllZip (AreTables r) r.subjects)
    (λ ts is. are_tables r (with_letters r.subjects c.grants.ensures.named) c.grants.ensures.expanded.lawful c.grants.result.now ts c.grants.ensures.grants is)
    c.all_tables.ensures
