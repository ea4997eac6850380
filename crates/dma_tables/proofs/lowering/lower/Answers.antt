use Rattle.std.proofs.Common.{sym, subst}
use Rattle.std.specs.Prelude.{option_map}
use Rattle.std.proofs.lemmas.Result.{IfOk-weaker}
use Rattle.device_bench.specs.Devices.{CanRun}
use Rattle.dma_tables.specs.LoweredRecord.{IsRecordIn}
use Rattle.dma_tables.proofs.LoweredLaws.{can_run, still_record}
use Rattle.dma_tables.proofs.lowering.lower.Goals as goal

pub returns-clause-can_run : goal.returns-clause-can_run
returns-clause-can_run c = λ orderly.
    let tables = option_map (λ t. t.now) c.args.tables in
    let holds = can_run tables c.args.parts.now c.args.given c.image.ensures.parts orderly in
    IfOk-weaker c.lowered_record.result _ CanRun (λ r e. subst CanRun (sym e) holds) (rw c.image.ensures.same at c.lowered_record.ensures)

pub returns-clause-record_in : goal.returns-clause-record_in
returns-clause-record_in c = λ devices is lie.
    let tables = option_map (λ t. t.now) c.args.tables in
    let holds = still_record tables c.args.parts.now devices c.args.given c.image.ensures.parts lie is in
    IfOk-weaker c.lowered_record.result _ (IsRecordIn devices c.args.parts.now.spans) (λ r e. subst (IsRecordIn devices c.args.parts.now.spans) (sym e) holds) (rw c.image.ensures.same at c.lowered_record.ensures)
