use Rattle.std.proofs.lemmas.Result.{IfOk-weaker}
use Rattle.muen_top.proofs.tables.tables_file.Goals as goal

pub returns : goal.returns
returns c = IfOk-weaker c.pack.result _ _ (λ v file. record { tables = c.in_ok-tables.tables; file = file; are = c.in_ok-tables.ensures }) c.pack.ensures
