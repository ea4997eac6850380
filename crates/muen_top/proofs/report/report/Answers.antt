use Rattle.muen_top.proofs.Telling.{told_by}
use Rattle.muen_top.proofs.report.report.Goals as goal

pub returns-in-OutputFault : goal.returns-in-OutputFault
returns-in-OutputFault g c =
    rw c.in-OutputFault.is (told_by _ _ _ _ c.put_line-in-OutputFault.result c.output_fault.ensures c.put_line-in-OutputFault.ensures)
