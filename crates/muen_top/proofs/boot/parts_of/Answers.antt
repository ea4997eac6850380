use Rattle.muen_top.proofs.Booting.{is_back, not_back}
use Rattle.muen_top.proofs.boot.parts_of.Goals as goal

pub returns-clause-err : goal.returns-clause-err
returns-clause-err c = not_back _ _ _ _ _ c.in_ok-bytes.ensures c.read_back.result (rw c.deref.ensures.value at c.read_back.ensures)

pub returns-clause-ok : goal.returns-clause-ok
returns-clause-ok c = is_back _ _ _ _ _ c.in_ok-bytes.ensures c.read_back.result (rw c.deref.ensures.value at c.read_back.ensures)
