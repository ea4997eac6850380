use Rattle.std.proofs.lemmas.Result.{err_from_is_err_and}
use Rattle.muen_top.proofs.Booting.{read_so, unread_so}
use Rattle.muen_top.proofs.boot.read_back.Goals as goal

pub returns-in_err-parts : goal.returns-in_err-parts
returns-in_err-parts c i is =
    let left = err_from_is_err_and c.from_residual.result c.from_residual.ensures.1 in
    rw (left.1) (unread_so i c.in_err-parts.field-0.0 left.0 (c.in_err-parts.ensures.only i is) left.2)

pub returns : goal.returns
returns c i is = read_so i c.in_ok-parts.parts (c.in_ok-parts.ensures.only i is)
