use Rattle.std.proofs.Common.{refl, subst, sym}
use Rattle.image_checks.proofs.Decided.{bytes_decided}
use Rattle.image_checks.proofs.Telling.{got}
use Rattle.image_checks.specs.Contents.{HasBytes}
use Rattle.image_checks.specs.Firsts.{Decides}
use Rattle.image_checks.proofs.contents.has_bytes.Goals as goal

pub returns-in-Some : goal.returns-in-Some
returns-in-Some c =
    let read = rw c.in-Some.is at c.get.ensures.lookup in
    subst (λ o. Decides (HasBytes o c.args.held.now) c.eq.result) (sym (got c.args.things.now c.args.number c.in-Some.bytes.now read.3.0 read.1))
    (bytes_decided c.items.result.now c.args.held.now c.in-Some.bytes.now c.args.held.now c.eq.result c.items.ensures refl c.eq.ensures)
