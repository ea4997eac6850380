use Rattle.std.proofs.Common.{◌∙◌, Some, ap, refl, subst}
use Rattle.muen_top.specs.Verifying.{IsFound}
use Rattle.muen_top.proofs.verify.judge.Goals as goal

pub returns-in-Ok : goal.returns-in-Ok
returns-in-Ok g c =
    (subst (IsFound c.args.read.parts c.args.read.policy c.args.read.things) c.in-Ok-None.field-0-is c.in-Ok-None.ensures, c.in-Ok.ensures)

pub returns-in-Err-put_sound : goal.returns-in-Err-put_sound
returns-in-Err-put_sound g c =
    (subst (IsFound c.args.read.parts c.args.read.policy c.args.read.things) c.in-Ok-None.field-0-is c.in-Ok-None.ensures, c.in-Err-put_sound.ensures)

pub returns-in-Ok-Some : goal.returns-in-Ok-Some
returns-in-Ok-Some g c =
    (subst (IsFound c.args.read.parts c.args.read.policy c.args.read.things) (c.in-Ok-Some.field-0-is ∙ ap Some c.in-Ok-Some.fault-is) c.in-Ok-Some.ensures, refl)
