use Rattle.std.proofs.Common.{Some, ap, ◌∙◌}
use Rattle.muen_build.proofs.accepted.ComponentFiles.bytes.Goals as goal

pub returns-in-None : goal.returns-in-None
returns-in-None c = rw (← c.self.view_is) c.in-None.ensures.value

pub returns-in-Some : goal.returns-in-Some
returns-in-Some c = rw (← c.self.view_is) (ap Some c.items.ensures ∙ c.in-Some.ensures.value)
