use Rattle.std.proofs.Common.{subst}
use Rattle.muen_outside.specs.Prints.{Prints}
use Rattle.flow_report.proofs.TextOfFlows.{members_same}
use Rattle.flow_report.proofs.text.put_members.Goals as goal

pub returns : goal.returns
returns g c =
    subst (λ text. Prints g.S.Sink.state text c.args.out.now c.put_numbered.new.out c.put_numbered.result)
    (members_same c.args.set.now c.args.subjects.now) c.put_numbered.ensures
