use Rattle.std.proofs.Common.{◌++◌, rules}
use Rattle.muen_outside.specs.Buffered.{OutState}
use Rattle.muen_outside.specs.Prints.{out_state}
use Rattle.muen_outside.proofs.Buffered.{given_then, gives_exit, gives_then, lost_after, lost_first}
use Rattle.flow_report.specs.TextByIndex.{line_end, line_start, members_text}
use Rattle.flow_report.proofs.text.put_line.Goals as goal

pub returns-in_err-put_members : goal.returns-in_err-put_members
returns-in_err-put_members g c =
    let start = line_start c.args.name.now in
    let members = members_text c.args.set.now c.args.subjects.now in
    let s : OutState = out_state g.S.Sink.state c.args.out.now in
    let t : OutState = out_state g.S.Sink.state c.put_start.new.out in
    let u : OutState = out_state g.S.Sink.state c.put_members.new.out in
    (search rules, gives_exit (start ++ members ++ line_end) s u _ c.from_residual-in_err-put_members.ensures.0 (lost_first (start ++ members) line_end s u (lost_after start members s t u c.in_ok-put_start.ensures.1 c.in_err-put_members.ensures.1)))

pub returns : goal.returns
returns g c =
    let start = line_start c.args.name.now in
    let members = members_text c.args.set.now c.args.subjects.now in
    let s : OutState = out_state g.S.Sink.state c.args.out.now in
    let t : OutState = out_state g.S.Sink.state c.put_start.new.out in
    let u : OutState = out_state g.S.Sink.state c.put_members.new.out in
    let v : OutState = out_state g.S.Sink.state c.put_end.new.out in
    (search rules, gives_then (start ++ members) line_end s u v c.put_end.result (given_then start members s t u c.in_ok-put_start.ensures.1 c.in_ok-put_members.ensures.1) c.put_end.ensures.1)
