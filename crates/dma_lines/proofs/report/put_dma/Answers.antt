use Rattle.std.proofs.Common.{◌++◌, option_map, rules}
use Rattle.std.specs.Prelude.{codes, length}
use Rattle.std.specs.List.{slice_get}
use Rattle.muen_outside.specs.Buffered.{Given, OutState}
use Rattle.muen_outside.specs.Prints.{out_state}
use Rattle.muen_outside.proofs.Buffered.{given_then, gives_exit, gives_then, lost_after, lost_first}
use Rattle.dma_lines.specs.LinesText.{head_text, line_outcome}
use Rattle.dma_lines.proofs.report.put_dma.Goals as goal

pub returns-in_err-put_outcome : goal.returns-in_err-put_outcome
returns-in_err-put_outcome g c =
    let head = head_text c.args.tick (option_map (λ d. d.name) (slice_get c.args.image.now.devices c.args.device)) c.args.addr (length c.args.bytes.now) in
    let outcome = line_outcome (option_map (λ t. t.now) c.args.tables) c.args.image.now c.args.device c.args.addr c.args.bytes.now in
    let s : OutState = out_state g.S.Sink.state c.args.out.now in
    let t : OutState = out_state g.S.Sink.state c.put_line.new.self in
    let u : OutState = out_state g.S.Sink.state c.put_outcome.new.out in
    let first : Given head s t = rw c.device_name.ensures at c.in_ok-put_line.ensures.1 in
    (search rules, gives_exit (head ++ outcome ++ codes "\n") s u _ c.from_residual-in_err-put_outcome.ensures.0 (lost_first (head ++ outcome) (codes "\n") s u (lost_after head outcome s t u first c.in_err-put_outcome.ensures.1)))

pub returns : goal.returns
returns g c =
    let head = head_text c.args.tick (option_map (λ d. d.name) (slice_get c.args.image.now.devices c.args.device)) c.args.addr (length c.args.bytes.now) in
    let outcome = line_outcome (option_map (λ t. t.now) c.args.tables) c.args.image.now c.args.device c.args.addr c.args.bytes.now in
    let s : OutState = out_state g.S.Sink.state c.args.out.now in
    let t : OutState = out_state g.S.Sink.state c.put_line.new.self in
    let u : OutState = out_state g.S.Sink.state c.put_outcome.new.out in
    let v : OutState = out_state g.S.Sink.state c.put.new.self in
    let first : Given head s t = rw c.device_name.ensures at c.in_ok-put_line.ensures.1 in
    (search rules, gives_then (head ++ outcome) (codes "\n") s u v c.put.result (given_then head outcome s t u first c.in_ok-put_outcome.ensures.1) c.put.ensures.1)
