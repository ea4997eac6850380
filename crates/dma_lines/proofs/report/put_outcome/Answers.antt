use Rattle.std.proofs.Common.{◌-◌, ◌++◌, ◌%◌, arith, length, option_map, rules, sym}
use Rattle.muen_num.specs.declared.limits.TheConstants.{PAGE}
use Rattle.muen_outside.specs.Buffered.{OutState}
use Rattle.muen_outside.specs.Prints.{out_state}
use Rattle.muen_outside.proofs.Buffered.{gives_exit, gives_then, lost_first}
use Rattle.dma_lines.specs.LinesText.{bytes_text}
use Rattle.dma_lines.proofs.Outcomes.{comes_low, first_is_lost, in_one, in_two, not_line, second_is_lost}
use Rattle.dma_lines.proofs.report.put_outcome.Goals as goal

pub returns-then-not-is_line : goal.returns-then-not-is_line
returns-then-not-is_line g c =
    let tables = option_map (λ t. t.now) c.args.tables in
    rw (not_line tables c.args.image.now c.args.device c.args.addr c.args.bytes.now (sym c.if-not-is_line.ensures)) c.put_lost.ensures

pub returns-in-Err : goal.returns-in-Err
returns-in-Err g c =
    let tables = option_map (λ t. t.now) c.args.tables in
    rw (first_is_lost tables c.args.image.now c.args.device c.args.addr c.args.bytes.now c.in-Err.why (sym c.if-not-is_line.ensures) (sym c.in-Err.ensures)) c.put_lost-in-Err.ensures

pub returns-then-bytes-left : goal.returns-then-bytes-left
returns-then-bytes-left g c =
    let tables = option_map (λ t. t.now) c.args.tables in
    rw (in_one tables c.args.image.now c.args.device c.args.addr c.args.bytes.now c.requires (sym c.if-not-is_line.ensures) c.in-Ok.at (sym c.in-Ok.ensures) (omega (arith, c.if-bytes-left.true))) c.put_bytes.ensures

pub overflow_add-next : goal.overflow_add-next
overflow_add-next g c =
    let tables = option_map (λ t. t.now) c.args.tables in
    let low = comes_low tables c.args.image.now c.args.device c.args.addr c.args.bytes.now c.args.addr c.in-Ok.at (sym c.in-Ok.ensures) in
    omega (arith, low)

pub returns-in-Err-comes : goal.returns-in-Err-comes
returns-in-Err-comes g c =
    let tables = option_map (λ t. t.now) c.args.tables in
    rw (second_is_lost tables c.args.image.now c.args.device c.args.addr c.args.bytes.now c.requires (sym c.if-not-is_line.ensures) c.in-Ok.at (sym c.in-Ok.ensures) (omega (arith, c.if-bytes-left.false)) c.in-Err-comes.why (sym c.in-Err-comes.ensures)) c.put_lost-in-Err-comes.ensures

pub returns-in_err-put_bytes : goal.returns-in_err-put_bytes
returns-in_err-put_bytes g c =
    let tables = option_map (λ t. t.now) c.args.tables in
    let n = PAGE - c.args.addr % PAGE in
    let front = bytes_text c.args.image.now.spans c.in-Ok.at n in
    let back = bytes_text c.args.image.now.spans c.in-Ok-comes.to (length c.args.bytes.now - n) in
    let s : OutState = out_state g.S.Sink.state c.args.out.now in
    let t : OutState = out_state g.S.Sink.state c.put_bytes-2.new.out in
    rw (in_two tables c.args.image.now c.args.device c.args.addr c.args.bytes.now c.requires (sym c.if-not-is_line.ensures) c.in-Ok.at (sym c.in-Ok.ensures) (omega (arith, c.if-bytes-left.false)) c.in-Ok-comes.to (sym c.in-Ok-comes.ensures))
    (search rules, gives_exit (front ++ back) s t _ c.from_residual.ensures.0 (lost_first front back s t c.in_err-put_bytes.ensures.1))

pub returns : goal.returns
returns g c =
    let tables = option_map (λ t. t.now) c.args.tables in
    let n = PAGE - c.args.addr % PAGE in
    let front = bytes_text c.args.image.now.spans c.in-Ok.at n in
    let back = bytes_text c.args.image.now.spans c.in-Ok-comes.to (length c.args.bytes.now - n) in
    let s : OutState = out_state g.S.Sink.state c.args.out.now in
    let t : OutState = out_state g.S.Sink.state c.put_bytes-2.new.out in
    let u : OutState = out_state g.S.Sink.state c.put_bytes-3.new.out in
    rw (in_two tables c.args.image.now c.args.device c.args.addr c.args.bytes.now c.requires (sym c.if-not-is_line.ensures) c.in-Ok.at (sym c.in-Ok.ensures) (omega (arith, c.if-bytes-left.false)) c.in-Ok-comes.to (sym c.in-Ok-comes.ensures))
    (search rules, gives_then front back s t u c.put_bytes-3.result c.in_ok-put_bytes.ensures.1 c.put_bytes-3.ensures.1)
