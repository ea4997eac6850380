use Rattle.std.proofs.Common.{◌≡◌, ◌<◌, ◌≤◌, ◌∙◌, length, get_or, sym, rules}
use Rattle.asm_text.proofs.Seats.{all_put, is_fit, is_here, line_put, line_refused, next_follows}
use Rattle.asm_text.proofs.assembling.bytes_of.Goals as goal

pub put_line-requires-clause-here : goal.put_line-requires-clause-here
put_line-requires-clause-here c =
    let there : c.loop-line.line-index < length c.args.layout.now.lines = search rules in
    let is : c.line-item.result ≡ get_or c.args.layout.now.lines c.loop-line.line-index c.line-item.result = search rules in
    is_here (length c.loop-line.out.items) c.args.layout.now.lines c.line-item.result c.loop-line.line-index there is c.loop-line.invariant.follow

pub put_line-requires-clause-fit : goal.put_line-requires-clause-fit
put_line-requires-clause-fit c =
    let there : c.loop-line.line-index < length c.args.layout.now.lines = search rules in
    let is : c.line-item.result ≡ get_or c.args.layout.now.lines c.loop-line.line-index c.line-item.result = search rules in
    is_fit (length c.loop-line.out.items) c.args.layout.now.lines c.line-item.result c.loop-line.line-index there is c.loop-line.invariant.follow

pub returns-in-Err : goal.returns-in-Err
returns-in-Err c =
    let there : c.loop-line.line-index < length c.args.layout.now.lines = search rules in
    let is : c.line-item.result ≡ get_or c.args.layout.now.lines c.loop-line.line-index c.line-item.result = search rules in
    rw c.fault_in.ensures (
    line_refused c.args.layout.now.names.entries c.args.layout.now.lines c.line-item.result c.loop-line.line-index c.loop-line.out.items c.in-Err.error _ there is c.in-Err.ensures c.loop-line.invariant.same
    )

pub loop-line-preserved : goal.loop-line-preserved
loop-line-preserved c =
    let there : c.loop-line.line-index < length c.args.layout.now.lines = search rules in
    let is : c.line-item.result ≡ get_or c.args.layout.now.lines c.loop-line.line-index c.line-item.result = search rules in
    record {
      same =
          sym (line_put c.args.layout.now.names.entries c.args.layout.now.lines c.line-item.result c.loop-line.line-index c.loop-line.out.items c.put_line.new.out.items there is c.in-Ok.ensures)
          ∙ c.loop-line.invariant.same;
      follow = next_follows c.args.layout.now.names.entries c.args.layout.now.lines c.line-item.result c.loop-line.line-index c.loop-line.out.items c.put_line.new.out.items there is c.loop-line.invariant.follow c.in-Ok.ensures;
    }

pub returns : goal.returns
returns c =
    let past : length c.args.layout.now.lines ≤ c.loop-line.line-index = search rules in
    sym c.loop-line.invariant.same
    ∙ all_put c.args.layout.now.names.entries c.args.layout.now.lines c.loop-line.line-index c.loop-line.out.items past
