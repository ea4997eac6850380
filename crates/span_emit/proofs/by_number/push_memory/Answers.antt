use Rattle.std.proofs.Common.{◌≡◌, ◌<◌, length, get_or, rules}
use Rattle.span_emit.proofs.InTurn.{memory_first, memory_made}
use Rattle.span_emit.proofs.by_number.push_memory.Goals as goal

pub loop-memory-init : goal.loop-memory-init
loop-memory-init c = memory_first c.args.spans.now.items c.args.device.now.name c.args.device.now.memory c.requires.few c.requires.small c.requires.named

pub loop-memory-preserved : goal.loop-memory-preserved
loop-memory-preserved c =
    let there : c.loop-memory.memory-index < length c.args.device.now.memory = search rules in
    let is : c.memory-item.result ≡ get_or c.args.device.now.memory c.loop-memory.memory-index c.memory-item.result = search rules in
    memory_made _ c.args.device.now.name c.args.device.now.memory c.loop-memory.memory-index c.memory-item.result c.loop-memory.spans.items c.push_span.new.spans.items there is c.loop-memory.invariant
    c.in_ok-push_span.ensures.spans c.in_ok-push_span.ensures.named
