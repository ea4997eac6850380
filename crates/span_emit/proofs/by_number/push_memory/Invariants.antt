-- What is known while a device's memory is gone through.
use Rattle.std.proofs.Common.{◌++◌, drop, length, map}
use Rattle.std.specs.List.{enumerate_from}
use Rattle.span_emit.specs.Spans.{device_span}
use Rattle.span_emit.proofs.InTurn.{Memories}
use Rattle.span_emit.proofs.by_number.push_memory.Given as goal

abbrev pub invariant-loop-memory : goal.invariant-loop-memory
invariant-loop-memory l =
    Memories (l.fn.spans.items ++ map device_span (enumerate_from (length l.fn.spans.items) (map (λ m. (l.device.name, m)) l.device.memory)))
    (map (λ m. (l.device.name, m)) (drop l.memory-index l.device.memory)) l.spans.items
