use Rattle.std.proofs.Common.{◌∙◌, List, Some, length, map, sym, ap, arith}
use Rattle.std.specs.Prelude.{option_map, slice_get}
use Rattle.device_bench.specs.declared.effect.Effect.{Effect}
use Rattle.device_bench.specs.declared.effect.Effect.TheVariants.{Mem}
use Rattle.device_bench.specs.record.TickInput.{TickInput}
use Rattle.kernel_core.proofs.Orders.{low_input}
use Rattle.kernel_core.proofs.kernel.Kernel.take_input.Goals as goal

pub device_write-requires : goal.device_write-requires
device_write-requires g c =
    let bench = c.self.inside.bench in
    let found = c.in-Some-Mem in
    let is = ap Some (sym found.field-0-is) ∙ ap (option_map (λ i. i.now)) (sym found.is) ∙ c.input_at.ensures ∙ ap (λ (ts : List (TickInput Effect)). slice_get (map (λ (t : TickInput Effect). t.input) ts) c.args.index) c.inputs.ensures in
    let low = low_input bench.run c.self.inside.tick c.args.index (Mem found.at found.bytes) c.self.invariant.2.low is in
    let same = ap length c.items.ensures in
    omega (arith, low, same)
