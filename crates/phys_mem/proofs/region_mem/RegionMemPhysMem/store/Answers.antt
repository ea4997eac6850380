use Rattle.std.proofs.Common.{◌%◌}
use Rattle.muen_num.specs.AccessSize.{bytes_of}
use Rattle.machine_layout.specs.Memory.{le_bytes, over}
use Rattle.phys_mem.proofs.FrameLaws.{changed_at}
use Rattle.phys_mem.proofs.region_mem.RegionMemPhysMem.store.Goals as goal

pub returns-in-Some-clause-after : goal.returns-in-Some-clause-after
returns-in-Some-clause-after c =
    let t = c.args.self.now in
    changed_at t.numbers.items t.frames.items _ c.in-Some.i _ _ (λ old. over old (c.args.at % 4096) (le_bytes (bytes_of c.args.size) c.args.value)) c.in-Some.ensures c.index_mut.ensures.value c.put_number.ensures
