-- When a system is ready to run.
use Rattle.std.specs.Prelude.{◌≡◌}
use Rattle.device_bench.specs.record.Record.{Record}
use Rattle.device_bench.specs.declared.effect.Effect.{Effect}
use Rattle.image_pack.specs.declared.parts.Image.{Image}
use Rattle.image_load.specs.Loaded.{setup_of}
use Rattle.image_load.specs.Memory.{memory_of}
use Rattle.kernel_core.specs.Ticks.{kernel_started}
use Rattle.muen_run.specs.declared.system.Ready.{Ready}

-- **the start** of an image's system, on what reaches its machine
pub record IsReady (i : Image) (run : Record Effect) (r : Ready) : Type 0 where
  pub kernel : r.kernel ≡ kernel_started (setup_of i) run i.header.cpus (memory_of i)
  pub spans : r.spans ≡ i.spans
