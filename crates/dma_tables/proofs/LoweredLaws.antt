-- Lowered records: a record of the devices of an image is one of its spans, and a machine can run it.
use Rattle.std.proofs.Common.{◌≤◌, Option}
use Rattle.image_pack.specs.Parts.{IsParts}
use Rattle.image_pack.specs.declared.parts.Image.{Image}
use Rattle.device_bench.specs.Devices.{CanRun, IsLowEffect}
use Rattle.record_text.specs.Law.{IsInputOf, IsLowWrite, IsOrderly, IsRecordOf}
use Rattle.record_text.specs.declared.devices.Devices.{Devices}
use Rattle.record_text.specs.declared.record.Input.{Input}
use Rattle.record_text.specs.declared.record.Record.{Record}
use Rattle.dma_tables.specs.Lowered.{lowered}
use Rattle.dma_tables.specs.LoweredRecord.{HaveMemoriesIn, IsEffectIn, IsRecordIn}
use Rattle.dma_tables.specs.declared.file.DmaFile.{DmaFile}
use Rattle.dma_tables.proofs.ByPages.{parts_aligned}
use Rattle.dma_tables.proofs.LoweredOrder.{each_lowered, rises_lowered, ticks_lowered}
use Rattle.dma_tables.proofs.LoweredSpans.{input_in, lowered_low}

-- a record of the devices is one of the devices and of the spans
pub still_record : (t : Option DmaFile) (i : Image) (devices : Devices) (r : Record Input) → IsParts i → HaveMemoriesIn i.spans devices → IsRecordOf devices r
    → IsRecordIn devices i.spans (lowered t i r)
unfolding lowered
still_record t i devices r parts lie is = record {
  ticks = is.ticks;
  inputs_in_order = rises_lowered t i r.inputs is.inputs_in_order;
  inputs_by_end = ticks_lowered t i (λ u. u ≤ r.end) r.inputs is.inputs_by_end;
  inputs_fit = each_lowered t i (λ e. IsInputOf devices e.input) (λ e. IsEffectIn devices i.spans e.input)
      (λ e h. input_in t i devices (parts_aligned i parts) e.input lie h) r.inputs is.inputs_fit;
  orders_rise = is.orders_rise;
  orders_by_end = is.orders_by_end;
  orders_name_each = is.orders_name_each;
}

-- a record that is in order, with low writes, can be run
pub can_run : (t : Option DmaFile) (i : Image) (r : Record Input) → IsParts i → IsOrderly r → CanRun (lowered t i r)
unfolding lowered
can_run t i r parts is = record {
  in_order = record { inputs = rises_lowered t i r.inputs is.inputs; orders = is.orders };
  low = each_lowered t i (λ e. IsLowWrite e.input) (λ e. IsLowEffect e.input) (λ e h. lowered_low t i e.input parts h) r.inputs is.low;
}
