use Rattle.std.proofs.Common.{◌≤◌, length, take}
use Rattle.std.specs.Io.KnownBytes.{Appends}
use Rattle.muen_outside.specs.Devices.{NoneFailed}
use Rattle.muen_outside.proofs.writer_sink.write_out.Given as goal

abbrev pub invariant-loop : goal.invariant-loop
invariant-loop g l = record {
  within : l.at ≤ length l.bytes;
  text : Appends (g.D.Device.contents l.initial.device) (g.D.Device.contents l.device) (take l.at l.bytes);
  calm : NoneFailed (g.D.Device.failed l.initial.device) (g.D.Device.failed l.device);
}
