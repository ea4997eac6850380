-- What the kernel is told of an image's system (this project's own).
use Rattle.std.specs.Prelude.{List, map, option_map}
use Rattle.image_memory.specs.Memory.{page_of_span}
use Rattle.image_pack.specs.declared.parts.Image.{Image}
use Rattle.image_pack.specs.declared.parts.SpanPart.{SpanPart}
use Rattle.image_pack.specs.declared.parts.SubjectPart.{SubjectPart}
use Rattle.vmx_machine.specs.declared.control.Control.{Control}
use Rattle.kernel_core.specs.declared.setup.Setup.{Setup}

abbrev pub control_of : List SpanPart → SubjectPart → Control
control_of spans s = record {
  state = page_of_span spans s.state;
  eptp = s.eptp;
  io_bitmaps = page_of_span spans s.iobm;
  msr_bitmap = page_of_span spans s.msrbm;
  msr_area = page_of_span spans s.area;
  msrs = s.msrs;
}

abbrev pub setup_of : Image → Setup
setup_of i = record {
  tau0 = option_map (page_of_span i.spans) i.header.tau0;
  subjects = i.subjects;
  controls = map (control_of i.spans) i.subjects;
  plan = i.plan;
}
