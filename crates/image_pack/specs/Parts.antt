-- What an image is, and what its parts are made of.
use Rattle.std.specs.Prelude.{◌≡◌, ℕ, List, length, Option}
use Rattle.frame_clock.specs.declared.plan.Plan.{Plan}
use Rattle.image_pack.specs.Image.{image}
use Rattle.image_pack.specs.declared.parts.SpanPart.{SpanPart}
use Rattle.image_pack.specs.declared.parts.SubjectPart.{SubjectPart}
use Rattle.image_pack.specs.declared.parts.DevicePart.{DevicePart}
use Rattle.image_pack.specs.declared.parts.Image.{Image}

-- the parts keep the conditions of an image
abbrev pub IsParts : Image → Type 0
IsParts i = image.fits i

-- these bytes are the image of these parts
pub record IsImage (bytes : List ℕ) (i : Image) : Type 0 where
  pub parts : IsParts i
  pub bytes_are : bytes ≡ image.spell i

-- the parts, with their counts at the front
abbrev pub counted_image : ℕ → Option ℕ → List SpanPart → List SubjectPart → Plan → List DevicePart → List (List ℕ) → Image
counted_image cpus tau0 spans subjects plan devices contents = record {
  header = record { cpus = cpus; subjects = length subjects; groups = length plan.groups; majors = length plan.majors; devices = length devices; spans = length spans; tau0 = tau0 };
  spans = spans;
  subjects = subjects;
  plan = plan;
  devices = devices;
  contents = contents;
}
