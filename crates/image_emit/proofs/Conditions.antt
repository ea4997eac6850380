-- The image that is made keeps the conditions of an image.
use Rattle.std.proofs.Common.{map}
use Rattle.std.specs.List.{AllZip}
use Rattle.image_emit.proofs.ConditionsOfDevices.{devices_kept, names_kept}
use Rattle.image_emit.proofs.ConditionsOfPlan.{choice_kept, counts_kept, groups_kept, majors_kept}
use Rattle.image_emit.proofs.ConditionsOfSubjects.{subjects_kept}
use Rattle.image_emit.specs.Made.{IsMade, Made, content_at, image_of}
use Rattle.image_pack.specs.ImageConditions.{IsContent, KeepsConditions}

-- **the conditions** hold, where spans have as many bytes as pages
pub keeps : (m : Made) → IsMade m → AllZip IsContent m.spans (map (content_at m) m.spans) → KeepsConditions (image_of m)
unfolding image_of
keeps m h contents = record {
  counts = counts_kept m h;
  spans = h.spans;
  choice = choice_kept m h;
  groups = groups_kept m h;
  subjects = subjects_kept m h;
  majors = majors_kept m h;
  devices = devices_kept m h;
  devices_differ = names_kept m h;
  contents = contents;
}
