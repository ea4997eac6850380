use Rattle.image_pack.proofs.ImageLaws.{few_subjects, few_groups, few_majors, few_devices, few_spans}
use Rattle.image_pack.proofs.image.Parts.make.Goals as goal

pub as_u8-requires : goal.as_u8-requires
as_u8-requires c = rw c.len.ensures (few_subjects _ c.requires)

pub as_u8-requires-2 : goal.as_u8-requires-2
as_u8-requires-2 c = rw c.len-2.ensures (few_groups _ c.requires)

pub as_u8-requires-3 : goal.as_u8-requires-3
as_u8-requires-3 c = rw c.len-3.ensures (few_majors _ c.requires)

pub as_u8-requires-4 : goal.as_u8-requires-4
as_u8-requires-4 c = rw c.len-4.ensures (few_devices _ c.requires)

pub as_u16-requires : goal.as_u16-requires
as_u16-requires c = rw c.len-5.ensures (few_spans _ c.requires)
