-- The printed names of regions.
use Rattle.std.specs.Prelude.{ℕ, List, [], ◌++◌, codes}
use Rattle.muen_num.specs.declared.tag.TagPart.{TagPart}
use Rattle.muen_num.specs.declared.tag.TagPart.TheVariants.{Whole, Named, State, Ept, Iobm, Msrbm, Msrs}
use Rattle.muen_num.specs.declared.tag.Tag.{Tag}

-- what follows the owner's name
abbrev pub part_text : TagPart → List ℕ
part_text Whole = []
part_text (Named name) = codes "|" ++ name
part_text State = codes ":state"
part_text Ept = codes ":ept"
part_text Iobm = codes ":iobm"
part_text Msrbm = codes ":msrbm"
part_text Msrs = codes ":msrs"

-- `NAME`, `OWNER|NAME`, or `SUBJECT:state` and the like
abbrev pub tag_text : Tag → List ℕ
tag_text tag = tag.owner ++ part_text tag.part
