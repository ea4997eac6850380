-- The same windows by the numbers of what they show.
use Rattle.std.specs.Prelude.{List, map}
use Rattle.std.specs.List.{zip}
use Rattle.ept_check.specs.declared.types.SubjectTables.{SubjectTables}
use Rattle.ept_check.specs.window.Leaf.TheVariants.{Small}
use Rattle.ept_check.specs.window.Window.{Window}
use Rattle.expand_kernel.specs.granted.GrantedWindow.{GrantedWindow}
use Rattle.expand_kernel.specs.granted.Grants.{Grants}
use Rattle.image_pack.specs.declared.parts.Image.{Image}
use Rattle.image_pack.specs.declared.parts.SubjectPart.{SubjectPart}
use Rattle.image_soundness.specs.Numbered.{address_at_number}
use Rattle.policy_lawful.specs.rights.Caching.TheVariants.{Wb}

abbrev pub numbered_on : Image → GrantedWindow → Window
numbered_on i w = record {
  guest = w.guest;
  size = w.size;
  address = address_at_number i w.thing;
  rights = w.rights;
  caching = Wb;
  leaf = Small;
}

abbrev pub all_numbered_on : Image → List GrantedWindow → List Window
all_numbered_on i windows = map (numbered_on i) windows

-- of a subject, by what it is granted and its part of the image
abbrev pub tables_granted : Image → Grants × SubjectPart → SubjectTables
tables_granted i (g, q) = record { eptp = q.eptp; windows = all_numbered_on i g.windows }

-- of each that both have
unfoldable pub tables_by_number : List Grants → Image → List SubjectTables
tables_by_number grants i = map (tables_granted i) (zip grants i.subjects)
