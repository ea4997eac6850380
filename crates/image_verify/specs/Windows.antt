-- The windows of a policy's subjects, where an image has what they show.
use Rattle.std.specs.Prelude.{◌≡◌, List, length, map}
use Rattle.std.specs.List.{zip}
use Rattle.ept_check.specs.declared.types.SubjectTables.{SubjectTables}
use Rattle.ept_check.specs.window.Leaf.TheVariants.{Small}
use Rattle.ept_check.specs.window.Window.{Window as EptWindow}
use Rattle.expand_kernel.specs.Grants.{is_lower}
use Rattle.expand_kernel.specs.Ordered.{in_order}
use Rattle.image_pack.specs.declared.parts.Image.{Image}
use Rattle.image_pack.specs.declared.parts.SubjectPart.{SubjectPart}
use Rattle.image_soundness.specs.Sound.{AreContents, address_of}
use Rattle.policy_lawful.specs.Contents.{Held}
use Rattle.policy_lawful.specs.Thing.{Thing}
use Rattle.policy_lawful.specs.Windows.{Window, windows_of}
use Rattle.policy_lawful.specs.rights.Caching.TheVariants.{Wb}
use Rattle.policy_lawful.specs.source.Source.{Source}
use Rattle.policy_lawful.specs.source.Subject.{Subject}

-- a window where the image has the thing that it shows, write-back and mapped by pages of 4 KiB: where walks lead doesn't
-- depend on it
abbrev pub window_on : Source → Image → Window Thing → EptWindow
window_on p i w = record {
  guest = w.guest;
  size = w.size;
  address = address_of p i w.thing;
  rights = w.rights;
  caching = Wb;
  leaf = Small;
}

-- those of a subject, by guest address
abbrev pub windows_on : Source → Image → Subject → List EptWindow
windows_on p i s = map (window_on p i) (in_order is_lower (windows_of p s))

-- of a subject and its part of the image
abbrev pub tables_of_subject : Source → Image → Subject × SubjectPart → SubjectTables
tables_of_subject p i (s, q) = record { eptp = q.eptp; windows = windows_on p i s }

-- of each subject that the policy and the image both have
unfoldable pub tables_of_subjects : Source → Image → List SubjectTables
tables_of_subjects p i = map (tables_of_subject p i) (zip p.subjects i.subjects)

-- they are these, over an image that has the contents of the policy over some files, and as many subjects
abbrev pub AreTablesOverContents : Source → Image → List SubjectTables → Type 0
AreTablesOverContents p i tables = (files : Held) → AreContents p files i → length i.subjects ≡ length p.subjects → tables ≡ tables_of_subjects p i
