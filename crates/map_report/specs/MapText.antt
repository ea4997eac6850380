-- What `map` prints (this project's own).
use Rattle.std.specs.Prelude.{ℕ, List, [], ◌++◌, codes, nat_le, slice_index}
use Rattle.std.specs.List.{enumerate_from, flat_map}
use Rattle.std.specs.Option.{option_map_or}
use Rattle.expand_kernel.specs.Ordered.{in_order}
use Rattle.expand_kernel.specs.Regions.{regions_of}
use Rattle.expand_kernel.specs.thing.Region.{Region}
use Rattle.muen_num.specs.Fixed.{hex16}
use Rattle.muen_num.specs.Tag.{tag_text}
use Rattle.muen_num.specs.declared.tag.Tag.{Tag}
use Rattle.policy_lawful.specs.Thing.{Item, device_items, thing_tag}
use Rattle.policy_lawful.specs.Windows.{windows_of}
use Rattle.policy_lawful.specs.rights.Rights.{Rights}
use Rattle.policy_lawful.specs.rights.Rights.TheVariants.{R, Rw, Rx, Rwx}
use Rattle.policy_lawful.specs.source.Source.{Source}
use Rattle.policy_lawful.specs.source.Subject.{Subject}

-- ---- rights

abbrev pub rights_text : Rights → List ℕ
rights_text R = codes "r"
rights_text Rw = codes "rw"
rights_text Rx = codes "rx"
rights_text Rwx = codes "rwx"

-- ---- lines

-- an address in physical memory, a size in bytes, a name
unfoldable pub region_line : List ℕ → ℕ → ℕ → Tag → List ℕ
region_line word address size name =
    word ++ codes " " ++ hex16 address ++ codes " " ++ hex16 size ++ codes " " ++ tag_text name ++ codes "\n"

-- a subject, a guest address, a size in bytes, rights, the name of what is shown
unfoldable pub window_line : List ℕ → ℕ → ℕ → Rights → Tag → List ℕ
window_line subject guest size rights name =
    codes "window " ++ subject ++ codes " " ++ hex16 guest ++ codes " " ++ hex16 size ++ codes " " ++ rights_text rights ++ codes " " ++ tag_text name ++ codes "\n"

-- ---- the text

-- the regions, by number, at these addresses
abbrev pub region_lines : List ℕ → List Region → List ℕ
region_lines addresses regions =
    flat_map (λ x. region_line (codes "region") (slice_index addresses x.0) x.1.size x.1.tag) (enumerate_from 0 regions)

-- memory of a device, where it has to be
abbrev pub device_line : Item → List ℕ
device_line i = option_map_or (λ address. region_line (codes "device") address i.size (thing_tag i.thing)) i.address []

-- the windows of a subject, by guest address
abbrev pub window_lines : Source → Subject → List ℕ
window_lines p s =
    flat_map (λ w. window_line s.name w.guest w.size w.rights (thing_tag w.thing))
    (in_order (λ v w. nat_le v.guest w.guest) (windows_of p s))

-- the text of a policy whose regions lie at these addresses, by number
unfoldable pub map_text_of : Source → List ℕ → List ℕ
map_text_of p addresses =
    region_lines addresses (regions_of p) ++ flat_map device_line (device_items p) ++ flat_map (window_lines p) p.subjects
