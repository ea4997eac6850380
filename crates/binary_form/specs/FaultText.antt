-- The texts of an image's faults, as they are printed.
use Rattle.std.specs.Prelude.{ℕ, List, ◌++◌, codes, decimal, Option, Some, None}
use Rattle.binary_form.specs.declared.fault.Field.{Field}
use Rattle.binary_form.specs.declared.fault.Field.TheVariants.{Magic, Count, Zero, Place, Pages, Number, Kind, Part, Name, Cpu, First, Group, Msrs, Span, Eptp, Event, Ticks, Port, Irq}
use Rattle.binary_form.specs.declared.fault.ImageFault.{ImageFault}
use Rattle.binary_form.specs.declared.fault.ImageFault.TheVariants.{Short, Bad, Trailing, NoMemory}

-- a field of an image, in a word
abbrev pub field_text : Field → List ℕ
field_text Magic = codes "magic"
field_text Count = codes "count"
field_text Zero = codes "zero"
field_text Place = codes "place"
field_text Pages = codes "pages"
field_text Number = codes "number"
field_text Kind = codes "kind"
field_text Part = codes "part"
field_text Name = codes "name"
field_text Cpu = codes "cpu"
field_text First = codes "first"
field_text Group = codes "group"
field_text Msrs = codes "msrs"
field_text Span = codes "span"
field_text Eptp = codes "eptp"
field_text Event = codes "event"
field_text Ticks = codes "ticks"
field_text Port = codes "port"
field_text Irq = codes "irq"

unfoldable pub image_refused_at : List ℕ
image_refused_at = codes "image refused at "

abbrev pub at_offset : ℕ → List ℕ → List ℕ
at_offset at why = image_refused_at ++ (decimal at ++ (codes ": " ++ why))

-- what is wrong at an offset, or at none
abbrev pub fault_offset_text : Option ℕ → List ℕ → List ℕ
fault_offset_text (Some at) why = at_offset at why
fault_offset_text None why = why

abbrev pub image_fault_text : ImageFault → List ℕ
image_fault_text (Short at) = at_offset at (codes "short")
image_fault_text (Bad at field) = at_offset at (field_text field)
image_fault_text (Trailing at) = at_offset at (codes "trailing")
image_fault_text NoMemory = codes "out of memory"
