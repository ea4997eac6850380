-- How many bytes a field of an image, or of a file of tables, has at most, by its name (this project's own formats).
use Rattle.std.specs.Prelude.{ℕ}
use Rattle.binary_form.specs.declared.fault.Field.{Field}
use Rattle.binary_form.specs.declared.fault.Field.TheVariants.{Magic, Count, Zero, Place, Pages, Number, Kind, Part, Name, Cpu, First, Group, Msrs, Span, Eptp, Event, Ticks, Port, Irq}

-- Each field of a name has so many bytes, but counts, of which some have one byte, and runs of zeros, of which the
-- longest, behind the names of a span, has 16.
abbrev pub room_of : Field → ℕ
room_of Magic = 8
room_of Count = 2
room_of Zero = 16
room_of Place = 8
room_of Pages = 4
room_of Number = 2
room_of Kind = 1
room_of Part = 1
room_of Name = 64
room_of Cpu = 1
room_of First = 1
room_of Group = 1
room_of Msrs = 1
room_of Span = 2
room_of Eptp = 8
room_of Event = 4
room_of Ticks = 4
room_of Port = 2
room_of Irq = 1
