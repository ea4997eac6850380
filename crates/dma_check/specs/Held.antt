-- Windows at the addresses of an image, and tables that are held against them.
use Rattle.std.specs.Prelude.{◌≡◌, ℕ, ◌+◌, ◌-◌, ◌*◌, ◌^◌, ◌<◌, ◌&&◌, Bool, nat_le, nat_lt, if◌then◌else◌, List, Option, Some, None}
use Rattle.std.specs.List.{find}
use Rattle.dma_check.specs.Faults.{contents, expected, walk}
use Rattle.dma_check.specs.Marked.{Marked, seen_in}
use Rattle.dma_check.specs.Views.{View, has_page}
use Rattle.dma_check.specs.declared.fault.TableFault.{TableFault}
use Rattle.dma_check.specs.declared.held.DmaWindow.{DmaWindow}
use Rattle.dma_check.specs.declared.path.Way.{Way}
use Rattle.dma_tables.specs.DmaWalk.{root_page, word_of}
use Rattle.dma_tables.specs.Lowered.{is_in_spans}
use Rattle.dma_tables.specs.declared.file.DmaFile.{DmaFile}
use Rattle.image_pack.specs.declared.parts.SpanPart.{SpanPart}
use Rattle.muen_num.specs.declared.access.AccessKind.TheVariants.{Read, Write}
use Rattle.policy_lawful.specs.Rights.{allows}

-- the window has the address
abbrev pub has_address : ℕ → DmaWindow → Bool
has_address addr w = nat_le w.guest addr && nat_lt addr (w.guest + w.size)

-- where the window leads a read, or a write
abbrev pub told_by : Option DmaWindow → ℕ → Bool → Option ℕ
told_by None addr write = None
told_by (Some w) addr write = if allows w.rights (if write then Write else Read) then Some (w.address + (addr - w.guest)) else None

-- where windows do: the first that has the address
abbrev pub told : List DmaWindow → ℕ → Bool → Option ℕ
told ws addr write = told_by (find (has_address addr) ws) addr write

-- a file's tables, where memory has these spans, and this is declared
abbrev pub view_by : DmaFile → List SpanPart → (ℕ → ℕ → Bool → Option ℕ) → View
view_by t spans declared = record { word = word_of t; root = root_page t; is_table = has_page t; is_memory = is_in_spans spans; declared = declared }

-- these are the windows of a source
abbrev pub AreFor : (ℕ → ℕ → Bool → Option ℕ) → ℕ → List DmaWindow → Type 0
AreFor declared source ws = (addr : ℕ) (write : Bool) → declared source addr write ≡ told ws addr write

-- no address in it is too large for 64 bits
abbrev pub IsLow : DmaWindow → Type 0
IsLow w = w.address < 2 ^ 63

-- over whatever is declared for which these are the windows of a source
abbrev pub OverDeclared : DmaFile → List SpanPart → List DmaWindow → ℕ → (View → Type 0) → Type 0
OverDeclared t spans ws source Holds = (declared : ℕ → ℕ → Bool → Option ℕ) → AreFor declared source ws → Holds (view_by t spans declared)

-- of the steps before a position each table of a file has its one path
abbrev pub MarkedTo : DmaFile → List (Option Way) → ℕ → View → Type 0
MarkedTo t ways q v = Marked v (seen_in (root_page t) ways) (6 * q)

-- where there is no fault at a position, each table has its one path behind it too
abbrev pub KeepsMarks : DmaFile → List (Option Way) → List (Option Way) → Option TableFault → ℕ → View → Type 0
KeepsMarks t old new found q v = MarkedTo t old q v → found ≡ None → Marked v (seen_in (root_page t) new) (6 * q + 6)

-- .. of all positions of a source
abbrev pub KeepsMarksOf : DmaFile → List (Option Way) → List (Option Way) → Option TableFault → ℕ → View → Type 0
KeepsMarksOf t old new found source v = MarkedTo t old (2 ^ 48 * source) v → found ≡ None → MarkedTo t new (2 ^ 48 * (source + 1)) v

-- the fault of where accesses are led at a position
abbrev pub contents_at : View → ℕ → Option TableFault
contents_at v q = contents v.is_memory (walk v) (expected v) q
