-- The device record of a text, or its first fault.
use Rattle.std.specs.Prelude.{ℕ, ◌+◌, ◌==◌, ◌&&◌, Bool, true, false, not, nat_lt, List, [], ◌∷◌, ◌++◌, Result, Ok, Err, if◌then◌else◌}
use Rattle.std.specs.List.{list_any}
use Rattle.record_text.specs.Bench.{Bench, is_known}
use Rattle.record_text.specs.DeviceRecord.{DeviceRecord}
use Rattle.text_words.specs.Steps.{◌>>=◌, ◌>>◌}
use Rattle.record_text.specs.Table.{Entry, input_entry, order_entry, end_entry, entry_tick, read_words}
use Rattle.text_words.specs.Parts.{lines_of}
use Rattle.record_text.specs.Words.{words_of}
use Rattle.record_text.specs.declared.fault.LineWant.{LineWant}
use Rattle.record_text.specs.declared.fault.LineWant.TheVariants.{Order}
use Rattle.record_text.specs.declared.fault.RecordFault.{RecordFault}
use Rattle.record_text.specs.declared.fault.RecordFault.TheVariants.{NotAscii, TooMany, Line, Back, Unknown, NoEnd}
use Rattle.muen_num.specs.Numbers.{are_distinct}

-- ---- what the lines before one leave for it

pub record Standing : Type 0 where
  -- the tick of the line before; 0 before the first
  pub tick : ℕ
  -- a line has ended the record
  pub ended : Bool
  -- the ticks that have an order
  pub ordered : List ℕ

abbrev pub at_start : Standing
at_start = record { tick = 0; ended = false; ordered = [] }

abbrev pub standing_after : Standing → Entry → Standing
standing_after s (input_entry tick input) = record s { tick = tick }
standing_after s (order_entry tick cpus) = record { tick = tick; ended = s.ended; ordered = s.ordered ++ tick ∷ [] }
standing_after s (end_entry tick) = record s { tick = tick; ended = true }

-- ---- what must hold of line n

abbrev pub not_after_end : Standing → ℕ → Result (Unit {0}) RecordFault
not_after_end s n = if s.ended then Err (TooMany n) else Ok tt

abbrev pub in_line : {X : Type 0} → ℕ → Result X LineWant → Result X RecordFault
in_line n (Ok x) = Ok x
in_line n (Err want) = Err (Line n want)

abbrev pub not_back : Standing → ℕ → ℕ → Result (Unit {0}) RecordFault
not_back s n tick = if nat_lt tick s.tick then Err (Back n) else Ok tt

-- each CPU once, and one order for a tick
abbrev pub order_fits : Standing → ℕ → Entry → Result (Unit {0}) RecordFault
order_fits s n (input_entry tick input) = Ok tt
order_fits s n (order_entry tick cpus) =
    if are_distinct cpus && not (list_any (λ t. t == tick) s.ordered) then Ok tt else Err (Line n Order)
order_fits s n (end_entry tick) = Ok tt

abbrev pub names_known : Bench → ℕ → Entry → Result (Unit {0}) RecordFault
names_known bench n (input_entry tick input) = if is_known bench input then Ok tt else Err (Unknown n)
names_known bench n (order_entry tick cpus) = Ok tt
names_known bench n (end_entry tick) = Ok tt

-- what line n says, or its first fault
unfoldable pub entry_at : Bench → Standing → ℕ → List ℕ → Result Entry RecordFault
entry_at bench s n line = do
  not_after_end s n
  entry ← in_line n (read_words bench.cpus (words_of line))
  not_back s n (entry_tick entry)
  order_fits s n entry
  names_known bench n entry
  Ok entry

-- ---- whole records

abbrev pub nothing_until : ℕ → DeviceRecord
nothing_until tick = record { end = tick; inputs = []; orders = [] }

abbrev pub with_entry : Entry → DeviceRecord → DeviceRecord
with_entry (input_entry tick input) r = record r { inputs = (tick, input) ∷ r.inputs }
with_entry (order_entry tick cpus) r = record r { orders = (tick, cpus) ∷ r.orders }
with_entry (end_entry tick) r = r

-- what the lines from line n on say, or the first fault in them
unfoldable pub record_after : Bench → Standing → ℕ → List (List ℕ) → Result DeviceRecord RecordFault
record_after bench s n [] = if s.ended then Ok (nothing_until s.tick) else Err (NoEnd n)
record_after bench s n (line ∷ lines) = do
  entry ← entry_at bench s n line
  more ← record_after bench (standing_after s entry) (n + 1) lines
  Ok (with_entry entry more)

-- no line from line n on has a byte above 127
abbrev pub all_ascii : ℕ → List (List ℕ) → Result (Unit {0}) RecordFault
all_ascii n [] = Ok tt
all_ascii n (line ∷ lines) = if list_any (λ c. nat_lt 127 c) line then Err (NotAscii n) else all_ascii (n + 1) lines

-- the device record of a text, where these are the names; or its first fault
unfoldable pub record_of : List ℕ → Bench → Result DeviceRecord RecordFault
record_of text bench = do
  all_ascii 1 (lines_of text)
  record_after bench at_start 1 (lines_of text)
