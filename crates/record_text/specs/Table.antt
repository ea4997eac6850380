-- The lines of a record: one table for each kind, and in it what each word is, from left to right.
-- This project's own spelling of what devices do.
use Rattle.std.specs.Prelude.{ℕ, ◌+◌, ◌^◌, ◌==◌, List, [], ◌∷◌, length, codes, Option, Some, None, Result, Ok, Err, if◌then◌else◌}
use Rattle.std.specs.Str.{bytes_eq}
use Rattle.muen_num.specs.declared.limits.TheConstants.{GUEST_END, LAST_PORT}
use Rattle.record_text.specs.DeviceRecord.{NamedInput, port_input, memory_input, irq_input, dma_input}
use Rattle.text_words.specs.Steps.{◌>>=◌, ◌>>◌}
use Rattle.record_text.specs.Words.{tick_of, number_below, hex_bytes}
use Rattle.record_text.specs.declared.fault.LineWant.{LineWant}
use Rattle.record_text.specs.declared.fault.LineWant.TheVariants.{Word, Count}
use Rattle.record_text.specs.declared.line.LineKind.{LineKind}
use Rattle.record_text.specs.declared.line.LineKind.TheVariants.{Order, Port, Mem, Irq, Dma, End}

-- what a line says, with its tick
pub data Entry : Type 0 where
  input_entry : ℕ → NamedInput → Entry
  order_entry : ℕ → List ℕ → Entry
  end_entry : ℕ → Entry

abbrev pub entry_tick : Entry → ℕ
entry_tick (input_entry tick input) = tick
entry_tick (order_entry tick cpus) = tick
entry_tick (end_entry tick) = tick

-- ---- words, exactly as many

abbrev pub first_word : List (List ℕ) → Result (List ℕ × List (List ℕ)) LineWant
first_word [] = Err Count
first_word (word ∷ words) = Ok (word, words)

abbrev pub no_word : List (List ℕ) → Result (Unit {0}) LineWant
no_word [] = Ok tt
no_word (word ∷ words) = Err Count

abbrev pub one : List (List ℕ) → Result (List ℕ) LineWant
one (first ∷ []) = Ok first
one _ = Err Count

abbrev pub three : List (List ℕ) → Result (List ℕ × List ℕ × List ℕ) LineWant
three (first ∷ second ∷ third ∷ []) = Ok (first, second, third)
three _ = Err Count

abbrev pub four : List (List ℕ) → Result (List ℕ × List ℕ × List ℕ × List ℕ) LineWant
four (first ∷ second ∷ third ∷ fourth ∷ []) = Ok (first, second, third, fourth)
four _ = Err Count

abbrev pub five : List (List ℕ) → Result (List ℕ × List ℕ × List ℕ × List ℕ × List ℕ) LineWant
five (first ∷ second ∷ third ∷ fourth ∷ fifth ∷ []) = Ok (first, second, third, fourth, fifth)
five _ = Err Count

abbrev pub as_many : ℕ → List (List ℕ) → Result (Unit {0}) LineWant
as_many count words = if length words == count then Ok tt else Err Count

-- ---- the kinds of lines

-- the CPUs that words name, each one that there is
abbrev pub cpu_numbers : ℕ → List (List ℕ) → Result (List ℕ) LineWant
cpu_numbers cpus [] = Ok []
cpu_numbers cpus (word ∷ words) = do
  cpu ← number_below cpus word
  more ← cpu_numbers cpus words
  Ok (cpu ∷ more)

-- `order T C1 .. Cn`, where there are n CPUs
unfoldable pub order_line : ℕ → List (List ℕ) → Result Entry LineWant
order_line cpus words = do
  (tick, order) ← first_word words
  as_many cpus order
  t ← tick_of tick
  cs ← cpu_numbers cpus order
  Ok (order_entry t cs)

-- `port T DEVICE PORT V`
unfoldable pub port_line : List (List ℕ) → Result Entry LineWant
port_line words = do
  (tick, device, port, value) ← four words
  t ← tick_of tick
  p ← number_below (LAST_PORT + 1) port
  v ← number_below 256 value
  Ok (input_entry t (port_input device p v))

-- `mem T DEVICE MEMORY OFFSET HEX`
unfoldable pub mem_line : List (List ℕ) → Result Entry LineWant
mem_line words = do
  (tick, device, memory, offset, hex) ← five words
  t ← tick_of tick
  o ← number_below (2 ^ 64) offset
  bytes ← hex_bytes hex
  Ok (input_entry t (memory_input device memory o bytes))

-- `irq T DEVICE IRQ`
unfoldable pub irq_line : List (List ℕ) → Result Entry LineWant
irq_line words = do
  (tick, device, irq) ← three words
  t ← tick_of tick
  Ok (input_entry t (irq_input device irq))

-- `dma T DEVICE ADDR HEX`
unfoldable pub dma_line : List (List ℕ) → Result Entry LineWant
dma_line words = do
  (tick, device, addr, hex) ← four words
  t ← tick_of tick
  a ← number_below GUEST_END addr
  bytes ← hex_bytes hex
  Ok (input_entry t (dma_input device a bytes))

-- `end T`
unfoldable pub end_line : List (List ℕ) → Result Entry LineWant
end_line words = do
  tick ← one words
  t ← tick_of tick
  Ok (end_entry t)

-- ---- lines

-- the word that a line of this kind begins with
unfoldable pub kind_of : List ℕ → Option LineKind
kind_of word =
    if bytes_eq word (codes "order") then Some Order
    else if bytes_eq word (codes "port") then Some Port
    else if bytes_eq word (codes "mem") then Some Mem
    else if bytes_eq word (codes "irq") then Some Irq
    else if bytes_eq word (codes "dma") then Some Dma
    else if bytes_eq word (codes "end") then Some End
    else None

abbrev pub line_of_kind : ℕ → Option LineKind → List (List ℕ) → Result Entry LineWant
line_of_kind cpus None words = Err Word
line_of_kind cpus (Some Order) words = order_line cpus words
line_of_kind cpus (Some Port) words = port_line words
line_of_kind cpus (Some Mem) words = mem_line words
line_of_kind cpus (Some Irq) words = irq_line words
line_of_kind cpus (Some Dma) words = dma_line words
line_of_kind cpus (Some End) words = end_line words

-- what the words of a line say
unfoldable pub read_words : ℕ → List (List ℕ) → Result Entry LineWant
read_words cpus [] = Err Word
read_words cpus (word ∷ words) = line_of_kind cpus (kind_of word) words
