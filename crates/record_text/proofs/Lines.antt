-- One line more: what the reader makes of it, and what the definition says.
use Rattle.std.proofs.Common.{◌≡◌, ℕ, ◌+◌, Bool, true, false, not, List, [], ◌∷◌, ◌++◌, length, map, Option, Some, None, Result, Ok, Err, is_some, find, position, option_map, option_and_then, unwrap_or, nat_lt, nat_le, refl, sym, ap, ap₂, ◌∙◌, append_assoc, append-nil, inl, inr}
use Rattle.std.specs.Prelude.{◌==◌, ◌&&◌, ◌||◌, ◌⊎◌, if◌then◌else◌}
use Rattle.std.specs.List.{list_any}
use Rattle.std.specs.Option.{option_map_or}
use Rattle.std.specs.Str.{bytes_eq}
use Rattle.std.proofs.lemmas.List.{map_push}
use Rattle.record_text.specs.Bench.{BenchDevice, bench_device, bench_of, has_bytes, has_irq, has_port, is_known}
use Rattle.record_text.specs.DeviceRecord.{DeviceRecord, NamedInput, port_input, memory_input, irq_input, dma_input}
use Rattle.record_text.specs.Made.{grown, made_line, made_says, made_with, standing_of, with_end, with_input, with_order}
use Rattle.record_text.specs.Resolving.{bytes_in, irq_of, is_in_span, memory_of, order_at, resolved, resolved_at, resolved_input, port_of, raised}
use Rattle.record_text.specs.Reading.{Standing, entry_at, in_line, names_known, not_back, nothing_until, order_fits, record_after, standing_after, with_entry}
use Rattle.muen_num.specs.Numbers.{are_distinct}
use Rattle.record_text.specs.Saying.{line_of, said}
use Rattle.text_words.specs.Steps.{◌>>=◌, ◌>>◌, mapped}
use Rattle.record_text.specs.Table.{Entry, input_entry, order_entry, end_entry, entry_tick, read_words}
use Rattle.record_text.specs.Words.{words_of}
use Rattle.record_text.specs.declared.devices.RecordDevice.{RecordDevice}
use Rattle.record_text.specs.declared.devices.Devices.{Devices}
use Rattle.record_text.specs.declared.devices.RecordIrq.{RecordIrq}
use Rattle.record_text.specs.declared.devices.RecordMemory.{RecordMemory}
use Rattle.muen_num.specs.declared.devices.PortSpan.{PortSpan}
use Rattle.muen_num.proofs.Lists.{find-map}
use Rattle.muen_num.proofs.Options.{is_some-option_map, some_if}
use Rattle.muen_num.proofs.Lookups.{found_number}
use Rattle.record_text.specs.declared.fault.LineWant.{LineWant}
use Rattle.record_text.specs.declared.fault.LineWant.TheVariants.{Order as OrderWant}
use Rattle.record_text.specs.declared.fault.RecordFault.{RecordFault}
use Rattle.record_text.specs.declared.fault.RecordFault.TheVariants.{TooMany, Line as LineFault, Back, Unknown, NoEnd, NoMemory}
use Rattle.record_text.specs.declared.line.RecordLine.{RecordLine}
use Rattle.record_text.specs.declared.line.Says.TheVariants.{Input as InputSaid}
use Rattle.record_text.specs.declared.made.Made.{Made}
use Rattle.record_text.specs.declared.record.Input.{Input}
use Rattle.record_text.specs.declared.record.Input.TheVariants.{Idle}
use Rattle.record_text.specs.declared.record.Record.{Record}

-- ---- what is on the bench is what is resolved

list_any-map : {X Y : Type 0} (f : X → Y) (p : Y → Bool) (xs : List X) → list_any p (map f xs) ≡ list_any (λ x. p (f x)) xs
list_any-map f p [] = refl
list_any-map f p (x ∷ xs) = ap (λ b. p (f x) || b) (list_any-map f p xs)

port_known : (port value : ℕ) (o : Option RecordDevice) → option_map_or (has_port port) (option_map bench_device o) false ≡ is_some (option_and_then (port_of port value) o)
port_known port value None = refl
port_known port value (Some d) =
    list_any-map (λ (span : PortSpan). (span.start, span.end)) (λ span. nat_le span.0 port && nat_le port span.1) d.ports
    ∙ sym (some_if (list_any (is_in_span port) d.ports) _)

bytes_known : (offset : ℕ) (bytes : List ℕ) (o : Option RecordMemory)
    → option_map_or (λ (m : List ℕ × ℕ). nat_le (offset + length bytes) m.1) (option_map (λ (m : RecordMemory). (m.name, m.bytes)) o) false ≡ is_some (option_and_then (bytes_in offset bytes) o)
bytes_known offset bytes None = refl
bytes_known offset bytes (Some m) = sym (some_if (nat_le (offset + length bytes) m.bytes) _)

memory_known : (memory : List ℕ) (offset : ℕ) (bytes : List ℕ) (o : Option RecordDevice)
    → option_map_or (has_bytes memory offset (length bytes)) (option_map bench_device o) false ≡ is_some (option_and_then (memory_of memory offset bytes) o)
memory_known memory offset bytes None = refl
memory_known memory offset bytes (Some d) =
    ap (λ o. option_map_or (λ (m : List ℕ × ℕ). nat_le (offset + length bytes) m.1) o false) (find-map (λ (m : List ℕ × ℕ). bytes_eq m.0 memory) (λ (m : RecordMemory). (m.name, m.bytes)) d.memories)
    ∙ bytes_known offset bytes (find (λ m. bytes_eq m.name memory) d.memories)

irq_known : (irq : List ℕ) (o : Option RecordDevice) → option_map_or (has_irq irq) (option_map bench_device o) false ≡ is_some (option_and_then (irq_of irq) o)
irq_known irq None = refl
irq_known irq (Some d) =
    ap is_some (find-map (λ name. bytes_eq name irq) (λ (i : RecordIrq). i.name) d.irqs)
    ∙ is_some-option_map (λ (i : RecordIrq). i.name) (find (λ i. bytes_eq i.name irq) d.irqs)
    ∙ sym (is_some-option_map (λ (i : RecordIrq). raised i.target) (find (λ i. bytes_eq i.name irq) d.irqs))

pub known_is : (devices : Devices) (input : NamedInput) → is_known (bench_of devices) input ≡ is_some (resolved_input devices input)
known_is devices (port_input device port value) =
    ap (λ o. option_map_or (has_port port) o false) (find-map (λ (d : BenchDevice). bytes_eq d.name device) bench_device devices.devices)
    ∙ port_known port value (find (λ d. bytes_eq d.name device) devices.devices)
known_is devices (memory_input device memory offset bytes) =
    ap (λ o. option_map_or (has_bytes memory offset (length bytes)) o false) (find-map (λ (d : BenchDevice). bytes_eq d.name device) bench_device devices.devices)
    ∙ memory_known memory offset bytes (find (λ d. bytes_eq d.name device) devices.devices)
known_is devices (irq_input device irq) =
    ap (λ o. option_map_or (has_irq irq) o false) (find-map (λ (d : BenchDevice). bytes_eq d.name device) bench_device devices.devices)
    ∙ irq_known irq (find (λ d. bytes_eq d.name device) devices.devices)
known_is devices (dma_input device addr bytes) =
    ap is_some (find-map (λ (d : BenchDevice). bytes_eq d.name device) bench_device devices.devices)
    ∙ is_some-option_map bench_device (find (λ d. bytes_eq d.name device) devices.devices)
    ∙ sym (found_number (λ (d : RecordDevice). bytes_eq d.name device) devices.devices)
    ∙ sym (is_some-option_map _ (position (λ d. bytes_eq d.name device) devices.devices))

-- ---- one line more

-- what must hold of a line whose words say something
abbrev ruled : Devices → Made → ℕ → Entry → Result Entry RecordFault
ruled devices m n e = do
  not_back (standing_of m) n (entry_tick e)
  order_fits (standing_of m) n e
  names_known (bench_of devices) n e
  Ok e

says_input : (devices : Devices) (m : Made) (n tick : ℕ) (input : NamedInput) (o : Option Input) → resolved_input devices input ≡ o
    → made_says m n tick (InputSaid o) ≡ mapped (made_with devices m) ((if is_some o then Ok tt else Err (Unknown n)) >> Ok (input_entry tick input))
says_input devices m n tick input None e = refl
says_input devices m n tick input (Some x) e = ap (λ o. Ok (with_input m tick (unwrap_or o Idle))) (sym e)

pub made_is : (devices : Devices) (m : Made) (n : ℕ) (e : Entry) → made_line m n (line_of devices e) ≡ mapped (made_with devices m) (ruled devices m n e)
made_is devices m n (input_entry tick input) =
    elim (nat_lt tick m.tick) as (λ b. (if b then Err (Back n) else made_says m n tick (InputSaid (resolved_input devices input)))
    ≡ mapped (made_with devices m) ((if b then Err (Back n) else Ok tt) >> (Ok tt >> ((if is_known (bench_of devices) input then Ok tt else Err (Unknown n)) >> Ok (input_entry tick input))))) [
      | true ↦ refl
      | false ↦
          says_input devices m n tick input (resolved_input devices input) refl
          ∙ ap (λ b. mapped (made_with devices m) ((if b then Ok tt else Err (Unknown n)) >> Ok (input_entry tick input))) (sym (known_is devices input))
    ]
made_is devices m n (order_entry tick cpus) =
    elim (nat_lt tick m.tick) as (λ b. (if b then Err (Back n) else (if are_distinct cpus && not (list_any (λ t. t == tick) (map (λ o. o.tick) m.orders)) then Ok (with_order m tick cpus) else Err (LineFault n OrderWant)))
    ≡ mapped (made_with devices m) ((if b then Err (Back n) else Ok tt) >> ((if are_distinct cpus && not (list_any (λ t. t == tick) (map (λ o. o.tick) m.orders)) then Ok tt else Err (LineFault n OrderWant)) >> (Ok tt >> Ok (order_entry tick cpus))))) [
      | true ↦ refl
      | false ↦ elim (are_distinct cpus && not (list_any (λ t. t == tick) (map (λ o. o.tick) m.orders))) as (λ b. (if b then Ok (with_order m tick cpus) else Err (LineFault n OrderWant))
          ≡ mapped (made_with devices m) ((if b then Ok tt else Err (LineFault n OrderWant)) >> (Ok tt >> Ok (order_entry tick cpus)))) [ true ↦ refl | false ↦ refl ]
    ]
made_is devices m n (end_entry tick) =
    elim (nat_lt tick m.tick) as (λ b. (if b then Err (Back n) else Ok (with_end m tick)) ≡ mapped (made_with devices m) ((if b then Err (Back n) else Ok tt) >> (Ok tt >> (Ok tt >> Ok (end_entry tick))))) [
      | true ↦ refl
      | false ↦ refl
    ]

pub after_end : (devices : Devices) (m : Made) (n : ℕ) (text : List ℕ) → m.ended ≡ true
    → mapped (made_with devices m) (entry_at (bench_of devices) (standing_of m) n text) ≡ Err (TooMany n)
unfolding entry_at
after_end devices m n text h =
    ap (λ b. mapped (made_with devices m) ((if b then Err (TooMany n) else Ok tt) >> (in_line n (read_words devices.cpus (words_of text)) >>= ruled devices m n))) h

-- where the record goes on, the words of the line tell
pub going_on : (devices : Devices) (m : Made) (n : ℕ) (text : List ℕ) → m.ended ≡ false
    → entry_at (bench_of devices) (standing_of m) n text ≡ (in_line n (read_words devices.cpus (words_of text)) >>= ruled devices m n)
unfolding entry_at
going_on devices m n text h =
    ap (λ b. (if b then Err (TooMany n) else Ok tt) >> (in_line n (read_words devices.cpus (words_of text)) >>= ruled devices m n)) h

words_made : (devices : Devices) (m : Made) (n : ℕ) (line : RecordLine) (r : Result Entry LineWant) → said devices r ≡ Ok line
    → mapped (made_with devices m) (in_line n r >>= ruled devices m n) ≡ made_line m n line
words_made devices m n line (Ok e) h = let same : line_of devices e ≡ line = cc in rw (← same) (sym (made_is devices m n e))
words_made devices m n line (Err want) h = cc

words_refused : (devices : Devices) (m : Made) (n : ℕ) (want : LineWant) (r : Result Entry LineWant) → said devices r ≡ Err want
    → mapped (made_with devices m) (in_line n r >>= ruled devices m n) ≡ Err (LineFault n want)
words_refused devices m n want (Ok e) h = cc
words_refused devices m n want (Err other) h = let same : other ≡ want = cc in ap (λ w. Err (LineFault n w)) same

pub line_made : (devices : Devices) (m : Made) (n : ℕ) (text : List ℕ) (line : RecordLine) → m.ended ≡ false → said devices (read_words devices.cpus (words_of text)) ≡ Ok line
    → mapped (made_with devices m) (entry_at (bench_of devices) (standing_of m) n text) ≡ made_line m n line
line_made devices m n text line h e =
    ap (mapped (made_with devices m)) (going_on devices m n text h) ∙ words_made devices m n line (read_words devices.cpus (words_of text)) e

pub line_refused : (devices : Devices) (m : Made) (n : ℕ) (text : List ℕ) (want : LineWant) → m.ended ≡ false → said devices (read_words devices.cpus (words_of text)) ≡ Err want
    → mapped (made_with devices m) (entry_at (bench_of devices) (standing_of m) n text) ≡ Err (LineFault n want)
line_refused devices m n text want h e =
    ap (mapped (made_with devices m)) (going_on devices m n text h) ∙ words_refused devices m n want (read_words devices.cpus (words_of text)) e

pub ruleset lines_made = (after_end, line_made, line_refused)

-- ---- the lines that remain

standing_with : (devices : Devices) (m : Made) (e : Entry) → standing_of (made_with devices m e) ≡ standing_after (standing_of m) e
standing_with devices m (input_entry tick input) = refl
standing_with devices m (order_entry tick cpus) =
    ap (λ ts. record { tick = tick; ended = m.ended; ordered = ts }) (map_push (λ o. o.tick) m.orders (record { tick = tick; cpus = cpus }))
standing_with devices m (end_entry tick) = refl

entry_grown : (devices : Devices) (m : Made) (e : Entry) (r : Result DeviceRecord RecordFault)
    → grown devices m (r >>= λ more. Ok (with_entry e more)) ≡ grown devices (made_with devices m e) r
entry_grown devices m (input_entry tick input) (Ok r) =
    ap (λ inputs. Ok (record { end = r.end; inputs = inputs; orders = m.orders ++ map order_at r.orders })) (sym (append_assoc m.inputs (resolved_at devices (tick, input) ∷ []) (map (resolved_at devices) r.inputs)))
entry_grown devices m (order_entry tick cpus) (Ok r) =
    ap (λ orders. Ok (record { end = r.end; inputs = m.inputs ++ map (resolved_at devices) r.inputs; orders = orders })) (sym (append_assoc m.orders (order_at (tick, cpus) ∷ []) (map order_at r.orders)))
entry_grown devices m (end_entry tick) (Ok r) = refl
entry_grown devices m e (Err fault) = refl

abbrev rest_of : Devices → Standing → ℕ → List (List ℕ) → Result DeviceRecord RecordFault
rest_of devices s n lines = record_after (bench_of devices) s n lines

grown_by : (devices : Devices) (m next : Made) (n : ℕ) (lines : List (List ℕ)) (r : Result Entry RecordFault) → mapped (made_with devices m) r ≡ Ok next
    → grown devices m (r >>= λ e. rest_of devices (standing_after (standing_of m) e) (n + 1) lines >>= λ more. Ok (with_entry e more))
    ≡ grown devices next (rest_of devices (standing_of next) (n + 1) lines)
grown_by devices m next n lines (Err fault) h = cc
grown_by devices m next n lines (Ok e) h =
    let same : made_with devices m e ≡ next = cc in
    rw (← same) (
    entry_grown devices m e (rest_of devices (standing_after (standing_of m) e) (n + 1) lines)
    ∙ ap (λ s. grown devices (made_with devices m e) (rest_of devices s (n + 1) lines)) (sym (standing_with devices m e))
    )

-- a line more was read
pub grown_more : (devices : Devices) (m next : Made) (n : ℕ) (line : List ℕ) (lines : List (List ℕ))
    → mapped (made_with devices m) (entry_at (bench_of devices) (standing_of m) n line) ≡ Ok next
    → grown devices m (record_after (bench_of devices) (standing_of m) n (line ∷ lines)) ≡ grown devices next (record_after (bench_of devices) (standing_of next) (n + 1) lines)
unfolding record_after
grown_more devices m next n line lines h = grown_by devices m next n lines (entry_at (bench_of devices) (standing_of m) n line) h

grown_refused : (devices : Devices) (m : Made) (fault : RecordFault) (r : Result Entry RecordFault) (f : Entry → Result DeviceRecord RecordFault) → mapped (made_with devices m) r ≡ Err fault
    → grown devices m (r >>= f) ≡ Err fault
grown_refused devices m fault (Ok e) f h = cc
grown_refused devices m fault (Err other) f h = cc

-- a line is refused
pub grown_to_fault : (devices : Devices) (m : Made) (n : ℕ) (line : List ℕ) (lines : List (List ℕ)) (fault : RecordFault)
    → mapped (made_with devices m) (entry_at (bench_of devices) (standing_of m) n line) ≡ Err fault
    → grown devices m (record_after (bench_of devices) (standing_of m) n (line ∷ lines)) ≡ Err fault
unfolding record_after
grown_to_fault devices m n line lines fault h = grown_refused devices m fault (entry_at (bench_of devices) (standing_of m) n line) _ h

-- no line remains
pub grown_ended : (devices : Devices) (m : Made) (n : ℕ) → m.ended ≡ true
    → grown devices m (record_after (bench_of devices) (standing_of m) n []) ≡ Ok (record { end = m.tick; inputs = m.inputs; orders = m.orders })
unfolding record_after
grown_ended devices m n h =
    ap (λ b. grown devices m (if b then Ok (nothing_until m.tick) else Err (NoEnd n))) h
    ∙ ap₂ (λ inputs orders. Ok (record { end = m.tick; inputs = inputs; orders = orders })) (append-nil m.inputs) (append-nil m.orders)

pub grown_unended : (devices : Devices) (m : Made) (n : ℕ) → m.ended ≡ false → grown devices m (record_after (bench_of devices) (standing_of m) n []) ≡ Err (NoEnd n)
unfolding record_after
grown_unended devices m n h = ap (λ b. grown devices m (if b then Ok (nothing_until m.tick) else Err (NoEnd n))) h

-- nothing was read yet
pub grown_none : (devices : Devices) (r : Result DeviceRecord RecordFault) → grown devices (record { tick = 0; ended = false; inputs = []; orders = [] }) r ≡ mapped (resolved devices) r
grown_none devices (Ok r) = refl
grown_none devices (Err fault) = refl

-- what the call for a line answered is what the whole call answers
pub refused_here : (devices : Devices) (m : Made) (n : ℕ) (line : List ℕ) (lines : List (List ℕ)) (fault : RecordFault) (whole : Result (Record Input) RecordFault)
    → (fault ≡ NoMemory) ⊎ (mapped (made_with devices m) (entry_at (bench_of devices) (standing_of m) n line) ≡ Err fault)
    → grown devices m (record_after (bench_of devices) (standing_of m) n (line ∷ lines)) ≡ whole
    → (fault ≡ NoMemory) ⊎ (whole ≡ Err fault)
refused_here devices m n line lines fault whole (inl memory) same = inl memory
refused_here devices m n line lines fault whole (inr refused) same = inr (sym same ∙ grown_to_fault devices m n line lines fault refused)
