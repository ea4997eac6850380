-- What holds of a line that was read.
use Rattle.std.proofs.Common.{◌≡◌, ℕ, suc, ◌+◌, ◌*◌, ◌<◌, ◌≤◌, ◌^◌, Bool, true, false, not, List, [], ◌∷◌, length, map, Option, Some, None, Result, Ok, Err, IsTrue, nat_lt, nat_le, refl, ap, ◌∙◌, arith}
use Rattle.std.specs.Prelude.{◌==◌, ◌&&◌, if◌then◌else◌}
use Rattle.std.specs.List.{All, AllByRecursion, list_all, list_any}
use Rattle.std.proofs.lemmas.List.{map_push}
use Rattle.std.proofs.lemmas.List.Elements.{All-from_recursion}
use Rattle.std.proofs.lemmas.Bool.{and_parts, and_from, not-true, ltb-true, ltb-false, leb-true, eqb-true, lt-ltb}
use Rattle.hex.specs.Hex.{IsBytes, decode_of}
use Rattle.hex.specs.declared.error.FromHexError.{FromHexError}
use Rattle.hex.proofs.HexLemmas.{decode_of-ok}
use Rattle.muen_num.specs.declared.limits.TheConstants.{GUEST_END, LAST_PORT, MOST_TICKS}
use Rattle.record_text.specs.Bench.{Bench, bench_of, is_known}
use Rattle.record_text.specs.DeviceRecord.{NamedInput, port_input, memory_input, irq_input, dma_input}
use Rattle.record_text.specs.Made.{IsInOrder, made_with, standing_of}
use Rattle.record_text.specs.Reading.{Standing, entry_at, in_line, names_known, not_after_end, not_back, order_fits}
use Rattle.muen_num.specs.Numbers.{are_distinct}
use Rattle.text_words.specs.Steps.{◌>>=◌, ◌>>◌, mapped}
use Rattle.record_text.specs.Table.{Entry, input_entry, order_entry, end_entry, as_many, cpu_numbers, dma_line, end_line, entry_tick, first_word, five, four, irq_line, kind_of, line_of_kind, mem_line, one, order_line, port_line, read_words, three}
use Rattle.text_words.specs.Numbers.{number_of}
use Rattle.record_text.specs.Words.{below, hex_bytes, number_below, or_hex, tick_of, words_of}
use Rattle.record_text.specs.declared.devices.Devices.{Devices}
use Rattle.record_text.specs.declared.fault.LineWant.{LineWant}
use Rattle.record_text.specs.declared.fault.LineWant.TheVariants.{Range, Hex, Count}
use Rattle.record_text.specs.declared.fault.RecordFault.{RecordFault}
use Rattle.record_text.specs.declared.line.LineKind.{LineKind}
use Rattle.record_text.specs.declared.line.LineKind.TheVariants.{Order, Port, Mem, Irq, Dma, End}
use Rattle.record_text.specs.declared.made.Made.{Made}
use Rattle.record_text.specs.declared.record.TheConstants.{INPUT_MOST}
use Rattle.record_text.specs.declared.record.TickOrder.{TickOrder}
use Rattle.record_text.proofs.Ticks.{RisesTo-push, RisesTo-weaker}

-- ---- steps that were taken

pub then_ok : {A B E : Type 0} (r : Result A E) (f : A → Result B E) (y : B) → (r >>= f) ≡ Ok y → (x : A) × (r ≡ Ok x) × (f x ≡ Ok y)
then_ok (Ok x) f y h = (x, refl, h)
then_ok (Err e) f y h = cc

pub passed : {B E : Type 0} (r : Result (Unit {0}) E) (s : Result B E) (y : B) → (r >> s) ≡ Ok y → (r ≡ Ok tt) × (s ≡ Ok y)
passed (Ok u) s y h = (refl, h)
passed (Err e) s y h = cc

abbrev done : {E : Type 0} → Result (Unit {0}) E
done = Ok tt

from_if : {E : Type 0} (b : Bool) (e : E) → (if b then Err e else done) ≡ done → b ≡ false
from_if true e h = cc
from_if false e h = refl

from_unless : {E : Type 0} (b : Bool) (e : E) → (if b then done else Err e) ≡ done → b ≡ true
from_unless true e h = refl
from_unless false e h = cc

-- ---- words

number_within : (end : ℕ) (o : Option ℕ) (n : ℕ) → below end o ≡ Ok n → n < end
number_within end None n h = cc
number_within end (Some m) n h =
    elim (nat_lt m end) as (λ b. nat_lt m end ≡ b → (if b then Ok m else Err Range) ≡ Ok n → n < end) [
      | true ↦ λ t e. let same : m ≡ n = cc in let less = ltb-true m end t in omega (arith, same, less)
      | false ↦ λ t e. cc
    ] refl h

pub number_below-Ok : (end : ℕ) (word : List ℕ) (n : ℕ) → number_below end word ≡ Ok n → n < end
unfolding number_below
number_below-Ok end word n h = number_within end (number_of word) n h

pub tick_of-Ok : (word : List ℕ) (tick : ℕ) → tick_of word ≡ Ok tick → tick ≤ MOST_TICKS
unfolding tick_of
tick_of-Ok word tick h = let less = number_below-Ok (MOST_TICKS + 1) word tick h in omega (arith, less)

pub record IsFew (bytes : List ℕ) : Type 0 where
  pub some : 1 ≤ length bytes
  pub few : length bytes ≤ INPUT_MOST

or_hex-Ok : (r : Result (List ℕ) FromHexError) (bytes : List ℕ) → or_hex r ≡ Ok bytes → r ≡ Ok bytes
or_hex-Ok (Ok x) bytes h = let same : x ≡ bytes = cc in ap (λ x. Ok x) same
or_hex-Ok (Err e) bytes h = cc

hex_if : (b : Bool) (r : Result (List ℕ) LineWant) (bytes : List ℕ) → (if b then r else Err Hex) ≡ Ok bytes → (b ≡ true) × (r ≡ Ok bytes)
hex_if true r bytes h = (refl, h)
hex_if false r bytes h = cc

pub hex_bytes-Ok : (word bytes : List ℕ) → hex_bytes word ≡ Ok bytes → IsFew bytes
unfolding hex_bytes
hex_bytes-Ok word bytes h =
    let parts = hex_if (nat_le 2 (length word) && nat_le (length word) (2 * INPUT_MOST)) (or_hex (decode_of word)) bytes h in
    let sizes = and_parts (nat_le 2 (length word)) (nat_le (length word) (2 * INPUT_MOST)) parts.0 in
    let low = leb-true 2 (length word) sizes.0 in
    let high = leb-true (length word) (2 * INPUT_MOST) sizes.1 in
    let twice = (decode_of-ok word bytes (or_hex-Ok (decode_of word) bytes parts.1)).2 in
    record { some = omega (arith, low, high, twice); few = omega (arith, low, high, twice) }

-- each of them is below 256
all_bytes : (xs : List ℕ) → IsBytes xs → All (λ x. x < 256) xs
all_bytes xs h = All-from_recursion (λ x. x < 256) xs (each xs h)
  where
    each : (xs : List ℕ) → IsBytes xs → AllByRecursion (λ x. x < 256) xs
    each [] h = tt
    each (x ∷ xs) h = (h 0, each xs (λ k. h (suc k)))

pub hex_bytes-within : (word bytes : List ℕ) → hex_bytes word ≡ Ok bytes → All (λ x. x < 256) bytes
unfolding hex_bytes
hex_bytes-within word bytes h =
    let parts = hex_if (nat_le 2 (length word) && nat_le (length word) (2 * INPUT_MOST)) (or_hex (decode_of word)) bytes h in
    all_bytes bytes (decode_of-ok word bytes (or_hex-Ok (decode_of word) bytes parts.1)).3

-- ---- lines

abbrev pub IsInput : NamedInput → Type 0
IsInput (port_input device port value) = value < 256
IsInput (memory_input device memory offset bytes) = IsFew bytes
IsInput (irq_input device irq) = Unit {0}
IsInput (dma_input device addr bytes) = (addr < GUEST_END) × IsFew bytes

-- each one of the CPUs, and as many as there are
pub record AreCpus (cpus : ℕ) (order : List ℕ) : Type 0 where
  pub count : length order ≡ cpus
  pub below : IsTrue (list_all (λ c. nat_lt c cpus) order)

abbrev pub IsEntry : ℕ → Entry → Type 0
IsEntry cpus (input_entry tick input) = (tick ≤ MOST_TICKS) × IsInput input
IsEntry cpus (order_entry tick order) = (tick ≤ MOST_TICKS) × AreCpus cpus order
IsEntry cpus (end_entry tick) = tick ≤ MOST_TICKS

pub Entry-limit : (cpus : ℕ) (e : Entry) → IsEntry cpus e → entry_tick e ≤ MOST_TICKS
Entry-limit cpus (input_entry tick input) h = h.0
Entry-limit cpus (order_entry tick order) h = h.0
Entry-limit cpus (end_entry tick) h = h

cpu_numbers-Ok : (cpus : ℕ) (words : List (List ℕ)) (order : List ℕ) → cpu_numbers cpus words ≡ Ok order
    → (length order ≡ length words) × (list_all (λ c. nat_lt c cpus) order ≡ true)
cpu_numbers-Ok cpus [] order h = let e : [] ≡ order = cc in rw (← e) (refl, refl)
cpu_numbers-Ok cpus (word ∷ words) order h =
    let first = then_ok (number_below cpus word) (λ cpu. cpu_numbers cpus words >>= λ more. Ok (cpu ∷ more)) order h in
    let rest = then_ok (cpu_numbers cpus words) (λ more. Ok (first.0 ∷ more)) order first.2 in
    let whole : first.0 ∷ rest.0 ≡ order = cc (rest.2) in
    let more = cpu_numbers-Ok cpus words rest.0 rest.1 in
    let less = lt-ltb first.0 cpus (number_below-Ok cpus word first.0 first.1) in
    rw (← whole) (ap suc more.0, and_from (nat_lt first.0 cpus) (list_all (λ c. nat_lt c cpus) rest.0) less more.1)

from_count : (n m : ℕ) → (if n == m then done else Err Count) ≡ done → n ≡ m
from_count n m h = eqb-true n m (from_unless (n == m) Count h)

order_line-Ok : (cpus : ℕ) (words : List (List ℕ)) (e : Entry) → order_line cpus words ≡ Ok e → IsEntry cpus e
unfolding order_line
order_line-Ok cpus words e h =
    let w = then_ok (first_word words) _ e h in
    let n = passed (as_many cpus w.0.1) _ e w.2 in
    let t = then_ok (tick_of w.0.0) _ e n.1 in
    let o = then_ok (cpu_numbers cpus w.0.1) (λ cs. Ok (order_entry t.0 cs)) e t.2 in
    let made : order_entry t.0 o.0 ≡ e = cc (o.2) in
    let cs = cpu_numbers-Ok cpus w.0.1 o.0 o.1 in
    let limit = tick_of-Ok w.0.0 t.0 t.1 in
    rw (← made) (limit, record { count = cs.0 ∙ from_count (length w.0.1) cpus n.0; below = cs.1 })

port_line-Ok : (cpus : ℕ) (words : List (List ℕ)) (e : Entry) → port_line words ≡ Ok e → IsEntry cpus e
unfolding port_line
port_line-Ok cpus words e h =
    let w = then_ok (four words) _ e h in
    let t = then_ok (tick_of w.0.0) _ e w.2 in
    let p = then_ok (number_below (LAST_PORT + 1) w.0.2) _ e t.2 in
    let v = then_ok (number_below 256 w.0.3) (λ v. Ok (input_entry t.0 (port_input w.0.1 p.0 v))) e p.2 in
    let made : input_entry t.0 (port_input w.0.1 p.0 v.0) ≡ e = cc (v.2) in
    let limit = tick_of-Ok w.0.0 t.0 t.1 in
    let less = number_below-Ok 256 w.0.3 v.0 v.1 in
    rw (← made) (limit, less)

mem_line-Ok : (cpus : ℕ) (words : List (List ℕ)) (e : Entry) → mem_line words ≡ Ok e → IsEntry cpus e
unfolding mem_line
mem_line-Ok cpus words e h =
    let w = then_ok (five words) _ e h in
    let t = then_ok (tick_of w.0.0) _ e w.2 in
    let o = then_ok (number_below (2 ^ 64) w.0.3) _ e t.2 in
    let b = then_ok (hex_bytes w.0.4) (λ bytes. Ok (input_entry t.0 (memory_input w.0.1 w.0.2 o.0 bytes))) e o.2 in
    let made : input_entry t.0 (memory_input w.0.1 w.0.2 o.0 b.0) ≡ e = cc (b.2) in
    let limit = tick_of-Ok w.0.0 t.0 t.1 in
    rw (← made) (limit, hex_bytes-Ok w.0.4 b.0 b.1)

irq_line-Ok : (cpus : ℕ) (words : List (List ℕ)) (e : Entry) → irq_line words ≡ Ok e → IsEntry cpus e
unfolding irq_line
irq_line-Ok cpus words e h =
    let w = then_ok (three words) _ e h in
    let t = then_ok (tick_of w.0.0) (λ t. Ok (input_entry t (irq_input w.0.1 w.0.2))) e w.2 in
    let made : input_entry t.0 (irq_input w.0.1 w.0.2) ≡ e = cc (t.2) in
    let limit = tick_of-Ok w.0.0 t.0 t.1 in
    rw (← made) (limit, tt)

dma_line-Ok : (cpus : ℕ) (words : List (List ℕ)) (e : Entry) → dma_line words ≡ Ok e → IsEntry cpus e
unfolding dma_line
dma_line-Ok cpus words e h =
    let w = then_ok (four words) _ e h in
    let t = then_ok (tick_of w.0.0) _ e w.2 in
    let a = then_ok (number_below GUEST_END w.0.2) _ e t.2 in
    let b = then_ok (hex_bytes w.0.3) (λ bytes. Ok (input_entry t.0 (dma_input w.0.1 a.0 bytes))) e a.2 in
    let made : input_entry t.0 (dma_input w.0.1 a.0 b.0) ≡ e = cc (b.2) in
    let limit = tick_of-Ok w.0.0 t.0 t.1 in
    rw (← made) (limit, (number_below-Ok GUEST_END w.0.2 a.0 a.1, hex_bytes-Ok w.0.3 b.0 b.1))

end_line-Ok : (cpus : ℕ) (words : List (List ℕ)) (e : Entry) → end_line words ≡ Ok e → IsEntry cpus e
unfolding end_line
end_line-Ok cpus words e h =
    let w = then_ok (one words) _ e h in
    let t = then_ok (tick_of w.0) (λ t. Ok (end_entry t)) e w.2 in
    let made : end_entry t.0 ≡ e = cc (t.2) in
    let limit = tick_of-Ok w.0 t.0 t.1 in
    rw (← made) limit

of_kind : (cpus : ℕ) (kind : Option LineKind) (words : List (List ℕ)) (e : Entry) → line_of_kind cpus kind words ≡ Ok e → IsEntry cpus e
of_kind cpus None words e h = cc
of_kind cpus (Some Order) words e h = order_line-Ok cpus words e h
of_kind cpus (Some Port) words e h = port_line-Ok cpus words e h
of_kind cpus (Some Mem) words e h = mem_line-Ok cpus words e h
of_kind cpus (Some Irq) words e h = irq_line-Ok cpus words e h
of_kind cpus (Some Dma) words e h = dma_line-Ok cpus words e h
of_kind cpus (Some End) words e h = end_line-Ok cpus words e h

pub read_words-Ok : (cpus : ℕ) (words : List (List ℕ)) (e : Entry) → read_words cpus words ≡ Ok e → IsEntry cpus e
unfolding read_words
read_words-Ok cpus [] e h = cc
read_words-Ok cpus (word ∷ words) e h = of_kind cpus (kind_of word) words e h

-- ---- what must hold of a line

-- the order names each CPU once, and its tick has no other
pub record IsNewOrder (s : Standing) (tick : ℕ) (order : List ℕ) : Type 0 where
  pub distinct : IsTrue (are_distinct order)
  pub only : list_any (λ t. t == tick) s.ordered ≡ false

abbrev pub FitsOrder : Standing → Entry → Type 0
FitsOrder s (input_entry tick input) = Unit {0}
FitsOrder s (order_entry tick order) = IsNewOrder s tick order
FitsOrder s (end_entry tick) = Unit {0}

abbrev pub IsKnown : Bench → Entry → Type 0
IsKnown bench (input_entry tick input) = IsTrue (is_known bench input)
IsKnown bench (order_entry tick order) = Unit {0}
IsKnown bench (end_entry tick) = Unit {0}

pub record IsRuled (bench : Bench) (s : Standing) (e : Entry) : Type 0 where
  pub within : IsEntry bench.cpus e
  pub forward : s.tick ≤ entry_tick e
  pub order : FitsOrder s e
  pub known : IsKnown bench e

pub in_line-Ok : {X : Type 0} (n : ℕ) (r : Result X LineWant) (x : X) → in_line n r ≡ Ok x → r ≡ Ok x
in_line-Ok n (Ok y) x h = let same : y ≡ x = cc in ap (λ y. Ok y) same
in_line-Ok n (Err want) x h = cc

order_fits-Ok : (s : Standing) (n : ℕ) (e : Entry) → order_fits s n e ≡ Ok tt → FitsOrder s e
order_fits-Ok s n (input_entry tick input) h = tt
order_fits-Ok s n (order_entry tick order) h =
    let parts = and_parts (are_distinct order) (not (list_any (λ t. t == tick) s.ordered)) (from_unless (are_distinct order && not (list_any (λ t. t == tick) s.ordered)) _ h) in
    record { distinct = parts.0; only = not-true (list_any (λ t. t == tick) s.ordered) parts.1 }
order_fits-Ok s n (end_entry tick) h = tt

names_known-Ok : (bench : Bench) (n : ℕ) (e : Entry) → names_known bench n e ≡ Ok tt → IsKnown bench e
names_known-Ok bench n (input_entry tick input) h = from_unless (is_known bench input) _ h
names_known-Ok bench n (order_entry tick order) h = tt
names_known-Ok bench n (end_entry tick) h = tt

pub entry_at-Ok : (bench : Bench) (s : Standing) (n : ℕ) (line : List ℕ) (e : Entry) → entry_at bench s n line ≡ Ok e → IsRuled bench s e
unfolding entry_at
entry_at-Ok bench s n line e h =
    let going = passed (not_after_end s n) _ e h in
    let words = then_ok (in_line n (read_words bench.cpus (words_of line))) _ e going.1 in
    let forward = passed (not_back s n (entry_tick words.0)) _ e words.2 in
    let order = passed (order_fits s n words.0) _ e forward.1 in
    let known = passed (names_known bench n words.0) (Ok words.0) e order.1 in
    let same : words.0 ≡ e = cc (known.1) in
    let ruled : IsRuled bench s words.0 = record {
      within = read_words-Ok bench.cpus (words_of line) words.0 (in_line-Ok n (read_words bench.cpus (words_of line)) words.0 words.1);
      forward = ltb-false (entry_tick words.0) s.tick (from_if (nat_lt (entry_tick words.0) s.tick) _ forward.0);
      order = order_fits-Ok s n words.0 order.0;
      known = names_known-Ok bench n words.0 known.0;
    } in
    rw same at ruled

-- ---- the orders stay in order

order_more : (devices : Devices) (m : Made) (e : Entry) → IsInOrder m → m.tick ≤ entry_tick e → FitsOrder (standing_of m) e → IsInOrder (made_with devices m e)
order_more devices m (input_entry tick input) h le fits = RisesTo-weaker m.tick tick (map (λ o. o.tick) m.orders) le h
order_more devices m (order_entry tick order) h le fits =
    rw (map_push (λ (o : TickOrder). o.tick) m.orders (record { tick = tick; cpus = order })) (RisesTo-push m.tick tick (map (λ o. o.tick) m.orders) h le fits.only)
order_more devices m (end_entry tick) h le fits = RisesTo-weaker m.tick tick (map (λ o. o.tick) m.orders) le h

in_order_by : (devices : Devices) (m next : Made) (r : Result Entry RecordFault) → IsInOrder m → ((e : Entry) → r ≡ Ok e → IsRuled (bench_of devices) (standing_of m) e)
    → mapped (made_with devices m) r ≡ Ok next → IsInOrder next
in_order_by devices m next (Ok x) h ruled e =
    let same : made_with devices m x ≡ next = cc in
    let r = ruled x refl in
    rw same at (order_more devices m x h r.forward r.order)
in_order_by devices m next (Err fault) h ruled e = cc

pub in_order_more : (devices : Devices) (m next : Made) (n : ℕ) (line : List ℕ) → IsInOrder m → mapped (made_with devices m) (entry_at (bench_of devices) (standing_of m) n line) ≡ Ok next
    → IsInOrder next
in_order_more devices m next n line h e =
    in_order_by devices m next (entry_at (bench_of devices) (standing_of m) n line) h (λ x. entry_at-Ok (bench_of devices) (standing_of m) n line x) e
