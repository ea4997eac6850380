-- The text of the generated record is read as that record.
use Rattle.std.proofs.Common.{◌≡◌, ℕ, zero, suc, ◌+◌, ◌*◌, ◌%◌, ◌^◌, ◌<◌, ◌≤◌, true, false, List, [], ◌∷◌, ◌++◌, map, reverse, Ok, Result, refl, sym, ap, ap₂, ◌∙◌, append_assoc, arith}
use Rattle.std.specs.Prelude.{◌&&◌, ◌||◌, ◌==◌, codes, decimal, if◌then◌else◌}
use Rattle.std.specs.Fmt.{digits}
use Rattle.std.specs.List.{flat_map, list_all, list_any}
use Rattle.std.proofs.lemmas.Bool.{and_from, le-ltb, lt-ltb}
use Rattle.std.proofs.lemmas.Bool.Decides.{nat_tests}
use Rattle.std.proofs.lemmas.List.Folds.{list_all-append, list_any-append}
use Rattle.muen_num.specs.Range.{numbers_below}
use Rattle.muen_num.specs.declared.limits.TheConstants.{LAST_PORT}
use Rattle.record_text.specs.Bench.{Bench}
use Rattle.record_text.specs.DeviceRecord.{DeviceRecord, port_input, irq_input}
use Rattle.record_text.specs.Reading.{Standing, all_ascii, at_start, entry_at, record_after, record_of, standing_after, with_entry}
use Rattle.muen_num.specs.Numbers.{are_distinct}
use Rattle.record_text.specs.Steps.{◌>>=◌, ◌>>◌}
use Rattle.record_text.specs.Table.{Entry, input_entry, order_entry, end_entry, as_many, cpu_numbers, kind_of, read_words, end_line as said_end, irq_line as said_irq, order_line as said_order, port_line as said_port}
use Rattle.record_text.specs.Words.{number_below, tick_of}
use Rattle.record_text.specs.declared.fault.RecordFault.{RecordFault}
use Rattle.record_text.proofs.Numerals.{digits_alone, number_read}
use Rattle.generated_system.proofs.LinesRead.{ascii_lines, digits_word, is_plain, is_word, line_plain, lines_back, words_back}
use Rattle.generated_system.proofs.Shapes.{below_four}
use Rattle.generated_system.specs.Record.{generated_record, inputs_at}
use Rattle.generated_system.specs.RecordText.{record_end_line_text, irq_line_text, lines_in, generated_order_line, orders_in, generated_port_line, record_lines, record_text}
use Rattle.generated_system.specs.System.{cpus_for}

below_read : (end n : ℕ) → n < end → n < 2 ^ 64 → number_below end (decimal n) ≡ Ok n
unfolding number_below
below_read end n less h = rw (number_read n h, lt-ltb n end less) refl

-- ---- what the generated record names

abbrev pub bench : ℕ → Bench
bench cpus = record {
  cpus = cpus;
  devices = record { name = codes "dev"; ports = (16, 16) ∷ []; memories = []; irqs = codes "t" ∷ [] } ∷ [];
}

abbrev descending : ℕ → List ℕ
descending cpus = reverse (numbers_below cpus)

-- an order of so many CPUs is read
record IsOrder (cpus : ℕ) : Type 0 where
  many : as_many cpus (map decimal (descending cpus)) ≡ Ok tt
  numbers : cpu_numbers cpus (map decimal (descending cpus)) ≡ Ok (descending cpus)
  words : list_all is_word (map decimal (descending cpus)) ≡ true
  distinct : are_distinct (descending cpus) ≡ true

order_of_one : IsOrder 1
unfolding digits number_below
order_of_one = record { many = refl; numbers = refl; words = refl; distinct = refl }

order_of_two : IsOrder 2
unfolding digits number_below
order_of_two = record { many = refl; numbers = refl; words = refl; distinct = refl }

order_of_three : IsOrder 3
unfolding digits number_below
order_of_three = record { many = refl; numbers = refl; words = refl; distinct = refl }

order_of_four : IsOrder 4
unfolding digits number_below
order_of_four = record { many = refl; numbers = refl; words = refl; distinct = refl }

is_order : (n : ℕ) → IsOrder (cpus_for n)
is_order n = below_four (λ m. IsOrder (1 + m)) order_of_one order_of_two order_of_three order_of_four (n % 4) (omega arith)

-- ---- words

decimal_word : (n : ℕ) → n < 2 ^ 64 → is_word (decimal n) ≡ true
decimal_word n h = digits_word (decimal n) (digits_alone n h)

port_words : (tick value : ℕ) → tick < 2 ^ 64 → value < 2 ^ 64 → list_all is_word (codes "port" ∷ decimal tick ∷ codes "dev" ∷ codes "16" ∷ decimal value ∷ []) ≡ true
port_words tick value t v = and_from (is_word (decimal tick)) (is_word (decimal value) && true) (decimal_word tick t) (and_from (is_word (decimal value)) true (decimal_word value v) refl)

irq_words : (tick : ℕ) → tick < 2 ^ 64 → list_all is_word (codes "irq" ∷ decimal tick ∷ codes "dev" ∷ codes "t" ∷ []) ≡ true
irq_words tick t = and_from (is_word (decimal tick)) true (decimal_word tick t) refl

order_words : (cpus tick : ℕ) → IsOrder cpus → tick < 2 ^ 64 → list_all is_word (codes "order" ∷ decimal tick ∷ map decimal (descending cpus)) ≡ true
order_words cpus tick o t = and_from (is_word (decimal tick)) (list_all is_word (map decimal (descending cpus))) (decimal_word tick t) o.words

-- ---- one line

tick_read : (tick : ℕ) → tick ≤ 100000 → tick_of (decimal tick) ≡ Ok tick
unfolding tick_of
tick_read tick h = below_read 100001 tick (omega arith) (omega arith)

sixteen_read : number_below (LAST_PORT + 1) (codes "16") ≡ Ok 16
unfolding number_below
sixteen_read = refl

last_read : tick_of (codes "20000") ≡ Ok 20000
unfolding tick_of number_below
last_read = refl

port_said : (cpus tick value : ℕ) → tick ≤ 100000 → value < 256
    → read_words cpus (codes "port" ∷ decimal tick ∷ codes "dev" ∷ codes "16" ∷ decimal value ∷ []) ≡ Ok (input_entry tick (port_input (codes "dev") 16 value))
unfolding read_words kind_of said_port
port_said cpus tick value t v = rw (tick_read tick t, sixteen_read, below_read 256 value v (omega arith)) refl

irq_said : (cpus tick : ℕ) → tick ≤ 100000 → read_words cpus (codes "irq" ∷ decimal tick ∷ codes "dev" ∷ codes "t" ∷ []) ≡ Ok (input_entry tick (irq_input (codes "dev") (codes "t")))
unfolding read_words kind_of said_irq
irq_said cpus tick t = rw (tick_read tick t) refl

order_said : (cpus tick : ℕ) → IsOrder cpus → tick ≤ 100000 → read_words cpus (codes "order" ∷ decimal tick ∷ map decimal (descending cpus)) ≡ Ok (order_entry tick (descending cpus))
unfolding read_words kind_of said_order
order_said cpus tick o t = rw (o.many, tick_read tick t, o.numbers) refl

end_said : (cpus : ℕ) → read_words cpus (codes "end" ∷ codes "20000" ∷ []) ≡ Ok (end_entry 20000)
unfolding read_words kind_of said_end
end_said cpus = rw last_read refl

-- what stands before the lines of the j-th hundredth tick
record Stands (s : Standing) (j : ℕ) : Type 0 where
  going : s.ended ≡ false
  tick : s.tick ≤ 100 * j
  fresh : (k : ℕ) → j ≤ k → list_any (λ t. t == 100 * k) s.ordered ≡ false

port_entry : (cpus : ℕ) (s : Standing) (n tick value : ℕ) → s.ended ≡ false → s.tick ≤ tick → tick ≤ 100000 → value < 256
    → entry_at (bench cpus) s n (generated_port_line tick value) ≡ Ok (input_entry tick (port_input (codes "dev") 16 value))
unfolding entry_at
port_entry cpus s n tick value going back t v =
    rw (going, words_back (codes "port") (decimal tick ∷ codes "dev" ∷ codes "16" ∷ decimal value ∷ []) (port_words tick value (omega arith) (omega arith)), port_said cpus tick value t v, le-ltb tick s.tick back) refl

irq_entry : (cpus : ℕ) (s : Standing) (n tick : ℕ) → s.ended ≡ false → s.tick ≤ tick → tick ≤ 100000
    → entry_at (bench cpus) s n (irq_line_text tick) ≡ Ok (input_entry tick (irq_input (codes "dev") (codes "t")))
unfolding entry_at
irq_entry cpus s n tick going back t =
    rw (going, words_back (codes "irq") (decimal tick ∷ codes "dev" ∷ codes "t" ∷ []) (irq_words tick (omega arith)), irq_said cpus tick t, le-ltb tick s.tick back) refl

order_entry_read : (cpus : ℕ) (s : Standing) (n tick : ℕ) → IsOrder cpus → s.ended ≡ false → s.tick ≤ tick → list_any (λ t. t == tick) s.ordered ≡ false → tick ≤ 100000
    → entry_at (bench cpus) s n (generated_order_line cpus tick) ≡ Ok (order_entry tick (descending cpus))
unfolding entry_at
order_entry_read cpus s n tick o going back fresh t =
    rw (going, words_back (codes "order") (decimal tick ∷ map decimal (descending cpus)) (order_words cpus tick o (omega arith)), order_said cpus tick o t, le-ltb tick s.tick back, o.distinct, fresh) refl

end_entry_read : (cpus : ℕ) (s : Standing) (n : ℕ) → s.ended ≡ false → s.tick ≤ 20000 → entry_at (bench cpus) s n record_end_line_text ≡ Ok (end_entry 20000)
unfolding entry_at
end_entry_read cpus s n going back =
    rw (going, words_back (codes "end") (codes "20000" ∷ []) refl, end_said cpus, le-ltb 20000 s.tick back) refl

-- ---- line after line

line_read : (b : Bench) (s : Standing) (n : ℕ) (line : List ℕ) (lines : List (List ℕ)) (e : Entry) (r : DeviceRecord) → entry_at b s n line ≡ Ok e
    → record_after b (standing_after s e) (n + 1) lines ≡ Ok r → record_after b s n (line ∷ lines) ≡ Ok (with_entry e r)
unfolding record_after
line_read b s n line lines e r h k =
    ap (λ (x : Result Entry RecordFault). x >>= λ entry. record_after b (standing_after s entry) (n + 1) lines >>= λ more. Ok (with_entry entry more)) h
    ∙ ap (λ (x : Result DeviceRecord RecordFault). x >>= λ more. Ok (with_entry e more)) k

-- so many numbers from j on
abbrev up_from : ℕ → ℕ → List ℕ
up_from j zero = []
up_from j (suc k) = j ∷ up_from (j + 1) k

abbrev orders_at : ℕ → ℕ → List (ℕ × List ℕ)
orders_at cpus j = if j % 10 == 0 then (100 * j, descending cpus) ∷ [] else []

abbrev record_from : ℕ → List ℕ → DeviceRecord
record_from n js = record { end = 20000; inputs = flat_map (inputs_at n) js; orders = flat_map (orders_at (cpus_for n)) js }

end_read : (n : ℕ) (s : Standing) (number : ℕ) → Stands s 200 → record_after (bench (cpus_for n)) s number (record_end_line_text ∷ []) ≡ Ok (record_from n [])
unfolding record_after
end_read n s number h =
    line_read (bench (cpus_for n)) s number record_end_line_text [] (end_entry 20000) (record_from n []) (end_entry_read (cpus_for n) s number h.going h.tick) refl

after_input : (s : Standing) (j : ℕ) → Stands s j → Stands (record s { tick = 100 * j }) j
after_input s j h = record { going = h.going; tick = omega arith; fresh = h.fresh }

next : (s : Standing) (j : ℕ) → Stands s j → Stands s (j + 1)
next s j h = record { going = h.going; tick = let t = h.tick in omega arith; fresh = λ k le. h.fresh k (omega arith) }

apart : (j k : ℕ) → j + 1 ≤ k → (100 * j == 100 * k) ≡ false
apart j k le = grind (arith, nat_tests)

after_order : (s : Standing) (j : ℕ) (cpus : List ℕ) → Stands s j → Stands (standing_after s (order_entry (100 * j) cpus)) (j + 1)
after_order s j cpus h = record {
  going = h.going;
  tick = omega arith;
  fresh = λ k le.
      list_any-append (λ t. t == 100 * k) s.ordered (100 * j ∷ [])
      ∙ ap (λ b. b || ((100 * j == 100 * k) || false)) (h.fresh k (omega arith))
      ∙ ap (λ b. b || false) (apart j k le);
}

orders_read : (n j : ℕ) (s : Standing) (number : ℕ) (rest : List (List ℕ)) (r : DeviceRecord) → j ≤ 200 → Stands s j
    → ((x : Standing) (m : ℕ) → Stands x (j + 1) → record_after (bench (cpus_for n)) x m rest ≡ Ok r)
    → record_after (bench (cpus_for n)) s number (orders_in (cpus_for n) j ++ rest) ≡ Ok (record r { orders = orders_at (cpus_for n) j ++ r.orders })
orders_read n j s number rest r le h more =
    let cpus : ℕ = cpus_for n in
    elim (j % 10 == 0) as (λ b. record_after (bench cpus) s number ((if b then generated_order_line cpus (100 * j) ∷ [] else []) ++ rest) ≡ Ok (record r { orders = (if b then (100 * j, descending cpus) ∷ [] else []) ++ r.orders })) [
      | true ↦
          let e : Entry = order_entry (100 * j) (descending cpus) in
          line_read (bench cpus) s number (generated_order_line cpus (100 * j)) rest e r
          (order_entry_read cpus s number (100 * j) (is_order n) h.going h.tick (h.fresh j (omega arith)) (omega arith))
          (more (standing_after s e) (number + 1) (after_order s j (descending cpus) h))
      | false ↦ more s number (next s j h)
    ]

all_read : (n k j : ℕ) (s : Standing) (number : ℕ) → j + k ≡ 200 → Stands s j
    → record_after (bench (cpus_for n)) s number (flat_map (lines_in n) (up_from j k) ++ record_end_line_text ∷ []) ≡ Ok (record_from n (up_from j k))
all_read n zero j s number e h = let last : j ≡ 200 = omega arith in end_read n s number (rw last at h)
all_read n (suc k) j s number e h =
    let cpus : ℕ = cpus_for n in
    let value : ℕ = (j + n) % 256 in
    let after : Standing = record s { tick = 100 * j } in
    let stands = after_input s j h in
    let rest : List (List ℕ) = flat_map (lines_in n) (up_from (j + 1) k) in
    let r : DeviceRecord = record_from n (up_from (j + 1) k) in
    let port : Entry = input_entry (100 * j) (port_input (codes "dev") 16 value) in
    let irq : Entry = input_entry (100 * j) (irq_input (codes "dev") (codes "t")) in
    let orders : DeviceRecord = record r { orders = orders_at cpus j ++ r.orders } in
    ap (λ ls. record_after (bench cpus) s number (generated_port_line (100 * j) value ∷ irq_line_text (100 * j) ∷ ls)) (append_assoc (orders_in cpus j) rest (record_end_line_text ∷ []))
    ∙ line_read (bench cpus) s number (generated_port_line (100 * j) value) (irq_line_text (100 * j) ∷ (orders_in cpus j ++ (rest ++ record_end_line_text ∷ []))) port (with_entry irq orders)
    (port_entry cpus s number (100 * j) value h.going h.tick (omega arith) (omega arith))
    (line_read (bench cpus) after (number + 1) (irq_line_text (100 * j)) (orders_in cpus j ++ (rest ++ record_end_line_text ∷ [])) irq orders
    (irq_entry cpus after (number + 1) (100 * j) stands.going stands.tick (omega arith))
    (orders_read n j after (number + 1 + 1) (rest ++ record_end_line_text ∷ []) r (omega arith) stands (λ x m g. all_read n k (j + 1) x m (omega arith) g)))

-- ---- what the lines are made of

orders_plain : (n j : ℕ) → j < 200 → list_all is_plain (orders_in (cpus_for n) j) ≡ true
orders_plain n j less =
    let cpus : ℕ = cpus_for n in
    elim (j % 10 == 0) as (λ b. list_all is_plain (if b then generated_order_line cpus (100 * j) ∷ [] else []) ≡ true) [
      | true ↦ and_from (is_plain (generated_order_line cpus (100 * j))) true (line_plain (codes "order") (decimal (100 * j) ∷ map decimal (descending cpus)) (order_words cpus (100 * j) (is_order n) (omega arith))) refl
      | false ↦ refl
    ]

lines_plain : (n j : ℕ) → j < 200 → list_all is_plain (lines_in n j) ≡ true
lines_plain n j less =
    let value : ℕ = (j + n) % 256 in
    let orders : List (List ℕ) = orders_in (cpus_for n) j in
    and_from (is_plain (generated_port_line (100 * j) value)) (is_plain (irq_line_text (100 * j)) && list_all is_plain orders)
    (line_plain (codes "port") (decimal (100 * j) ∷ codes "dev" ∷ codes "16" ∷ decimal value ∷ []) (port_words (100 * j) value (omega arith) (omega arith)))
    (and_from (is_plain (irq_line_text (100 * j))) (list_all is_plain orders)
    (line_plain (codes "irq") (decimal (100 * j) ∷ codes "dev" ∷ codes "t" ∷ []) (irq_words (100 * j) (omega arith)))
    (orders_plain n j less))

all_plain : (n k j : ℕ) → j + k ≡ 200 → list_all is_plain (flat_map (lines_in n) (up_from j k)) ≡ true
all_plain n zero j e = refl
all_plain n (suc k) j e =
    list_all-append is_plain (lines_in n j) (flat_map (lines_in n) (up_from (j + 1) k))
    ∙ and_from (list_all is_plain (lines_in n j)) (list_all is_plain (flat_map (lines_in n) (up_from (j + 1) k))) (lines_plain n j (omega arith)) (all_plain n k (j + 1) (omega arith))

numbers_are : numbers_below 200 ≡ up_from 0 200
numbers_are = refl

lines_are : (n : ℕ) → record_lines n ≡ flat_map (lines_in n) (up_from 0 200) ++ record_end_line_text ∷ []
unfolding record_lines
lines_are n = ap (λ js. flat_map (lines_in n) js ++ record_end_line_text ∷ []) numbers_are

record_plain : (n : ℕ) → list_all is_plain (record_lines n) ≡ true
record_plain n =
    ap (list_all is_plain) (lines_are n)
    ∙ list_all-append is_plain (flat_map (lines_in n) (up_from 0 200)) (record_end_line_text ∷ [])
    ∙ and_from (list_all is_plain (flat_map (lines_in n) (up_from 0 200))) (list_all is_plain (record_end_line_text ∷ [])) (all_plain n 200 0 refl) refl

-- ---- the whole

orders_are : (cpus : ℕ) → flat_map (orders_at cpus) (up_from 0 200) ≡ map (λ k. (1000 * k, descending cpus)) (numbers_below 20)
orders_are cpus = refl

record_is : (n : ℕ) → record_from n (up_from 0 200) ≡ generated_record n
unfolding generated_record
record_is n =
    ap₂ (λ inputs orders. record { end = 20000; inputs = inputs; orders = orders }) (ap (flat_map (inputs_at n)) (sym numbers_are)) (orders_are (cpus_for n))

pub record_read : (n : ℕ) → record_of (record_text n) (bench (cpus_for n)) ≡ Ok (generated_record n)
unfolding record_of record_text
record_read n =
    let plain = record_plain n in
    let start : Stands at_start 0 = record { going = refl; tick = omega arith; fresh = λ k le. refl } in
    ap (λ ls. all_ascii 1 ls >> record_after (bench (cpus_for n)) at_start 1 ls) (lines_back (record_lines n) plain)
    ∙ ap (λ r. r >> record_after (bench (cpus_for n)) at_start 1 (record_lines n)) (ascii_lines 1 (record_lines n) plain)
    ∙ ap (record_after (bench (cpus_for n)) at_start 1) (lines_are n)
    ∙ all_read n 200 0 at_start 1 refl start
    ∙ ap (λ r. Ok r) (record_is n)
