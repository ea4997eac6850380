-- Every record that is read keeps the law.
use Rattle.std.proofs.Common.{◌≡◌, ℕ, zero, suc, ◌+◌, ◌<◌, ◌≤◌, Bool, true, false, cond, List, [], ◌∷◌, length, map, get_or, Option, Some, None, Result, Ok, Err, IsTrue, is_some, find, option_and_then, option_map, unwrap_or, nat_lt, nat_le, refl, sym, ap, ◌∙◌, add-one, arith}
use Rattle.std.specs.Prelude.{◌==◌, ◌&&◌, if◌then◌else◌}
use Rattle.std.specs.List.{AllByRecursion, list_any, position_or_len}
use Rattle.std.specs.List.Sorted.{IsNonDecreasing, IsStrictlyIncreasing}
use Rattle.std.specs.Str.{bytes_eq}
use Rattle.std.proofs.lemmas.Bool.{and_from, or_parts, eqb-false, eq-eqb, le-leb, leb-true, or_left, or_right}
use Rattle.std.proofs.lemmas.Bool.Decides.{nat_tests}
use Rattle.std.proofs.lemmas.List.Elements.{All-from_recursion}
use Rattle.std.proofs.lemmas.List.Folds.{list_any-append}
use Rattle.muen_num.specs.declared.limits.TheConstants.{GUEST_END, MOST_TICKS}
use Rattle.record_text.specs.Bench.{Bench, bench_of, is_known}
use Rattle.record_text.specs.DeviceRecord.{DeviceRecord, NamedInput, port_input, memory_input, irq_input, dma_input}
use Rattle.record_text.specs.Law.{IsInputOf, IsRecordOf, NamesEachOnce, is_target}
use Rattle.record_text.specs.Made.{RisesTo}
use Rattle.record_text.specs.Resolving.{bytes_in, irq_of, is_in_span, memory_of, order_at, resolved, resolved_at, resolved_input, port_of, raised}
use Rattle.record_text.specs.Reading.{Standing, all_ascii, at_start, entry_at, nothing_until, record_after, record_of, standing_after, with_entry}
use Rattle.text_words.specs.Steps.{◌>>=◌, mapped}
use Rattle.record_text.specs.Table.{Entry, input_entry, order_entry, end_entry, entry_tick}
use Rattle.text_words.specs.Parts.{lines_of}
use Rattle.record_text.specs.declared.devices.RecordDevice.{RecordDevice}
use Rattle.record_text.specs.declared.devices.Devices.{Devices}
use Rattle.record_text.specs.declared.devices.RecordIrq.{RecordIrq}
use Rattle.muen_num.specs.declared.devices.IrqTarget.{IrqTarget}
use Rattle.record_text.specs.declared.devices.RecordMemory.{RecordMemory}
use Rattle.record_text.specs.declared.fault.RecordFault.{RecordFault}
use Rattle.record_text.specs.declared.fault.RecordFault.TheVariants.{NoEnd}
use Rattle.record_text.specs.declared.record.Input.TheVariants.{Port, Mem, Idle, Dma}
use Rattle.record_text.specs.declared.record.Input.{Input}
use Rattle.record_text.specs.declared.record.Record.{Record}
use Rattle.record_text.proofs.Lines.{known_is}
use Rattle.record_text.proofs.Rules.{IsFew, IsInput, IsRuled, entry_at-Ok, passed, then_ok}

-- ---- ticks that never fall

abbrev NeverFalls : {X : Type 0} → ℕ → ℕ → List (ℕ × X) → Type 0
NeverFalls low high [] = low ≤ high
NeverFalls low high (e ∷ es) = (low ≤ e.0) × NeverFalls e.0 high es

NeverFalls-lower : {X : Type 0} (low at high : ℕ) (es : List (ℕ × X)) → low ≤ at → NeverFalls at high es → NeverFalls low high es
NeverFalls-lower low at high [] le h = omega (arith, h)
NeverFalls-lower low at high (e ∷ es) le h = (omega (arith, h.0), h.1)

NeverFalls-ends : {X : Type 0} (low high : ℕ) (es : List (ℕ × X)) → NeverFalls low high es → low ≤ high
NeverFalls-ends low high [] h = h
NeverFalls-ends low high (e ∷ es) h = let later = NeverFalls-ends e.0 high es h.1 in omega (arith, h.0, later)

within_end : {X : Type 0} (low high : ℕ) (es : List (ℕ × X)) → NeverFalls low high es → AllByRecursion (λ e. e.0 ≤ high) es
within_end low high [] h = tt
within_end low high (e ∷ es) h = (NeverFalls-ends e.0 high es h.1, within_end e.0 high es h.1)

from_low : {X : Type 0} (low high : ℕ) (es : List (ℕ × X)) (k d : ℕ) → NeverFalls low high es → k < length (map (λ e. e.0) es) → low ≤ get_or (map (λ e. e.0) es) k d
from_low low high [] k d h l = absurd (omega arith)
from_low low high (e ∷ es) zero d h l = h.0
from_low low high (e ∷ es) (suc k) d h l = let later = from_low e.0 high es k d h.1 (omega arith) in omega (arith, h.0, later)

never_falling : {X : Type 0} (low high : ℕ) (es : List (ℕ × X)) → NeverFalls low high es → IsNonDecreasing (map (λ e. e.0) es)
never_falling low high [] h i j d le l = absurd (omega arith)
never_falling low high (e ∷ es) h zero zero d le l = omega arith
never_falling low high (e ∷ es) h zero (suc j) d le l = from_low e.0 high es j d h.1 (omega arith)
never_falling low high (e ∷ es) h (suc i) zero d le l = absurd (omega arith)
never_falling low high (e ∷ es) h (suc i) (suc j) d le l = never_falling e.0 high es h.1 i j d (omega arith) (omega arith)

-- ---- ticks that rise

rising : (most : ℕ) (ts : List ℕ) → RisesTo most ts → IsStrictlyIncreasing ts
rising most [] h k l = absurd (omega arith)
rising most (t ∷ []) h k l = absurd (omega arith)
rising most (t ∷ u ∷ ts) h zero l = h.0
rising most (t ∷ u ∷ ts) h (suc k) l = let later = rising most (u ∷ ts) h.1 k (omega arith) in rw add-one (rw add-one at later)

at_most : {X : Type 0} (most : ℕ) (es : List (ℕ × X)) → RisesTo most (map (λ e. e.0) es) → AllByRecursion (λ e. e.0 ≤ most) es
at_most most [] h = tt
at_most most (e ∷ []) h = (h, tt)
at_most most (e ∷ f ∷ es) h = let later = at_most most (f ∷ es) h.1 in (omega (arith, h.0, later.0), later)

-- ---- what the lines that remain say

abbrev InputHolds : Bench → NamedInput → Type 0
InputHolds bench input = IsTrue (is_known bench input) × IsInput input

pub record OrderHolds (bench : Bench) (s : Standing) (order : ℕ × List ℕ) : Type 0 where
  pub from : s.tick ≤ order.0
  pub only : list_any (λ t. t == order.0) s.ordered ≡ false
  pub each : NamesEachOnce bench.cpus order.1

pub record Holds (bench : Bench) (s : Standing) (r : DeviceRecord) : Type 0 where
  pub inputs : NeverFalls s.tick r.end r.inputs
  pub known : AllByRecursion (λ e. InputHolds bench e.1) r.inputs
  pub rise : RisesTo r.end (map (λ o. o.0) r.orders)
  pub orders : AllByRecursion (OrderHolds bench s) r.orders
  pub limit : s.tick ≤ MOST_TICKS → r.end ≤ MOST_TICKS

all_weaker : {X : Type 0} (P Q : X → Type 0) (xs : List X) → ((x : X) → P x → Q x) → AllByRecursion P xs → AllByRecursion Q xs
all_weaker P Q [] f h = tt
all_weaker P Q (x ∷ xs) f h = (f x h.0, all_weaker P Q xs f h.1)

-- an order that comes later is new for what stood before too
later_order : (bench : Bench) (s : Standing) (e : Entry) (o : ℕ × List ℕ) → s.tick ≤ entry_tick e → OrderHolds bench (standing_after s e) o → OrderHolds bench s o
later_order bench s (input_entry tick input) o le h = let from = h.from in record { from = omega (arith, le, from); only = h.only; each = h.each }
later_order bench s (order_entry tick cpus) o le h =
    let from = h.from in
    let both = or_parts (list_any (λ t. t == o.0) s.ordered) (list_any (λ t. t == o.0) (tick ∷ [])) (sym (list_any-append (λ t. t == o.0) s.ordered (tick ∷ [])) ∙ h.only) in
    record { from = omega (arith, le, from); only = both.0; each = h.each }
later_order bench s (end_entry tick) o le h = let from = h.from in record { from = omega (arith, le, from); only = h.only; each = h.each }

-- an order is before those that come later
above_order : (bench : Bench) (s : Standing) (tick end : ℕ) (cpus : List ℕ) (orders : List (ℕ × List ℕ)) → tick ≤ end → AllByRecursion (OrderHolds bench (standing_after s (order_entry tick cpus))) orders
    → RisesTo end (map (λ o. o.0) orders) → RisesTo end (tick ∷ map (λ o. o.0) orders)
above_order bench s tick end cpus [] le all h = le
above_order bench s tick end cpus (o ∷ orders) le all h =
    let from = all.0.from in
    let both = or_parts (list_any (λ t. t == o.0) s.ordered) (list_any (λ t. t == o.0) (tick ∷ [])) (sym (list_any-append (λ t. t == o.0) s.ordered (tick ∷ [])) ∙ all.0.only) in
    let other = eqb-false tick o.0 (or_parts (tick == o.0) false both.1).0 in
    (omega (arith, from, other), h)

holds_with : (bench : Bench) (s : Standing) (e : Entry) (r : DeviceRecord) → IsRuled bench s e → Holds bench (standing_after s e) r → Holds bench s (with_entry e r)
holds_with bench s (input_entry tick input) r ruled h = record {
  inputs = (ruled.forward, h.inputs);
  known = ((ruled.known, ruled.within.1), h.known);
  rise = h.rise;
  orders = all_weaker (OrderHolds bench (standing_after s (input_entry tick input))) (OrderHolds bench s) r.orders (λ o. later_order bench s (input_entry tick input) o ruled.forward) h.orders;
  limit = λ le. h.limit ruled.within.0;
}
holds_with bench s (order_entry tick cpus) r ruled h =
    let ends = NeverFalls-ends tick r.end r.inputs h.inputs in
    let each : NamesEachOnce bench.cpus cpus = record { count = ruled.within.1.count; below = ruled.within.1.below; distinct = ruled.order.distinct } in
    record {
      inputs = NeverFalls-lower s.tick tick r.end r.inputs ruled.forward h.inputs;
      known = h.known;
      rise = above_order bench s tick r.end cpus r.orders ends h.orders h.rise;
      orders = (
        record { from = ruled.forward; only = ruled.order.only; each = each },
        all_weaker (OrderHolds bench (standing_after s (order_entry tick cpus))) (OrderHolds bench s) r.orders (λ o. later_order bench s (order_entry tick cpus) o ruled.forward) h.orders,
      );
      limit = λ le. h.limit ruled.within.0;
    }
holds_with bench s (end_entry tick) r ruled h = record {
  inputs = NeverFalls-lower s.tick tick r.end r.inputs ruled.forward h.inputs;
  known = h.known;
  rise = h.rise;
  orders = all_weaker (OrderHolds bench (standing_after s (end_entry tick))) (OrderHolds bench s) r.orders (λ o. later_order bench s (end_entry tick) o ruled.forward) h.orders;
  limit = λ le. h.limit ruled.within;
}

holds_none : (bench : Bench) (s : Standing) (n : ℕ) (b : Bool) (r : DeviceRecord) → (if b then Ok (nothing_until s.tick) else Err (NoEnd n)) ≡ Ok r → Holds bench s r
holds_none bench s n true r h =
    let same : nothing_until s.tick ≡ r = cc in
    let none : Holds bench s (nothing_until s.tick) = record { inputs = omega arith; known = tt; rise = tt; orders = tt; limit = λ le. le } in
    rw same at none
holds_none bench s n false r h = cc

holds_after : (bench : Bench) (s : Standing) (n : ℕ) (lines : List (List ℕ)) (r : DeviceRecord) → record_after bench s n lines ≡ Ok r → Holds bench s r
unfolding record_after
holds_after bench s n [] r h = holds_none bench s n s.ended r h
holds_after bench s n (line ∷ lines) r h =
    let first = then_ok (entry_at bench s n line) (λ e. record_after bench (standing_after s e) (n + 1) lines >>= λ more. Ok (with_entry e more)) r h in
    let rest = then_ok (record_after bench (standing_after s first.0) (n + 1) lines) (λ more. Ok (with_entry first.0 more)) r first.2 in
    let whole : with_entry first.0 rest.0 ≡ r = cc (rest.2) in
    let more = holds_with bench s first.0 rest.0 (entry_at-Ok bench s n line first.0 first.1) (holds_after bench (standing_after s first.0) (n + 1) lines rest.0 rest.1) in
    rw whole at more

-- ---- what is found lies among the devices

found_any : {X : Type 0} (p q : X → Bool) (xs : List X) (x : X) → find p xs ≡ Some x → q x ≡ true → list_any q xs ≡ true
found_any p q [] x h t = cc
found_any p q (y ∷ xs) x h t =
    elim (p y) as (λ b. cond b (Some y) (find p xs) ≡ Some x → list_any q (y ∷ xs) ≡ true) [
      | true ↦ λ e. let same : y ≡ x = cc in or_left (q y) (list_any q xs) (ap q same ∙ t)
      | false ↦ λ e. or_right (q y) (list_any q xs) (found_any p q xs x e t)
    ] h

port_fits : (devices : Devices) (name : List ℕ) (port value : ℕ) (o : Option RecordDevice) → find (λ d. bytes_eq d.name name) devices.devices ≡ o → value < 256
    → is_some (option_and_then (port_of port value) o) ≡ true → IsInputOf devices (unwrap_or (option_and_then (port_of port value) o) Idle)
port_fits devices name port value None e less h = cc
port_fits devices name port value (Some d) e less h =
    elim (list_any (is_in_span port) d.ports) as (λ b. list_any (is_in_span port) d.ports ≡ b → is_some (if b then Some (Port port value) else None) ≡ true
    → IsInputOf devices (unwrap_or (if b then Some (Port port value) else None) Idle)) [
      | true ↦ λ has t. (found_any (λ d. bytes_eq d.name name) (λ d. list_any (is_in_span port) d.ports) devices.devices d e has, less)
      | false ↦ λ has t. cc
    ] refl h

bytes_fit : (devices : Devices) (name memory : List ℕ) (offset : ℕ) (bytes : List ℕ) (d : RecordDevice) (o : Option RecordMemory)
    → find (λ d. bytes_eq d.name name) devices.devices ≡ Some d → find (λ m. bytes_eq m.name memory) d.memories ≡ o → IsFew bytes
    → is_some (option_and_then (bytes_in offset bytes) o) ≡ true → IsInputOf devices (unwrap_or (option_and_then (bytes_in offset bytes) o) Idle)
bytes_fit devices name memory offset bytes d None e f few h = cc
bytes_fit devices name memory offset bytes d (Some m) e f few h =
    elim (nat_le (offset + length bytes) m.bytes) as (λ b. nat_le (offset + length bytes) m.bytes ≡ b → is_some (if b then Some (Mem (m.address + offset) bytes) else None) ≡ true
    → IsInputOf devices (unwrap_or (if b then Some (Mem (m.address + offset) bytes) else None) Idle)) [
      | true ↦ λ fits t.
          let le = leb-true (offset + length bytes) m.bytes fits in
          let here = and_from (nat_le m.address (m.address + offset)) (nat_le (m.address + offset + length bytes) (m.address + m.bytes)) (le-leb m.address (m.address + offset) (omega arith)) (le-leb (m.address + offset + length bytes) (m.address + m.bytes) (omega (arith, le))) in
          let within = found_any (λ m. bytes_eq m.name memory) (λ (w : RecordMemory). nat_le w.address (m.address + offset) && nat_le (m.address + offset + length bytes) (w.address + w.bytes)) d.memories m f here in
          (found_any (λ d. bytes_eq d.name name) (λ d. list_any (λ w. nat_le w.address (m.address + offset) && nat_le (m.address + offset + length bytes) (w.address + w.bytes)) d.memories) devices.devices d e within, few.some, few.few)
      | false ↦ λ fits t. cc
    ] refl h

memory_fits : (devices : Devices) (name memory : List ℕ) (offset : ℕ) (bytes : List ℕ) (o : Option RecordDevice) → find (λ d. bytes_eq d.name name) devices.devices ≡ o → IsFew bytes
    → is_some (option_and_then (memory_of memory offset bytes) o) ≡ true → IsInputOf devices (unwrap_or (option_and_then (memory_of memory offset bytes) o) Idle)
memory_fits devices name memory offset bytes None e few h = cc
memory_fits devices name memory offset bytes (Some d) e few h = bytes_fit devices name memory offset bytes d (find (λ m. bytes_eq m.name memory) d.memories) e refl few h

raised_fits : (devices : Devices) (name irq : List ℕ) (d : RecordDevice) (i : RecordIrq) (target : Option IrqTarget)
    → find (λ d. bytes_eq d.name name) devices.devices ≡ Some d → find (λ i. bytes_eq i.name irq) d.irqs ≡ Some i → i.target ≡ target → IsInputOf devices (raised target)
raised_fits devices name irq d i None e f g = tt
raised_fits devices name irq d i (Some t) e f g =
    let itself : is_target t.subject t.vector (Some t) ≡ true = and_from (t.subject == t.subject) (t.vector == t.vector) (eq-eqb t.subject t.subject refl) (eq-eqb t.vector t.vector refl) in
    let here : is_target t.subject t.vector i.target ≡ true = ap (is_target t.subject t.vector) g ∙ itself in
    let within = found_any (λ i. bytes_eq i.name irq) (λ (i : RecordIrq). is_target t.subject t.vector i.target) d.irqs i f here in
    found_any (λ d. bytes_eq d.name name) (λ d. list_any (λ i. is_target t.subject t.vector i.target) d.irqs) devices.devices d e within

irq_found : (devices : Devices) (name irq : List ℕ) (d : RecordDevice) (o : Option RecordIrq) → find (λ d. bytes_eq d.name name) devices.devices ≡ Some d → find (λ i. bytes_eq i.name irq) d.irqs ≡ o
    → IsInputOf devices (unwrap_or (option_map (λ i. raised i.target) o) Idle)
irq_found devices name irq d None e f = tt
irq_found devices name irq d (Some i) e f = raised_fits devices name irq d i i.target e f refl

irq_fits : (devices : Devices) (name irq : List ℕ) (o : Option RecordDevice) → find (λ d. bytes_eq d.name name) devices.devices ≡ o → IsInputOf devices (unwrap_or (option_and_then (irq_of irq) o) Idle)
irq_fits devices name irq None e = tt
irq_fits devices name irq (Some d) e = irq_found devices name irq d (find (λ i. bytes_eq i.name irq) d.irqs) e refl

dma_fits : (devices : Devices) (addr : ℕ) (bytes : List ℕ) (at n : ℕ) → addr < GUEST_END → IsFew bytes → n ≡ length devices.devices
    → IsInputOf devices (unwrap_or (option_map (λ number. Dma number addr bytes) (cond (nat_lt at n) (Some at) None)) Idle)
dma_fits devices addr bytes at n less few e =
    elim (nat_lt at n) as (λ b. nat_lt at n ≡ b → IsInputOf devices (unwrap_or (option_map (λ number. Dma number addr bytes) (cond b (Some at) None)) Idle)) [
      | true ↦ λ t. let below : at < n = grind (arith, nat_tests) in (omega (arith, below, e), less, few.some, few.few)
      | false ↦ λ t. tt
    ] refl

input_fits : (devices : Devices) (input : NamedInput) → InputHolds (bench_of devices) input → IsInputOf devices (unwrap_or (resolved_input devices input) Idle)
input_fits devices (port_input device port value) h =
    port_fits devices device port value (find (λ d. bytes_eq d.name device) devices.devices) refl h.1 (sym (known_is devices (port_input device port value)) ∙ h.0)
input_fits devices (memory_input device memory offset bytes) h =
    memory_fits devices device memory offset bytes (find (λ d. bytes_eq d.name device) devices.devices) refl h.1 (sym (known_is devices (memory_input device memory offset bytes)) ∙ h.0)
input_fits devices (irq_input device irq) h = irq_fits devices device irq (find (λ d. bytes_eq d.name device) devices.devices) refl
input_fits devices (dma_input device addr bytes) h =
    dma_fits devices addr bytes (position_or_len (λ d. bytes_eq d.name device) devices.devices) (length devices.devices) h.1.0 h.1.1 refl

-- ---- the record by addresses and numbers

input_ticks : (devices : Devices) (es : List (ℕ × NamedInput)) → map (λ i. i.tick) (map (resolved_at devices) es) ≡ map (λ e. e.0) es
input_ticks devices [] = refl
input_ticks devices (e ∷ es) = ap (λ ts. e.0 ∷ ts) (input_ticks devices es)

order_ticks : (os : List (ℕ × List ℕ)) → map (λ o. o.tick) (map order_at os) ≡ map (λ o. o.0) os
order_ticks [] = refl
order_ticks (o ∷ os) = ap (λ ts. o.0 ∷ ts) (order_ticks os)

all_map : {X Y : Type 0} (P : X → Type 0) (Q : Y → Type 0) (f : X → Y) → ((x : X) → P x → Q (f x)) → (xs : List X) → AllByRecursion P xs → AllByRecursion Q (map f xs)
all_map P Q f g [] h = tt
all_map P Q f g (x ∷ xs) h = (g x h.0, all_map P Q f g xs h.1)

resolved_lawful : (devices : Devices) (r : DeviceRecord) → Holds (bench_of devices) at_start r → IsRecordOf devices (resolved devices r)
resolved_lawful devices r h = record {
  ticks = h.limit (omega arith);
  inputs_in_order = rw (input_ticks devices r.inputs) (never_falling 0 r.end r.inputs h.inputs);
  inputs_by_end = All-from_recursion _ _ (all_map (λ e. e.0 ≤ r.end) (λ i. i.tick ≤ r.end) (resolved_at devices) (λ e le. le) r.inputs (within_end 0 r.end r.inputs h.inputs));
  inputs_fit = All-from_recursion _ _ (all_map (λ e. InputHolds (bench_of devices) e.1) (λ i. IsInputOf devices i.input) (resolved_at devices) (λ e. input_fits devices e.1) r.inputs h.known);
  orders_rise = rw (order_ticks r.orders) (rising r.end (map (λ o. o.0) r.orders) h.rise);
  orders_by_end = All-from_recursion _ _ (all_map (λ o. o.0 ≤ r.end) (λ o. o.tick ≤ r.end) order_at (λ o le. le) r.orders (at_most r.end r.orders h.rise));
  orders_name_each = All-from_recursion _ _ (all_map (OrderHolds (bench_of devices) at_start) (λ o. NamesEachOnce devices.cpus o.cpus) order_at (λ o holds. holds.each) r.orders h.orders);
}

record_lawful : (devices : Devices) (text : List ℕ) (r : DeviceRecord) → record_of text (bench_of devices) ≡ Ok r → IsRecordOf devices (resolved devices r)
unfolding record_of
record_lawful devices text r h =
    let lines = passed (all_ascii 1 (lines_of text)) (record_after (bench_of devices) at_start 1 (lines_of text)) r h in
    resolved_lawful devices r (holds_after (bench_of devices) at_start 1 (lines_of text) r lines.1)

from_mapped : (devices : Devices) (s : Result DeviceRecord RecordFault) (x : Record Input) → ((r : DeviceRecord) → s ≡ Ok r → IsRecordOf devices (resolved devices r)) → mapped (resolved devices) s ≡ Ok x → IsRecordOf devices x
from_mapped devices (Ok r) x law h = let same : resolved devices r ≡ x = cc in rw same at (law r refl)
from_mapped devices (Err fault) x law h = cc

pub read_lawful : (devices : Devices) (text : List ℕ) (x : Record Input) → mapped (resolved devices) (record_of text (bench_of devices)) ≡ Ok x → IsRecordOf devices x
read_lawful devices text x h = from_mapped devices (record_of text (bench_of devices)) x (λ r. record_lawful devices text r) h

pub ruleset lawful = (read_lawful)
