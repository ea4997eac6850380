-- The devices of an image that a record may name give its bench and its records.
use Rattle.std.proofs.Common.{◌≡◌, ℕ, ◌+◌, ◌<◌, ◌^◌, Bool, true, false, cond, List, [], ◌∷◌, length, map, Option, Some, None, Result, Ok, Err, IfOk, find, position, option_and_then, option_map, unwrap_or, nat_lt, nat_le, refl, sym, ap, ap₂, ◌∙◌, arith}
use Rattle.std.specs.Prelude.{◌&&◌, ◌||◌, not, if◌then◌else◌}
use Rattle.std.specs.List.{AllZip, list_any, position_or_len}
use Rattle.std.specs.Str.{bytes_eq}
use Rattle.std.proofs.lemmas.Bool.{and_parts, leb-true}
use Rattle.std.proofs.lemmas.Slice.Zip.{AllZip-long}
use Rattle.image_pack.specs.declared.parts.DevicePart.{DevicePart}
use Rattle.image_pack.specs.declared.parts.Image.{Image}
use Rattle.image_pack.specs.declared.parts.IrqPart.{IrqPart}
use Rattle.image_pack.specs.declared.parts.SpanPart.{SpanPart}
use Rattle.record_text.specs.Bench.{BenchDevice, bench_device, bench_of}
use Rattle.record_text.specs.DeviceRecord.{DeviceRecord, NamedInput, port_input, memory_input, irq_input, dma_input}
use Rattle.record_text.specs.Law.{IsInputOf, IsLowWrite, IsOrderly, IsRecordOf}
use Rattle.record_text.specs.Resolving.{bytes_in, irq_of, is_in_span, memory_of, order_at, resolved, resolved_at, resolved_input, port_of, raised}
use Rattle.record_text.specs.Reading.{record_of}
use Rattle.record_text.specs.Steps.{mapped}
use Rattle.record_text.specs.declared.devices.RecordDevice.{RecordDevice}
use Rattle.record_text.specs.declared.devices.Devices.{Devices}
use Rattle.record_text.specs.declared.devices.RecordIrq.{RecordIrq}
use Rattle.record_text.specs.declared.devices.RecordMemory.{RecordMemory}
use Rattle.muen_num.specs.declared.devices.PortSpan.{PortSpan}
use Rattle.muen_num.proofs.Lists.{find-map, map_same}
use Rattle.record_text.specs.declared.fault.RecordFault.{RecordFault}
use Rattle.record_text.specs.declared.record.Input.{Input}
use Rattle.record_text.specs.declared.record.Input.TheVariants.{Port, Mem, Irq, Idle, Dma}
use Rattle.record_text.specs.declared.record.Record.{Record}
use Rattle.image_load.specs.RecordDevices.{HasDevices, IsRecordDevice, named_memory, record_irq}
use Rattle.image_load.specs.Resolving.{bench_device_of, bytes_into, image_bench, image_record, image_input_of, irq_input_of, named_memories_of, memory_input_of, port_input_of, tick_input_of}

-- ---- lists side by side

abbrev ArePaired : {A B : Type 0} → (A → B → Type 0) → Option A → Option B → Type 0
ArePaired R None None = Unit {0}
ArePaired R None (Some y) = ⊥
ArePaired R (Some x) None = ⊥
ArePaired R (Some x) (Some y) = R x y

found_paired : {A B : Type 0} (R : A → B → Type 0) (p : A → Bool) (q : B → Bool) → ((x : A) (y : B) → R x y → q y ≡ p x) → (xs : List A) (ys : List B) → AllZip R xs ys → ArePaired R (find p xs) (find q ys)
found_paired R p q same [] [] h = tt
found_paired R p q same [] (y ∷ ys) h = absurd h
found_paired R p q same (x ∷ xs) [] h = absurd h
found_paired R p q same (x ∷ xs) (y ∷ ys) h =
    rw (same x y h.0) (
    elim (p x) as (λ b. ArePaired R (cond b (Some x) (find p xs)) (cond b (Some y) (find q ys))) [
      | true ↦ h.0
      | false ↦ found_paired R p q same xs ys h.1
    ]
    )

first_paired : {A B : Type 0} (R : A → B → Type 0) (p : A → Bool) (q : B → Bool) → ((x : A) (y : B) → R x y → q y ≡ p x) → (xs : List A) (ys : List B) → AllZip R xs ys → position_or_len q ys ≡ position_or_len p xs
first_paired R p q same [] [] h = refl
first_paired R p q same [] (y ∷ ys) h = absurd h
first_paired R p q same (x ∷ xs) [] h = absurd h
first_paired R p q same (x ∷ xs) (y ∷ ys) h = ap₂ (λ b n. cond (not b) (1 + n) 0) (same x y h.0) (first_paired R p q same xs ys h.1)

position_paired : {A B : Type 0} (R : A → B → Type 0) (p : A → Bool) (q : B → Bool) → ((x : A) (y : B) → R x y → q y ≡ p x) → (xs : List A) (ys : List B) → AllZip R xs ys → position q ys ≡ position p xs
position_paired R p q same xs ys h =
    ap₂ (λ at n. cond (nat_lt at n) (Some at) None) (first_paired R p q same xs ys h) (AllZip-long R xs ys h)

then_paired : {A B C : Type 0} (R : A → B → Type 0) (f : A → Option C) (g : B → Option C) → ((x : A) (y : B) → R x y → g y ≡ f x) → (o : Option A) (r : Option B) → ArePaired R o r → option_and_then g r ≡ option_and_then f o
then_paired R f g same None None h = refl
then_paired R f g same None (Some y) h = absurd h
then_paired R f g same (Some x) None h = absurd h
then_paired R f g same (Some x) (Some y) h = same x y h

map_paired : {A B C : Type 0} (R : A → B → Type 0) (f : A → C) (g : B → C) → ((x : A) (y : B) → R x y → g y ≡ f x) → (xs : List A) (ys : List B) → AllZip R xs ys → map g ys ≡ map f xs
map_paired R f g same [] [] h = refl
map_paired R f g same [] (y ∷ ys) h = absurd h
map_paired R f g same (x ∷ xs) [] h = absurd h
map_paired R f g same (x ∷ xs) (y ∷ ys) h = ap₂ (λ z zs. z ∷ zs) (same x y h.0) (map_paired R f g same xs ys h.1)

map-map : {X Y Z : Type 0} (f : X → Y) (g : Y → Z) (xs : List X) → map g (map f xs) ≡ map (λ x. g (f x)) xs
map-map f g [] = refl
map-map f g (x ∷ xs) = ap (λ zs. g (f x) ∷ zs) (map-map f g xs)

-- ---- one device

ports_same : (spans : List SpanPart) (port value : ℕ) (d : DevicePart) (p : RecordDevice) → IsRecordDevice spans d p → port_of port value p ≡ port_input_of port value d
ports_same spans port value d p h =
    ap (λ b. if b then Some (Port port value) else None) (ap (list_any (is_in_span port)) h.ports)

bytes_same : (offset : ℕ) (bytes : List ℕ) (o : Option RecordMemory) → option_and_then (bytes_in offset bytes) o ≡ option_and_then (bytes_into offset bytes) (option_map named_memory o)
bytes_same offset bytes None = refl
bytes_same offset bytes (Some m) = refl

memories_same : (spans : List SpanPart) (memory : List ℕ) (offset : ℕ) (bytes : List ℕ) (d : DevicePart) (p : RecordDevice) → IsRecordDevice spans d p → memory_of memory offset bytes p ≡ memory_input_of spans memory offset bytes d
memories_same spans memory offset bytes d p h =
    bytes_same offset bytes (find (λ m. bytes_eq m.name memory) p.memories)
    ∙ ap (option_and_then (bytes_into offset bytes)) (sym (find-map (λ m. bytes_eq m.name memory) named_memory p.memories) ∙ ap (find (λ m. bytes_eq m.name memory)) h.memories)

found_raised : (o : Option IrqPart) → option_map (λ q. raised q.target) (option_map record_irq o) ≡ option_map (λ q. raised q.target) o
found_raised None = refl
found_raised (Some q) = refl

irqs_same : (spans : List SpanPart) (irq : List ℕ) (d : DevicePart) (p : RecordDevice) → IsRecordDevice spans d p → irq_of irq p ≡ irq_input_of irq d
irqs_same spans irq d p h =
    ap (λ qs. option_map (λ q. raised q.target) (find (λ q. bytes_eq q.name irq) qs)) h.irqs
    ∙ ap (option_map (λ q. raised q.target)) (find-map (λ q. bytes_eq q.name irq) record_irq d.irqs)
    ∙ found_raised (find (λ q. bytes_eq q.name irq) d.irqs)

abbrev device_made : List ℕ → List (ℕ × ℕ) → List (List ℕ × ℕ) → List (List ℕ) → BenchDevice
device_made name ports memories irqs = record { name = name; ports = ports; memories = memories; irqs = irqs }

made_same : {name name' : List ℕ} {ports ports' : List (ℕ × ℕ)} {memories memories' : List (List ℕ × ℕ)} {irqs irqs' : List (List ℕ)} → name ≡ name' → ports ≡ ports' → memories ≡ memories' → irqs ≡ irqs'
    → device_made name ports memories irqs ≡ device_made name' ports' memories' irqs'
made_same n p m q = cc

bench_same : (spans : List SpanPart) (d : DevicePart) (p : RecordDevice) → IsRecordDevice spans d p → bench_device p ≡ bench_device_of spans d
bench_same spans d p h =
    let ports : map (λ (r : PortSpan). (r.start, r.end)) p.ports ≡ map (λ r. (r.start, r.end)) d.ports = ap (map (λ r. (r.start, r.end))) h.ports in
    let memories : map (λ (m : RecordMemory). (m.name, m.bytes)) p.memories ≡ map (λ m. (m.name, m.bytes)) (named_memories_of spans d) =
    sym (map-map named_memory (λ m. (m.name, m.bytes)) p.memories) ∙ ap (map (λ m. (m.name, m.bytes))) h.memories in
    let irqs : map (λ (q : RecordIrq). q.name) p.irqs ≡ map (λ q. q.name) d.irqs = ap (map (λ q. q.name)) h.irqs ∙ map-map record_irq (λ q. q.name) d.irqs in
    made_same h.name ports memories irqs

-- ---- the whole

called_same : (spans : List SpanPart) (name : List ℕ) (d : DevicePart) (p : RecordDevice) → IsRecordDevice spans d p → bytes_eq p.name name ≡ bytes_eq d.name name
called_same spans name d p h = ap (λ n. bytes_eq n name) h.name

same_bench : (i : Image) (ds : Devices) → HasDevices i ds → bench_of ds ≡ image_bench i
same_bench i ds h =
    ap₂ (λ n bs. record { cpus = n; devices = bs }) h.cpus (map_paired (IsRecordDevice i.spans) (bench_device_of i.spans) bench_device (bench_same i.spans) i.devices ds.devices h.devices)

same_input : (i : Image) (ds : Devices) → HasDevices i ds → (input : NamedInput) → resolved_input ds input ≡ image_input_of i input
same_input i ds h (port_input device port value) =
    then_paired (IsRecordDevice i.spans) (port_input_of port value) (port_of port value) (ports_same i.spans port value) _ _ (found_paired (IsRecordDevice i.spans) (λ d. bytes_eq d.name device) (λ d. bytes_eq d.name device) (called_same i.spans device) i.devices ds.devices h.devices)
same_input i ds h (memory_input device memory offset bytes) =
    then_paired (IsRecordDevice i.spans) (memory_input_of i.spans memory offset bytes) (memory_of memory offset bytes) (memories_same i.spans memory offset bytes) _ _ (found_paired (IsRecordDevice i.spans) (λ d. bytes_eq d.name device) (λ d. bytes_eq d.name device) (called_same i.spans device) i.devices ds.devices h.devices)
same_input i ds h (irq_input device irq) =
    then_paired (IsRecordDevice i.spans) (irq_input_of irq) (irq_of irq) (irqs_same i.spans irq) _ _ (found_paired (IsRecordDevice i.spans) (λ d. bytes_eq d.name device) (λ d. bytes_eq d.name device) (called_same i.spans device) i.devices ds.devices h.devices)
same_input i ds h (dma_input device addr bytes) =
    ap (option_map (λ number. Dma number addr bytes)) (position_paired (IsRecordDevice i.spans) (λ d. bytes_eq d.name device) (λ d. bytes_eq d.name device) (called_same i.spans device) i.devices ds.devices h.devices)

same_tick : (i : Image) (ds : Devices) → HasDevices i ds → (e : ℕ × NamedInput) → resolved_at ds e ≡ tick_input_of i e
same_tick i ds h e = ap (λ o. record { tick = e.0; input = unwrap_or o Idle }) (same_input i ds h e.1)

same_record : (i : Image) (ds : Devices) → HasDevices i ds → (r : DeviceRecord) → resolved ds r ≡ image_record i r
same_record i ds h r =
    ap (λ is. record { end = r.end; inputs = is; orders = map order_at r.orders }) (map_same (resolved_at ds) (tick_input_of i) (same_tick i ds h) r.inputs)

mapped_same : {A B E : Type 0} (f g : A → B) → ((x : A) → f x ≡ g x) → (r : Result A E) → mapped f r ≡ mapped g r
mapped_same f g same (Ok x) = ap (λ y. Ok y) (same x)
mapped_same f g same (Err e) = refl

-- what is read for such devices is what is read for the image
pub same_reading : (i : Image) (ds : Devices) (bytes : List ℕ) → HasDevices i ds → mapped (resolved ds) (record_of bytes (bench_of ds)) ≡ mapped (image_record i) (record_of bytes (image_bench i))
same_reading i ds bytes h =
    ap (λ b. mapped (resolved ds) (record_of bytes b)) (same_bench i ds h) ∙ mapped_same (resolved ds) (image_record i) (same_record i ds h) (record_of bytes (image_bench i))

-- ---- a record of such devices is in order

from_any : {X : Type 0} (P : Type 0) (p : X → Bool) (xs : List X) → ((x : X) → p x ≡ true → P) → list_any p xs ≡ true → P
from_any P p [] gives h = absurd (cc)
from_any P p (x ∷ xs) gives h =
    elim (p x) as (λ b. p x ≡ b → (b || list_any p xs) ≡ true → P) [
      | true ↦ λ e t. gives x e
      | false ↦ λ e t. from_any P p xs gives t
    ] refl h

memory_low : (at count : ℕ) (m : RecordMemory) → (nat_le m.address at && nat_le (at + count) (m.address + m.bytes)) ≡ true → at + count < 2 ^ 64
memory_low at count m h =
    let within = leb-true (at + count) (m.address + m.bytes) (and_parts (nat_le m.address at) (nat_le (at + count) (m.address + m.bytes)) h).1 in
    let fits : m.address + m.bytes < 2 ^ 64 = m.fits in
    omega (arith, within, fits)

input_low : (ds : Devices) (input : Input) → IsInputOf ds input → IsLowWrite input
input_low ds (Port port value) h = tt
input_low ds (Mem at bytes) h =
    from_any (at + length bytes < 2 ^ 64) (λ d. list_any (λ m. nat_le m.address at && nat_le (at + length bytes) (m.address + m.bytes)) d.memories) ds.devices
    (λ d. from_any (at + length bytes < 2 ^ 64) (λ m. nat_le m.address at && nat_le (at + length bytes) (m.address + m.bytes)) d.memories (memory_low at (length bytes)))
    h.0
input_low ds (Irq subject vector) h = tt
input_low ds Idle h = tt
input_low ds (Dma device addr bytes) h = tt

orderly : (ds : Devices) (r : Record Input) → IsRecordOf ds r → IsOrderly r
orderly ds r h = record {
  inputs = h.inputs_in_order;
  orders = h.orders_rise;
  low = λ k d l. input_low ds _ (h.inputs_fit k d l);
}

pub read_orderly : (ds : Devices) (r : Result (Record Input) RecordFault) → IfOk r (IsRecordOf ds) → IfOk r IsOrderly
read_orderly ds (Ok r) h = orderly ds r h
read_orderly ds (Err e) h = tt
