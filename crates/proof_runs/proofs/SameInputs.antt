-- A record that is read for a sound image gives the machine the inputs and the orders that it gives the system.
use Rattle.std.proofs.Common.{◌≡◌, ◌+◌, ◌<◌, ◌∷◌, ◌∙◌, ℕ, Bool, true, false, cond, List, [], length, map, filter, Option, Some, None, is_some, find, position, option_and_then, option_map, unwrap_or, nat_le, refl, sym, ap, subst, arith}
use Rattle.std.specs.Prelude.{◌==◌, if◌then◌else◌}
use Rattle.std.specs.List.{All, AllZip, list_any}
use Rattle.std.specs.Option.{option_map_or}
use Rattle.std.specs.Str.{bytes_eq}
use Rattle.std.proofs.lemmas.Bool.{leb-true}
use Rattle.std.proofs.lemmas.List.Elements.{All-head, All-tail}
use Rattle.muen_num.proofs.Lists.{find-map}
use Rattle.muen_num.specs.Range.{numbers_below}
use Rattle.subject_model.specs.Clock.{inputs_at, line_writes, order_at}
use Rattle.image_load.specs.Resolving.{NamedMemory, bytes_into, device_called, image_bench, image_record, image_input_of, irq_input_of, named_memories_of, memory_input_of, port_input_of, tick_input_of}
use Rattle.record_text.specs.Resolving.{is_in_span, raised, order_at as order_of}
use Rattle.image_soundness.specs.Named.{bench_of}
use Rattle.image_pack.specs.ImageConditions.{KeepsConditions}
use Rattle.image_pack.specs.declared.parts.DevicePart.{DevicePart}
use Rattle.image_pack.specs.declared.parts.Image.{Image}
use Rattle.image_pack.specs.declared.parts.IrqPart.{IrqPart}
use Rattle.muen_num.specs.declared.devices.IrqTarget.{IrqTarget}
use Rattle.proof_turns.specs.Ticks.{tick_order}
use Rattle.policy_lawful.specs.source.Source.{Source}
use Rattle.record_text.specs.Bench.{is_known}
use Rattle.record_text.specs.DeviceRecord.{DeviceRecord, NamedInput, port_input, memory_input, irq_input, dma_input}
use Rattle.record_text.specs.declared.record.Input.{Input}
use Rattle.record_text.specs.declared.record.Input.TheVariants.{Port, Mem, Idle, Dma}
use Rattle.record_text.specs.declared.record.TickInput.{TickInput}
use Rattle.proof_turns.specs.effect.Effect.{Effect}
use Rattle.proof_turns.specs.effect.Effect.TheVariants.{Mem as ToMem}
use Rattle.dma_tables.specs.Lowered.{lowered, lowered_input}
use Rattle.dma_tables.specs.declared.file.DmaFile.{DmaFile}
use Rattle.proof_start.specs.GroundOf.{ground_of}
use Rattle.proof_turns.specs.Ground.{Ground}
use Rattle.proof_start.specs.Words.{IsByte}
use Rattle.proof_turns.specs.Inputs.{AreInput, AreLine, nobody, somebody}
use Rattle.image_soundness.specs.Bench.{devices_of}
use Rattle.proof_runs.proofs.RecordFacts.{IsReadFor, IsSmall}
use Rattle.proof_runs.proofs.BenchGround.{HasLines, HasMemories, HasTargets, IsRaised, IsThing, written_by}
use Rattle.proof_runs.proofs.KnownInputs.{known_is}
use Rattle.proof_runs.proofs.SameBench.{same_bench}
use Rattle.proof_runs.proofs.TickInputs.{groups_at}

-- ---- one input

module _ (g : Ground) (i : Image) (tables : Option DmaFile) where
  -- what of an input reaches the machine, if what it names is there
  abbrev effects : Option Input → List Effect
  effects o = lowered_input tables i (unwrap_or o Idle)

  -- the byte of a port that is there
  port_if : (device : List ℕ) (port value : ℕ) (there : Bool) → value < 256 → is_some (if there then Some (Port port value) else None) ≡ true
      → AreInput g (effects (if there then Some (Port port value) else None)) (port_input device port value)
  port_if device port value true small h = record { are = refl; small = small }
  port_if device port value false small h = cc

  -- .. of a device
  port_alike : (device : List ℕ) (port value : ℕ) (o : Option DevicePart) → value < 256 → is_some (option_and_then (port_input_of port value) o) ≡ true
      → AreInput g (effects (option_and_then (port_input_of port value) o)) (port_input device port value)
  port_alike device port value None small h = cc
  port_alike device port value (Some d) small h = port_if device port value (list_any (is_in_span port) d.ports) small h

  -- bytes of a memory, if they have room there
  bytes_if : (device memory : List ℕ) (offset : ℕ) (bytes : List ℕ) (m : NamedMemory) (fits : Bool) → IsThing g device memory m → All IsByte bytes
      → nat_le (offset + length bytes) m.bytes ≡ fits → is_some (if fits then Some (Mem (m.address + offset) bytes) else None) ≡ true
      → AreInput g (effects (if fits then Some (Mem (m.address + offset) bytes) else None)) (memory_input device memory offset bytes)
  bytes_if device memory offset bytes m true is small fits h =
      let address = is.address in
      let size = is.bytes in
      let within = leb-true (offset + length bytes) m.bytes fits in
      record {
        effect = ToMem (m.address + offset) bytes;
        are = refl;
        write = record { at = m.address + offset; is = refl; address = omega (arith, address); room = omega (arith, size, within); small = small };
      }
  bytes_if device memory offset bytes m false is small fits h = cc

  -- .. of a memory that is found
  bytes_alike : (device memory : List ℕ) (offset : ℕ) (bytes : List ℕ) (o : Option NamedMemory) → ((m : NamedMemory) → o ≡ Some m → IsThing g device memory m)
      → All IsByte bytes → is_some (option_and_then (bytes_into offset bytes) o) ≡ true
      → AreInput g (effects (option_and_then (bytes_into offset bytes) o)) (memory_input device memory offset bytes)
  bytes_alike device memory offset bytes None there small h = cc
  bytes_alike device memory offset bytes (Some m) there small h =
      bytes_if device memory offset bytes m (nat_le (offset + length bytes) m.bytes) (there m refl) small refl h

  -- .. of a device
  memory_alike : (device memory : List ℕ) (offset : ℕ) (bytes : List ℕ) (o : Option DevicePart)
      → ((d : DevicePart) (m : NamedMemory) → o ≡ Some d → find (λ m. bytes_eq m.name memory) (named_memories_of i.spans d) ≡ Some m → IsThing g device memory m)
      → All IsByte bytes → is_some (option_and_then (memory_input_of i.spans memory offset bytes) o) ≡ true
      → AreInput g (effects (option_and_then (memory_input_of i.spans memory offset bytes) o)) (memory_input device memory offset bytes)
  memory_alike device memory offset bytes None there small h = cc
  memory_alike device memory offset bytes (Some d) there small h =
      bytes_alike device memory offset bytes (find (λ m. bytes_eq m.name memory) (named_memories_of i.spans d)) (λ m e. there d m refl e) small h

  -- an interrupt, by whom it reaches
  raised_alike : (device irq : List ℕ) (target : Option IrqTarget) → IsRaised g device irq target → AreInput g (effects (Some (raised target))) (irq_input device irq)
  raised_alike device irq None h = nobody refl h
  raised_alike device irq (Some t) h = somebody t.subject t.vector refl h

  -- .. if it is there
  target_alike : (device irq : List ℕ) (o : Option IrqPart) → ((q : IrqPart) → o ≡ Some q → IsRaised g device irq q.target)
      → is_some (option_map (λ q. raised q.target) o) ≡ true → AreInput g (effects (option_map (λ q. raised q.target) o)) (irq_input device irq)
  target_alike device irq None there h = cc
  target_alike device irq (Some q) there h = raised_alike device irq q.target (there q refl)

  -- .. of a device
  irq_alike : (device irq : List ℕ) (o : Option DevicePart)
      → ((d : DevicePart) (q : IrqPart) → o ≡ Some d → find (λ q. bytes_eq q.name irq) d.irqs ≡ Some q → IsRaised g device irq q.target)
      → is_some (option_and_then (irq_input_of irq) o) ≡ true → AreInput g (effects (option_and_then (irq_input_of irq) o)) (irq_input device irq)
  irq_alike device irq None there h = cc
  irq_alike device irq (Some d) there h = target_alike device irq (find (λ q. bytes_eq q.name irq) d.irqs) (λ q e. there d q refl e) h

  -- a line of direct memory access
  dma_alike : (device : List ℕ) (addr : ℕ) (bytes : List ℕ) (o : Option ℕ)
      → ((number : ℕ) → o ≡ Some number → AreLine g (written_by tables i number addr bytes) (line_writes g.policy device addr bytes))
      → is_some (option_map (λ number. Dma number addr bytes) o) ≡ true → AreInput g (effects (option_map (λ number. Dma number addr bytes) o)) (dma_input device addr bytes)
  dma_alike device addr bytes None there h = cc
  dma_alike device addr bytes (Some number) there h = there number refl

-- ---- the inputs of a tick

-- one more on both sides, or on neither
one_more_if : {A B C D : Type 0} (R : C → D → Type 0) (f : A → C) (h : B → D) (b : Bool) (x : A) (y : B) (xs : List A) (ys : List B) → R (f x) (h y)
    → AllZip R (map f xs) (map h ys) → AllZip R (map f (cond b (x ∷ xs) xs)) (map h (cond b (y ∷ ys) ys))
one_more_if R f h true x y xs ys first more = (first, more)
one_more_if R f h false x y xs ys first more = more

-- what the image's devices do is what the policy says of them
pub record AreDevices (g : Ground) (i : Image) (tables : Option DmaFile) : Type 0 where
  pub memories : HasMemories g i
  pub targets : HasTargets g i
  pub lines : HasLines g i tables

module _ (g : Ground) (i : Image) (tables : Option DmaFile) (devices : AreDevices g i tables) where
  -- an input that is known is the same for the machine and for the system
  input_alike : (input : NamedInput) → is_some (image_input_of i input) ≡ true → IsSmall input → AreInput g (effects g i tables (image_input_of i input)) input
  input_alike (port_input device port value) h small = port_alike g i tables device port value (device_called device i) small h
  input_alike (memory_input device memory offset bytes) h small =
      memory_alike g i tables device memory offset bytes (device_called device i) (devices.memories device memory) small h
  input_alike (irq_input device irq) h small = irq_alike g i tables device irq (device_called device i) (devices.targets device irq) h
  input_alike (dma_input device addr bytes) h small =
      dma_alike g i tables device addr bytes (position (λ d. bytes_eq d.name device) i.devices)
      (λ number at. devices.lines device addr bytes number at small.0 small.1) h

  -- what stands for an input
  abbrev lowers : TickInput Input → List Effect
  lowers x = lowered_input tables i x.input

  -- so are the inputs of a tick, one by one
  inputs_by : (tick : ℕ) (es : List (ℕ × NamedInput)) → All (λ e. is_known (image_bench i) e.1 ≡ true) es → All (λ e. IsSmall e.1) es
      → AllZip (AreInput g) (map lowers (filter (λ x. x.tick == tick) (map (tick_input_of i) es))) (map (λ e. e.1) (filter (λ e. e.0 == tick) es))
  inputs_by tick [] known small = tt
  inputs_by tick (e ∷ es) known small =
      let K : ℕ × NamedInput → Type 0 = λ e. is_known (image_bench i) e.1 ≡ true in
      let S : ℕ × NamedInput → Type 0 = λ e. IsSmall e.1 in
      let first = input_alike e.1 (sym (known_is i e.1) ∙ All-head K e es known) (All-head S e es small) in
      let more = inputs_by tick es (All-tail K e es known) (All-tail S e es small) in
      one_more_if (AreInput g) lowers (λ (x : ℕ × NamedInput). x.1) (e.0 == tick) (tick_input_of i e) e
      (filter (λ x. x.tick == tick) (map (tick_input_of i) es)) (filter (λ e. e.0 == tick) es) first more

  -- of a record that is read for the policy's devices
  pub inputs_alike_of : KeepsConditions i → bench_of i ≡ devices_of g.policy → (r : DeviceRecord) (tick : ℕ) → IsReadFor (devices_of g.policy) r
      → AllZip (AreInput g) (groups_at tables i (image_record i r) tick) (inputs_at r tick)
  inputs_alike_of keeps bench r tick read =
      let here : IsReadFor (image_bench i) r = subst (λ b. IsReadFor b r) (sym (same_bench i keeps ∙ bench)) read in
      inputs_by tick r.inputs here.known here.small

-- ---- the whole

-- a record that is read for a policy's devices gives a sound image's machine, in each tick, the inputs that it gives the system
pub inputs_alike : (p : Source) (i : Image) (tables : Option DmaFile) → KeepsConditions i → bench_of i ≡ devices_of p → AreDevices (ground_of p i) i tables
    → (r : DeviceRecord) (tick : ℕ) → IsReadFor (devices_of p) r → AllZip (AreInput (ground_of p i)) (groups_at tables i (image_record i r) tick) (inputs_at r tick)
unfolding ground_of
inputs_alike p i tables keeps bench devices r tick read = inputs_alike_of (ground_of p i) i tables devices keeps bench r tick read

-- the order of a tick, if the record gives one
ordered_by : (cpus n : ℕ) (o : Option (ℕ × List ℕ)) → cpus ≡ n
    → unwrap_or (option_map (λ x. x.cpus) (option_map order_of o)) (numbers_below cpus) ≡ option_map_or (λ e. e.1) o (numbers_below n)
ordered_by cpus n None e = ap numbers_below e
ordered_by cpus n (Some o) e = refl

-- the CPUs take their turns in one order
pub orders_alike : (p : Source) (i : Image) (tables : Option DmaFile) (cpus : ℕ) (r : DeviceRecord) (tick : ℕ) → cpus ≡ p.processor.logical_cpus
    → tick_order (lowered tables i (image_record i r)) cpus tick ≡ order_at p r tick
unfolding lowered
orders_alike p i tables cpus r tick e =
    ap (λ o. unwrap_or (option_map (λ x. x.cpus) o) (numbers_below cpus)) (find-map (λ x. x.tick == tick) order_of r.orders)
    ∙ ordered_by cpus p.processor.logical_cpus (find (λ o. o.0 == tick) r.orders) e
