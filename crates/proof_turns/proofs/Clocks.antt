-- How a tick begins, and what inputs do: both keep what the machine stands for.
use Rattle.std.proofs.Common.{◌≡◌, ◌+◌, ◌*◌, ◌/◌, ◌%◌, ◌<◌, ◌≤◌, ◌∷◌, ◌∙◌}
use Rattle.std.proofs.Common.{ℕ, zero, suc, Bool, Option, Some, None, List, [], length, refl, sym, ap, subst, inl, inr, arith, length-set}
use Rattle.std.specs.Prelude.{◌++◌, ◌&&◌, is_some, option_map, option_and_then, slice_get, slice_set, true, unwrap_or}
use Rattle.std.specs.List.{All, AllZip, flat_map, list_all}
use Rattle.std.proofs.lemmas.Bool.{cases_Bool}
use Rattle.std.proofs.lemmas.List.Folds.{list_all-append}
use Rattle.std.proofs.lemmas.List.Elements.{All-nil, All-cons, All-head, All-tail, All-set}
use Rattle.frame_clock.specs.Frames.{frame_at_tick}
use Rattle.machine_layout.specs.Memory.{Page, page_of, change, over, store_of}
use Rattle.policy_lawful.specs.Thing.{Thing, region, device_memory, same_thing}
use Rattle.policy_lawful.specs.source.Tau0.{Tau0}
use Rattle.subject_model.specs.DeviceRecord.{NamedInput, port_input, memory_input, irq_input, dma_input}
use Rattle.kernel_core.specs.effect.Effect.{Effect}
use Rattle.kernel_core.specs.effect.Effect.TheVariants.{Irq}
use Rattle.frame_clock.specs.Run.{all_taken}
use Rattle.vmx_machine.specs.Machine.{written}
use Rattle.kernel_core.specs.Kernel.{Live}
use Rattle.kernel_core.specs.Ticks.{kernel, pick_of, begins as kernel_begins, takes as kernel_takes}
use Rattle.subject_model.specs.Alone.{Things, thing_in}
use Rattle.subject_model.specs.ByKey.{change_of}
use Rattle.subject_model.specs.Clock.{ByteWrite, begins, line_writes, pick_in, takes, with_byte, with_each, with_line}
use Rattle.subject_model.specs.System.{System, change_thing, with_bytes}
use Rattle.proof_turns.specs.Ground.{Ground, part}
use Rattle.proof_turns.specs.Fixed.{IsFixed}
use Rattle.guest_isa.specs.Words.{IsByte}
use Rattle.proof_turns.specs.Inputs.{AreInput, AreIrq, AreLine, IsWrite, Part, SameIrq, dropped, each_of, nobody, somebody, written as written_parts}
use Rattle.proof_turns.specs.Stands.{StandsFor}
use Rattle.proof_turns.proofs.Changes.{with_page_of}
use Rattle.proof_turns.proofs.Stores.{bytes_stand}
use Rattle.proof_turns.proofs.Events.{name_is, pended_now}

-- ---- byte by byte

over_nothing : (xs : List ℕ) (o : ℕ) → over xs o [] ≡ xs
over_nothing [] o = refl
over_nothing (x ∷ xs) zero = refl
over_nothing (x ∷ xs) (suc o) = ap (λ ys. x ∷ ys) (over_nothing xs o)

over_behind : (xs : List ℕ) (o b : ℕ) (bs : List ℕ) → over (over xs o (b ∷ [])) (suc o) bs ≡ over xs o (b ∷ bs)
over_behind [] o b bs = refl
over_behind (x ∷ xs) zero b bs = ap (λ ys. b ∷ over ys zero bs) (over_nothing xs zero)
over_behind (x ∷ xs) (suc o) b bs = ap (λ ys. x ∷ ys) (over_behind xs o b bs)

-- the first byte, and then those behind it
pub over_next : (xs : List ℕ) (o b : ℕ) (bs : List ℕ) → over (over xs o (b ∷ [])) (o + 1) bs ≡ over xs o (b ∷ bs)
over_next xs o b bs = let e : o + 1 ≡ suc o = omega arith in ap (λ i. over (over xs o (b ∷ [])) i bs) e ∙ over_behind xs o b bs

-- two changes of one key's value are one
pub value_changed_twice : {K V : Type 0} (same : K → K → Bool) (k : K) (f h : V → V) (es : List (K × V)) → change_of same k h (change_of same k f es) ≡ change_of same k (λ v. h (f v)) es
value_changed_twice same k f h [] = refl
value_changed_twice same k f h (e ∷ es) =
    let ih = value_changed_twice same k f h es in
    elim (cases_Bool (same e.0 k)) [ inl t ↦ rw t (rw t refl) | inr n ↦ rw n (rw n (ap (λ ys. e ∷ ys) ih)) ]

-- a change that changes nothing
pub value_kept : {K V : Type 0} (same : K → K → Bool) (k : K) (es : List (K × V)) → change_of same k (λ v. v) es ≡ es
value_kept same k [] = refl
value_kept same k (e ∷ es) =
    let ih = value_kept same k es in
    elim (cases_Bool (same e.0 k)) [ inl t ↦ rw t refl | inr n ↦ rw n (ap (λ ys. e ∷ ys) ih) ]

thing_kept : (x : Thing) (offset : ℕ) (things : Things) → change_thing x (λ old. over old offset []) things ≡ things
thing_kept x offset things = ap (λ f. change_thing x f things) (λ i old. over_nothing old offset i) ∙ value_kept same_thing x things

thing_next : (x : Thing) (offset b : ℕ) (bs : List ℕ) (things : Things)
    → change_thing x (λ old. over old (offset + 1) bs) (change_thing x (λ old. over old offset (b ∷ [])) things) ≡ change_thing x (λ old. over old offset (b ∷ bs)) things
thing_next x offset b bs things =
    value_changed_twice same_thing x (λ old. over old offset (b ∷ [])) (λ old. over old (offset + 1) bs) things
    ∙ ap (λ f. change_thing x f things) (λ i old. over_next old offset b bs i)

-- a byte is stored into its page
stored_byte : (pages : List Page) (page offset at b : ℕ) → page ≡ at / 4096 → offset ≡ at % 4096 → b ≡ b % 256
    → change pages page (λ old. over old offset (b ∷ [])) ≡ store_of pages at 1 b
stored_byte pages page offset at b e f h = λ i. change pages (e i) (λ old. over old (f i) (h i ∷ []))

-- ---- the byte that chooses the next major frame

first_byte : (old page : Option (List ℕ)) → page ≡ option_map (part 0) old → slice_get (unwrap_or page []) 0 ≡ option_and_then (λ bytes. slice_get bytes 0) old
first_byte None page e = rw e refl
first_byte (Some []) page e = rw e refl
first_byte (Some (b ∷ bs)) page e = rw e refl

module _ (g : Ground) (fixed : IsFixed g) where
  pick_by : (k : Live) (y : System) → StandsFor g k y → (o : Option Tau0) → g.policy.scheduling.tau0 ≡ o
      → pick_of (option_map (λ t. g.first (region t.region)) o) k.machine.pages ≡ pick_in y o
  pick_by k y stands None e = refl
  pick_by k y stands (Some t) e =
      let x : Thing = region t.region in
      let zero_page : g.first x + 0 ≡ g.first x = omega arith in
      first_byte (thing_in y.things x) (page_of k.machine.pages (g.first x)) (ap (page_of k.machine.pages) (sym zero_page) ∙ stands.shows.bytes x 0 (fixed.tau0_there t e))

  pick_same : (k : Live) (y : System) → StandsFor g k y → pick_of g.setup.tau0 k.machine.pages ≡ pick_in y g.policy.scheduling.tau0
  pick_same k y stands = ap (λ o. pick_of o k.machine.pages) fixed.tau0 ∙ pick_by k y stands g.policy.scheduling.tau0 refl

  -- a tick begins
  pub begins_stand : (tick : ℕ) (k : Live) (y : System) → StandsFor g k y → StandsFor g (kernel_begins g.setup tick k) (begins g.policy tick y)
  begins_stand tick k y stands = record {
    shows = stands.shows;
    pages = stands.pages;
    owns = stands.owns;
    router = stands.router;
    cpus = stands.cpus;
    ports = stands.ports;
    many_ports = stands.many_ports;
    small_ports = stands.small_ports;
    frame = (λ i. frame_at_tick (fixed.majors i) (stands.frame i) (pick_same k y stands i) tick);
  }

  -- ---- inputs

  port_stands : (k : Live) (y : System) (port value : ℕ) → IsByte value → StandsFor g k y
      → StandsFor g (record k { ports = slice_set k.ports port value }) (record y { ports = slice_set y.ports port value })
  port_stands k y port value small stands = record {
    shows = stands.shows;
    pages = stands.pages;
    owns = stands.owns;
    router = stands.router;
    cpus = stands.cpus;
    ports = (λ i. slice_set (stands.ports i) port value);
    many_ports = length-set k.ports port value ∙ stands.many_ports;
    small_ports = All-set IsByte k.ports port value small stands.small_ports;
    frame = stands.frame;
  }

  abbrev pub with_all_pages : List Page → Live → Live
  with_all_pages pages k = record k { machine = record { pages = pages; cpus = k.machine.cpus } }

  -- bytes are written one by one
  pub written_stands : (bs : List ℕ) (x : Thing) (at offset : ℕ) (k : Live) (y : System) → at ≡ 4096 * g.first x + offset → offset + length bs ≤ 4096 * g.pages x
      → All IsByte bs → StandsFor g k y → StandsFor g (with_all_pages (written k.machine.pages at bs) k) (with_bytes x offset bs y)
  written_stands [] x at offset k y e room small stands =
      subst (λ things. StandsFor g k (record y { things = things })) (sym (thing_kept x offset y.things)) stands
  written_stands (b ∷ bs) x at offset k y e room small stands =
      let byte : b < 256 = All-head IsByte b bs small in
      let page : ℕ = g.first x + offset / 4096 in
      let f : List ℕ → List ℕ = λ old. over old (offset % 4096) (b ∷ []) in
      let one = bytes_stand g fixed k y x offset (b ∷ []) (omega (arith, room)) (omega arith) (All-cons IsByte b [] byte (All-nil IsByte)) stands in
      let rest = written_stands bs x (at + 1) (offset + 1) (with_page_of page f k) (with_bytes x offset (b ∷ []) y) (omega (arith, e)) (omega (arith, room)) (All-tail IsByte b bs small) one in
      subst (λ pages. StandsFor g (with_all_pages (written pages (at + 1) bs) k) (with_bytes x offset (b ∷ bs) y))
      (stored_byte k.machine.pages page (offset % 4096) at b (omega (arith, e)) (omega (arith, e)) (omega (arith, byte)))
      (subst (λ things. StandsFor g (with_all_pages (written (change k.machine.pages page f) (at + 1) bs) k) (record y { things = things })) (thing_next x offset b bs y.things) rest)

  write_stands : (k : Live) (y : System) (e : Effect) (x : Part) → IsWrite g e x → StandsFor g k y → StandsFor g (kernel_takes e k) (with_bytes x.thing x.offset x.bytes y)
  write_stands k y e x write stands = rw write.is (written_stands x.bytes x.thing write.at x.offset k y write.address write.room write.small stands)

  irq_stands : (k : Live) (y : System) (s v : ℕ) (device irq : List ℕ) → SameIrq g s v device irq → StandsFor g k y
      → StandsFor g (kernel_takes (Irq s v) k) (takes g.policy (irq_input device irq) y)
  irq_stands k y s v device irq same stands =
      let is = same.is in
      rw (same.granted, name_is g fixed s is.subject is.part is.control is.joined) (pended_now g fixed k y s is.subject is.part is.control (Some v) is.joined stands)

  irqs_stand : (k : Live) (y : System) (es : List Effect) (device irq : List ℕ) → AreIrq g es device irq → StandsFor g k y
      → StandsFor g (all_taken (kernel g.setup) es k) (takes g.policy (irq_input device irq) y)
  irqs_stand k y es device irq (nobody none is) stands = rw (none, is) stands
  irqs_stand k y es device irq (somebody s v one same) stands = rw one (irq_stands k y s v device irq same stands)

  -- ---- a line of direct memory access

  all_some : (x : Thing) (bytes : List ℕ) (offset : ℕ) → list_all is_some (each_of (record { thing = x; offset = offset; bytes = bytes })) ≡ true
  all_some x [] offset = refl
  all_some x (b ∷ bs) offset = all_some x bs (offset + 1)

  parts_some : (parts : List Part) → list_all is_some (flat_map each_of parts) ≡ true
  parts_some [] = refl
  parts_some (x ∷ parts) =
      list_all-append is_some (each_of x) (flat_map each_of parts) ∙ ap (λ b. b && list_all is_some (flat_map each_of parts)) (all_some x.thing x.bytes x.offset) ∙ parts_some parts

  each_both : (ws vs : List (Option ByteWrite)) (y : System) → with_each (ws ++ vs) y ≡ with_each vs (with_each ws y)
  each_both [] vs y = refl
  each_both (w ∷ ws) vs y = each_both ws vs (with_byte w y)

  -- a part byte by byte is the part
  part_written : (x : Thing) (bytes : List ℕ) (offset : ℕ) (y : System) → with_each (each_of (record { thing = x; offset = offset; bytes = bytes })) y ≡ with_bytes x offset bytes y
  part_written x [] offset y = ap (λ things. record y { things = things }) (sym (thing_kept x offset y.things))
  part_written x (b ∷ bs) offset y = part_written x bs (offset + 1) (with_bytes x offset (b ∷ []) y) ∙ ap (λ things. record y { things = things }) (thing_next x offset b bs y.things)

  parts_stand : (es : List Effect) (parts : List Part) (k : Live) (y : System) → AllZip (IsWrite g) es parts → StandsFor g k y
      → StandsFor g (all_taken (kernel g.setup) es k) (with_each (flat_map each_of parts) y)
  parts_stand [] [] k y all stands = stands
  parts_stand [] (x ∷ parts) k y all stands = absurd all
  parts_stand (e ∷ es) [] k y all stands = absurd all
  parts_stand (e ∷ es) (x ∷ parts) k y all stands =
      subst (StandsFor g (all_taken (kernel g.setup) es (kernel_takes e k)))
      (ap (with_each (flat_map each_of parts)) (sym (part_written x.thing x.bytes x.offset y)) ∙ sym (each_both (each_of x) (flat_map each_of parts) y))
      (parts_stand es parts (kernel_takes e k) (with_bytes x.thing x.offset x.bytes y) all.1 (write_stands k y e x all.0 stands))

  line_stands : (k : Live) (y : System) (es : List Effect) (writes : List (Option ByteWrite)) → AreLine g es writes → StandsFor g k y
      → StandsFor g (all_taken (kernel g.setup) es k) (with_line writes y)
  line_stands k y es writes (dropped none not_all) stands = rw (none, not_all) stands
  line_stands k y es writes (written_parts parts are whole) stands = rw (sym whole) (rw (parts_some parts) (parts_stand es parts k y are stands))

  -- an input comes
  pub takes_stand : (es : List Effect) (i : NamedInput) (k : Live) (y : System) → AreInput g es i → StandsFor g k y → StandsFor g (all_taken (kernel g.setup) es k) (takes g.policy i y)
  takes_stand es (port_input device port value) k y same stands = rw same.are (port_stands k y port value same.small stands)
  takes_stand es (memory_input device memory offset bytes) k y same stands =
      rw same.are (write_stands k y same.effect (record { thing = device_memory device memory; offset = offset; bytes = bytes }) same.write stands)
  takes_stand es (irq_input device irq) k y same stands = irqs_stand k y es device irq same stands
  takes_stand es (dma_input device address bytes) k y same stands = line_stands k y es (line_writes g.policy device address bytes) same stands
