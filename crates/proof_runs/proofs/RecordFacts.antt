-- What a record that was read holds, in names.
use Rattle.std.proofs.Common.{◌≡◌, ℕ, ◌+◌, ◌<◌, ◌≤◌, ◌^◌, Bool, true, false, List, [], ◌∷◌, Ok, Err, subst, inl, inr, arith}
use Rattle.std.specs.Prelude.{codes, if◌then◌else◌}
use Rattle.std.specs.List.{All, AllByRecursion}
use Rattle.std.specs.Str.{bytes_eq}
use Rattle.std.proofs.lemmas.Bool.{cases_Bool}
use Rattle.std.proofs.lemmas.List.Elements.{All-from_recursion}
use Rattle.muen_num.specs.declared.limits.TheConstants.{GUEST_END, LAST_PORT, MOST_TICKS}
use Rattle.record_text.specs.Bench.{Bench, is_known}
use Rattle.record_text.specs.DeviceRecord.{DeviceRecord, NamedInput, port_input, memory_input, irq_input, dma_input}
use Rattle.record_text.specs.Law.{NamesEachOnce}
use Rattle.record_text.specs.Parts.{lines_of}
use Rattle.record_text.specs.Reading.{Standing, all_ascii, at_start, entry_at, in_line, names_known, not_after_end, not_back, nothing_until, order_fits, record_after, record_of, standing_after, with_entry}
use Rattle.record_text.specs.Steps.{◌>>=◌}
use Rattle.record_text.specs.Table.{Entry, input_entry, order_entry, end_entry, as_many, cpu_numbers, dma_line, end_line, entry_tick, first_word, five, four, irq_line, kind_of, mem_line, one, order_line, port_line, read_words, three}
use Rattle.record_text.specs.Words.{hex_bytes, number_below, tick_of, words_of}
use Rattle.record_text.specs.declared.fault.RecordFault.TheVariants.{NoEnd}
use Rattle.record_text.proofs.Rules.{IsFew, IsRuled, entry_at-Ok, hex_bytes-Ok, hex_bytes-within, in_line-Ok, number_below-Ok, passed, then_ok}
use Rattle.proof_start.specs.Words.{IsByte}

-- ---- what is read are bytes, and of those that a device writes by itself there are a few

abbrev pub IsSmall : NamedInput → Type 0
IsSmall (port_input device port value) = value < 256
IsSmall (memory_input device memory offset bytes) = All IsByte bytes
IsSmall (irq_input device irq) = Unit {0}
IsSmall (dma_input device addr bytes) = All IsByte bytes × IsFew bytes

abbrev IsSmallEntry : Entry → Type 0
IsSmallEntry (input_entry tick input) = IsSmall input
IsSmallEntry (order_entry tick order) = Unit {0}
IsSmallEntry (end_entry tick) = Unit {0}

order_line_small : (cpus : ℕ) (words : List (List ℕ)) (e : Entry) → order_line cpus words ≡ Ok e → IsSmallEntry e
unfolding order_line
order_line_small cpus words e h =
    let w = then_ok (first_word words) _ e h in
    let n = passed (as_many cpus w.0.1) _ e w.2 in
    let t = then_ok (tick_of w.0.0) _ e n.1 in
    let o = then_ok (cpu_numbers cpus w.0.1) (λ cs. Ok (order_entry t.0 cs)) e t.2 in
    let made : order_entry t.0 o.0 ≡ e = cc (o.2) in
    rw (← made) tt

port_line_small : (words : List (List ℕ)) (e : Entry) → port_line words ≡ Ok e → IsSmallEntry e
unfolding port_line
port_line_small words e h =
    let w = then_ok (four words) _ e h in
    let t = then_ok (tick_of w.0.0) _ e w.2 in
    let p = then_ok (number_below (LAST_PORT + 1) w.0.2) _ e t.2 in
    let v = then_ok (number_below 256 w.0.3) (λ v. Ok (input_entry t.0 (port_input w.0.1 p.0 v))) e p.2 in
    let made : input_entry t.0 (port_input w.0.1 p.0 v.0) ≡ e = cc (v.2) in
    let less = number_below-Ok 256 w.0.3 v.0 v.1 in
    rw (← made) less

mem_line_small : (words : List (List ℕ)) (e : Entry) → mem_line words ≡ Ok e → IsSmallEntry e
unfolding mem_line
mem_line_small words e h =
    let w = then_ok (five words) _ e h in
    let t = then_ok (tick_of w.0.0) _ e w.2 in
    let o = then_ok (number_below (2 ^ 64) w.0.3) _ e t.2 in
    let b = then_ok (hex_bytes w.0.4) (λ bytes. Ok (input_entry t.0 (memory_input w.0.1 w.0.2 o.0 bytes))) e o.2 in
    let made : input_entry t.0 (memory_input w.0.1 w.0.2 o.0 b.0) ≡ e = cc (b.2) in
    rw (← made) (hex_bytes-within w.0.4 b.0 b.1)

irq_line_small : (words : List (List ℕ)) (e : Entry) → irq_line words ≡ Ok e → IsSmallEntry e
unfolding irq_line
irq_line_small words e h =
    let w = then_ok (three words) _ e h in
    let t = then_ok (tick_of w.0.0) (λ t. Ok (input_entry t (irq_input w.0.1 w.0.2))) e w.2 in
    let made : input_entry t.0 (irq_input w.0.1 w.0.2) ≡ e = cc (t.2) in
    rw (← made) tt

dma_line_small : (words : List (List ℕ)) (e : Entry) → dma_line words ≡ Ok e → IsSmallEntry e
unfolding dma_line
dma_line_small words e h =
    let w = then_ok (four words) _ e h in
    let t = then_ok (tick_of w.0.0) _ e w.2 in
    let a = then_ok (number_below GUEST_END w.0.2) _ e t.2 in
    let b = then_ok (hex_bytes w.0.3) (λ bytes. Ok (input_entry t.0 (dma_input w.0.1 a.0 bytes))) e a.2 in
    let made : input_entry t.0 (dma_input w.0.1 a.0 b.0) ≡ e = cc (b.2) in
    rw (← made) (hex_bytes-within w.0.3 b.0 b.1, hex_bytes-Ok w.0.3 b.0 b.1)

end_line_small : (words : List (List ℕ)) (e : Entry) → end_line words ≡ Ok e → IsSmallEntry e
unfolding end_line
end_line_small words e h =
    let w = then_ok (one words) _ e h in
    let t = then_ok (tick_of w.0) (λ t. Ok (end_entry t)) e w.2 in
    let made : end_entry t.0 ≡ e = cc (t.2) in
    rw (← made) tt

-- the words behind the first, by what the first is
read_words_small : (cpus : ℕ) (words : List (List ℕ)) (e : Entry) → read_words cpus words ≡ Ok e → IsSmallEntry e
unfolding read_words kind_of
read_words_small cpus [] e h = cc
read_words_small cpus (word ∷ words) e h =
    elim (cases_Bool (bytes_eq word (codes "order"))) [
      | inl t ↦ order_line_small cpus words e (rw t at h)
      | inr no_order ↦ elim (cases_Bool (bytes_eq word (codes "port"))) [
        | inl t ↦ port_line_small words e (rw (no_order, t) at h)
        | inr no_port ↦ elim (cases_Bool (bytes_eq word (codes "mem"))) [
          | inl t ↦ mem_line_small words e (rw (no_order, no_port, t) at h)
          | inr no_mem ↦ elim (cases_Bool (bytes_eq word (codes "irq"))) [
            | inl t ↦ irq_line_small words e (rw (no_order, no_port, no_mem, t) at h)
            | inr no_irq ↦ elim (cases_Bool (bytes_eq word (codes "dma"))) [
              | inl t ↦ dma_line_small words e (rw (no_order, no_port, no_mem, no_irq, t) at h)
              | inr no_dma ↦ elim (cases_Bool (bytes_eq word (codes "end"))) [
                | inl t ↦ end_line_small words e (rw (no_order, no_port, no_mem, no_irq, no_dma, t) at h)
                | inr no_end ↦ let none = rw (no_order, no_port, no_mem, no_irq, no_dma, no_end) at h in cc (none)
              ]
            ]
          ]
        ]
      ]
    ]

entry_small : (bench : Bench) (s : Standing) (n : ℕ) (line : List ℕ) (e : Entry) → entry_at bench s n line ≡ Ok e → IsSmallEntry e
unfolding entry_at
entry_small bench s n line e h =
    let going = passed (not_after_end s n) _ e h in
    let words = then_ok (in_line n (read_words bench.cpus (words_of line))) _ e going.1 in
    let forward = passed (not_back s n (entry_tick words.0)) _ e words.2 in
    let order = passed (order_fits s n words.0) _ e forward.1 in
    let known = passed (names_known bench n words.0) (Ok words.0) e order.1 in
    let same : words.0 ≡ e = cc (known.1) in
    subst IsSmallEntry same (read_words_small bench.cpus (words_of line) words.0 (in_line-Ok n (read_words bench.cpus (words_of line)) words.0 words.1))

-- ---- what the lines that are left say

record Holds (bench : Bench) (s : Standing) (r : DeviceRecord) : Type 0 where
  known : AllByRecursion (λ e. is_known bench e.1 ≡ true) r.inputs
  small : AllByRecursion (λ e. IsSmall e.1) r.inputs
  orders : AllByRecursion (λ o. NamesEachOnce bench.cpus o.1) r.orders
  ticks : s.tick ≤ MOST_TICKS → r.end ≤ MOST_TICKS

holds_with : (bench : Bench) (s : Standing) (e : Entry) (r : DeviceRecord) → IsRuled bench s e → IsSmallEntry e → Holds bench (standing_after s e) r → Holds bench s (with_entry e r)
holds_with bench s (input_entry tick input) r ruled small h = record {
  known = (ruled.known, h.known);
  small = (small, h.small);
  orders = h.orders;
  ticks = λ le. h.ticks ruled.within.0;
}
holds_with bench s (order_entry tick cpus) r ruled small h =
    let each : NamesEachOnce bench.cpus cpus = record { count = ruled.within.1.count; below = ruled.within.1.below; distinct = ruled.order.distinct } in
    record { known = h.known; small = h.small; orders = (each, h.orders); ticks = λ le. h.ticks ruled.within.0 }
holds_with bench s (end_entry tick) r ruled small h = record { known = h.known; small = h.small; orders = h.orders; ticks = λ le. h.ticks ruled.within }

holds_none : (bench : Bench) (s : Standing) (n : ℕ) (b : Bool) (r : DeviceRecord) → (if b then Ok (nothing_until s.tick) else Err (NoEnd n)) ≡ Ok r → Holds bench s r
holds_none bench s n true r h =
    let same : nothing_until s.tick ≡ r = cc in
    let none : Holds bench s (nothing_until s.tick) = record { known = tt; small = tt; orders = tt; ticks = λ le. le } in
    rw same at none
holds_none bench s n false r h = cc

holds_after : (bench : Bench) (s : Standing) (n : ℕ) (lines : List (List ℕ)) (r : DeviceRecord) → record_after bench s n lines ≡ Ok r → Holds bench s r
unfolding record_after
holds_after bench s n [] r h = holds_none bench s n s.ended r h
holds_after bench s n (line ∷ lines) r h =
    let first = then_ok (entry_at bench s n line) (λ e. record_after bench (standing_after s e) (n + 1) lines >>= λ more. Ok (with_entry e more)) r h in
    let rest = then_ok (record_after bench (standing_after s first.0) (n + 1) lines) (λ more. Ok (with_entry first.0 more)) r first.2 in
    let whole : with_entry first.0 rest.0 ≡ r = cc (rest.2) in
    let more = holds_with bench s first.0 rest.0 (entry_at-Ok bench s n line first.0 first.1) (entry_small bench s n line first.0 first.1) (holds_after bench (standing_after s first.0) (n + 1) lines rest.0 rest.1) in
    rw whole at more

-- ---- the whole

-- a record that was read for a bench: what it names is there, what it writes are bytes, and its orders name each CPU once
pub record IsReadFor (bench : Bench) (r : DeviceRecord) : Type 0 where
  pub known : All (λ e. is_known bench e.1 ≡ true) r.inputs
  pub small : All (λ e. IsSmall e.1) r.inputs
  pub orders : All (λ o. NamesEachOnce bench.cpus o.1) r.orders
  pub ticks : r.end ≤ MOST_TICKS

-- what is read is so
pub record_is_read : (bench : Bench) (text : List ℕ) (r : DeviceRecord) → record_of text bench ≡ Ok r → IsReadFor bench r
unfolding record_of
record_is_read bench text r h =
    let lines = passed (all_ascii 1 (lines_of text)) (record_after bench at_start 1 (lines_of text)) r h in
    let holds = holds_after bench at_start 1 (lines_of text) r lines.1 in
    record {
      known = All-from_recursion (λ e. is_known bench e.1 ≡ true) r.inputs holds.known;
      small = All-from_recursion (λ e. IsSmall e.1) r.inputs holds.small;
      orders = All-from_recursion (λ o. NamesEachOnce bench.cpus o.1) r.orders holds.orders;
      ticks = holds.ticks (omega arith);
    }
