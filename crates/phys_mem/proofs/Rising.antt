-- Numbers that rise: how a search finds its first index, and why the pages of spans rise and are below 2 ^ 28.
use Rattle.std.proofs.Common.{◌≡◌, inl, inr, ℕ, zero, suc, ◌+◌, ◌*◌, ◌/◌, ◌%◌, ◌^◌, ◌<◌, ◌≤◌, List, [], ◌∷◌, ◌++◌, length, drop, get_or, map, refl, sym, ap, subst, ◌∙◌, append_assoc, arith}
use Rattle.std.specs.List.{All}
use Rattle.std.proofs.lemmas.List.{append-nil}
use Rattle.std.proofs.lemmas.Bool.{cases_lt}
use Rattle.std.proofs.lemmas.List.Elements.{All-cons, All-nil}
use Rattle.machine_layout.specs.Memory.{Page}
use Rattle.phys_mem.specs.Frames.{pages_by, pages_in, IsRising, NoneBelow, IsFirst}
use Rattle.phys_mem.specs.Spans.{AreApart, AreSpans, IsMemorySpan, memory_span_end, pages_of_spans}
use Rattle.phys_mem.specs.declared.spans.MemorySpan.{MemorySpan}

-- ---- a search

pub not_falling : (ns : List ℕ) → IsRising ns → (i j : ℕ) → i ≤ j → j < length ns → get_or ns i 0 ≤ get_or ns j 0
not_falling ns rising i j a b =
    elim (cases_lt i j) [
      | inl h ↦ let less = rising i j h b in omega (arith, less)
      | inr h ↦ let same : i ≡ j = omega arith in rw same (omega arith)
    ]

pub found_first : (ns : List ℕ) (k i : ℕ) → IsRising ns → (i < length ns) × (get_or ns i 0 ≡ k) → IsFirst ns k i
found_first ns k i rising h =
    record {
      within = h.0;
      here = h.1;
      before = λ j l e. let less = rising j i l h.0 in omega (arith, less, e, h.1);
    }

pub found_none : (ns : List ℕ) (k i : ℕ) → (i ≤ length ns) × ((j : ℕ) → j < i → get_or ns j 0 < k) × ((j : ℕ) → i ≤ j → j < length ns → k < get_or ns j 0) → NoneBelow ns k (length ns)
found_none ns k i h j l e =
    elim (cases_lt j i) [
      | inl a ↦ let less = h.1 j a in omega (arith, less, e)
      | inr a ↦ let more = h.2 j a l in omega (arith, more, e)
    ]

-- ---- the pages of spans

-- numbers from this one on that rise
abbrev RisingFrom : ℕ → List ℕ → Type 0
RisingFrom low [] = Unit {0}
RisingFrom low (n ∷ ns) = (low ≤ n) × RisingFrom (n + 1) ns

least : (low : ℕ) (ns : List ℕ) → RisingFrom low ns → (i : ℕ) → i < length ns → low ≤ get_or ns i 0
least low [] h i l = absurd (omega arith)
least low (n ∷ ns) h zero l = h.0
least low (n ∷ ns) h (suc i) l =
    let more = least (n + 1) ns h.1 i (omega arith) in let here = h.0 in omega (arith, more, here)

rising_from : (low : ℕ) (ns : List ℕ) → RisingFrom low ns → IsRising ns
rising_from low [] h i j a b = absurd (omega arith)
rising_from low (n ∷ ns) h i zero a b = absurd (omega arith)
rising_from low (n ∷ ns) h zero (suc j) a b =
    let more = least (n + 1) ns h.1 j (omega arith) in omega (arith, more)
rising_from low (n ∷ ns) h (suc i) (suc j) a b = rising_from (n + 1) ns h.1 i j (omega arith) (omega arith)

rising_below : (low high : ℕ) (ns : List ℕ) → low ≤ high → RisingFrom high ns → RisingFrom low ns
rising_below low high [] a h = tt
rising_below low high (n ∷ ns) a h = let here = h.0 in (omega (arith, here), h.1)

abbrev numbers_of : List Page → List ℕ
numbers_of ps = map (λ p. p.number) ps

pages_rising : (n k low : ℕ) (bytes : List ℕ) (rest : List Page) → low ≤ k → RisingFrom (k + n) (numbers_of rest) → RisingFrom low (numbers_of (pages_in n k bytes ++ rest))
pages_rising zero k low bytes rest a h = rising_below low (k + 0) (numbers_of rest) (omega arith) h
pages_rising (suc n) k low bytes rest a h =
    let next : k + suc n ≡ k + 1 + n = omega arith in
    (a, pages_rising n (k + 1) (k + 1) _ rest (omega arith) (subst (λ j. RisingFrom j (numbers_of rest)) next h))

pub later_spans : (s : MemorySpan) (ss : List MemorySpan) → AreSpans (s ∷ ss) → AreSpans ss
later_spans s ss h =
    record {
      each = λ k d l. h.each (suc k) d (omega arith);
      apart = λ i j d a b. h.apart (suc i) (suc j) d (omega arith) (omega arith);
    }

end_page : (address bytes next : ℕ) → address % 4096 ≡ 0 → bytes % 4096 ≡ 0 → address + bytes ≤ next → 4096 * (address / 4096 + bytes / 4096) ≤ next
end_page address bytes next a b h = omega arith

first_page : (low address : ℕ) → 4096 * low ≤ address → low ≤ address / 4096
first_page low address h = omega arith

spans_rising : (ss : List MemorySpan) (low : ℕ) → AreSpans ss → ((i : ℕ) (d : MemorySpan) → i < length ss → 4096 * low ≤ (get_or ss i d).address) → RisingFrom low (numbers_of (pages_of_spans ss))
spans_rising [] low h above = tt
spans_rising (s ∷ ss) low h above =
    let here : IsMemorySpan s = h.each 0 s (omega arith) in
    pages_rising (length s.bytes / 4096) (s.address / 4096) low s.bytes (pages_of_spans ss) (first_page low s.address (above 0 s (omega arith))) (spans_rising ss (s.address / 4096 + length s.bytes / 4096) (later_spans s ss h) (λ i d l. end_page s.address (length s.bytes) (get_or ss i d).address here.aligned here.whole (h.apart 0 (suc i) d (omega arith) (omega arith))))

numbers_by : (ns : List ℕ) (fs : List (List ℕ)) → length ns ≡ length fs → numbers_of (pages_by ns fs) ≡ ns
numbers_by [] fs e = refl
numbers_by (n ∷ ns) [] e = absurd (omega arith)
numbers_by (n ∷ ns) (f ∷ fs) e = ap (λ ks. n ∷ ks) (numbers_by ns fs (omega arith))

-- the numbers of memory that is made of spans rise
pub numbers_rise : (ns : List ℕ) (fs : List (List ℕ)) (ss : List MemorySpan) → AreSpans ss → length ns ≡ length fs → pages_by ns fs ≡ pages_of_spans ss → IsRising ns
numbers_rise ns fs ss h same e =
    let is : numbers_of (pages_of_spans ss) ≡ ns = ap numbers_of (sym e) ∙ numbers_by ns fs same in
    subst (λ ks. IsRising ks) is (rising_from 0 (numbers_of (pages_of_spans ss)) (spans_rising ss 0 h (λ i d l. omega arith)))

-- ---- the numbers of these pages are small

abbrev AreLow : List ℕ → Type 0
AreLow ns = All (λ n. n < 2 ^ 28) ns

pages_low : (n k : ℕ) (bytes : List ℕ) (rest : List Page) → k + n ≤ 2 ^ 28 → AreLow (numbers_of rest) → AreLow (numbers_of (pages_in n k bytes ++ rest))
pages_low zero k bytes rest l h = h
pages_low (suc n) k bytes rest l h =
    All-cons (λ n. n < 2 ^ 28) k _ (omega arith) (pages_low n (k + 1) (drop 4096 bytes) rest (omega arith) h)

low_end : (address n : ℕ) → address % 4096 ≡ 0 → n % 4096 ≡ 0 → address + n ≤ 2 ^ 40 → address / 4096 + n / 4096 ≤ 2 ^ 28
low_end address n a b l = omega arith

spans_low : (ss : List MemorySpan) → AreSpans ss → AreLow (numbers_of (pages_of_spans ss))
spans_low [] h = All-nil (λ n. n < 2 ^ 28)
spans_low (s ∷ ss) h =
    let here : IsMemorySpan s = h.each 0 s (omega arith) in
    pages_low (length s.bytes / 4096) (s.address / 4096) s.bytes (pages_of_spans ss) (low_end s.address (length s.bytes) here.aligned here.whole here.low) (spans_low ss (later_spans s ss h))

-- the numbers of memory that is made of spans are below 2 ^ 28
pub numbers_low : (ns : List ℕ) (fs : List (List ℕ)) (ss : List MemorySpan) → AreSpans ss → length ns ≡ length fs → pages_by ns fs ≡ pages_of_spans ss → AreLow ns
numbers_low ns fs ss h same e =
    let is : numbers_of (pages_of_spans ss) ≡ ns = ap numbers_of (sym e) ∙ numbers_by ns fs same in
    subst AreLow is (spans_low ss h)

-- ---- a loop that takes spans from the front

pub span_small : (rest next : List MemorySpan) (s : MemorySpan) (bytes : List ℕ) → AreSpans rest → rest ≡ s ∷ next → bytes ≡ s.bytes → s.address / 4096 + length bytes < 2 ^ 64
span_small rest next s bytes h step is =
    let here : IsMemorySpan s = (subst AreSpans step h).each 0 s (omega arith) in
    let low = here.low in
    rw is (omega (arith, low))

pub spans_after : (rest next : List MemorySpan) (s : MemorySpan) → AreSpans rest → rest ≡ s ∷ next → AreSpans next
spans_after rest next s h step = later_spans s next (subst AreSpans step h)

pub spans_turn : (before after all : List Page) (rest next : List MemorySpan) (s : MemorySpan) (bytes : List ℕ) → before ++ pages_of_spans rest ≡ all → rest ≡ s ∷ next → after ≡ before ++ pages_in (length bytes / 4096) (s.address / 4096) bytes → bytes ≡ s.bytes → after ++ pages_of_spans next ≡ all
spans_turn before after all rest next s bytes was step added is =
    let part : List ℕ → List Page = λ bs. pages_in (length bs / 4096) (s.address / 4096) bs in
    ap (λ ps. ps ++ pages_of_spans next) (added ∙ ap (λ bs. before ++ part bs) is)
    ∙ (append_assoc before (part s.bytes) (pages_of_spans next) ∙ (ap (λ ss. before ++ pages_of_spans ss) (sym step) ∙ was))

pub spans_done : (ps all : List Page) (rest : List MemorySpan) → ps ++ pages_of_spans rest ≡ all → length rest ≡ 0 → ps ≡ all
spans_done ps all [] h e = sym (append-nil ps) ∙ h
spans_done ps all (s ∷ rest) h e = absurd (omega arith)

-- ---- two spans

ends_apart : (a b : MemorySpan) → memory_span_end a ≤ b.address → AreApart (a ∷ b ∷ [])
ends_apart a b h i zero d l m = absurd (omega arith)
ends_apart a b h zero (suc zero) d l m = h
ends_apart a b h (suc i) (suc zero) d l m = absurd (omega arith)
ends_apart a b h i (suc (suc j)) d l m = absurd (omega arith)

pub two_spans : (ss : List MemorySpan) (a b : MemorySpan) → ss ≡ a ∷ b ∷ [] → IsMemorySpan a → IsMemorySpan b → memory_span_end a ≤ b.address → AreSpans ss
two_spans ss a b e first second apart =
    rw e (record {
      each = All-cons IsMemorySpan a (b ∷ []) first (All-cons IsMemorySpan b [] second (All-nil IsMemorySpan));
      apart = ends_apart a b apart;
    })
