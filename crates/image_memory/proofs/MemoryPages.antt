-- The pages of each span stand in the memory that spans give.
use Rattle.std.proofs.Common.{◌≡◌, ◌∙◌, refl, sym, ap, subst, arith, ℕ, zero, suc, ◌+◌, ◌*◌, ◌/◌, ◌%◌, ◌<◌, ◌≤◌, ◌⊎◌, inl, inr, List, [], ◌∷◌, ◌++◌, length, get_or, take, drop, eq-eqb, ne_eqb, eqb, cond, Bool, true, false, Option, Some, None}
use Rattle.std.specs.Prelude.{slice_get}
use Rattle.std.proofs.lemmas.List.{drop-drop}
use Rattle.std.proofs.lemmas.Option.{get_or_from_slice_get, slice_get_within}
use Rattle.machine_layout.specs.Memory.{Page, page_of}
use Rattle.phys_mem.proofs.Rising.{later_spans}
use Rattle.phys_mem.specs.Frames.{pages_in}
use Rattle.phys_mem.specs.Spans.{AreSpans, IsMemorySpan, memory_span_end, pages_of_spans}
use Rattle.phys_mem.specs.declared.spans.MemorySpan.{MemorySpan}

not_in : (n k q : ℕ) (bytes : List ℕ) → (q < k) ⊎ (k + n ≤ q) → page_of (pages_in n k bytes) q ≡ None
not_in zero k q bytes h = refl
not_in (suc n) k q bytes (inl low) = rw (ne_eqb k q (λ e. absurd (omega (arith, e, low)))) (not_in n (k + 1) q (drop 4096 bytes) (inl (omega (arith, low))))
not_in (suc n) k q bytes (inr high) = rw (ne_eqb k q (λ e. absurd (omega (arith, e, high)))) (not_in n (k + 1) q (drop 4096 bytes) (inr (omega (arith, high))))

here : (n k j : ℕ) (bytes : List ℕ) → j < n → page_of (pages_in n k bytes) (k + j) ≡ Some (take 4096 (drop (4096 * j) bytes))
here zero k j bytes l = absurd (omega (arith, l))
here (suc n) k zero bytes l = rw (eq-eqb k (k + 0) (omega arith)) refl
here (suc n) k (suc j) bytes l =
    let at : k + 1 + j ≡ k + suc j = omega arith in
    let all : 4096 + 4096 * j ≡ 4096 * suc j = omega arith in
    rw (ne_eqb k (k + suc j) (λ e. absurd (omega (arith, e))))
    (ap (page_of (pages_in n (k + 1) (drop 4096 bytes))) (sym at)
    ∙ here n (k + 1) j (drop 4096 bytes) (omega (arith, l))
    ∙ ap (λ bs. Some (take 4096 bs)) (drop-drop (4096 * j) 4096 bytes ∙ ap (λ i. drop i bytes) all))

-- ---- pages of one list and of another behind it

left_if : (b : Bool) (x r : List ℕ) (rest more : Option (List ℕ)) → (rest ≡ Some r → more ≡ Some r) → cond b (Some x) rest ≡ Some r → cond b (Some x) more ≡ Some r
left_if true x r rest more f h = h
left_if false x r rest more f h = f h

left : (xs ys : List Page) (q : ℕ) (b : List ℕ) → page_of xs q ≡ Some b → page_of (xs ++ ys) q ≡ Some b
left [] ys q b h = absurd cc
left (p ∷ ps) ys q b h = left_if (eqb p.number q) p.bytes b (page_of ps q) (page_of (ps ++ ys) q) (left ps ys q b) h

right_if : (b : Bool) (x : List ℕ) (rest more other : Option (List ℕ)) → (rest ≡ None → more ≡ other) → cond b (Some x) rest ≡ None → cond b (Some x) more ≡ other
right_if true x rest more other f h = absurd cc
right_if false x rest more other f h = f h

right : (xs ys : List Page) (q : ℕ) → page_of xs q ≡ None → page_of (xs ++ ys) q ≡ page_of ys q
right [] ys q h = refl
right (p ∷ ps) ys q h = right_if (eqb p.number q) p.bytes (page_of ps q) (page_of (ps ++ ys) q) (page_of ys q) (right ps ys q) h

-- ---- spans

behind : (address bytes next j : ℕ) → address % 4096 ≡ 0 → bytes % 4096 ≡ 0 → address + bytes ≤ next → address / 4096 + bytes / 4096 ≤ next / 4096 + j
behind address bytes next j a b h = omega (arith, a, b, h)

same : (s t : MemorySpan) → Some s ≡ Some t → s ≡ t
same s t h = cc

-- page j of a span stands in memory
pub in_spans : (ss : List MemorySpan) → AreSpans ss → (i : ℕ) (s : MemorySpan) → slice_get ss i ≡ Some s → (j : ℕ) → j < length s.bytes / 4096
    → page_of (pages_of_spans ss) (s.address / 4096 + j) ≡ Some (take 4096 (drop (4096 * j) s.bytes))
in_spans [] h i s at j l = absurd cc
in_spans (t ∷ ts) h zero s at j l =
    let is : s ≡ t = sym (same t s at) in
    left (pages_in (length t.bytes / 4096) (t.address / 4096) t.bytes) (pages_of_spans ts) (s.address / 4096 + j) (take 4096 (drop (4096 * j) s.bytes))
    (subst (λ (x : MemorySpan). page_of (pages_in (length x.bytes / 4096) (x.address / 4096) x.bytes) (s.address / 4096 + j) ≡ Some (take 4096 (drop (4096 * j) s.bytes))) is (here (length s.bytes / 4096) (s.address / 4096) j s.bytes l))
in_spans (t ∷ ts) h (suc i) s at j l =
    let first : IsMemorySpan t = h.each 0 t (omega arith) in
    let within = slice_get_within ts i s at in
    let apart : memory_span_end t ≤ (get_or ts i s).address = h.apart 0 (suc i) s (omega arith) (omega (arith, within)) in
    let address : (get_or ts i s).address ≡ s.address = ap (λ (x : MemorySpan). x.address) (get_or_from_slice_get ts i s s at) in
    right (pages_in (length t.bytes / 4096) (t.address / 4096) t.bytes) (pages_of_spans ts) (s.address / 4096 + j)
    (not_in (length t.bytes / 4096) (t.address / 4096) (s.address / 4096 + j) t.bytes (inr (behind t.address (length t.bytes) s.address j first.aligned first.whole (omega (arith, apart, address)))))
    ∙ in_spans ts (later_spans t ts h) i s at j l
