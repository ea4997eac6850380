-- What stands in the memory that an image gives a machine is bytes.
use Rattle.std.proofs.Common.{◌≡◌, ℕ, zero, suc, ◌+◌, ◌*◌, ◌/◌, if◌then◌else◌, true, false, List, [], ◌∷◌, length, map, take, drop, replicate, Some, subst, inl, inr, arith}
use Rattle.std.specs.Prelude.{◌==◌}
use Rattle.std.specs.List.{All, zip}
use Rattle.std.proofs.lemmas.Bool.{cases_Bool}
use Rattle.std.proofs.lemmas.List.Elements.{All-append, All-cons, All-drop, All-head, All-nil, All-replicate, All-tail, All-take}
use Rattle.image_memory.specs.Memory.{memory_of, memory_span, spans_in}
use Rattle.image_pack.specs.Codes.{is_device}
use Rattle.image_pack.specs.declared.parts.Image.{Image}
use Rattle.image_pack.specs.declared.parts.SpanPart.{SpanPart}
use Rattle.vmx_machine.specs.Memory.{Page, page_of}
use Rattle.muen_num.specs.declared.limits.TheConstants.{PAGE}
use Rattle.image_soundness.specs.Frames.{pages_in}
use Rattle.image_soundness.specs.Spans.{pages_of_spans}
use Rattle.image_soundness.specs.spans.MemorySpan.{MemorySpan}
use Rattle.guest_isa.specs.Words.{IsByte}

-- ---- bytes of memory are bytes

abbrev AreBytes : Page → Type 0
AreBytes p = All IsByte p.bytes

bytes_in : (n k : ℕ) (bytes : List ℕ) → All IsByte bytes → All AreBytes (pages_in n k bytes)
bytes_in zero k bytes h = All-nil AreBytes
bytes_in (suc n) k bytes h = All-cons AreBytes (record { number = k; bytes = take 4096 bytes }) (pages_in n (k + 1) (drop 4096 bytes)) (All-take IsByte 4096 bytes h) (bytes_in n (k + 1) (drop 4096 bytes) (All-drop IsByte 4096 bytes h))

bytes_in_spans : (ss : List MemorySpan) → All (λ s. All IsByte s.bytes) ss → All AreBytes (pages_of_spans ss)
bytes_in_spans [] h = All-nil AreBytes
bytes_in_spans (s ∷ ss) h =
    All-append AreBytes (pages_in (length s.bytes / 4096) (s.address / 4096) s.bytes) (pages_of_spans ss) (bytes_in (length s.bytes / 4096) (s.address / 4096) s.bytes (All-head (λ u. All IsByte u.bytes) s ss h)) (bytes_in_spans ss (All-tail (λ u. All IsByte u.bytes) s ss h))

loaded_bytes : (s : SpanPart) (bytes : List ℕ) → All IsByte bytes → All IsByte (memory_span (s, bytes)).bytes
loaded_bytes s bytes =
    elim (is_device s.kind) as (λ b. All IsByte bytes → All IsByte (if b then replicate (PAGE * s.pages) 0 else bytes)) [
      | true ↦ λ h. All-replicate IsByte (PAGE * s.pages) 0 (omega arith)
      | false ↦ λ h. h
    ]

bytes_loaded : (ss : List SpanPart) (bs : List (List ℕ)) → All (All IsByte) bs → All (λ (s : MemorySpan). All IsByte s.bytes) (map memory_span (zip ss bs))
bytes_loaded [] bs h = All-nil (λ (s : MemorySpan). All IsByte s.bytes)
bytes_loaded (s ∷ ss) [] h = All-nil (λ (s : MemorySpan). All IsByte s.bytes)
bytes_loaded (s ∷ ss) (b ∷ bs) h = All-cons (λ (s : MemorySpan). All IsByte s.bytes) (memory_span (s, b)) (map memory_span (zip ss bs)) (loaded_bytes s b (All-head (All IsByte) b bs h)) (bytes_loaded ss bs (All-tail (All IsByte) b bs h))

of_page : (ps : List Page) (k : ℕ) (page : List ℕ) → All AreBytes ps → page_of ps k ≡ Some page → All IsByte page
of_page [] k page h at = absurd (cc)
of_page (p ∷ ps) k page h at =
    elim (cases_Bool (p.number == k)) [
      | inl t ↦ let e : p.bytes ≡ page = (let g = rw t at at in cc) in subst (All IsByte) e (All-head AreBytes p ps h)
      | inr f ↦ of_page ps k page (All-tail AreBytes p ps h) (let g = rw f at at in g)
    ]

pub memory_small : (i : Image) → All (All IsByte) i.contents → (k : ℕ) (page : List ℕ) → page_of (memory_of i) k ≡ Some page → All IsByte page
memory_small i h k page at = of_page (memory_of i) k page (bytes_in_spans (map memory_span (spans_in i)) (bytes_loaded i.spans i.contents h)) at
