use Rattle.std.proofs.Common.{◌≡◌, ℕ, List, [], ◌∷◌, ◌++◌, length, map, append-nil, inl, inr, refl, sym, ap, ◌∙◌, arith}
use Rattle.std.specs.List.{zip}
use Rattle.phys_mem.specs.declared.spans.MemorySpan.{MemorySpan}
use Rattle.image_pack.specs.declared.parts.SpanPart.{SpanPart}
use Rattle.image_memory.specs.Memory.{memory_span}
use Rattle.image_memory.proofs.memory.memory_spans.Goals as goal

-- no span is left, or no bytes are
no_spans : (ss : List SpanPart) (bs : List (List ℕ)) → length ss ≡ 0 → map memory_span (zip ss bs) ≡ []
no_spans [] bs none = refl
no_spans (s ∷ ss) bs none = absurd (omega arith)

no_bytes : (ss : List SpanPart) (bs : List (List ℕ)) → length bs ≡ 0 → map memory_span (zip ss bs) ≡ []
no_bytes [] bs none = refl
no_bytes (s ∷ ss) [] none = refl
no_bytes (s ∷ ss) (b ∷ bs) none = absurd (omega arith)

all_there : (loaded all : List MemorySpan) (ss : List SpanPart) (bs : List (List ℕ)) → loaded ++ map memory_span (zip ss bs) ≡ all → map memory_span (zip ss bs) ≡ [] → loaded ≡ all
all_there loaded all ss bs was none = sym (append-nil loaded) ∙ (ap (λ x. loaded ++ x) (sym none) ∙ was)

pub returns : goal.returns
returns c =
    let ss = c.loop-span.span-iterator.a.rest.now in
    let bs = c.loop-span.span-iterator.b.rest.items in
    elim c.in-None.ensures.steps [
      | inl e ↦ all_there _ _ ss bs c.loop-span.invariant (no_spans ss bs e.1.0)
      | inr e ↦ all_there _ _ ss bs c.loop-span.invariant (no_bytes ss bs (omega (arith, e.1.0, c.loop-span.span-iterator.b.rest.ok.0)))
    ]
