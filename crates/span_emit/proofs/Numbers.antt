-- The numbers of spans by number: from 0 on, each once.
use Rattle.std.proofs.Common.{◌≡◌, ℕ, ◌+◌, ◌<◌, ◌≤◌, false, All, List, [], ◌∷◌, ◌++◌, length, map, refl, subst, arith}
use Rattle.std.specs.Prelude.{◌==◌}
use Rattle.std.specs.List.{AllPairs, enumerate_from}
use Rattle.std.proofs.lemmas.Bool.{ne_eqb}
use Rattle.std.proofs.lemmas.List.Elements.{All-cons, All-nil, All-weaker}
use Rattle.std.proofs.lemmas.List.Kept.{AllPairs-cons}
use Rattle.expand_kernel.specs.thing.Region.{Region}
use Rattle.image_pack.specs.declared.parts.SpanPart.{SpanPart}
use Rattle.policy_lawful.specs.source.DeviceMemory.{DeviceMemory}
use Rattle.span_emit.specs.Spans.{device_span, region_span}
use Rattle.span_emit.proofs.PairLaws.{pairs_nil}

-- numbered from k on
abbrev pub Numbered : ℕ → List SpanPart → Type 0
Numbered k [] = Unit {0}
Numbered k (s ∷ ss) = (s.number ≡ k) × Numbered (k + 1) ss

pub regions_numbered : (k : ℕ) (xs : List (Region × ℕ)) → Numbered k (map region_span (enumerate_from k xs))
regions_numbered k [] = tt
regions_numbered k ((r, address) ∷ xs) = (refl, regions_numbered (k + 1) xs)

pub devices_numbered : (k : ℕ) (ms : List (List ℕ × DeviceMemory)) → Numbered k (map device_span (enumerate_from k ms))
devices_numbered k [] = tt
devices_numbered k ((device, m) ∷ ms) = (refl, devices_numbered (k + 1) ms)

pub numbered_append : (k : ℕ) (xs ys : List SpanPart) → Numbered k xs → Numbered (k + length xs) ys → Numbered k (xs ++ ys)
numbered_append k [] ys h g = let e : k + 0 ≡ k = omega arith in subst (λ n. Numbered n ys) e g
numbered_append k (x ∷ xs) ys h g =
    let e : k + length (x ∷ xs) ≡ (k + 1) + length xs = omega arith in
    (h.0, numbered_append (k + 1) xs ys h.1 (subst (λ n. Numbered n ys) e g))

pub numbered_between : (k : ℕ) (xs : List SpanPart) → Numbered k xs → All (λ s. (k ≤ s.number) × (s.number < k + length xs)) xs
numbered_between k [] h = All-nil (λ s. (k ≤ s.number) × (s.number < k + 0))
numbered_between k (x ∷ xs) h =
    let here = h.0 in
    All-cons (λ s. (k ≤ s.number) × (s.number < k + length (x ∷ xs))) x xs (omega arith, omega arith)
    (All-weaker (λ s. (k + 1 ≤ s.number) × (s.number < (k + 1) + length xs)) (λ s. (k ≤ s.number) × (s.number < k + length (x ∷ xs)))
    (λ s both. (omega arith, omega arith)) xs (numbered_between (k + 1) xs h.1))

pub numbered_differ : (k : ℕ) (xs : List SpanPart) → Numbered k xs → AllPairs (λ a b. (a.number == b.number) ≡ false) xs
numbered_differ k [] h = pairs_nil (λ a b. (a.number == b.number) ≡ false)
numbered_differ k (x ∷ xs) h =
    let here = h.0 in
    AllPairs-cons (λ a b. (a.number == b.number) ≡ false) x xs
    (All-weaker (λ s. (k + 1 ≤ s.number) × (s.number < (k + 1) + length xs)) (λ s. (x.number == s.number) ≡ false)
    (λ s both. ne_eqb x.number s.number (λ e. absurd (omega arith))) xs (numbered_between (k + 1) xs h.1))
    (numbered_differ (k + 1) xs h.1)
