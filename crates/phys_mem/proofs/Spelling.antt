-- Numbers as std reads them by their width.
use Rattle.std.proofs.Common.{◌≡◌, ◌∙◌, ap, ℕ, ◌+◌, ◌-◌, ◌<◌, ◌≤◌, List, [], ◌∷◌, length, get_or, take, drop, drop-cons, take_all, length-drop, length-take-le, arith}
use Rattle.std.specs.Int.{from_le_bytes, w16, w32}
use Rattle.machine_layout.specs.Memory.{le_number}

two_bytes : (bs : List ℕ) → length bs ≡ 2 → from_le_bytes w16 bs ≡ le_number bs
two_bytes [] h = absurd (omega arith)
two_bytes (a ∷ []) h = absurd (omega arith)
two_bytes (a ∷ b ∷ []) h = omega arith
two_bytes (a ∷ b ∷ c ∷ bs) h = absurd (omega arith)

four_bytes : (bs : List ℕ) → length bs ≡ 4 → from_le_bytes w32 bs ≡ le_number bs
four_bytes [] h = absurd (omega arith)
four_bytes (a ∷ []) h = absurd (omega arith)
four_bytes (a ∷ b ∷ []) h = absurd (omega arith)
four_bytes (a ∷ b ∷ c ∷ []) h = absurd (omega arith)
four_bytes (a ∷ b ∷ c ∷ d ∷ []) h = omega arith
four_bytes (a ∷ b ∷ c ∷ d ∷ e ∷ bs) h = absurd (omega arith)

-- n bytes cut out of a page
part_is : (page bs : List ℕ) (at n : ℕ) → at + n ≤ length page → bs ≡ take n (take (at + n - at) (drop at page)) → (bs ≡ take n (drop at page)) × (length bs ≡ n)
part_is page bs at n room cut =
    let same : at + n - at ≡ n = omega arith in
    let left : n ≤ length (drop at page) = omega (arith, length-drop at page) in
    let part : bs ≡ take n (drop at page) = cut ∙ (ap (λ k. take n (take k (drop at page))) same ∙ take_all n (take n (drop at page)) (omega (arith, length-take-le n (drop at page) left))) in
    (part, ap length part ∙ length-take-le n (drop at page) left)

pub one_byte_at : (page : List ℕ) (at : ℕ) → at < length page → get_or page at 0 ≡ le_number (take 1 (drop at page))
one_byte_at page at room = let e = drop-cons page at 0 room in rw e (omega arith)

pub two_bytes_at : (page bs : List ℕ) (at : ℕ) → at + 2 ≤ length page → bs ≡ take 2 (take (at + 2 - at) (drop at page)) → from_le_bytes w16 bs ≡ le_number (take 2 (drop at page))
two_bytes_at page bs at room cut =
    let part = part_is page bs at 2 room cut in
    two_bytes bs part.1 ∙ ap le_number part.0

pub four_bytes_at : (page bs : List ℕ) (at : ℕ) → at + 4 ≤ length page → bs ≡ take 4 (take (at + 4 - at) (drop at page)) → from_le_bytes w32 bs ≡ le_number (take 4 (drop at page))
four_bytes_at page bs at room cut =
    let part = part_is page bs at 4 room cut in
    four_bytes bs part.1 ∙ ap le_number part.0
