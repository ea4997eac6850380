-- Numbers that fit so many bits, and sums.
use Rattle.std.proofs.Common.{◌≡◌, ℕ, ◌+◌, ◌-◌, ◌^◌, ◌<◌, ◌≤◌, Bool, true, List, [], length, drop, get_or, Some, None, Result, Ok, Err, refl, ap, ◌∙◌, sym, arith}
use Rattle.std.specs.Prelude.{ℤ, pos, negsuc, neg_ℤ, ◌+ℤ◌, ◌≤ℤ◌, ◌<ℤ◌, int_le, int_lt}
use Rattle.std.proofs.Math.Nat.{pow-le-pow_right}
use mir.Syntax.{w128}
use mir.Val.{to_z, of_z}
use Rattle.std.specs.Int.RustNames.{FitsSigned}
use Rattle.std.proofs.lemmas.Int.{ints, to_z-of_z}
use Rattle.std.proofs.lemmas.List.{drop_all, drop_more}
use Rattle.std.proofs.lemmas.Bool.{and_parts}
use Rattle.text_words.specs.Steps.{◌>>=◌, mapped}
use Rattle.asm_text.specs.Layout.{SymbolTable}
use Rattle.asm_text.specs.Meaning.{added_or_subtracted, fits_in_bits, signed, sum_of, sum_of_atom}
use Rattle.asm_text.specs.Ranges.{IsMagnitude, IsMagnitudeWithin}
use Rattle.asm_text.specs.Reading.{ok_or_wanted, wanted}
use Rattle.asm_text.specs.declared.fault.LineError.{LineError}
use Rattle.asm_text.specs.declared.fault.Want.TheVariants.{KnownName}
use Rattle.asm_text.specs.declared.meaning.Sum.{Sum}
use Rattle.asm_text.specs.declared.statement.Term.{Term}

pub powers : (bits : ℕ) → bits ≤ 64 → (1 ≤ 2 ^ bits) × (2 ^ bits ≤ 2 ^ 64) × (2 ^ (bits - 1) ≤ 2 ^ bits)
powers bits h = (pow-le-pow_right {n = 2} (omega arith) {i = 0} {j = bits} (omega arith), pow-le-pow_right {n = 2} (omega arith) {i = bits} {j = 64} h, pow-le-pow_right {n = 2} (omega arith) {i = bits - 1} {j = bits} (omega arith))

pub fits_low : (bits : ℕ) (z : ℤ) → fits_in_bits bits z ≡ true → neg_ℤ (pos (2 ^ (bits - 1))) ≤ℤ z
fits_low bits z h =
    let p = and_parts (int_le (neg_ℤ (pos (2 ^ (bits - 1)))) z) (int_lt z (pos (2 ^ bits))) h in
    omega (arith, ints, p.0)

pub fits_high : (bits : ℕ) (z : ℤ) → fits_in_bits bits z ≡ true → z <ℤ pos (2 ^ bits)
fits_high bits z h =
    let p = and_parts (int_le (neg_ℤ (pos (2 ^ (bits - 1)))) z) (int_lt z (pos (2 ^ bits))) h in
    omega (arith, ints, p.1)

-- ---- sums, term by term

abbrev pub behind : Sum → Result Sum LineError → Result Sum LineError
behind s r = mapped (λ t. record { number = s.number +ℤ t.number; labels = s.labels +ℤ t.labels }) r

sum_is : (a b c d : ℤ) → a ≡ c → b ≡ d → ◌≡◌ {A = Sum} (record { number = a; labels = b }) (record { number = c; labels = d })
sum_is a b c d h k = rw (h, k) refl

behind_more : (s t : Sum) (minus : Bool) (r : Result Sum LineError)
    → behind s (r >>= λ others. Ok (added_or_subtracted minus t others)) ≡ behind (record { number = s.number +ℤ signed minus t.number; labels = s.labels +ℤ signed minus t.labels }) r
behind_more s t minus (Ok others) = ap Ok (sum_is _ _ _ _ (omega (arith, ints)) (omega (arith, ints)))
behind_more s t minus (Err e) = refl

pub sum_more : (names : SymbolTable) (s t : Sum) (terms : List Term) (term : Term) (i : ℕ) → i < length terms → term ≡ get_or terms i term → sum_of_atom names term.atom ≡ Some t
    → behind s (sum_of names (drop i terms)) ≡ behind (record { number = s.number +ℤ signed term.minus t.number; labels = s.labels +ℤ signed term.minus t.labels }) (sum_of names (drop (i + 1) terms))
unfolding sum_of
sum_more names s t terms term i less is h =
    ap (λ ts. behind s (sum_of names ts)) (drop_more terms i term less)
    ∙ rw (← is) (
    ap (λ o. behind s (◌>>=◌ {B = Sum} (ok_or_wanted term.left KnownName o) (λ first. sum_of names (drop (i + 1) terms) >>= λ others. Ok (added_or_subtracted term.minus first others)))) h
    ∙ behind_more s t term.minus (sum_of names (drop (i + 1) terms))
    )

-- .. where these are what is added
pub sum_grown : (names : SymbolTable) (s t : Sum) (terms : List Term) (term : Term) (i : ℕ) (n l : ℤ) → i < length terms → term ≡ get_or terms i term → sum_of_atom names term.atom ≡ Some t
    → n ≡ signed term.minus t.number → l ≡ signed term.minus t.labels
    → behind (record { number = s.number +ℤ n; labels = s.labels +ℤ l }) (sum_of names (drop (i + 1) terms)) ≡ behind s (sum_of names (drop i terms))
sum_grown names s t terms term i n l less is h a b = rw (a, b) (sym (sum_more names s t terms term i less is h))

pub no_such_name : (names : SymbolTable) (s : Sum) (terms : List Term) (term : Term) (i : ℕ) → i < length terms → term ≡ get_or terms i term → sum_of_atom names term.atom ≡ None
    → behind s (sum_of names (drop i terms)) ≡ wanted term.left KnownName
unfolding sum_of
no_such_name names s terms term i less is h =
    ap (λ ts. behind s (sum_of names ts)) (drop_more terms i term less)
    ∙ rw (← is) (ap (λ o. behind s (◌>>=◌ {B = Sum} (ok_or_wanted term.left KnownName o) (λ first. sum_of names (drop (i + 1) terms) >>= λ others. Ok (added_or_subtracted term.minus first others)))) h)

pub no_more_terms : (names : SymbolTable) (s : Sum) → behind s (sum_of names []) ≡ Ok s
unfolding sum_of
no_more_terms names s = ap Ok (sum_is _ _ _ _ (omega (arith, ints)) (omega (arith, ints)))

pub sums_end : (names : SymbolTable) (s : Sum) (terms : List Term) (i : ℕ) → length terms ≤ i → behind s (sum_of names (drop i terms)) ≡ Ok s
sums_end names s terms i past = ap (λ ts. behind s (sum_of names ts)) (drop_all i terms past) ∙ no_more_terms names s

-- ---- sums stay within 128 bits

fitting : (z : ℤ) → neg_ℤ (pos (2 ^ 127)) ≤ℤ z → z <ℤ pos (2 ^ 127) → FitsSigned w128 z
fitting (pos n) low high = record { sfits = omega (arith, ints, high) }
fitting (negsuc n) low high = record { sfits = omega (arith, ints, low) }

pub within_fits : (i : ℕ) (z : ℤ) → i < 2 ^ 63 → IsMagnitudeWithin i z → FitsSigned w128 z
within_fits i z few h = fitting z (omega (arith, ints, few, h.0)) (omega (arith, ints, few, h.1))

pub magnitude_fits : (z : ℤ) → IsMagnitude z → FitsSigned w128 z
magnitude_fits z h = fitting z (omega (arith, ints, h.0)) (omega (arith, ints, h.1))

pub magnitude_read : (z : ℤ) → IsMagnitude z → to_z w128 (of_z w128 z) ≡ z
magnitude_read z h = to_z-of_z w128 z (magnitude_fits z h)

pub within_more : (i : ℕ) (a b : ℤ) → IsMagnitudeWithin i a → IsMagnitude b → IsMagnitudeWithin (i + 1) (a +ℤ b)
within_more i a b h k = (omega (arith, ints, h.0, k.0), omega (arith, ints, h.1, k.1))

-- the sum of two numbers that are read as such
pub sum_fits : (i : ℕ) (a b : ℤ) → i + 1 < 2 ^ 63 → IsMagnitudeWithin i a → IsMagnitude b → FitsSigned w128 (to_z w128 (of_z w128 a) +ℤ to_z w128 (of_z w128 b))
sum_fits i a b few h k =
    rw (to_z-of_z w128 a (within_fits i a (omega (arith, few)) h), to_z-of_z w128 b (magnitude_fits b k)) (within_fits (i + 1) (a +ℤ b) few (within_more i a b h k))

pub sum_read : (i : ℕ) (a b : ℤ) → i + 1 < 2 ^ 63 → IsMagnitudeWithin i a → IsMagnitude b → to_z w128 (of_z w128 (to_z w128 (of_z w128 a) +ℤ to_z w128 (of_z w128 b))) ≡ a +ℤ b
sum_read i a b few h k =
    to_z-of_z w128 _ (sum_fits i a b few h k)
    ∙ rw (to_z-of_z w128 a (within_fits i a (omega (arith, few)) h), to_z-of_z w128 b (magnitude_fits b k)) refl
