-- Laws of bitmaps.
use Rattle.std.proofs.Common.{◌≡◌, ap, refl, sym, ℕ, ◌+◌, ◌*◌, ◌/◌, ◌%◌, ◌<◌, ◌≤◌, ◌&&◌, ◌==◌, ◌^◌, Bool, true, false, not, List, length, get_or, set, replicate, arith, inl, inr, min, w8, get_or-set_same, get_or-set_other, eq-eqb, ne_eqb, bit_and}
use Rattle.std.specs.Int.{bit_at, bit_not}
use Rattle.std.proofs.lemmas.Bool.{cases_eq}
use Rattle.std.proofs.lemmas.List.{get_or-replicate}
use Rattle.std.proofs.lemmas.Nat.Bits.{bit_at_clear_same, bit_at_clear_other, bit_at_ones}
use Rattle.std.proofs.lemmas.Bool.Decides.{nat_tests}
use Rattle.std.proofs.Math.Bool.{and-false, and-true}
use Rattle.machine_layout.specs.Exits.{is_set}
use Rattle.machine_layout.specs.Bitmaps.{is_between}

-- a byte of ones has each of its bits
ones : (k : ℕ) → k < 8 → bit_at 255 k ≡ 1
ones k h = bit_at_ones 8 k h

-- each bit of bytes of ones is set
pub all_set : (size n : ℕ) → n < 8 * size → is_set (replicate size 255) n ≡ true
unfolding is_set
all_set size n h =
    let within : n / 8 < size = omega arith in
    let offset : n % 8 < 8 = omega arith in
    rw (get_or-replicate {A = ℕ} size (n / 8) 255 0 within, ones (n % 8) offset) refl

-- a bit of the byte in which a bit was cleared
in_byte : (b bit n : ℕ) → n / 8 ≡ bit / 8 → (bit_at (bit_and b (bit_not w8 (1 * 2 ^ (bit % 8) % 2 ^ 8))) (n % 8) == 1) ≡ ((bit_at b (n % 8) == 1) && not (n == bit))
in_byte b bit n e =
    elim (cases_eq n bit) [
      | inl s ↦
          rw (s, bit_at_clear_same w8 b (bit % 8) (omega arith), eq-eqb bit bit refl) (sym (and-false _))
      | inr d ↦
          let apart : n % 8 ≡ bit % 8 → _ = λ s. d (omega arith) in
          rw (bit_at_clear_other w8 b (bit % 8) (omega arith) (n % 8) (omega arith) apart, ne_eqb n bit d) (sym (and-true _))
    ]

-- with one bit cleared
pub bit_cleared : (bitmap : List ℕ) (bit b n : ℕ) → bit < 8 * length bitmap → b ≡ bit_and (get_or bitmap (bit / 8) 0) (bit_not w8 (1 * 2 ^ (bit % 8) % 2 ^ 8)) → is_set (set bitmap (bit / 8) b) n ≡ (is_set bitmap n && not (n == bit))
unfolding is_set
bit_cleared bitmap bit b n h e =
    let within : bit / 8 < length bitmap = omega arith in
    elim (cases_eq (n / 8) (bit / 8)) [
      | inl s ↦ rw (s, get_or-set_same bitmap (bit / 8) b 0 within, e) (in_byte (get_or bitmap (bit / 8) 0) bit n s)
      | inr d ↦
          let apart : n ≡ bit → _ = λ s. d (ap (λ k. k / 8) s) in
          rw (get_or-set_other bitmap (bit / 8) (n / 8) b 0 d, ne_eqb n bit apart) (sym (and-true _))
    ]

between_more : (first bit end n : ℕ) → first ≤ bit → bit < end → (not (is_between first (min bit end) n) && not (n == bit)) ≡ not (is_between first (min (bit + 1) end) n)
between_more first bit end n h l = grind (arith, nat_tests)

-- with one more bit of a run cleared
pub run_more : (b c d : Bool) (first bit end n : ℕ) → first ≤ bit → bit < end → c ≡ (b && not (is_between first (min bit end) n)) → d ≡ (c && not (n == bit)) → d ≡ (b && not (is_between first (min (bit + 1) end) n))
run_more false c d first bit end n h l p q = rw (q, p) refl
run_more true c d first bit end n h l p q = rw (q, p) (between_more first bit end n h l)

-- with none cleared
pub run_begins : (b : Bool) (first end n : ℕ) → b ≡ (b && not (is_between first (min first end) n))
run_begins false first end n = refl
run_begins true first end n = grind (arith, nat_tests)

-- with all of a run cleared
pub run_ends : (b c : Bool) (first bit end n : ℕ) → end ≤ bit → c ≡ (b && not (is_between first (min bit end) n)) → c ≡ (b && not (is_between first end n))
run_ends b c first bit end n h p = let e : min bit end ≡ end = omega arith in rw (← e) p
