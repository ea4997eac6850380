-- Bitmaps by which the same accesses exit are one: each bit of them is that of a port, or of an MSR and a kind of access.
use Rattle.std.proofs.Common.{◌≡◌, ◌+◌, ◌-◌, ◌*◌, ◌/◌, ◌%◌, ◌<◌, ◌==◌, ◌||◌, ◌∙◌, if◌then◌else◌}
use Rattle.std.proofs.Common.{inl, inr, ℕ, Bool, true, false, List, length, get_or, take, drop, Some, refl, ap, sym, subst, arith}
use Rattle.std.specs.Prelude.{nat_lt, slice_index}
use Rattle.std.specs.Int.{bit_at}
use Rattle.std.specs.List.{list_any}
use Rattle.std.proofs.lemmas.Bool.{cases_eq, cases_lt, eq-eqb, le-leb, le-ltb, lt-leb, lt-ltb, ne_eqb, true≢false}
use Rattle.std.proofs.lemmas.List.{get_or-drop, get_or-take, get_or_default, same_lists}
use Rattle.std.proofs.lemmas.Nat.Bits.{bit_at-lt, same_from_bits_below}
use Rattle.std.proofs.Math.Bool.{or-false}
use Rattle.machine_layout.specs.Exits.{exits_by, is_set, high_part, low_part, msr_bit, msr_exits, port_exits, port_is_set}
use Rattle.muen_num.specs.Range.{numbers_below}

-- ---- bits

one_bit : (x y : ℕ) → x < 2 → y < 2 → (x == 1) ≡ (y == 1) → x ≡ y
one_bit x y small_x small_y same =
    elim (cases_eq x 1) [
      | inl set_x ↦ elim (cases_eq y 1) [
        | inl set_y ↦ set_x ∙ sym set_y
        | inr clear_y ↦ absurd (true≢false (sym (eq-eqb x 1 set_x) ∙ (same ∙ ne_eqb y 1 clear_y)))
      ]
      | inr clear_x ↦ elim (cases_eq y 1) [
        | inl set_y ↦ absurd (true≢false (sym (eq-eqb y 1 set_y) ∙ (sym same ∙ ne_eqb x 1 clear_x)))
        | inr clear_y ↦ omega arith
      ]
    ]

bit_of : (xs : List ℕ) (k i : ℕ) → i < 8 → is_set xs (8 * k + i) ≡ (bit_at (slice_index xs k) i == 1)
unfolding is_set
bit_of xs k i small =
    let byte : (8 * k + i) / 8 ≡ k = omega arith in
    let bit : (8 * k + i) % 8 ≡ i = omega arith in
    λ j. (bit_at (slice_index xs (byte j)) (bit j) == 1)

-- bytes with the same bits
bitmaps_are_one : (xs ys : List ℕ) → length xs ≡ length ys → ((i : ℕ) → slice_index xs i < 256) → ((i : ℕ) → slice_index ys i < 256)
    → ((n : ℕ) → n < 8 * length xs → is_set xs n ≡ is_set ys n) → xs ≡ ys
bitmaps_are_one xs ys many in_xs in_ys same =
    same_lists xs ys many (λ k d lt.
    let each : (i : ℕ) → i < 8 → bit_at (get_or xs k 0) i ≡ bit_at (get_or ys k 0) i =
    λ i small. one_bit (bit_at (get_or xs k 0) i) (bit_at (get_or ys k 0) i) (bit_at-lt (get_or xs k 0) i) (bit_at-lt (get_or ys k 0) i)
    (sym (bit_of xs k i small) ∙ (same (8 * k + i) (omega (arith, lt, small)) ∙ bit_of ys k i small)) in
    let byte = same_from_bits_below 8 (get_or xs k 0) (get_or ys k 0) (in_xs k) (in_ys k) each in
    get_or_default xs k d 0 lt ∙ (byte ∙ get_or_default ys k 0 d (omega (arith, lt, many))))

-- ---- ports

-- an access of one byte exits by the bit of its port
one_port : (a b : List ℕ) (port : ℕ) → port < 65536 → port_exits a b port 1 ≡ port_is_set a b port
one_port a b port small =
    let fits : nat_lt 65536 (port + 1) ≡ false = le-ltb 65536 (port + 1) (omega arith) in
    let here : port + 0 ≡ port = omega arith in
    ap (λ t. t || list_any (λ k. port_is_set a b (port + k)) (numbers_below 1)) fits ∙ (or-false (port_is_set a b (port + 0)) ∙ ap (port_is_set a b) here)

in_a : (a b : List ℕ) (n : ℕ) → n < 32768 → port_is_set a b n ≡ is_set a n
in_a a b n small = ap (λ t. if t then is_set a n else is_set b (n - 32768)) (lt-ltb n 32768 small)

in_b : (a b : List ℕ) (n : ℕ) → n < 32768 → port_is_set a b (32768 + n) ≡ is_set b n
in_b a b n small =
    let back : 32768 + n - 32768 ≡ n = omega arith in
    ap (λ t. if t then is_set a (32768 + n) else is_set b (32768 + n - 32768)) (le-ltb (32768 + n) 32768 (omega arith)) ∙ ap (is_set b) back

-- one behind the other, the two are one bitmap
half_a : (xs : List ℕ) (n : ℕ) → n < 32768 → is_set (take 4096 xs) n ≡ is_set xs n
unfolding is_set
half_a xs n small =
    let byte : slice_index (take 4096 xs) (n / 8) ≡ slice_index xs (n / 8) = get_or-take 4096 xs (n / 8) 0 (omega arith) in
    λ j. (bit_at (byte j) (n % 8) == 1)

half_b : (xs : List ℕ) (n : ℕ) → is_set (drop 4096 xs) n ≡ is_set xs (32768 + n)
unfolding is_set
half_b xs n =
    let byte : slice_index (drop 4096 xs) (n / 8) ≡ slice_index xs (4096 + n / 8) = get_or-drop 4096 xs (n / 8) 0 in
    let place : 4096 + n / 8 ≡ (32768 + n) / 8 = omega arith in
    let bit : n % 8 ≡ (32768 + n) % 8 = omega arith in
    (λ j. (bit_at (byte j) (n % 8) == 1)) ∙ (λ j. (bit_at (slice_index xs (place j)) (bit j) == 1))

pub ports_are_one : (xs ys : List ℕ) → length xs ≡ 8192 → length ys ≡ 8192 → ((i : ℕ) → slice_index xs i < 256) → ((i : ℕ) → slice_index ys i < 256)
    → ((port size : ℕ) → port_exits (take 4096 xs) (drop 4096 xs) port size ≡ port_exits (take 4096 ys) (drop 4096 ys) port size) → xs ≡ ys
ports_are_one xs ys long_xs long_ys in_xs in_ys same =
    let a = take 4096 xs in
    let b = drop 4096 xs in
    let c = take 4096 ys in
    let d = drop 4096 ys in
    let each : (port : ℕ) → port < 65536 → port_is_set a b port ≡ port_is_set c d port = λ port small. sym (one_port a b port small) ∙ (same port 1 ∙ one_port c d port small) in
    bitmaps_are_one xs ys (long_xs ∙ sym long_ys) in_xs in_ys (λ n lt. elim (cases_lt n 32768) [
      | inl low ↦
          let first : is_set a n ≡ is_set c n = sym (in_a a b n low) ∙ (each n (omega (arith, low)) ∙ in_a c d n low) in
          sym (half_a xs n low) ∙ (first ∙ half_a ys n low)
      | inr high ↦
          let m = n - 32768 in
          let is : 32768 + m ≡ n = omega (arith, high) in
          let small : m < 32768 = omega (arith, lt, long_xs, high) in
          let second : is_set b m ≡ is_set d m = sym (in_b a b m small) ∙ (each (32768 + m) (omega (arith, small)) ∙ in_b c d m small) in
          subst (λ i. is_set xs i ≡ is_set ys i) is (sym (half_b xs m) ∙ (second ∙ half_b ys m))
    ])

-- ---- MSRs

low_bit : (i : ℕ) (write : Bool) → i < 8192 → msr_bit i write ≡ Some (8 * low_part write + i)
low_bit i write small = rw (le-leb i 8191 (omega arith)) refl

high_bit : (i : ℕ) (write : Bool) → i < 8192 → msr_bit (3221225472 + i) write ≡ Some (8 * high_part write + i)
high_bit i write small =
    let back : 3221225472 + i - 3221225472 ≡ i = omega arith in
    rw (lt-leb (3221225472 + i) 8191 (omega arith), le-leb 3221225472 (3221225472 + i) (omega arith), le-leb (3221225472 + i) 3221233663 (omega arith), back) refl

exits_at : (xs : List ℕ) (index : ℕ) (write : Bool) (n : ℕ) → msr_bit index write ≡ Some n → msr_exits xs index write ≡ is_set xs n
unfolding msr_exits
exits_at xs index write n e = ap (exits_by xs) e

pub msrs_are_one : (xs ys : List ℕ) → length xs ≡ 4096 → length ys ≡ 4096 → ((i : ℕ) → slice_index xs i < 256) → ((i : ℕ) → slice_index ys i < 256)
    → ((index : ℕ) (write : Bool) → msr_exits xs index write ≡ msr_exits ys index write) → xs ≡ ys
msrs_are_one xs ys long_xs long_ys in_xs in_ys same =
    let bit_same : (index : ℕ) (write : Bool) (m n : ℕ) → msr_bit index write ≡ Some m → m ≡ n → is_set xs n ≡ is_set ys n =
    λ index write m n bit is. let at = bit ∙ ap Some is in sym (exits_at xs index write n at) ∙ (same index write ∙ exits_at ys index write n at) in
    bitmaps_are_one xs ys (long_xs ∙ sym long_ys) in_xs in_ys (λ n lt.
    let small : n < 32768 = omega (arith, lt, long_xs) in
    elim (cases_lt n 16384) [
      | inl read ↦ elim (cases_lt n 8192) [
        | inl low ↦ bit_same n false _ n (low_bit n false low) (omega arith)
        | inr high ↦ bit_same (3221225472 + (n - 8192)) false _ n (high_bit (n - 8192) false (omega arith)) (omega arith)
      ]
      | inr written ↦ elim (cases_lt n 24576) [
        | inl low ↦ bit_same (n - 16384) true _ n (low_bit (n - 16384) true (omega arith)) (omega arith)
        | inr high ↦ bit_same (3221225472 + (n - 24576)) true _ n (high_bit (n - 24576) true (omega arith)) (omega arith)
      ]
    ])
