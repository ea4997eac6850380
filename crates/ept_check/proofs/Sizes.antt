-- The numbers of positions, each lemma by the levels that there are.
use Rattle.std.proofs.Common.{◌≡◌, ◌∙◌, ℕ, zero, suc, ◌+◌, ◌-◌, ◌*◌, ◌/◌, ◌%◌, ◌^◌, ◌<◌, ◌≤◌, arith}
use Rattle.ept_check.specs.Entries.{pages}
use Rattle.ept_check.specs.Tables.{addr_of, subject_of}
use Rattle.machine_layout.specs.Walks.{entry_size, index_at}

pub index_is : (l q : ℕ) → l ≤ 3 → index_at l (addr_of q) ≡ q / pages l % 512
index_is zero q a = omega arith
index_is (suc zero) q a = omega arith
index_is (suc (suc zero)) q a = omega arith
index_is (suc (suc (suc zero))) q a = omega arith
index_is (suc (suc (suc (suc l)))) q a = absurd (omega (arith, a))

pub wider : (l q x : ℕ) → l ≤ 2 → q / pages (suc l) ≡ x / pages (suc l) → q / pages (suc (suc l)) ≡ x / pages (suc (suc l))
wider zero q x a h = omega (arith, h)
wider (suc zero) q x a h = omega (arith, h)
wider (suc (suc zero)) q x a h = omega (arith, h)
wider (suc (suc (suc l))) q x a h = absurd (omega (arith, a))

pub here_is : (l q i x p : ℕ) → l ≤ 3 → q % pages (suc l) ≡ 0 → x ≡ q + i * pages l → x ≤ p → p < x + pages l → p / pages l ≡ x / pages l
here_is zero q i x p a c d f g = omega (arith, c, d, f, g)
here_is (suc zero) q i x p a c d f g = omega (arith, c, d, f, g)
here_is (suc (suc zero)) q i x p a c d f g = omega (arith, c, d, f, g)
here_is (suc (suc (suc zero))) q i x p a c d f g = omega (arith, c, d, f, g)
here_is (suc (suc (suc (suc l)))) q i x p a c d f g = absurd (omega (arith, a))

pub before_is : (l p q : ℕ) → l ≤ 3 → q % pages (suc l) ≡ 0 → p < q → subject_of p ≡ subject_of q → addr_of p / entry_size (suc l) ≡ addr_of q / entry_size (suc l) → ⊥
before_is zero p q a b c d e = omega (arith, b, c, d, e)
before_is (suc zero) p q a b c d e = omega (arith, b, c, d, e)
before_is (suc (suc zero)) p q a b c d e = omega (arith, b, c, d, e)
before_is (suc (suc (suc zero))) p q a b c d e = omega (arith, b, c, d, e)
before_is (suc (suc (suc (suc l)))) p q a b c d e = absurd (omega (arith, a))

pub subject_is : (m o p : ℕ) → m ≤ 3 → o / pages (suc m) ≡ p / pages (suc m) → subject_of o ≡ subject_of p
subject_is zero o p a h = omega (arith, h)
subject_is (suc zero) o p a h = omega (arith, h)
subject_is (suc (suc zero)) o p a h = omega (arith, h)
subject_is (suc (suc (suc zero))) o p a h = omega (arith, h)
subject_is (suc (suc (suc (suc l)))) o p a h = absurd (omega (arith, a))

pub part_is : (m o p : ℕ) → m ≤ 3 → o / pages (suc m) ≡ p / pages (suc m) → addr_of o / entry_size (suc m) ≡ addr_of p / entry_size (suc m)
part_is zero o p a h = omega (arith, h)
part_is (suc zero) o p a h = omega (arith, h)
part_is (suc (suc zero)) o p a h = omega (arith, h)
part_is (suc (suc (suc zero))) o p a h = omega (arith, h)
part_is (suc (suc (suc (suc l)))) o p a h = absurd (omega (arith, a))

pub above_of : (m p q : ℕ) → m ≤ 3 → subject_of p ≡ subject_of q → addr_of p / entry_size (suc m) ≡ addr_of q / entry_size (suc m) → p / pages (suc m) ≡ q / pages (suc m)
above_of zero p q a b c = omega (arith, b, c)
above_of (suc zero) p q a b c = omega (arith, b, c)
above_of (suc (suc zero)) p q a b c = omega (arith, b, c)
above_of (suc (suc (suc zero))) p q a b c = omega (arith, b, c)
above_of (suc (suc (suc (suc l)))) p q a b c = absurd (omega (arith, a))

pub within : (l x at p : ℕ) → l ≤ 3 → x % pages l ≡ 0 → x ≤ at → at ≤ p → p < x + pages l → addr_of p % entry_size l ≡ addr_of at % entry_size l + (addr_of p - addr_of at)
within zero x at p a b c d e = omega (arith, b, c, d, e)
within (suc zero) x at p a b c d e = omega (arith, b, c, d, e)
within (suc (suc zero)) x at p a b c d e = omega (arith, b, c, d, e)
within (suc (suc (suc zero))) x at p a b c d e = omega (arith, b, c, d, e)
within (suc (suc (suc (suc l)))) x at p a b c d e = absurd (omega (arith, a))

pub entries_within : (l i : ℕ) → l ≤ 3 → i < 512 → i * pages l + pages l ≤ 512 * pages l
entries_within zero i a h = omega (arith, h)
entries_within (suc zero) i a h = omega (arith, h)
entries_within (suc (suc zero)) i a h = omega (arith, h)
entries_within (suc (suc (suc zero))) i a h = omega (arith, h)
entries_within (suc (suc (suc (suc l)))) i a h = absurd (omega (arith, a))

pub index_on : (l b d : ℕ) → l ≤ 3 → b % 4096 ≡ 0 → d < 4096 → index_at l (b + d) ≡ index_at l b
index_on zero b d a h f = omega (arith, h, f)
index_on (suc zero) b d a h f = omega (arith, h, f)
index_on (suc (suc zero)) b d a h f = omega (arith, h, f)
index_on (suc (suc (suc zero))) b d a h f = omega (arith, h, f)
index_on (suc (suc (suc (suc l)))) b d a h f = absurd (omega (arith, a))

pub above_is : (l m q i x p : ℕ) → l ≤ m → m ≤ 3 → q % pages (suc l) ≡ 0 → x ≡ q + i * pages l → i < 512 → x ≤ p → p < x + pages l → p / pages (suc m) ≡ q / pages (suc m)
above_is zero zero q i x p a b c d e f g = omega (arith, c, d, e, f, g)
above_is (suc l) zero q i x p a b c d e f g = absurd (omega (arith, a))
above_is zero (suc zero) q i x p a b c d e f g = omega (arith, c, d, e, f, g)
above_is (suc zero) (suc zero) q i x p a b c d e f g = omega (arith, c, d, e, f, g)
above_is (suc (suc l)) (suc zero) q i x p a b c d e f g = absurd (omega (arith, a))
above_is zero (suc (suc zero)) q i x p a b c d e f g = omega (arith, c, d, e, f, g)
above_is (suc zero) (suc (suc zero)) q i x p a b c d e f g = omega (arith, c, d, e, f, g)
above_is (suc (suc zero)) (suc (suc zero)) q i x p a b c d e f g = omega (arith, c, d, e, f, g)
above_is (suc (suc (suc l))) (suc (suc zero)) q i x p a b c d e f g = absurd (omega (arith, a))
above_is zero (suc (suc (suc zero))) q i x p a b c d e f g = omega (arith, c, d, e, f, g)
above_is (suc zero) (suc (suc (suc zero))) q i x p a b c d e f g = omega (arith, c, d, e, f, g)
above_is (suc (suc zero)) (suc (suc (suc zero))) q i x p a b c d e f g = omega (arith, c, d, e, f, g)
above_is (suc (suc (suc zero))) (suc (suc (suc zero))) q i x p a b c d e f g = omega (arith, c, d, e, f, g)
above_is (suc (suc (suc (suc l)))) (suc (suc (suc zero))) q i x p a b c d e f g = absurd (omega (arith, a))
above_is l (suc (suc (suc (suc m)))) q i x p a b c d e f g = absurd (omega (arith, b))

pub subject_on : (level x at p : ℕ) → level ≤ 3 → x % pages level ≡ 0 → x ≤ at → at ≤ p → p < x + pages level → subject_of at ≡ subject_of p
subject_on zero x at p a b c d e = omega (arith, b, c, d, e)
subject_on (suc zero) x at p a b c d e = omega (arith, b, c, d, e)
subject_on (suc (suc zero)) x at p a b c d e = omega (arith, b, c, d, e)
subject_on (suc (suc (suc zero))) x at p a b c d e = omega (arith, b, c, d, e)
subject_on (suc (suc (suc (suc level)))) x at p a b c d e = absurd (omega (arith, a))

pub part_on : (l b d : ℕ) → l ≤ 3 → b % 4096 ≡ 0 → d < 4096 → (b + d) % entry_size l ≡ b % entry_size l + d
part_on zero b d a h f = omega (arith, h, f)
part_on (suc zero) b d a h f = omega (arith, h, f)
part_on (suc (suc zero)) b d a h f = omega (arith, h, f)
part_on (suc (suc (suc zero))) b d a h f = omega (arith, h, f)
part_on (suc (suc (suc (suc l)))) b d a h f = absurd (omega (arith, a))

pub whole_part : (l b : ℕ) → l ≤ 3 → b % 4096 ≡ 0 → b % entry_size l % 4096 ≡ 0
whole_part zero b a h = omega (arith, h)
whole_part (suc zero) b a h = omega (arith, h)
whole_part (suc (suc zero)) b a h = omega (arith, h)
whole_part (suc (suc (suc zero))) b a h = omega (arith, h)
whole_part (suc (suc (suc (suc l)))) b a h = absurd (omega (arith, a))

pub entry_part : (l first i : ℕ) → l ≤ 3 → first % pages (suc l) ≡ 0 → i < 512 → (first + i * pages l) / pages l % 512 ≡ i
entry_part zero first i a h f = omega (arith, h, f)
entry_part (suc zero) first i a h f = omega (arith, h, f)
entry_part (suc (suc zero)) first i a h f = omega (arith, h, f)
entry_part (suc (suc (suc zero))) first i a h f = omega (arith, h, f)
entry_part (suc (suc (suc (suc l)))) first i a h f = absurd (omega (arith, a))

pub first_here : (l first i : ℕ) → l ≤ 3 → first % pages (suc l) ≡ 0 → (first + i * pages l) % pages l ≡ 0
first_here zero first i a h = omega (arith, h)
first_here (suc zero) first i a h = omega (arith, h)
first_here (suc (suc zero)) first i a h = omega (arith, h)
first_here (suc (suc (suc zero))) first i a h = omega (arith, h)
first_here (suc (suc (suc (suc l)))) first i a h = absurd (omega (arith, a))

pub page_some : (l : ℕ) → 0 < pages l
page_some zero = omega arith
page_some (suc l) = omega (arith, page_some l)

pub one_up : (l : ℕ) → 0 < l → suc (l - 1) ≡ l
one_up l h = omega (arith, h)

pub not_before : (l q i x : ℕ) → x ≡ q + i * pages l → q ≤ x
not_before l q i x h = omega (arith, h)

pub index_here : (l first i : ℕ) → l ≤ 3 → first % pages (suc l) ≡ 0 → i < 512 → index_at l (addr_of (first + i * pages l)) ≡ i
index_here l first i a h f = index_is l (first + i * pages l) a ∙ entry_part l first i a h f

pub far_addr : (level first at k : ℕ) → level ≤ 3 → first % pages level ≡ 0 → first ≤ at → at ≤ k → k < first + pages level → addr_of k ≡ addr_of at + 4096 * (k - at)
far_addr level first at k a b c d e = let h = subject_on level first at k a b c d e in omega (arith, h, d)

pub addr_on : (level x at p : ℕ) → level ≤ 3 → x % pages level ≡ 0 → x ≤ at → at ≤ p → p < x + pages level → addr_of at ≤ addr_of p
addr_on level x at p a b c d e = let h = subject_on level x at p a b c d e in omega (arith, h, d)

pub pages_are : (l : ℕ) → l ≤ 3 → entry_size l / 4096 ≡ pages l
pages_are zero a = omega arith
pages_are (suc zero) a = omega arith
pages_are (suc (suc zero)) a = omega arith
pages_are (suc (suc (suc zero))) a = omega arith
pages_are (suc (suc (suc (suc l)))) a = absurd (omega (arith, a))

pub subject_there : (l first i n : ℕ) → l ≤ 3 → i < 512 → first + 512 * pages l ≤ 2 ^ 36 * n → (first + i * pages l) / 2 ^ 36 < n
subject_there l first i n a b h =
    let within_all = entries_within l i a b in
    let some = page_some l in
    omega (arith, within_all, some, h)
