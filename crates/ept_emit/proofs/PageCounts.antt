-- Counts over ranges that follow one another.
use Rattle.std.proofs.Common.{◌≡◌, ℕ, zero, suc, ◌+◌, ◌<◌, ◌≤◌, Bool, true, false, refl, arith}
use Rattle.ept_emit.proofs.Counts.{count_add}
use Rattle.ept_emit.specs.Pages.{count}

pub count_three : (p : ℕ → Bool) (lo a b c n : ℕ) → n ≡ a + (b + c) → count p lo n ≡ count p lo a + (count p (lo + a) b + count p (lo + a + b) c)
count_three p lo a b c n e = rw e (omega (arith, count_add p lo a (b + c), count_add p (lo + a) b c))

pub count_none : (p : ℕ → Bool) (lo n : ℕ) → ((v : ℕ) → lo ≤ v → v < lo + n → p v ≡ false) → count p lo n ≡ 0
unfolding count
count_none p lo zero h = refl
count_none p lo (suc n) h = rw (h (lo + n) (omega arith) (omega arith)) (omega (arith, count_none p lo n (λ v a b. h v a (omega arith))))

pub count_all : (p : ℕ → Bool) (lo n : ℕ) → ((v : ℕ) → lo ≤ v → v < lo + n → p v ≡ true) → count p lo n ≡ n
unfolding count
count_all p lo zero h = refl
count_all p lo (suc n) h = rw (h (lo + n) (omega arith) (omega arith)) (omega (arith, count_all p lo n (λ v a b. h v a (omega arith))))

pub count_same : (p q : ℕ → Bool) (lo n : ℕ) → ((v : ℕ) → lo ≤ v → v < lo + n → p v ≡ q v) → count p lo n ≡ count q lo n
unfolding count
count_same p q lo zero h = refl
count_same p q lo (suc n) h = rw (h (lo + n) (omega arith) (omega arith)) (omega (arith, count_same p q lo n (λ v a b. h v a (omega arith))))
