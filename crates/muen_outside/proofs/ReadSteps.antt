-- One read after another, up to a limit.
use Rattle.std.proofs.Common.{◌≡◌, ℕ, ◌+◌, ◌≤◌, ◌<◌, List, [], ◌++◌, length, Option, Some, None, IfSome, refl, sym, ap, ◌∙◌, append_assoc, append-nil, arith, length-append}
use Rattle.std.proofs.lemmas.Bool.Decides.{nat_tests}
use Rattle.std.specs.Prelude.{max, unwrap_or}
use Rattle.std.specs.Io.KnownBytes.{Consumes, IsAtEnd, Keeps}
use Rattle.muen_outside.specs.Store.{whole, long}
use Rattle.muen_outside.specs.FolderFiles.{capped, told_length, TakesAtMost}

pub consumes_none : (k : Option (List ℕ)) → Consumes k k []
consumes_none None = tt
consumes_none (Some w) = refl

pub consumes_then : (k l m : Option (List ℕ)) (a b : List ℕ) → Consumes k l a → Consumes l m b → Consumes k m (a ++ b)
consumes_then None l m a b p q = tt
consumes_then (Some u) None m a b p q = absurd p
consumes_then (Some u) (Some v) None a b p q = absurd q
consumes_then (Some u) (Some v) (Some w) a b p q = p ∙ ap (λ x. a ++ x) q ∙ sym (append_assoc a b w)

capped_within : (u : List ℕ) (size : Option ℕ) (most : ℕ) → length u ≤ most → capped u size most ≡ whole u
capped_within u size most h = grind (arith, nat_tests)

capped_above : (u : List ℕ) (size : Option ℕ) (most : ℕ) → most < length u → capped u size most ≡ long (told_length size most)
capped_above u size most h = grind (arith, nat_tests)

-- the reader has no byte left
pub told_at_end : (k l : Option (List ℕ)) (size : Option ℕ) (most : ℕ) (a : List ℕ) → Consumes k l a → IsAtEnd l → length a ≤ most → IfSome k (λ all. whole a ≡ capped all size most)
told_at_end None l size most a p e h = tt
told_at_end (Some u) None size most a p e h = absurd p
told_at_end (Some u) (Some v) size most a p e h =
    let same : u ≡ a = p ∙ ap (λ x. a ++ x) e ∙ append-nil a in
    ap (λ x. whole x) (sym same) ∙ sym (capped_within u size most (rw same h))

-- the reader gave more than the limit
pub told_above : (k l : Option (List ℕ)) (size : Option ℕ) (most n : ℕ) (a : List ℕ) → Consumes k l a → most < length a → n ≡ told_length size most → IfSome k (λ all. long n ≡ capped all size most)
told_above None l size most n a p h is = tt
told_above (Some u) None size most n a p h is = absurd p
told_above (Some u) (Some v) size most n a p h is = ap long is ∙ sym (capped_above u size most (omega (arith, ap length p, length-append a v)))

-- the greater of the size, if one is known, and one above the limit
pub greater_told : (size : Option ℕ) (most : ℕ) → max (unwrap_or size 0) (most + 1) ≡ told_length size most
greater_told None most = grind (arith, nat_tests)
greater_told (Some size) most = grind (arith, nat_tests)

pub takes_few : (n : ℕ) (k l : Option (List ℕ)) (a : List ℕ) → Consumes k l a → length a ≤ n → TakesAtMost n k l
takes_few n None l a p h = tt
takes_few n (Some u) None a p h = absurd p
takes_few n (Some u) (Some v) a p h = omega (arith, ap length p, length-append a v, h)

pub takes_kept : (n : ℕ) (k l m : Option (List ℕ)) → TakesAtMost n k l → Keeps l m → TakesAtMost n k m
takes_kept n None l m p q = tt
takes_kept n (Some u) None m p q = absurd p
takes_kept n (Some u) (Some v) None p q = absurd q
takes_kept n (Some u) (Some v) (Some w) p q = omega (arith, p, ap length q)

pub ruleset reads = (consumes_none, consumes_then, told_at_end, told_above, greater_told, takes_few, takes_kept)
