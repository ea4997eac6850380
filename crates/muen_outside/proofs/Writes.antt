-- One write after another.
use Rattle.std.proofs.Common.{◌≡◌, ℕ, ◌+◌, List, ◌++◌, take, drop, Option, Some, None, refl, sym, ap, subst, ◌∙◌, append_assoc, Result, Ok}
use Rattle.std.proofs.Math.Seq.{take-add}
use Rattle.std.specs.Io.KnownBytes.{Appends, Keeps}
use Rattle.muen_outside.specs.Devices.{CountsFailed, NoneFailed}

appends_then : (k l m : Option (List ℕ)) (a b : List ℕ) → Appends k l a → Appends l m b → Appends k m (a ++ b)
appends_then None l m a b p q = tt
appends_then (Some u) None m a b p q = absurd p
appends_then (Some u) (Some v) None a b p q = absurd q
appends_then (Some u) (Some v) (Some w) a b p q = q ∙ ap (λ x. x ++ b) p ∙ append_assoc u a b

pub appends_kept : (k l m : Option (List ℕ)) (a : List ℕ) → Appends k l a → Keeps l m → Appends k m a
appends_kept None l m a p q = tt
appends_kept (Some u) None m a p q = absurd p
appends_kept (Some u) (Some v) None a p q = absurd q
appends_kept (Some u) (Some v) (Some w) a p q = q ∙ p

-- some more of the bytes
pub appends_more : (i n : ℕ) (bytes : List ℕ) (k l m : Option (List ℕ)) → Appends k l (take i bytes) → Appends l m (take n (drop i bytes)) → Appends k m (take (i + n) bytes)
appends_more i n bytes k l m p q = subst (λ x. Appends k m x) (sym (take-add i n bytes)) (appends_then k l m (take i bytes) (take n (drop i bytes)) p q)

pub none_failed : (k : Option ℕ) → NoneFailed k k
none_failed None = tt
none_failed (Some n) = refl

counts_none : {X E : Type 0} (k m : Option ℕ) (r : Result X E) (x : X) → CountsFailed k m r → r ≡ Ok x → NoneFailed k m
counts_none None m r x p is = tt
counts_none {X} {E} (Some n) m r x p is = subst (λ z. CountsFailed {X = X} {E = E} (Some n) m z) is p

-- one call more, which went well
pub none_failed_more : {X E : Type 0} (k l m : Option ℕ) (r : Result X E) (x : X) → NoneFailed k l → CountsFailed l m r → r ≡ Ok x → NoneFailed k m
none_failed_more None l m r x p q is = tt
none_failed_more (Some n) l m r x p q is =
    subst (λ z. NoneFailed z m) p (counts_none l m r x q is)

pub ruleset writes = (appends_kept, appends_more, none_failed, none_failed_more)
