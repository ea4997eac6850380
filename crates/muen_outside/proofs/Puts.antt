-- One put after another.
use Rattle.std.proofs.Common.{◌≡◌, ℕ, ◌+◌, ◌<◌, suc, List, [], ◌++◌, length, get_or, take, drop, Result, Ok, Err, IsErr, sym, ap, subst, ◌∙◌, append_assoc, append-nil, arith, length-append}
use Rattle.std.proofs.lemmas.Bool.{false≢true}
use Rattle.std.specs.List.{flat_map}
use Rattle.std.proofs.lemmas.List.{take-append-drop, take-append-le}
use Rattle.std.proofs.lemmas.Grind.{flat_map-append}
use Rattle.std.proofs.Math.Seq.{take-append-add, drop-cons}
use Rattle.muen_outside.specs.States.{SinkState}
use Rattle.muen_outside.specs.Puts.{Appended, Failed, Puts, gave}

-- nothing was put
pub appended_none : (s : SinkState) → Appended [] s s
appended_none s = record { state = ap (λ x. record { given = x; faults = s.faults }) (sym (append-nil s.given)) }

-- two texts, one after another
pub appended_then : (a b : List ℕ) (s t u : SinkState) → Appended a s t → Appended b t u → Appended (a ++ b) s u
appended_then a b s t u p q = record {
  state = q.state ∙ ap (λ x. gave x b) p.state ∙ ap (λ x. record { given = x; faults = s.faults }) (append_assoc s.given a b);
}

-- a front of b was put behind a, and c was to come
pub failed_then : (a b c : List ℕ) (s t u : SinkState) → Appended a s t → Failed b t u → Failed (a ++ (b ++ c)) s u
failed_then a b c s t u p q =
    let cut : take (length a + q.front) (a ++ (b ++ c)) ≡ a ++ take q.front b =
    take-append-add a (b ++ c) q.front ∙ ap (λ x. a ++ x) (take-append-le q.front b c q.fits) in
    record {
      front = length a + q.front;
      fits = omega (arith, q.fits, length-append a (b ++ c), length-append b c);
      state = q.state
          ∙ ap (λ x. record { given = x.given ++ take q.front b; faults = x.faults + 1 }) p.state
          ∙ ap (λ x. record { given = x; faults = s.faults + 1 }) (append_assoc s.given a (take q.front b) ∙ ap (λ x. s.given ++ x) (sym cut));
    }

pub failed_as : (a b : List ℕ) (s u : SinkState) → a ≡ b → Failed a s u → Failed b s u
failed_as a b s u e q = subst (λ x. Failed x s u) e q

-- nothing stood before
pub failed_first : (b c : List ℕ) (s u : SinkState) → Failed b s u → Failed (b ++ c) s u
failed_first b c s u q = failed_then [] b c s s u (appended_none s) q

-- nothing is to come
pub failed_after : (a b : List ℕ) (s t u : SinkState) → Appended a s t → Failed b t u → Failed (a ++ b) s u
failed_after a b s t u p q = failed_as _ _ s u (ap (λ x. a ++ x) (append-nil b)) (failed_then a b [] s t u p q)

-- the result of the last put is handed on
pub puts_then : {E : Type 0} (a b : List ℕ) (s t u : SinkState) (r : Result (Unit {0}) E) → Appended a s t → Puts b t u r → Puts (a ++ b) s u r
puts_then a b s t u (Ok x) p q = appended_then a b s t u p q
puts_then a b s t u (Err e) p q = failed_after a b s t u p q

-- at the exit of a `?`
pub puts_exit : {E : Type 0} (whole : List ℕ) (s u : SinkState) (r : Result (Unit {0}) E) → IsErr r → Failed whole s u → Puts whole s u r
puts_exit whole s u (Ok x) is q = absurd (false≢true is)
puts_exit whole s u (Err e) is q = q

-- what stands before a piece, the piece, and what stands after it
pub flat_map_at : {X : Type 0} (f : X → List ℕ) (xs : List X) (i : ℕ) (d : X) → i < length xs → flat_map f xs ≡ flat_map f (take i xs) ++ (f (get_or xs i d) ++ flat_map f (drop (suc i) xs))
flat_map_at f xs i d h =
    ap (flat_map f) (sym (take-append-drop i xs))
    ∙ flat_map-append f (take i xs) (drop i xs)
    ∙ ap (λ x. flat_map f (take i xs) ++ flat_map f x) (drop-cons xs i d h)

-- one line of many
pub failed_line : {X : Type 0} (f : X → List ℕ) (xs : List X) (i : ℕ) (d : X) (b : List ℕ) (s t u : SinkState) → Appended (flat_map f (take i xs)) s t → Failed b t u → i < length xs → b ≡ f (get_or xs i d) → Failed (flat_map f xs) s u
failed_line f xs i d b s t u p q h is =
    failed_as _ _ s u (sym (flat_map_at f xs i d h ∙ ap (λ x. flat_map f (take i xs) ++ (x ++ flat_map f (drop (suc i) xs))) (sym is)))
    (failed_then (flat_map f (take i xs)) b (flat_map f (drop (suc i) xs)) s t u p q)

pub ruleset puts = (appended_none, appended_then, failed_first, failed_after, puts_then, puts_exit)
