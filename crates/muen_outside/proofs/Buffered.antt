-- One put after another, where some bytes wait.
use Rattle.std.proofs.Common.{◌≡◌, ℕ, zero, suc, ◌+◌, ◌-◌, ◌<◌, ◌≤◌, List, [], ◌∷◌, ◌++◌, length, get_or, take, Result, Ok, Err, IsErr, refl, sym, ap, subst, ◌∙◌, append_assoc, append-nil, add-one, arith}
use Rattle.std.proofs.lemmas.List.{take_more, take_all}
use Rattle.std.specs.List.{flat_map}
use Rattle.std.proofs.lemmas.Bool.{false≢true}
use Rattle.std.proofs.lemmas.Grind.{flat_map-append}
use Rattle.muen_outside.specs.States.{SinkState}
use Rattle.muen_outside.specs.Puts.{Appended, Failed, Puts}
use Rattle.muen_outside.specs.Buffered.{OutState, Given, Lost, Gives, Flushed, behind}
use Rattle.muen_outside.proofs.Puts.{appended_none, appended_then, failed_as, failed_first, failed_after}

-- all wait
pub kept : (w bytes : List ℕ) (s : SinkState) → Given bytes (behind s w) (behind s (w ++ bytes))
kept w bytes s = record { gone = []; put = appended_none s; rest = refl }

-- what waited is put, and the bytes wait
pub handed_on : (w bytes : List ℕ) (s t : SinkState) → Appended w s t → Given bytes (behind s w) (behind t bytes)
handed_on w bytes s t p = record { gone = w; put = p; rest = refl }

-- what waited is put, and then the bytes
pub handed : {E : Type 0} (w bytes : List ℕ) (s t u : SinkState) (r : Result (Unit {0}) E) → Appended w s t → Puts bytes t u r → Gives bytes (behind s w) (behind u []) r
handed w bytes s t u (Ok x) p q = record { gone = w ++ bytes; put = appended_then w bytes s t u p q; rest = append-nil (w ++ bytes) }
handed w bytes s t u (Err e) p q = record { put = failed_after w bytes s t u p q; none = refl }

-- what waited was not put
pub handed_none : (w v bytes : List ℕ) (s t : SinkState) → v ≡ [] → Failed w s t → Lost bytes (behind s w) (behind t v)
handed_none w v bytes s t none p = record { put = failed_first w bytes s t p; none = none }

-- nothing is put
pub given_none : (s : OutState) → Given [] s s
given_none s = record { gone = []; put = appended_none s.sink; rest = sym (append-nil s.waiting) }

-- two texts, one after another
pub given_then : (a b : List ℕ) (s t u : OutState) → Given a s t → Given b t u → Given (a ++ b) s u
given_then a b s t u p q = record {
  gone = p.gone ++ q.gone;
  put = appended_then p.gone q.gone s.sink t.sink u.sink p.put q.put;
  rest = append_assoc p.gone q.gone u.waiting ∙ ap (λ x. p.gone ++ x) q.rest ∙ sym (append_assoc p.gone t.waiting b) ∙ ap (λ x. x ++ b) p.rest ∙ append_assoc s.waiting a b;
}

-- the sink failed at the second
pub lost_after : (a b : List ℕ) (s t u : OutState) → Given a s t → Lost b t u → Lost (a ++ b) s u
lost_after a b s t u p q =
    let whole : p.gone ++ (t.waiting ++ b) ≡ s.waiting ++ (a ++ b) =
    sym (append_assoc p.gone t.waiting b) ∙ ap (λ x. x ++ b) p.rest ∙ append_assoc s.waiting a b in
    record { put = failed_as _ _ s.sink u.sink whole (failed_after p.gone (t.waiting ++ b) s.sink t.sink u.sink p.put q.put); none = q.none }

-- what was to come is left out
pub lost_first : (b c : List ℕ) (s u : OutState) → Lost b s u → Lost (b ++ c) s u
lost_first b c s u q = record { put = failed_as _ _ s.sink u.sink (append_assoc s.waiting b c) (failed_first (s.waiting ++ b) c s.sink u.sink q.put); none = q.none }

-- the result of the last put is handed on
pub gives_then : {E : Type 0} (a b : List ℕ) (s t u : OutState) (r : Result (Unit {0}) E) → Given a s t → Gives b t u r → Gives (a ++ b) s u r
gives_then a b s t u (Ok x) p q = given_then a b s t u p q
gives_then a b s t u (Err e) p q = lost_after a b s t u p q

-- at the exit of a `?`
pub gives_exit : {E : Type 0} (whole : List ℕ) (s u : OutState) (r : Result (Unit {0}) E) → IsErr r → Lost whole s u → Gives whole s u r
gives_exit whole s u (Ok x) is q = absurd (false≢true is)
gives_exit whole s u (Err e) is q = q

-- a text that grows by a piece at each step up to the last
module _ (text piece : ℕ → List ℕ) (last : ℕ) (grows : (n : ℕ) → n < last → text (suc n) ≡ text n ++ piece n) where
  -- one step of many
  pub given_step : (n : ℕ) (b : List ℕ) (s t u : OutState) → n < last → b ≡ piece n → Given (text n) s t → Given b t u → Given (text (n + 1)) s u
  given_step n b s t u h is p q =
      let more : text n ++ b ≡ text (n + 1) = ap (λ x. text n ++ x) is ∙ sym (grows n h) ∙ ap text (sym (add-one n)) in
      subst (λ x. Given x s u) more (given_then (text n) b s t u p q)

  -- what was to come is left out
  lost_grown : (n k m : ℕ) (s u : OutState) → m ≡ k + n → m ≤ last → Lost (text n) s u → Lost (text m) s u
  lost_grown n zero m s u is h q =
      let same : n ≡ m = omega arith in
      subst (λ x. Lost (text x) s u) same q
  lost_grown n (suc k) m s u is h q =
      let more : suc (k + n) ≡ m = omega arith in
      subst (λ x. Lost (text x) s u) more (subst (λ x. Lost x s u) (sym (grows (k + n) (omega arith))) (lost_first (text (k + n)) (piece (k + n)) s u (lost_grown n k (k + n) s u refl (omega arith) q)))

  -- it failed at one step of many
  pub lost_step : (n : ℕ) (b : List ℕ) (s t u : OutState) → n < last → b ≡ piece n → Given (text n) s t → Lost b t u → Lost (text last) s u
  lost_step n b s t u h is p q =
      let here : text n ++ b ≡ text (suc n) = ap (λ x. text n ++ x) is ∙ sym (grows n h) in
      lost_grown (suc n) (last - suc n) last s u (omega arith) (omega arith) (subst (λ x. Lost x s u) here (lost_after (text n) b s t u p q))

  -- the same, at the exit of a `?`
  pub step_exit : {E : Type 0} (n : ℕ) (b : List ℕ) (s t u : OutState) (r : Result (Unit {0}) E) → IsErr r → n < last → b ≡ piece n → Given (text n) s t → Lost b t u → Gives (text last) s u r
  step_exit n b s t u r err h is p q = gives_exit (text last) s u r err (lost_step n b s t u h is p q)

-- the texts of the items of a list, and one more
flat_map_more : {X : Type 0} (f : X → List ℕ) (xs : List X) (i : ℕ) (d : X) → i < length xs → flat_map f (take (suc i) xs) ≡ flat_map f (take i xs) ++ f (get_or xs i d)
flat_map_more f xs i d h =
    ap (flat_map f) (ap (λ n. take n xs) (sym (add-one i)) ∙ take_more xs i d h) ∙ flat_map-append f (take i xs) (get_or xs i d ∷ []) ∙ ap (λ x. flat_map f (take i xs) ++ x) (append-nil (f (get_or xs i d)))

-- one item of many
pub given_item : {X : Type 0} (f : X → List ℕ) (xs : List X) (i : ℕ) (d : X) (b : List ℕ) (s t u : OutState) → Given (flat_map f (take i xs)) s t → Given b t u → i < length xs → b ≡ f (get_or xs i d) → Given (flat_map f (take (i + 1) xs)) s u
given_item f xs i d b s t u p q h is = given_step (λ n. flat_map f (take n xs)) (λ n. f (get_or xs n d)) (length xs) (λ n. flat_map_more f xs n d) i b s t u h is p q

-- it failed at one item of many, at the exit of a `?`
pub item_exit : {X E : Type 0} (f : X → List ℕ) (xs : List X) (i : ℕ) (d : X) (b : List ℕ) (s t u : OutState) (r : Result (Unit {0}) E) → IsErr r → Given (flat_map f (take i xs)) s t → Lost b t u → i < length xs → b ≡ f (get_or xs i d) → Gives (flat_map f xs) s u r
item_exit f xs i d b s t u r err p q h is =
    subst (λ x. Gives (flat_map f x) s u r) (take_all (length xs) xs (omega arith))
    (step_exit (λ n. flat_map f (take n xs)) (λ n. f (get_or xs n d)) (length xs) (λ n. flat_map_more f xs n d) i b s t u r err h is p q)

-- all was put, and then flushed, where nothing waited before
pub puts_flushed : {E : Type 0} (a w v x : List ℕ) (s t u : SinkState) (r : Result (Unit {0}) E) → w ≡ [] → Given a (behind s w) (behind t v) → Flushed (behind t v) (behind u x) r → Puts a s u r
puts_flushed a w v x s t u (Ok y) none p q =
    subst (λ z. Appended z s u) (p.rest ∙ ap (λ z. z ++ a) none) (appended_then p.gone v s t u p.put q.put)
puts_flushed a w v x s t u (Err e) none p q =
    failed_as _ _ s u (p.rest ∙ ap (λ z. z ++ a) none) (failed_after p.gone v s t u p.put (failed_as _ _ t u (append-nil v) q.put))

-- it failed before that
pub puts_lost : {E : Type 0} (a w v : List ℕ) (s u : SinkState) (r : Result (Unit {0}) E) → w ≡ [] → IsErr r → Lost a (behind s w) (behind u v) → Puts a s u r
puts_lost a w v s u (Ok x) none is p = absurd (false≢true is)
puts_lost a w v s u (Err e) none is p = failed_as _ _ s u (ap (λ z. z ++ a) none) p.put

-- for the buffer itself
pub ruleset buffered = (kept, handed_on, handed, handed_none)

-- for a function that prints texts one after another, and for the one that flushes
pub ruleset gives = (given_none, given_then, lost_first, lost_after, gives_then, gives_exit, puts_flushed, puts_lost)

-- for a loop that prints a text for each item of a list
pub ruleset items = (given_item)
