-- Searches in order: the first element that has an answer, and the first pair.
use Rattle.std.specs.Prelude.{◌≡◌, ℕ, ◌^◌, ◌<◌, Bool, true, false, List, [], ◌∷◌, ◌++◌, Option, Some, None, Result, Ok, Err}
use Rattle.std.specs.Borrow.{Bor}
use Rattle.std.specs.Fn.{FnReturns, FnReturnsAt, FnReturnsAtPair, Shared}
use Rattle.std.specs.Option.{option_or}

-- an offence where what must hold doesn't
abbrev pub unless : {O : Type 0} → Bool → O → Option O
unless true o = None
unless false o = Some o

-- the first answer of several
abbrev pub first_of : {O : Type 0} → List (Option O) → Option O
first_of [] = None
first_of (o ∷ os) = option_or o (first_of os)

-- the first answer to an element
abbrev pub first_in : {X O : Type 0} → (X → Option O) → List X → Option O
first_in at [] = None
first_in at (x ∷ xs) = option_or (at x) (first_in at xs)

-- the first answer to an element, where each is held against those before it
abbrev pub first_after : {X O : Type 0} → (List X → X → Option O) → List X → List X → Option O
first_after at before [] = None
first_after at before (x ∷ xs) = option_or (at before x) (first_after at (before ++ x ∷ []) xs)

-- the first answer to a pair: of those with the least later element, the one with the least earlier
abbrev pub first_pair : {X O : Type 0} → (X → X → Option O) → List X → Option O
first_pair at xs = first_after (λ before x. first_in (λ b. at b x) before) [] xs

-- what was found is refused, and all is well where nothing was
abbrev pub as_refusal : {E : Type 0} → Option E → Result (Unit {0}) E
as_refusal None = Ok tt
as_refusal (Some e) = Err e

-- ---- what a closure computes

-- its answer to an element is what `at` says
abbrev pub Computes : {F X R : Type 0} → Shared F (Bor X × Unit {0}) R → F → (X → R) → Type 0
Computes {F} {X} {R} calls f at = (x : X) (r : R) → FnReturnsAt calls f x r → r ≡ at x

-- the same of two elements
abbrev pub ComputesOfTwo : {F X R : Type 0} → Shared F (Bor X × (Bor X × Unit {0})) R → F → (X → X → R) → Type 0
ComputesOfTwo {F} {X} {R} calls f at = (x y : X) (r : R) → FnReturnsAtPair calls f x y r → r ≡ at x y

-- the same of an element with its index
abbrev pub ComputesOfNumbered : {F X R : Type 0} → Shared F (ℕ × (Bor X × Unit {0})) R → F → (ℕ × X → R) → Type 0
ComputesOfNumbered {F} {X} {R} calls f at = (k : ℕ) (x : Bor X) (r : R) → k < 2 ^ 64 → FnReturns calls f (k, (x, tt)) r → r ≡ at (k, x.now)
