-- The ticks of the orders that were read.
use Rattle.std.proofs.Common.{◌≡◌, ℕ, suc, ◌-◌, ◌≤◌, Bool, false, List, [], ◌∷◌, ◌++◌, length, map, Option, slice_get, refl, sym, ap, ◌∙◌, arith}
use Rattle.std.specs.Prelude.{◌==◌, ◌||◌}
use Rattle.std.specs.List.{list_any}
use Rattle.std.specs.Option.{option_map_or}
use Rattle.std.proofs.lemmas.Bool.{ne_eqb, eqb-false, or_parts}
use Rattle.std.proofs.Math.Bool.{or-false}
use Rattle.record_text.specs.Made.{RisesTo}
use Rattle.record_text.specs.declared.record.TickOrder.{TickOrder}

-- none of them is above it
first_within : (most t : ℕ) (ts : List ℕ) → RisesTo most (t ∷ ts) → t ≤ most
first_within most t [] h = h
first_within most t (u ∷ ts) h = let later = first_within most u ts h.1 in omega (arith, h.0, later)

pub RisesTo-weaker : (most more : ℕ) (ts : List ℕ) → most ≤ more → RisesTo most ts → RisesTo more ts
RisesTo-weaker most more [] le h = tt
RisesTo-weaker most more (t ∷ []) le h = omega (arith, h)
RisesTo-weaker most more (t ∷ u ∷ ts) le h = (h.0, RisesTo-weaker most more (u ∷ ts) le h.1)

-- ---- the last one tells

abbrev last_is : ℕ → List ℕ → Bool
last_is tick [] = false
last_is tick (t ∷ []) = t == tick
last_is tick (t ∷ u ∷ ts) = last_is tick (u ∷ ts)

any_is_last : (tick : ℕ) (ts : List ℕ) → RisesTo tick ts → list_any (λ t. t == tick) ts ≡ last_is tick ts
any_is_last tick [] h = refl
any_is_last tick (t ∷ []) h = or-false (t == tick)
any_is_last tick (t ∷ u ∷ ts) h =
    let later = first_within tick u ts h.1 in
    let before : (t == tick) ≡ false = ne_eqb t tick (λ e. omega (arith, h.0, later, e)) in
    ap (λ b. b || list_any (λ t. t == tick) (u ∷ ts)) before ∙ any_is_last tick (u ∷ ts) h.1

abbrev order_is : ℕ → Option TickOrder → Bool
order_is tick o = option_map_or (λ o. o.tick == tick) o false

last_order : (tick : ℕ) (orders : List TickOrder) → last_is tick (map (λ o. o.tick) orders) ≡ order_is tick (slice_get orders (length orders - 1))
last_order tick [] = refl
last_order tick (o ∷ []) = refl
last_order tick (o ∷ q ∷ orders) =
    let e : suc (length (q ∷ orders) - 1) ≡ length (o ∷ q ∷ orders) - 1 = omega arith in
    last_order tick (q ∷ orders) ∙ ap (λ k. order_is tick (slice_get (o ∷ q ∷ orders) k)) e

pub last_tells : (tick : ℕ) (orders : List TickOrder) (last : Option TickOrder) → RisesTo tick (map (λ o. o.tick) orders) → last ≡ slice_get orders (length orders - 1)
    → list_any (λ t. t == tick) (map (λ o. o.tick) orders) ≡ order_is tick last
last_tells tick orders last h e = any_is_last tick (map (λ o. o.tick) orders) h ∙ last_order tick orders ∙ ap (order_is tick) (sym e)

-- ---- one more

pub RisesTo-push : (most tick : ℕ) (ts : List ℕ) → RisesTo most ts → most ≤ tick → list_any (λ t. t == tick) ts ≡ false → RisesTo tick (ts ++ tick ∷ [])
RisesTo-push most tick [] h le none = omega arith
RisesTo-push most tick (t ∷ []) h le none =
    let not = eqb-false t tick (or_parts (t == tick) false none).0 in
    (omega (arith, h, not), omega arith)
RisesTo-push most tick (t ∷ u ∷ ts) h le none =
    (h.0, RisesTo-push most tick (u ∷ ts) h.1 le (or_parts (t == tick) (list_any (λ t. t == tick) (u ∷ ts)) none).1)

pub ruleset weaker = (RisesTo-weaker)
