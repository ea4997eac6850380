-- Counting the aligned ranges that guest ranges touch, one by one.
use Rattle.std.proofs.Common.{◌≡◌, ℕ, suc, ◌+◌, ◌-◌, ◌*◌, ◌/◌, ◌<◌, ◌≤◌, ◌||◌, true, false, List, [], ◌∷◌, refl, sym, ap, ◌∙◌, arith, All, max, length, get_or, drop, ◌^◌, add-one, drop-cons}
use Rattle.std.proofs.lemmas.Bool.{and_from, and_left, and_right, le-ltb, lt-ltb}
use Rattle.std.proofs.lemmas.List.Elements.{All-head, All-tail, All-cons}
use Rattle.std.proofs.lemmas.List.{drop_all}
use Rattle.std.proofs.lemmas.Nat.{le-div, div_below}
use Rattle.std.proofs.Math.Nat.{mul-le-mul_left, mul-div-le, lt-div-mul-add, div-le_self}
use Rattle.ept_emit.specs.Pages.{AreApart, IsMapped, count, is_taken, touches}
use Rattle.ept_emit.specs.declared.window.GuestRange.{GuestRange}
use Rattle.ept_emit.proofs.PageCounts.{count_all, count_none, count_same, count_three}

-- ---- ranges one after another

apart_head : (w : GuestRange) (ws : List GuestRange) → AreApart (w ∷ ws) → All (λ t. w.guest + w.size ≤ t.guest) ws
apart_head w ws h = λ k d lt. h 0 (suc k) d (omega arith) (omega arith)

apart_tail : (w : GuestRange) (ws : List GuestRange) → AreApart (w ∷ ws) → AreApart ws
apart_tail w ws h = λ i j d a b. h (suc i) (suc j) d (omega arith) (omega arith)

next_range : (ws : List GuestRange) (i : ℕ) (d : GuestRange) → i < length ws → drop i ws ≡ get_or ws i d ∷ drop (i + 1) ws
next_range ws i d lt = rw (add-one, drop-cons ws i d lt) refl

-- ---- the values of one

abbrev pub first_value : ℕ → GuestRange → ℕ
first_value entry_size w = w.guest / entry_size

abbrev pub last_value : ℕ → GuestRange → ℕ
last_value entry_size w = (w.guest + w.size - 1) / entry_size

around : (entry_size g : ℕ) → 0 < entry_size → (entry_size * (g / entry_size) ≤ g) × (g < entry_size * (g / entry_size) + entry_size)
around entry_size g some = (omega (arith, mul-div-le g entry_size), omega (arith, lt-div-mul-add {a = g} {b = entry_size} some))

below_first : (w : GuestRange) (entry_size v : ℕ) → 0 < entry_size → v < first_value entry_size w → touches w (entry_size * v) entry_size ≡ false
below_first w entry_size v some h =
    let r = around entry_size w.guest some in
    let m = mul-le-mul_left entry_size h in
    let e : entry_size * v + entry_size ≤ w.guest = omega arith in
    and_left _ _ (le-ltb _ _ e)

above_last : (w : GuestRange) (entry_size v : ℕ) → 0 < entry_size → 0 < w.size → last_value entry_size w < v → touches w (entry_size * v) entry_size ≡ false
above_last w entry_size v some full h =
    let r = around entry_size (w.guest + w.size - 1) some in
    let m = mul-le-mul_left entry_size h in
    let e : w.guest + w.size ≤ entry_size * v = omega arith in
    and_right _ _ (le-ltb _ _ e)

between : (w : GuestRange) (entry_size v : ℕ) → 0 < entry_size → 0 < w.size → first_value entry_size w ≤ v → v ≤ last_value entry_size w → touches w (entry_size * v) entry_size ≡ true
between w entry_size v some full a b =
    let r = around entry_size w.guest some in
    let q = around entry_size (w.guest + w.size - 1) some in
    let m = mul-le-mul_left entry_size a in
    let n = mul-le-mul_left entry_size b in
    let low : w.guest < entry_size * v + entry_size = omega arith in
    let high : entry_size * v < w.guest + w.size = omega arith in
    and_from _ _ (lt-ltb _ _ low) (lt-ltb _ _ high)

first_le_last : (w : GuestRange) (entry_size : ℕ) → 0 < entry_size → 0 < w.size → first_value entry_size w ≤ last_value entry_size w
first_le_last w entry_size some full =
    let r = around entry_size w.guest some in
    le-div (first_value entry_size w) (w.guest + w.size - 1) entry_size some (omega arith)

-- a later one begins on the last value of an earlier one, or above
last_le_first : (w t : GuestRange) (entry_size : ℕ) → 0 < entry_size → 0 < w.size → w.guest + w.size ≤ t.guest → last_value entry_size w ≤ first_value entry_size t
last_le_first w t entry_size some full h =
    let r = around entry_size (w.guest + w.size - 1) some in
    le-div (last_value entry_size w) t.guest entry_size some (omega arith)

-- ---- the values of all

none_below : (ws : List GuestRange) (entry_size v : ℕ) → 0 < entry_size → All (λ t. v < first_value entry_size t) ws → is_taken ws entry_size v ≡ false
none_below [] entry_size v some h = refl
none_below (w ∷ ws) entry_size v some h =
    ap (λ b. b || is_taken ws entry_size v) (below_first w entry_size v some (All-head (λ t. v < first_value entry_size t) w ws h))
    ∙ none_below ws entry_size v some (All-tail (λ t. v < first_value entry_size t) w ws h)

taken_here : (w : GuestRange) (ws : List GuestRange) (entry_size v : ℕ) → touches w (entry_size * v) entry_size ≡ true → is_taken (w ∷ ws) entry_size v ≡ true
taken_here w ws entry_size v h = ap (λ b. b || is_taken ws entry_size v) h

taken_later : (w : GuestRange) (ws : List GuestRange) (entry_size v : ℕ) → touches w (entry_size * v) entry_size ≡ false → is_taken (w ∷ ws) entry_size v ≡ is_taken ws entry_size v
taken_later w ws entry_size v h = ap (λ b. b || is_taken ws entry_size v) h

-- those from `next` on
abbrev pub values_from : List GuestRange → ℕ → ℕ → ℕ
values_from [] entry_size next = 0
values_from (w ∷ ws) entry_size next = (last_value entry_size w + 1 - max (first_value entry_size w) next) + values_from ws entry_size (last_value entry_size w + 1)

values_are : (ws : List GuestRange) (entry_size next end : ℕ) → 0 < entry_size → AreApart ws → All (λ w. 0 < w.size) ws → All (λ w. next ≤ first_value entry_size w + 1) ws → All (λ w. last_value entry_size w < end) ws → next ≤ end → values_from ws entry_size next ≡ count (is_taken ws entry_size) next (end - next)
values_are [] entry_size next end some apart full begins ends le = sym (count_none (is_taken [] entry_size) next (end - next) (λ v a b. refl))
values_are (w ∷ ws) entry_size next end some apart full begins ends le =
    let p = is_taken (w ∷ ws) entry_size in
    let f = first_value entry_size w in
    let t = last_value entry_size w in
    let here = All-head (λ y. 0 < y.size) w ws full in
    let rise = first_le_last w entry_size some here in
    let near = All-head (λ y. next ≤ first_value entry_size y + 1) w ws begins in
    let far = All-head (λ y. last_value entry_size y < end) w ws ends in
    let start = max f next in
    let a = start - next in
    let b = t + 1 - start in
    let c = end - (t + 1) in
    let whole : end - next ≡ a + (b + c) = omega arith in
    let at : next + a ≡ start = omega arith in
    let after : start + b ≡ t + 1 = omega arith in
    let later = (λ (k : ℕ) (d : GuestRange) (h : k < length ws). last_le_first w (get_or ws k d) entry_size some here (apart_head w ws apart k d h)) in
    let none : count p next a ≡ 0 = count_none p next a (λ v x y. none_below (w ∷ ws) entry_size v some (All-cons (λ q. v < first_value entry_size q) w ws (omega arith) (λ k d h. let q = later k d h in omega arith))) in
    let all : count p start b ≡ b = count_all p start b (λ v x y. taken_here w ws entry_size v (between w entry_size v some here (omega arith) (omega arith))) in
    let rest : count p (t + 1) c ≡ count (is_taken ws entry_size) (t + 1) c = count_same p (is_taken ws entry_size) (t + 1) c (λ v x y. taken_later w ws entry_size v (above_last w entry_size v some here (omega arith))) in
    let more = values_are ws entry_size (t + 1) end some (apart_tail w ws apart) (All-tail (λ y. 0 < y.size) w ws full) (λ k d h. let q = later k d h in omega arith) (All-tail (λ y. last_value entry_size y < end) w ws ends) (omega arith) in
    let three = rw (at, after) at (count_three p next a b c (end - next) whole) in
    omega arith

-- ---- a tally over the first i

pub record Tallied (ws : List GuestRange) (entry_size all next i : ℕ) : Type 0 where
  pub sum : all + values_from (drop i ws) entry_size next ≡ values_from ws entry_size 0
  pub few : all ≤ next
  pub small : next ≤ 2 ^ 48
  pub apart : AreApart (drop i ws)
  pub near : All (λ w. next ≤ first_value entry_size w + 1) (drop i ws)

pub tally_below : (ws : List GuestRange) (entry_size all next i : ℕ) (d : GuestRange) → 0 < entry_size → Tallied ws entry_size all next i → i < length ws → All IsMapped ws → max (first_value entry_size (get_or ws i d)) next ≤ last_value entry_size (get_or ws i d) + 1
tally_below ws entry_size all next i d some t lt fine =
    let w = get_or ws i d in
    let near = rw (next_range ws i d lt) at t.near in
    let a = All-head (λ y. next ≤ first_value entry_size y + 1) w (drop (i + 1) ws) near in
    let b = first_le_last w entry_size some ((fine i d lt).some) in
    omega arith

pub tally_step : (ws : List GuestRange) (entry_size all next i : ℕ) (d : GuestRange) → 0 < entry_size → Tallied ws entry_size all next i → i < length ws → All IsMapped ws → Tallied ws entry_size (all + (last_value entry_size (get_or ws i d) + 1 - max (first_value entry_size (get_or ws i d)) next)) (last_value entry_size (get_or ws i d) + 1) (i + 1)
tally_step ws entry_size all next i d some t lt fine =
    let w = get_or ws i d in
    let e = next_range ws i d lt in
    let sum = rw e at t.sum in
    let apart = rw e at t.apart in
    let below = tally_below ws entry_size all next i d some t lt fine in
    let ok = fine i d lt in
    let end = div-le_self (w.guest + w.size - 1) entry_size in
    record {
      sum = omega arith;
      few = omega (arith, t.few);
      small = omega (arith, ok.end, ok.some);
      apart = apart_tail w (drop (i + 1) ws) apart;
      near = λ k x h. let q = last_le_first w (get_or (drop (i + 1) ws) k x) entry_size some ok.some (apart_head w (drop (i + 1) ws) apart k x h) in omega arith;
    }

pub tally_start : (ws : List GuestRange) (entry_size : ℕ) → AreApart ws → Tallied ws entry_size 0 0 0
tally_start ws entry_size apart =
    record {
      sum = omega arith;
      few = omega arith;
      small = omega arith;
      apart = apart;
      near = λ k d h. omega arith;
    }

pub tally_end : (ws : List GuestRange) (entry_size all next i : ℕ) → 0 < entry_size → 2 ^ 48 ≡ 2 ^ 48 / entry_size * entry_size → Tallied ws entry_size all next i → length ws ≤ i → AreApart ws → All IsMapped ws → all ≡ count (is_taken ws entry_size) 0 (2 ^ 48 / entry_size)
tally_end ws entry_size all next i some whole t end apart fine =
    let e : drop i ws ≡ [] = drop_all i ws end in
    let sum = rw e at t.sum in
    let far = (λ (k : ℕ) (d : GuestRange) (h : k < length ws). let ok = fine k d h in div_below ((get_or ws k d).guest + (get_or ws k d).size - 1) entry_size (2 ^ 48 / entry_size) some (omega (arith, ok.end, ok.some))) in
    let all_of : 2 ^ 48 / entry_size - 0 ≡ 2 ^ 48 / entry_size = omega arith in
    let are = rw all_of at (values_are ws entry_size 0 (2 ^ 48 / entry_size) some apart (λ k d h. (fine k d h).some) (λ k d h. omega arith) far (omega arith)) in
    omega arith
