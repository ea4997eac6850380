-- Where regions are placed one after another: each is at a spot where it may be, and no two spots share an address.
use Rattle.std.proofs.Common.{◌≡◌, ℕ, zero, suc, ◌+◌, ◌≤◌, ◌⊎◌, inl, inr, Bool, true, cond, All, List, [], ◌∷◌, ◌++◌, Option, Some, None, refl, sym, ap, subst, ◌∙◌}
use Rattle.std.specs.Prelude.{◌&&◌, ◌||◌, ◌==◌, Result, Ok, nat_le, if◌then◌else◌}
use Rattle.std.specs.List.{find, list_any}
use Rattle.std.specs.Option.{option_or}
use Rattle.std.proofs.lemmas.Bool.{and_parts, cases_Bool, eq-eqb, leb-true, or_cases, or_left, or_right}
use Rattle.std.proofs.lemmas.List.Elements.{All-cons, All-head, All-nil, All-push, All-tail}
use Rattle.std.proofs.lemmas.List.Folds.{list_any-append}
use Rattle.expand_kernel.specs.thing.Region.{Region}
use Rattle.muen_num.specs.declared.limits.TheConstants.{PHYSICAL_END}
use Rattle.policy_lawful.specs.source.Block.{Block}
use Rattle.region_alloc.specs.Placement.{if_placed, is_apart, is_room, least_below, lowest, placed_after, spot, suits}
use Rattle.region_alloc.specs.declared.spot.Spot.{Spot}
use Rattle.policy_lawful.specs.Ranges.{in_a_block}

-- ---- pairs of spots

abbrev pub AreTwo : Spot → Spot → Type 0
AreTwo q t = (q.address + q.size ≤ t.address) ⊎ (t.address + t.size ≤ q.address)

-- each shares no address with a later one
abbrev pub AllApart : List Spot → Type 0
AllApart [] = Unit {0}
AllApart (q ∷ qs) = All (AreTwo q) qs × AllApart qs

two_back : (q t : Spot) → AreTwo q t → AreTwo t q
two_back q t (inl h) = inr h
two_back q t (inr h) = inl h

apart_push : (qs : List Spot) (t : Spot) → AllApart qs → All (λ q. AreTwo q t) qs → AllApart (qs ++ t ∷ [])
apart_push [] t h k = (All-nil (AreTwo t), tt)
apart_push (q ∷ qs) t h k =
    (All-push (AreTwo q) qs t h.0 (All-head (λ q. AreTwo q t) q qs k), apart_push qs t h.1 (All-tail (λ q. AreTwo q t) q qs k))

from_test : (qs : List Spot) (t : Spot) → is_apart qs t.address t.size ≡ true → All (λ q. AreTwo q t) qs
from_test [] t h = All-nil (λ q. AreTwo q t)
from_test (q ∷ qs) t h =
    let both = and_parts (nat_le (t.address + t.size) q.address || nat_le (q.address + q.size) t.address) (is_apart qs t.address t.size) h in
    let here : AreTwo q t = elim (or_cases (nat_le (t.address + t.size) q.address) (nat_le (q.address + q.size) t.address) both.0) [
      | inl below ↦ inr (leb-true _ _ below)
      | inr above ↦ inl (leb-true _ _ above)
    ] in
    All-cons (λ q. AreTwo q t) q qs here (from_test qs t both.1)

-- ---- what is found

pub all_found : {X : Type 0} (test : X → Bool) (P : X → Type 0) (xs : List X) (x : X) → find test xs ≡ Some x → All P xs → P x
all_found test P [] x e h = absurd (cc)
all_found test P (y ∷ ys) x e h = elim (cases_Bool (test y)) [
  | inl passes ↦
      let same : Some y ≡ Some x = sym (ap (λ b. cond b (Some y) (find test ys)) passes) ∙ e in
      let is : y ≡ x = cc in
      subst P is (All-head P y ys h)
  | inr fails ↦ all_found test P ys x (sym (ap (λ b. cond b (Some y) (find test ys)) fails) ∙ e) (All-tail P y ys h)
]

-- two that are found by tests of which no spot passes both
pub two_found : (p q : Spot → Bool) (xs : List Spot) (s t : Spot) → ((x : Spot) → p x ≡ true → q x ≡ true → ⊥) → find p xs ≡ Some s → find q xs ≡ Some t → AllApart xs → AreTwo s t
two_found p q [] s t other a b h = absurd (cc)
two_found p q (x ∷ xs) s t other a b h = elim (cases_Bool (p x)) [
  | inl passes ↦ elim (cases_Bool (q x)) [
    | inl also ↦ absurd (other x passes also)
    | inr alone ↦
        let same : Some x ≡ Some s = sym (ap (λ b. cond b (Some x) (find p xs)) passes) ∙ a in
        let is : x ≡ s = cc in
        let later : find q xs ≡ Some t = sym (ap (λ b. cond b (Some x) (find q xs)) alone) ∙ b in
        subst (λ w. AreTwo w t) is (all_found q (AreTwo x) xs t later h.0)
  ]
  | inr fails ↦
      let later : find p xs ≡ Some s = sym (ap (λ b. cond b (Some x) (find p xs)) fails) ∙ a in
      elim (cases_Bool (q x)) [
        | inl also ↦
            let same : Some x ≡ Some t = sym (ap (λ b. cond b (Some x) (find q xs)) also) ∙ b in
            let is : x ≡ t = cc in
            two_back t s (subst (λ w. AreTwo w s) is (all_found p (AreTwo x) xs s later h.0))
        | inr alone ↦ two_found p q xs s t other later (sym (ap (λ b. cond b (Some x) (find q xs)) alone) ∙ b) h.1
      ]
]

-- ---- one region more

pub least_passes : (p : ℕ → Bool) (n a : ℕ) → least_below p n ≡ Some a → p a ≡ true
unfolding least_below
least_passes p zero a e = absurd (cc)
least_passes p (suc n) a e =
    elim (least_below p n) as (λ o. least_below p n ≡ o → option_or o (if p n then Some n else None) ≡ Some a → p a ≡ true) [
      | Some b ↦ λ is k. let same : b ≡ a = cc in least_passes p n a (is ∙ ap (λ c. Some c) same)
      | None ↦ λ is k. elim (cases_Bool (p n)) [
        | inl passes ↦
            let same : Some n ≡ Some a = sym (ap (λ b. if b then Some n else None) passes) ∙ k in
            let here : n ≡ a = cc in
            ap p (sym here) ∙ passes
        | inr fails ↦ let none : None ≡ Some a = sym (ap (λ b. if b then Some n else None) fails) ∙ k in absurd (cc)
      ]
    ] refl e

-- where the region of this number is placed
abbrev pub is_of : ℕ → Spot → Bool
is_of number q = q.number == number

-- the region may be there, whatever else is placed
abbrev pub MayBe : List Block → Region → ℕ → Type 0
MayBe blocks r address = (suits r r.fixed address ≡ true) × (in_a_block blocks address r.size ≡ true)

-- this holds of each spot, and no two share an address
pub record AreWell (Holds : Spot → Type 0) (spots : List Spot) : Type 0 where
  pub apart : AllApart spots
  pub each : All Holds spots

module _ (blocks : List Block) (Holds : Spot → Type 0) where
  -- it holds wherever the region of this number may be
  abbrev pub HoldsOf : ℕ × Region → Type 0
  HoldsOf x = (a : ℕ) → MayBe blocks x.1 a → Holds (spot x.0 x.1 a)

  well_push : (spots : List Spot) (x : ℕ × Region) (a : ℕ) → AreWell Holds spots → lowest blocks spots x.1 ≡ Some a → HoldsOf x → AreWell Holds (spots ++ spot x.0 x.1 a ∷ [])
  unfolding lowest is_room
  well_push spots x a h e k =
      let room = least_passes (is_room blocks spots x.1) PHYSICAL_END a e in
      let both = and_parts (suits x.1 x.1.fixed a && in_a_block blocks a x.1.size) (is_apart spots a x.1.size) room in
      record {
        apart = apart_push spots (spot x.0 x.1 a) h.apart (from_test spots (spot x.0 x.1 a) both.1);
        each = All-push Holds spots (spot x.0 x.1 a) h.each (k a (and_parts (suits x.1 x.1.fixed a) (in_a_block blocks a x.1.size) both.0));
      }

  -- ---- all of them

  placed_some : (r : Region) (o : Option ℕ) (next : ℕ → Result (List Spot) Region) (out : List Spot) → if_placed r o next ≡ Ok out → (a : ℕ) × (o ≡ Some a) × (next a ≡ Ok out)
  placed_some r None next out e = absurd (cc)
  placed_some r (Some a) next out e = (a, refl, e)

  pub well_after : (turns : List (ℕ × Region)) (spots out : List Spot) → placed_after blocks turns spots ≡ Ok out → All HoldsOf turns → AreWell Holds spots → AreWell Holds out
  unfolding placed_after
  well_after [] spots out e k h = let same : spots ≡ out = cc in subst (AreWell Holds) same h
  well_after (x ∷ rest) spots out e k h =
      let found = placed_some x.1 (lowest blocks spots x.1) (λ address. placed_after blocks rest (spots ++ spot x.0 x.1 address ∷ [])) out e in
      well_after rest (spots ++ spot x.0 x.1 found.0 ∷ []) out found.2 (All-tail HoldsOf x rest k)
      (well_push spots x found.0 h found.1 (All-head HoldsOf x rest k))

  -- what has a spot keeps it
  pub kept_after : (n : ℕ) (turns : List (ℕ × Region)) (spots out : List Spot) → placed_after blocks turns spots ≡ Ok out → list_any (is_of n) spots ≡ true → list_any (is_of n) out ≡ true
  unfolding placed_after
  kept_after n [] spots out e h = let same : spots ≡ out = cc in ap (list_any (is_of n)) (sym same) ∙ h
  kept_after n (x ∷ rest) spots out e h =
      let found = placed_some x.1 (lowest blocks spots x.1) (λ address. placed_after blocks rest (spots ++ spot x.0 x.1 address ∷ [])) out e in
      kept_after n rest (spots ++ spot x.0 x.1 found.0 ∷ []) out found.2
      (list_any-append (is_of n) spots (spot x.0 x.1 found.0 ∷ []) ∙ or_left _ _ h)

  -- each has one
  pub each_after : (turns : List (ℕ × Region)) (spots out : List Spot) → placed_after blocks turns spots ≡ Ok out → All (λ x. list_any (is_of x.0) out ≡ true) turns
  unfolding placed_after
  each_after [] spots out e = All-nil (λ x. list_any (is_of x.0) out ≡ true)
  each_after (x ∷ rest) spots out e =
      let found = placed_some x.1 (lowest blocks spots x.1) (λ address. placed_after blocks rest (spots ++ spot x.0 x.1 address ∷ [])) out e in
      let here : list_any (is_of x.0) (spots ++ spot x.0 x.1 found.0 ∷ []) ≡ true =
      list_any-append (is_of x.0) spots (spot x.0 x.1 found.0 ∷ []) ∙ or_right _ _ (or_left _ _ (eq-eqb x.0 x.0 refl)) in
      All-cons (λ x. list_any (is_of x.0) out ≡ true) x rest
      (kept_after x.0 rest (spots ++ spot x.0 x.1 found.0 ∷ []) out found.2 here)
      (each_after rest (spots ++ spot x.0 x.1 found.0 ∷ []) out found.2)
