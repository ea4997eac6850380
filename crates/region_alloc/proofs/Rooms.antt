-- Where a region may be in gaps: at its own address, or at a multiple of its alignment.
use Rattle.std.proofs.Common.{◌≡◌, ℕ, inl, inr, Bool, true, false, List, [], ◌∷◌, Option, Some, None, refl, sym, ap, ◌∙◌, arith}
use Rattle.std.specs.Prelude.{◌&&◌, ◌%◌, ◌==◌}
use Rattle.std.specs.List.{list_any}
use Rattle.std.proofs.lemmas.Bool.{and_from, and_left, and_right, cases_eq, eq-eqb, ne_eqb}
use Rattle.expand_kernel.specs.thing.Region.{Region}
use Rattle.region_alloc.specs.Gaps.{IsLeast, fits_in_gap, has_room, holds}
use Rattle.region_alloc.specs.Placement.{suits}
use Rattle.region_alloc.specs.declared.gaps.Gap.{Gap}
use Rattle.region_alloc.proofs.Least.{least_same}

any_both : {X : Type 0} (t : Bool) (p : X → Bool) (xs : List X) → list_any (λ x. t && p x) xs ≡ (t && list_any p xs)
any_both true p xs = refl
any_both false p [] = refl
any_both false p (x ∷ xs) = any_both false p xs

pub room_anywhere : (gaps : List Gap) (r : Region) (o : Option ℕ) → r.fixed ≡ None → IsLeast (λ a. list_any (λ g. fits_in_gap r.alignment r.size g a) gaps) o → IsLeast (has_room gaps r) o
room_anywhere gaps r o e h =
    least_same _ _
    (λ a. any_both (a % r.alignment == 0) (λ g. holds g a r.size) gaps ∙ ap (λ f. suits r f a && list_any (λ g. holds g a r.size) gaps) (sym e)) o h

own_room : (gaps : List Gap) (r : Region) (own : ℕ) → r.fixed ≡ Some own → (a : ℕ) → ((a == own) && list_any (λ g. holds g a r.size) gaps) ≡ has_room gaps r a
own_room gaps r own e a = ap (λ f. suits r f a && list_any (λ g. holds g a r.size) gaps) (sym e)

elsewhere : (gaps : List Gap) (r : Region) (own : ℕ) → r.fixed ≡ Some own → (a : ℕ) → (a ≡ own → ⊥) → has_room gaps r a ≡ false
elsewhere gaps r own e a other = sym (own_room gaps r own e a) ∙ and_left _ _ (ne_eqb a own other)

pub room_own : (gaps : List Gap) (r : Region) (own : ℕ) → r.fixed ≡ Some own → list_any (λ g. holds g own r.size) gaps ≡ true → IsLeast (has_room gaps r) (Some own)
room_own gaps r own e h = (
  sym (own_room gaps r own e own) ∙ and_from _ _ (eq-eqb own own refl) h,
  λ b l. elsewhere gaps r own e b (λ same. absurd (omega arith)),
)

pub no_room_own : (gaps : List Gap) (r : Region) (own : ℕ) → r.fixed ≡ Some own → list_any (λ g. holds g own r.size) gaps ≡ false → IsLeast (has_room gaps r) None
no_room_own gaps r own e h a =
    elim (cases_eq a own) [
      | inl same ↦ sym (own_room gaps r own e a) ∙ and_right _ _ (ap (λ n. list_any (λ g. holds g n r.size) gaps) same ∙ h)
      | inr other ↦ elsewhere gaps r own e a other
    ]
