-- Sets of vectors by marks, and as lists.
use Rattle.std.proofs.Common.{◌≡◌, ◌<◌, ◌==◌, ◌&&◌, ◌||◌, ◌∷◌, ◌∙◌}
use Rattle.std.proofs.Common.{ℕ, zero, suc, eqb, Bool, true, false, List, [], get_or, set, Option, Some, None, refl, sym, ap, arith, inl, inr}
use Rattle.std.specs.Prelude.{option_map, unwrap_or}
use Rattle.std.specs.List.{list_any}
use Rattle.std.proofs.lemmas.Bool.{cases_eq, eq-eqb, ne_eqb, cases_Bool}
use Rattle.std.proofs.lemmas.List.{get_or-set_other, get_or-set_same, length-set}
use Rattle.machine_layout.specs.Pending.{with_vector as with_in, without as without_in}
use Rattle.kernel_core.specs.Vectors.{delivered as delivered_marks, greatest as greatest_mark, has, with_vector, without_vector}
use Rattle.kernel_core.specs.Router.{delivered_by}
use Rattle.subject_model.specs.Alone.{delivered, greatest}
use Rattle.muen_num.specs.Numbers.{is_among}
use Rattle.proof_turns.specs.Held.{IsSameSet, SameSet}

-- ---- a vector more, and one less

in_with : (v w : ℕ) (vs : List ℕ) → w ≡ v → is_among (with_in (Some v) vs) w ≡ true
in_with v w vs e =
    elim (cases_Bool (list_any (λ u. u == v) vs)) [
      | inl t ↦ rw (t, e) t
      | inr f ↦ rw (f, e, eq-eqb v v refl) refl
    ]

in_with_other : (v w : ℕ) (vs : List ℕ) → (w ≡ v → ⊥) → is_among (with_in (Some v) vs) w ≡ is_among vs w
in_with_other v w vs ne =
    elim (cases_Bool (list_any (λ u. u == v) vs)) [
      | inl t ↦ rw t refl
      | inr f ↦ rw (f, ne_eqb v w (λ e. ne (sym e))) refl
    ]

in_without : (v w : ℕ) (vs : List ℕ) → w ≡ v → is_among (without_in (Some v) vs) w ≡ false
in_without v w [] e = refl
in_without v w (u ∷ us) e =
    elim (cases_eq u v) [
      | inl h ↦ rw (eq-eqb u v h) (in_without v w us e)
      | inr n ↦ rw (ne_eqb u v n, ne_eqb u w (λ i. n (i ∙ e))) (in_without v w us e)
    ]

in_without_other : (v w : ℕ) (vs : List ℕ) → (w ≡ v → ⊥) → is_among (without_in (Some v) vs) w ≡ is_among vs w
in_without_other v w [] ne = refl
in_without_other v w (u ∷ us) ne =
    elim (cases_eq u v) [
      | inl h ↦ rw (eq-eqb u v h, ne_eqb u w (λ i. ne (sym i ∙ h))) (in_without_other v w us ne)
      | inr n ↦ rw (ne_eqb u v n) (ap (λ b. eqb u w || b) (in_without_other v w us ne))
    ]

pub same_with : (v : ℕ) (marks : List Bool) (vs : List ℕ) → IsSameSet marks vs → IsSameSet (with_vector v marks) (with_in (Some v) vs)
same_with v marks vs s = record {
  length = length-set marks v true ∙ s.length;
  same = λ w h. elim (cases_eq w v) [
    | inl e ↦ ap (λ i. get_or (set marks v true) i false) e ∙ (get_or-set_same marks v true false (omega (arith, s.length, e, h)) ∙ sym (in_with v w vs e))
    | inr ne ↦ get_or-set_other marks v w true false ne ∙ (s.same w h ∙ sym (in_with_other v w vs ne))
  ];
}

pub same_without : (v : ℕ) (marks : List Bool) (vs : List ℕ) → IsSameSet marks vs → IsSameSet (without_vector v marks) (without_in (Some v) vs)
same_without v marks vs s = record {
  length = length-set marks v false ∙ s.length;
  same = λ w h. elim (cases_eq w v) [
    | inl e ↦ ap (λ i. get_or (set marks v false) i false) e ∙ (get_or-set_same marks v false false (omega (arith, s.length, e, h)) ∙ sym (in_without v w vs e))
    | inr ne ↦ get_or-set_other marks v w false false ne ∙ (s.same w h ∙ sym (in_without_other v w vs ne))
  ];
}

-- ---- sets that may not be there

pub set_with : (v : ℕ) (o : Option (List Bool)) (l : Option (List ℕ)) → SameSet o l → SameSet (option_map (with_vector v) o) (option_map (with_in (Some v)) l)
set_with v (Some marks) (Some vs) s = same_with v marks vs s
set_with v None None s = absurd s
set_with v (Some marks) None s = absurd s
set_with v None (Some vs) s = absurd s

pub set_without : (v : ℕ) (o : Option (List Bool)) (l : Option (List ℕ)) → SameSet o l → SameSet (option_map (without_vector v) o) (option_map (without_in (Some v)) l)
set_without v (Some marks) (Some vs) s = same_without v marks vs s
set_without v None None s = absurd s
set_without v (Some marks) None s = absurd s
set_without v None (Some vs) s = absurd s

-- ---- what is delivered

pub greatest_alike : (n : ℕ) (f g : ℕ → Bool) → ((v : ℕ) → v < n → f v ≡ g v) → greatest_mark n f ≡ greatest n g
greatest_alike zero f g h = refl
greatest_alike (suc n) f g h = rw (h n (omega arith), greatest_alike n f g (λ v l. h v (omega arith))) refl

delivered_alike : (now later : List Bool) (vs ws : List ℕ) (entry : Bool) → IsSameSet now vs → IsSameSet later ws → delivered_marks now later entry ≡ delivered vs ws entry
delivered_alike now later vs ws entry s t =
    greatest_alike 256 (λ v. has now v || (entry && has later v)) (λ v. is_among vs v || (entry && is_among ws v)) (λ v h. rw (s.same v h, t.same v h) refl)

pub same_delivered : (o w : Option (List Bool)) (l m : Option (List ℕ)) (entry : Bool) → SameSet o l → SameSet w m
    → delivered_by o w entry ≡ delivered (unwrap_or l []) (unwrap_or m []) entry
same_delivered (Some now) (Some later) (Some vs) (Some ws) entry s t = delivered_alike now later vs ws entry s t
same_delivered None w (Some vs) m entry s t = absurd s
same_delivered None w None m entry s t = absurd s
same_delivered (Some now) w None m entry s t = absurd s
same_delivered (Some now) None (Some vs) (Some ws) entry s t = absurd t
same_delivered (Some now) None (Some vs) None entry s t = absurd t
same_delivered (Some now) (Some later) (Some vs) None entry s t = absurd t
