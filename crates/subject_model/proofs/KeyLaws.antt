-- What a change of one key's value leaves, and which keys are told apart.
use Rattle.std.proofs.Common.{◌≡◌, ℕ, true, Bool, cond, List, [], ◌∷◌, Some, refl, sym, ap, ◌∙◌, inl, inr}
use Rattle.std.specs.Prelude.{◌==◌, option_map, filter}
use Rattle.std.specs.Str.{bytes_eq}
use Rattle.std.proofs.lemmas.Bool.{cases_Bool}
use Rattle.std.proofs.lemmas.Bool.Decides.{Decides-eqb}
use Rattle.policy_lawful.specs.Thing.{Thing, same_thing}
use Rattle.policy_lawful.proofs.SameThings.{same_things}
use Rattle.subject_model.specs.ByKey.{value_of, change_of, AreApart}
use Rattle.muen_num.proofs.Lookups.{same_names}

-- ---- a change of one key's value

-- the key's own value is what the change makes of it
pub value_changed : {K V : Type 0} (same : K → K → Bool) (k : K) (f : V → V) (es : List (K × V)) → value_of same (change_of same k f es) k ≡ option_map f (value_of same es k)
value_changed same k f [] = refl
value_changed same k f (e ∷ es) =
    let ih = value_changed same k f es in
    elim (cases_Bool (same e.0 k)) [ inl h ↦ rw h (rw h refl) | inr n ↦ rw n (rw n ih) ]

-- a key that is told apart keeps its value
pub value_other : {K V : Type 0} (same : K → K → Bool) (k q : K) (f : V → V) (es : List (K × V)) → AreApart same k q → value_of same (change_of same k f es) q ≡ value_of same es q
value_other same k q f [] apart = refl
value_other same k q f (e ∷ es) apart =
    let ih = value_other same k q f es apart in
    elim (cases_Bool (same e.0 k)) [
      | inl h ↦ let other = apart e.0 h in rw h (rw other refl)
      | inr n ↦ rw n (ap (cond (same e.0 q) (Some e.1)) ih)
    ]

-- a filter that keeps all entries with a key keeps its value
pub value_filtered : {K V : Type 0} (same : K → K → Bool) (test : K → Bool) (k : K) (es : List (K × V)) → ((a : K) → same a k ≡ true → test a ≡ true) → value_of same (filter (λ e. test e.0) es) k ≡ value_of same es k
value_filtered same test k [] h = refl
value_filtered same test k (e ∷ es) h =
    let ih = value_filtered same test k es h in
    elim (cases_Bool (same e.0 k)) [
      | inl s ↦ let t = h e.0 s in rw (t, s) refl
      | inr n ↦ elim (cases_Bool (test e.0)) [ inl t ↦ rw (t, n) ih | inr t ↦ rw (t, n) ih ]
    ]

-- ---- keys that are told apart

-- where only one key is the same as a key, another one is told apart
apart_by : {K : Type 0} (same : K → K → Bool) → ((a b : K) → same a b ≡ true → a ≡ b) → (x y : K) → (x ≡ y → ⊥) → AreApart same x y
apart_by same is x y ne a h =
    elim (cases_Bool (same a y)) [ inl e ↦ absurd (ne (sym (is a x h) ∙ is a y e)) | inr n ↦ n ]

pub things_apart : (x y : Thing) → (x ≡ y → ⊥) → AreApart same_thing x y
things_apart x y ne = apart_by same_thing same_things x y ne

pub names_apart : (a b : List ℕ) → (a ≡ b → ⊥) → AreApart bytes_eq a b
names_apart a b ne = apart_by bytes_eq same_names a b ne

pub numbers_apart : (a b : ℕ) → (a ≡ b → ⊥) → AreApart (λ x y. x == y) a b
numbers_apart a b ne = apart_by (λ x y. x == y) (λ x y h. (Decides-eqb x y).0 h) a b ne
