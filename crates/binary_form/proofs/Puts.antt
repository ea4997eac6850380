-- One thing written behind another.
use Rattle.std.proofs.Common.{◌≡◌, ℕ, zero, suc, ◌+◌, ◌<◌, ◌≤◌, List, [], ◌∷◌, ◌++◌, length, take, get_or, replicate, sym, ap, subst, ◌∙◌, append_assoc, arith}
use Rattle.std.proofs.lemmas.List.{append-nil, take_more, take_all}
use Rattle.binary_form.specs.declared.fault.Field.{Field}
use Rattle.binary_form.specs.Form.{Form, field, gap, tag, done, spells, all_fit}

pub ruleset appended = (append_assoc, append-nil)

-- what the items leave
pub after_all : {A C : Type 0} → (C → A → C) → C → List A → C
after_all next c [] = c
after_all next c (x ∷ xs) = after_all next (next c x) xs

-- an item fits behind some others
pub fits_at : {A C : Type 0} (next : C → A → C) (fits : C → A → Type 0) (c : C) (xs : List A) (i : ℕ) (x : A) → i < length xs → x ≡ get_or xs i x → all_fit next fits c xs → (d : C) × fits d x
unfolding all_fit
fits_at next fits c [] i x lt e h = absurd (omega arith)
fits_at next fits c (y ∷ ys) zero x lt e h = (c, subst (fits c) (sym e) h.0)
fits_at next fits c (y ∷ ys) (suc i) x lt e h = fits_at next fits (next c y) ys i x (omega arith) e h.1

pub spells_last : {A C : Type 0} (next : C → A → C) (spell : C → A → List ℕ) (c : C) (xs : List A) (x : A) → spells next spell c (xs ++ x ∷ []) ≡ spells next spell c xs ++ spell (after_all next c xs) x
unfolding spells after_all
spells_last next spell c [] x = append-nil (spell c x)
spells_last next spell c (y ∷ ys) x = ap (λ (t : List ℕ). spell c y ++ t) (spells_last next spell (next c y) ys x) ∙ sym (append_assoc (spell c y) (spells next spell (next c y) ys) (spell (after_all next (next c y) ys) x))

pub put_more : {A C : Type 0} (next : C → A → C) (spell : C → A → List ℕ) (old now later : List ℕ) (xs : List A) (i : ℕ) (x : A) → i < length xs → x ≡ get_or xs i x
    → ((c : C) → now ≡ old ++ spells next spell c (take i xs)) → ((c : C) → later ≡ now ++ spell c x) → (c : C) → later ≡ old ++ spells next spell c (take (i + 1) xs)
put_more next spell old now later xs i x lt e so_far put c =
    put (after_all next c (take i xs))
    ∙ ap (λ (t : List ℕ). t ++ spell (after_all next c (take i xs)) x) (so_far c)
    ∙ append_assoc old (spells next spell c (take i xs)) (spell (after_all next c (take i xs)) x)
    ∙ ap (λ (t : List ℕ). old ++ t) (sym (spells_last next spell c (take i xs) x)
    ∙ ap (spells next spell c) (ap (λ y. take i xs ++ y ∷ []) e ∙ sym (take_more xs i x lt)))

pub put_none : {A C : Type 0} (next : C → A → C) (spell : C → A → List ℕ) (old : List ℕ) (c : C) → old ≡ old ++ spells next spell c []
unfolding spells
put_none next spell old c = sym (append-nil old)

pub put_all : {A C : Type 0} (next : C → A → C) (spell : C → A → List ℕ) (old now : List ℕ) (xs : List A) (i : ℕ) → length xs ≤ i
    → ((c : C) → now ≡ old ++ spells next spell c (take i xs)) → (c : C) → now ≡ old ++ spells next spell c xs
put_all next spell old now xs i le so_far c = so_far c ∙ ap (λ t. old ++ spells next spell c t) (take_all i xs le)

-- ---- a form written line by line

pub put_field : {S A : Type 0} (get : S → A) (f : Form A) (more : A → Form S) (s : S) (old now later : List ℕ) → now ≡ old ++ f.spell (get s) → later ≡ now ++ (more (get s)).spell s → later ≡ old ++ (field get f more).spell s
unfolding field
put_field get f more s old now later e h = h ∙ ap (λ (t : List ℕ). t ++ (more (get s)).spell s) e ∙ append_assoc old (f.spell (get s)) ((more (get s)).spell s)

pub put_gap : {S : Type 0} (n : ℕ) (name : Field) (more : Form S) (s : S) (old now later : List ℕ) → now ≡ old ++ replicate n 0 → later ≡ now ++ more.spell s → later ≡ old ++ (gap n name more).spell s
unfolding gap
put_gap n _ more s old now later e h = h ∙ ap (λ (t : List ℕ). t ++ more.spell s) e ∙ append_assoc old (replicate n 0) (more.spell s)

pub put_tag : {S : Type 0} (wanted : List ℕ) (name : Field) (more : Form S) (s : S) (old now later : List ℕ) → now ≡ old ++ wanted → later ≡ now ++ more.spell s → later ≡ old ++ (tag wanted name more).spell s
unfolding tag
put_tag wanted _ more s old now later e h = h ∙ ap (λ (t : List ℕ). t ++ more.spell s) e ∙ append_assoc old wanted (more.spell s)

pub put_done : {S : Type 0} (made s : S) (now : List ℕ) → now ≡ now ++ (done made).spell s
unfolding done
put_done made s now = sym (append-nil now)
