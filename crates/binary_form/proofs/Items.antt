-- The laws of forms of many items: so many, each by what the ones before it left, and one for each of a list.
use Rattle.std.proofs.Common.{◌≡◌, ℕ, zero, suc, ◌≤◌, List, [], ◌∷◌, ◌++◌, length, Result, Ok, Err, refl, ap, subst, ◌∙◌, append_assoc, arith, inl, inr}
use Rattle.binary_form.specs.declared.fault.FormFault.{FormFault}
use Rattle.binary_form.specs.Form.{IsBytes, ◌>>=◌, Form, fault_bytes_left, IsSettled, extended, longer, field, items, items_at, spells, all_fit, each, each_at, each_spelled, each_fit}
use Rattle.binary_form.proofs.Behind.{read_on, within_on}
use Rattle.binary_form.proofs.Fields.{Knows, knows_within}
use Rattle.binary_form.proofs.Leaves.{bind_ok, bind_err, ok_not_err, ok_is, Takes, Takes-then, Laws, bind_stays}

-- the items behind the first are read, and the first is put before them
abbrev with_first : {A : Type 0} → A → List A × List ℕ → Result (List A × List ℕ) FormFault
with_first x xs = Ok (x ∷ xs.0, xs.1)

-- ---- so many items

module _ {A C : Type 0} (next : C → A → C) (form : C → Form A) (laws : (c : C) → Laws (form c)) where
  -- how they are read
  abbrev read_items : C → ℕ → List ℕ → Result (List A × List ℕ) FormFault
  read_items = items_at next (λ d. (form d).read)

  -- .. behind the first
  abbrev read_others : C → ℕ → A × List ℕ → Result (List A × List ℕ) FormFault
  read_others c n x = read_items (next c x.0) n x.1 >>= λ ys. Ok (x.0 ∷ ys.0, ys.1)

  -- how they are spelled
  abbrev spell_items : C → List A → List ℕ
  spell_items = spells next (λ d. (form d).spell)

  -- and which are
  abbrev Fit : C → List A → Type 0
  Fit = all_fit next (λ d. (form d).fits)

  -- they are taken one after another
  items_take : (c : C) (n : ℕ) (bytes : List ℕ) (xs : List A) (rest : List ℕ) → IsBytes bytes → read_items c n bytes ≡ Ok (xs, rest)
      → Takes bytes (spell_items c xs) rest × ((length xs ≡ n) × Fit c xs)
  unfolding items_at spells all_fit
  items_take c zero bytes xs rest are e =
      subst (λ (p : List A × List ℕ). Takes bytes (spell_items c p.0) p.1 × ((length p.0 ≡ 0) × Fit c p.0)) (ok_is ([], bytes) (xs, rest) e)
      (record { parts = refl; rest_fits = are }, (refl, tt))
  items_take c (suc n) bytes xs rest are e =
      let on = read_on (form c) (laws c) (read_others c n) bytes (xs, rest) are e in
      let (others, read, made) = bind_ok (read_items (next c on.value) n on.left) (with_first on.value) (xs, rest) on.goes_on in
      let (ys, left) = others in
      let (taken, counted) = items_take (next c on.value) n on.left ys left on.taken.rest_fits read in
      let (many, fit) = counted in
      subst (λ (p : List A × List ℕ). Takes bytes (spell_items c p.0) p.1 × ((length p.0 ≡ suc n) × Fit c p.0)) {x = (on.value ∷ ys, left)}
      (ok_is (on.value ∷ ys, left) (xs, rest) made)
      (Takes-then bytes ((form c).spell on.value) on.left (spell_items (next c on.value) ys) left on.taken taken, (ap suc many, (on.fits, fit)))

  -- .. and read again
  items_again : (c : C) (xs : List A) (rest : List ℕ) → Fit c xs → read_items c (length xs) (spell_items c xs ++ rest) ≡ Ok (xs, rest)
  unfolding items_at spells all_fit
  items_again c [] rest fits = refl
  items_again c (x ∷ xs) rest fits =
      let others = spell_items (next c x) xs in
      ap (λ t. (form c).read t >>= read_others c (length xs)) (append_assoc ((form c).spell x) others rest)
      ∙ ap (λ r. r >>= read_others c (length xs)) ((laws c).again x (others ++ rest) fits.0)
      ∙ ap (λ (r : Result (List A × List ℕ) FormFault). r >>= with_first x) (items_again (next c x) xs rest fits.1)

  -- a fault begins among the bytes
  items_within : (c : C) (n : ℕ) (bytes : List ℕ) (s : FormFault) → IsBytes bytes → read_items c n bytes ≡ Err s → fault_bytes_left s ≤ length bytes
  unfolding items_at
  items_within c zero bytes s are e = let none : List A = [] in absurd (ok_not_err (none, bytes) s e)
  items_within c (suc n) bytes s are e =
      within_on (form c) (laws c) (read_others c n) bytes s are
      (λ value left left_are shorter h. elim (bind_err (read_items (next c value) n left) (with_first value) s h) [
        | inl k ↦ omega (arith, shorter, items_within (next c value) n left s left_are k)
        | inr k ↦ let (others, read, made) = k in absurd (ok_not_err (value ∷ others.0, others.1) s made)
      ]) e

  -- bytes behind change nothing
  items_stay : (c : C) (n : ℕ) (bytes more : List ℕ) → IsSettled (read_items c n bytes) → read_items c n (bytes ++ more) ≡ extended (longer more) (length more) (read_items c n bytes)
  unfolding items_at
  items_stay c zero bytes more settled = refl
  items_stay c (suc n) bytes more settled =
      bind_stays (longer more) (longer more) (length more) ((form c).read bytes) ((form c).read (bytes ++ more)) (read_others c n) ((laws c).stays bytes more)
      (λ x. bind_stays (longer more) (longer more) (length more) (read_items (next c x.0) n x.1) (read_items (next c x.0) n (x.1 ++ more)) (with_first x.0)
      (items_stay (next c x.0) n x.1 more) (λ ys s. refl))
      settled

-- the form of so many items keeps the laws
pub items_laws : {A C : Type 0} (next : C → A → C) (form : C → Form A) (c : C) (n : ℕ) → ((d : C) → Laws (form d)) → Laws (items next form c n)
unfolding items
items_laws next form c n laws = record {
  takes = items_take next form laws c n;
  within = items_within next form laws c n;
  stays = items_stay next form laws c n;
  again = λ xs rest fits.
      subst (λ k. items_at next (λ d. (form d).read) c k (spells next (λ d. (form d).spell) c xs ++ rest) ≡ Ok (xs, rest)) fits.0
      (items_again next form laws c xs rest fits.1);
}

-- there are so many
pub knows_items : {A C : Type 0} (next : C → A → C) (form : C → Form A) (c : C) (n : ℕ) → Knows length n (items next form c n)
unfolding items
knows_items next form c n = record { is = λ xs h. h.0 }

-- a count that stands before is how many items there are
pub knows_count : {S A C : Type 0} (get : S → List A) (next : C → A → C) (form : C → Form A) (c : C) (n : ℕ) (more : List A → Form S)
    → Knows (λ s. length (get s)) n (field get (items next form c n) more)
knows_count get next form c n more = knows_within length n get (items next form c n) more (knows_items next form c n)

-- ---- one for each

module _ {R A : Type 0} (form : R → Form A) (laws : (r : R) → Laws (form r)) where
  -- how they are read
  abbrev read_each : List R → List ℕ → Result (List A × List ℕ) FormFault
  read_each = each_at (λ r. (form r).read)

  -- .. behind the first
  abbrev read_rest : List R → A × List ℕ → Result (List A × List ℕ) FormFault
  read_rest rs x = read_each rs x.1 >>= λ ys. Ok (x.0 ∷ ys.0, ys.1)

  -- how they are spelled
  abbrev spell_each : List R → List A → List ℕ
  spell_each = each_spelled (λ r. (form r).spell)

  -- and which are
  abbrev EachFits : List R → List A → Type 0
  EachFits = each_fit (λ r. (form r).fits)

  -- they are taken one after another
  each_take : (rs : List R) (bytes : List ℕ) (xs : List A) (rest : List ℕ) → IsBytes bytes → read_each rs bytes ≡ Ok (xs, rest) → Takes bytes (spell_each rs xs) rest × EachFits rs xs
  unfolding each_at each_spelled each_fit
  each_take [] bytes xs rest are e =
      let none : List A = [] in
      subst (λ (p : List A × List ℕ). Takes bytes (spell_each [] p.0) p.1 × EachFits [] p.0) (ok_is (none, bytes) (xs, rest) e) (record { parts = refl; rest_fits = are }, tt)
  each_take (r ∷ rs) bytes xs rest are e =
      let on = read_on (form r) (laws r) (read_rest rs) bytes (xs, rest) are e in
      let (others, read, made) = bind_ok (read_each rs on.left) (with_first on.value) (xs, rest) on.goes_on in
      let (ys, left) = others in
      let (taken, fit) = each_take rs on.left ys left on.taken.rest_fits read in
      subst (λ (p : List A × List ℕ). Takes bytes (spell_each (r ∷ rs) p.0) p.1 × EachFits (r ∷ rs) p.0) {x = (on.value ∷ ys, left)} (ok_is (on.value ∷ ys, left) (xs, rest) made)
      (Takes-then bytes ((form r).spell on.value) on.left (spell_each rs ys) left on.taken taken, (on.fits, fit))

  -- .. and read again
  each_again : (rs : List R) (xs : List A) (rest : List ℕ) → EachFits rs xs → read_each rs (spell_each rs xs ++ rest) ≡ Ok (xs, rest)
  unfolding each_at each_spelled each_fit
  each_again [] [] rest fits = refl
  each_again [] (x ∷ xs) rest fits = absurd fits
  each_again (r ∷ rs) [] rest fits = absurd fits
  each_again (r ∷ rs) (x ∷ xs) rest fits =
      let others = spell_each rs xs in
      ap (λ t. (form r).read t >>= read_rest rs) (append_assoc ((form r).spell x) others rest)
      ∙ ap (λ q. q >>= read_rest rs) ((laws r).again x (others ++ rest) fits.0)
      ∙ ap (λ (q : Result (List A × List ℕ) FormFault). q >>= with_first x) (each_again rs xs rest fits.1)

  -- a fault begins among the bytes
  each_within : (rs : List R) (bytes : List ℕ) (s : FormFault) → IsBytes bytes → read_each rs bytes ≡ Err s → fault_bytes_left s ≤ length bytes
  unfolding each_at
  each_within [] bytes s are e = let none : List A = [] in absurd (ok_not_err (none, bytes) s e)
  each_within (r ∷ rs) bytes s are e =
      within_on (form r) (laws r) (read_rest rs) bytes s are
      (λ value left left_are shorter h. elim (bind_err (read_each rs left) (with_first value) s h) [
        | inl k ↦ omega (arith, shorter, each_within rs left s left_are k)
        | inr k ↦ let (others, read, made) = k in absurd (ok_not_err (value ∷ others.0, others.1) s made)
      ]) e

  -- bytes behind change nothing
  each_stay : (rs : List R) (bytes more : List ℕ) → IsSettled (read_each rs bytes) → read_each rs (bytes ++ more) ≡ extended (longer more) (length more) (read_each rs bytes)
  unfolding each_at
  each_stay [] bytes more settled = refl
  each_stay (r ∷ rs) bytes more settled =
      bind_stays (longer more) (longer more) (length more) ((form r).read bytes) ((form r).read (bytes ++ more)) (read_rest rs) ((laws r).stays bytes more)
      (λ x. bind_stays (longer more) (longer more) (length more) (read_each rs x.1) (read_each rs (x.1 ++ more)) (with_first x.0) (each_stay rs x.1 more) (λ ys s. refl))
      settled

-- that of one for each does
pub each_laws : {R A : Type 0} (form : R → Form A) (rs : List R) → ((r : R) → Laws (form r)) → Laws (each form rs)
unfolding each
each_laws form rs laws = record {
  takes = each_take form laws rs;
  again = each_again form laws rs;
  within = each_within form laws rs;
  stays = each_stay form laws rs;
}
