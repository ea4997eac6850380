-- Reading items one after the other, as a loop does.
use Rattle.std.proofs.Common.{◌≡◌, ℕ, suc, ◌-◌, ◌+◌, ◌≤◌, ◌<◌, List, [], ◌∷◌, ◌++◌, Result, Ok, Err, refl, sym, ap, ◌∙◌, append_assoc, length, drop, get_or, drop-cons, add-one, arith}
use Rattle.std.proofs.lemmas.List.{append-nil, drop_all}
use Rattle.muen_num.proofs.Lists.{drop_more}
use Rattle.binary_form.specs.declared.fault.FormFault.{FormFault}
use Rattle.binary_form.specs.declared.fault.FormError.{FormError}
use Rattle.binary_form.specs.declared.fault.FormError.TheVariants.{NoMemory, At}
use Rattle.binary_form.specs.Form.{◌>>=◌, Fails, items_at, each_at, each_spelled, each_fit}

-- what was read before, and what is still read
abbrev pub with_front : {A : Type 0} → List A → Result (List A × List ℕ) FormFault → Result (List A × List ℕ) FormFault
with_front front read = read >>= λ x. Ok (front ++ x.0, x.1)

pub regroup : {A : Type 0} (front : List A) (x : A) (read : Result (List A × List ℕ) FormFault) → with_front front (read >>= λ y. Ok (x ∷ y.0, y.1)) ≡ with_front (front ++ x ∷ []) read
regroup {A} front x (Ok y) = ap (λ (ys : List A). Ok (ys, y.1)) (simp append_assoc)
regroup front x (Err f) = refl

pub starts : {A : Type 0} (read : Result (List A × List ℕ) FormFault) → with_front [] read ≡ read
starts (Ok y) = refl
starts (Err f) = refl

pub goes_on : {A C : Type 0} (next : C → A → C) (read : C → List ℕ → Result (A × List ℕ) FormFault) (front : List A) (c d : C) (count i : ℕ) (bytes : List ℕ) (x : A) (after : List ℕ) (total : Result (List A × List ℕ) FormFault)
    → i < count → read c bytes ≡ Ok (x, after) → d ≡ next c x
    → with_front front (items_at next read c (count - i) bytes) ≡ total → with_front (front ++ x ∷ []) (items_at next read d (count - (i + 1)) after) ≡ total
unfolding items_at
goes_on next read front c d count i bytes x after total lt h e so_far =
    let k : count - i ≡ suc (count - (i + 1)) = omega arith in
    let one : with_front front (items_at next read c (count - i) bytes) ≡ with_front (front ++ x ∷ []) (items_at next read (next c x) (count - (i + 1)) after) = rw (k, h) (regroup front x (items_at next read (next c x) (count - (i + 1)) after)) in
    rw e (sym one ∙ so_far)

pub ends : {A C : Type 0} (next : C → A → C) (read : C → List ℕ → Result (A × List ℕ) FormFault) (e : FormError) (front : List A) (c : C) (count i : ℕ) (bytes : List ℕ) (total : Result (List A × List ℕ) FormFault)
    → i < count → Fails e (read c bytes) → with_front front (items_at next read c (count - i) bytes) ≡ total → Fails e total
unfolding items_at
ends next read NoMemory front c count i bytes total lt h so_far = tt
ends next read (At f) front c count i bytes total lt h so_far =
    let k : count - i ≡ suc (count - (i + 1)) = omega arith in
    let one : with_front front (items_at next read c (count - i) bytes) ≡ Err f = rw (k, h) refl in
    sym so_far ∙ one

pub is_done : {A C : Type 0} (next : C → A → C) (read : C → List ℕ → Result (A × List ℕ) FormFault) (front : List A) (c : C) (count i : ℕ) (bytes : List ℕ) (total : Result (List A × List ℕ) FormFault)
    → count ≤ i → with_front front (items_at next read c (count - i) bytes) ≡ total → total ≡ Ok (front, bytes)
unfolding items_at
is_done {A} next read front c count i bytes total le so_far =
    let k : count - i ≡ 0 = omega arith in
    let one : with_front front (items_at next read c (count - i) bytes) ≡ Ok (front, bytes) = rw k (ap (λ (ns : List A). Ok (ns, bytes)) (append-nil front)) in
    sym so_far ∙ one

-- ---- one for each of a list

pub each_goes_on : {R A : Type 0} (read : R → List ℕ → Result (A × List ℕ) FormFault) (front : List A) (rs : List R) (i : ℕ) (r : R) (bytes : List ℕ) (x : A) (after : List ℕ) (total : Result (List A × List ℕ) FormFault)
    → i < length rs → r ≡ get_or rs i r → read r bytes ≡ Ok (x, after)
    → with_front front (each_at read (drop i rs) bytes) ≡ total → with_front (front ++ x ∷ []) (each_at read (drop (i + 1) rs) after) ≡ total
unfolding each_at
each_goes_on read front rs i r bytes x after total lt is h so_far =
    let one : with_front front (each_at read (drop i rs) bytes) ≡ with_front (front ++ x ∷ []) (each_at read (drop (i + 1) rs) after) = rw (drop_more rs i r lt is, h) (regroup front x (each_at read (drop (i + 1) rs) after)) in
    sym one ∙ so_far

pub each_ends : {R A : Type 0} (read : R → List ℕ → Result (A × List ℕ) FormFault) (e : FormError) (front : List A) (rs : List R) (i : ℕ) (r : R) (bytes : List ℕ) (total : Result (List A × List ℕ) FormFault)
    → i < length rs → r ≡ get_or rs i r → Fails e (read r bytes) → with_front front (each_at read (drop i rs) bytes) ≡ total → Fails e total
unfolding each_at
each_ends read NoMemory front rs i r bytes total lt is h so_far = tt
each_ends read (At f) front rs i r bytes total lt is h so_far =
    let one : with_front front (each_at read (drop i rs) bytes) ≡ Err f = rw (drop_more rs i r lt is, h) refl in
    sym so_far ∙ one

pub each_done : {R A : Type 0} (read : R → List ℕ → Result (A × List ℕ) FormFault) (front : List A) (rs : List R) (i : ℕ) (bytes : List ℕ) (total : Result (List A × List ℕ) FormFault)
    → length rs ≤ i → with_front front (each_at read (drop i rs) bytes) ≡ total → total ≡ Ok (front, bytes)
unfolding each_at
each_done {A = A} read front rs i bytes total le so_far =
    let one : with_front front (each_at read (drop i rs) bytes) ≡ Ok (front, bytes) = rw (drop_all i rs le) (ap (λ (ns : List A). Ok (ns, bytes)) (append-nil front)) in
    sym so_far ∙ one

pub each_length : {R A : Type 0} (fits : R → A → Type 0) (rs : List R) (xs : List A) → each_fit fits rs xs → length rs ≡ length xs
unfolding each_fit
each_length fits [] [] h = refl
each_length fits [] (x ∷ xs) h = absurd h
each_length fits (r ∷ rs) [] h = absurd h
each_length fits (r ∷ rs) (x ∷ xs) h = ap suc (each_length fits rs xs h.1)

pub each_put : {R A : Type 0} (spell : R → A → List ℕ) (rs : List R) (xs : List A) (i : ℕ) (x : A) (now later total : List ℕ)
    → length rs ≡ length xs → i < length xs → x ≡ get_or xs i x → ((r : R) → later ≡ now ++ spell r x)
    → now ++ each_spelled spell (drop i rs) (drop i xs) ≡ total → later ++ each_spelled spell (drop (i + 1) rs) (drop (i + 1) xs) ≡ total
unfolding each_spelled
each_put spell [] xs i x now later total len lt is put so_far = absurd (omega arith)
each_put spell (q ∷ qs) xs i x now later total len lt is put so_far =
    let rs = q ∷ qs in
    let r = get_or rs i q in
    let there : i < length rs = omega arith in
    let r-is : drop i rs ≡ r ∷ drop (i + 1) rs = drop-cons rs i q there ∙ rw add-one refl in
    let one : each_spelled spell (drop i rs) (drop i xs) ≡ spell r x ++ each_spelled spell (drop (i + 1) rs) (drop (i + 1) xs) = rw (r-is, drop_more xs i x lt is) refl in
    ap (λ (t : List ℕ). t ++ each_spelled spell (drop (i + 1) rs) (drop (i + 1) xs)) (put r)
    ∙ append_assoc now (spell r x) (each_spelled spell (drop (i + 1) rs) (drop (i + 1) xs))
    ∙ ap (λ (t : List ℕ). now ++ t) (sym one) ∙ so_far

pub each_put_all : {R A : Type 0} (spell : R → A → List ℕ) (rs : List R) (xs : List A) (i : ℕ) (now total : List ℕ) → length rs ≡ length xs → length xs ≤ i
    → now ++ each_spelled spell (drop i rs) (drop i xs) ≡ total → now ≡ total
unfolding each_spelled
each_put_all spell rs xs i now total len le so_far =
    let one : each_spelled spell (drop i rs) (drop i xs) ≡ [] = rw (drop_all i rs (omega arith)) refl in
    sym (append-nil now) ∙ ap (λ (t : List ℕ). now ++ t) (sym one) ∙ so_far
