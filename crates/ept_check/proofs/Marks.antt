-- Marks beside numbers that rise, and entering a table.
use Rattle.std.proofs.Common.{◌≡◌, ◌≢◌, ℕ, zero, suc, ◌+◌, ◌<◌, ◌==◌, Bool, true, false, cond, List, [], ◌∷◌, length, replicate, Option, Some, None, MatchOption, refl, sym, ap, ◌∙◌, arith, get_or-set_same}
use Rattle.std.specs.Prelude.{◌&&◌, ◌||◌, is_some, not, slice_index, slice_index_or, slice_set}
use Rattle.std.specs.List.{count_by}
use Rattle.std.proofs.Math.Bool.{or-true, and-false}
use Rattle.std.proofs.lemmas.Bool.{eq-eqb, ne_eqb}
use Rattle.std.proofs.lemmas.List.Sums.{sum_by-set}
use Rattle.ept_check.specs.Looked.{IsNow, is_entered, is_number_marked}
use Rattle.muen_num.specs.Numbers.{is_among}
use Rattle.ept_check.specs.declared.looked.Looked.{Looked}
use Rattle.phys_mem.specs.Frames.{IsFirst, IsRising, NoneBelow}

or_no : (b : Bool) → ((b && false) || false) ≡ false
or_no true = refl
or_no false = refl

none_has : (ns : List ℕ) (t : ℕ) → NoneBelow ns t (length ns) → is_among ns t ≡ false
none_has [] t h = refl
none_has (n ∷ ns) t h = let other = ne_eqb n t (h 0 (omega arith)) in rw other (none_has ns t (λ j l. h (suc j) (omega (arith, l))))

some_has : (ns : List ℕ) (t i : ℕ) → i < length ns → slice_index ns i ≡ t → is_among ns t ≡ true
some_has [] t i l h = absurd (omega (arith, l))
some_has (n ∷ ns) t zero l h = let same = eq-eqb n t h in rw same refl
some_has (n ∷ ns) t (suc i) l h = let rest = some_has ns t i (omega (arith, l)) h in rw rest (or-true (n == t))

mark_set : (ns : List ℕ) (bs : List Bool) (t i : ℕ) → length bs ≡ length ns → i < length ns → slice_index ns i ≡ t → slice_index_or bs i false ≡ true → is_number_marked ns bs t ≡ true
mark_set [] bs t i e l h b = absurd (omega (arith, l))
mark_set (n ∷ ns) [] t i e l h b = absurd (omega (arith, e))
mark_set (n ∷ ns) (x ∷ bs) t zero e l h b = let same = eq-eqb n t h in rw (same, b) refl
mark_set (n ∷ ns) (x ∷ bs) t (suc i) e l h b = let rest = mark_set ns bs t i (omega (arith, e)) (omega (arith, l)) h b in rw rest (or-true ((n == t) && x))

rest_rises : (n : ℕ) (ns : List ℕ) → IsRising (n ∷ ns) → IsRising ns
rest_rises n ns r = λ i j a b. r (suc i) (suc j) (omega (arith, a)) (omega (arith, b))

nowhere : (ns : List ℕ) (bs : List Bool) (t : ℕ) → ((j : ℕ) → j < length ns → slice_index ns j ≢ t) → is_number_marked ns bs t ≡ false
nowhere [] bs t h = refl
nowhere (n ∷ ns) [] t h = refl
nowhere (n ∷ ns) (x ∷ bs) t h = let other = ne_eqb n t (h 0 (omega arith)) in rw other (nowhere ns bs t (λ j l. h (suc j) (omega (arith, l))))

mark_clear : (ns : List ℕ) (bs : List Bool) (t i : ℕ) → IsRising ns → length bs ≡ length ns → i < length ns → slice_index ns i ≡ t → slice_index_or bs i false ≡ false → is_number_marked ns bs t ≡ false
mark_clear [] bs t i r e l h b = absurd (omega (arith, l))
mark_clear (n ∷ ns) [] t i r e l h b = absurd (omega (arith, e))
mark_clear (n ∷ ns) (x ∷ bs) t zero r e l h b =
    let rest : is_number_marked ns bs t ≡ false = nowhere ns bs t (λ j a same. let up = r 0 (suc j) (omega arith) (omega (arith, a)) in omega (arith, up, same, h)) in
    rw (b, rest) (or_no (n == t))
mark_clear (n ∷ ns) (x ∷ bs) t (suc i) r e l h b =
    let up = r 0 (suc i) (omega arith) l in
    let other = ne_eqb n t (λ same. omega (arith, up, h, same)) in
    rw other (mark_clear ns bs t i (rest_rises n ns r) (omega (arith, e)) (omega (arith, l)) h b)

mark_others : (ns : List ℕ) (bs : List Bool) (t i u : ℕ) → slice_index ns i ≡ t → i < length ns → length bs ≡ length ns → u ≢ t → is_number_marked ns (slice_set bs i true) u ≡ is_number_marked ns bs u
mark_others [] bs t i u h l e ne = refl
mark_others (n ∷ ns) [] t i u h l e ne = absurd (omega (arith, e))
mark_others (n ∷ ns) (x ∷ bs) t zero u h l e ne = let other = ne_eqb n u (λ same. ne (sym same ∙ h)) in rw other refl
mark_others (n ∷ ns) (x ∷ bs) t (suc i) u h l e ne = ap (λ c. ((n == u) && x) || c) (mark_others ns bs t i u h (omega (arith, l)) (omega (arith, e)) ne)

pub none_marked : (ns : List ℕ) (n t : ℕ) → is_number_marked ns (replicate n false) t ≡ false
none_marked [] n t = refl
none_marked (x ∷ ns) zero t = refl
none_marked (x ∷ ns) (suc n) t = rw (and-false (x == t)) (none_marked ns n t)

-- ---- entering

one_less : (marks : List Bool) (k : ℕ) → k < length marks → slice_index_or marks k false ≡ false → count_by not (slice_set marks k true) + 1 ≡ count_by not marks
one_less marks k l h =
    let free : cond {A = ℕ} (not (slice_index_or marks k false)) 1 0 ≡ 1 = ap (λ x. cond {A = ℕ} (not x) 1 0) h in
    let both : count_by not (slice_set marks k true) + cond {A = ℕ} (not (slice_index_or marks k false)) 1 0 ≡ count_by not marks + 0 = sum_by-set (λ x. cond {A = ℕ} (not x) 1 0) marks k true false l in
    omega (arith, free, both)

pub is_none : (ns : List ℕ) (t : ℕ) → NoneBelow ns t (length ns) → is_among ns t ≡ false
is_none ns t h = none_has ns t h

module _ (ns : List ℕ) (rising : IsRising ns) (old : Looked) (long : length old.entered.items ≡ length ns) (t i : ℕ) (h : IsFirst ns t i) where
  pub again : slice_index_or old.entered.items i false ≡ true → is_entered ns old t ≡ true
  again b = mark_set ns old.entered.items t i long h.within h.here b

  -- with the mark set
  pub now : (new : Looked) → slice_index_or old.entered.items i false ≡ false → new.entered.items ≡ slice_set old.entered.items i true → length new.entered.items ≡ length ns → IsNow ns old new t
  now new b fs far =
      let both = λ (u : ℕ). ap (λ bs. is_number_marked ns bs u) fs in
      record {
        is = some_has ns t i h.within h.here;
        before = mark_clear ns old.entered.items t i rising long h.within h.here b;
        after = mark_set ns new.entered.items t i far h.within h.here (ap (λ bs. slice_index_or bs i false) fs ∙ get_or-set_same old.entered.items i true false (omega (arith, long, h.within)));
        others = λ u ne. both u ∙ mark_others ns old.entered.items t i u h.here h.within long ne;
        one = ap (λ bs. count_by not bs + 1) fs ∙ one_less old.entered.items i (omega (arith, long, h.within)) b;
      }

-- an element that is read
pub value_is : (bs : List Bool) (i : ℕ) (x b : Bool) → i < length bs → x ≡ slice_index_or bs i x → x ≡ b → slice_index_or bs i false ≡ b
value_is [] i x b l h e = absurd (omega (arith, l))
value_is (y ∷ ys) zero x b l h e = sym h ∙ e
value_is (y ∷ ys) (suc i) x b l h e = value_is ys i x b (omega (arith, l)) h e

pub among_by : (ns : List ℕ) (t : ℕ) (r : Option ℕ) → MatchOption r (NoneBelow ns t (length ns)) (IsFirst ns t) → is_some r ≡ is_among ns t
among_by ns t None h = sym (is_none ns t h)
among_by ns t (Some i) h = sym (some_has ns t i h.within h.here)
