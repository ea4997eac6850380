-- The laws of forms with nothing more, with a value or none, and of one form or the other.
use Rattle.std.proofs.Common.{◌≡◌, ℕ, Bool, true, false, List, [], ◌++◌, length, replicate, Option, Some, None, Result, Ok, refl, sym, ap, subst, ◌∙◌, inl, inr}
use Rattle.binary_form.specs.declared.fault.Field.{Field}
use Rattle.binary_form.specs.declared.fault.FormFault.{FormFault}
use Rattle.binary_form.specs.Form.{◌>>=◌, Form, longer, gap_at, absent_value, present, spelled_there, fits_there, either, done}
use Rattle.binary_form.proofs.Behind.{read_on, within_on}
use Rattle.binary_form.proofs.Fields.{Knows}
use Rattle.binary_form.proofs.Gaps.{gap_takes, gap_again, gap_within, gap_stays}
use Rattle.binary_form.proofs.Leaves.{bind_ok, bind_err, ok_not_err, ok_is, Takes, Laws, bind_stays}

-- ---- nothing more

-- the form of nothing has the laws
pub done_laws : {S : Type 0} (made : S) → Laws (done made)
unfolding done
done_laws {S} made = record {
  takes = λ bytes s rest are e.
      subst (λ (p : S × List ℕ). Takes bytes [] p.1 × (p.0 ≡ made)) (ok_is (made, bytes) (s, rest) e) (record { parts = refl; rest_fits = are }, refl);
  again = λ s rest fits. ap (λ (t : S). Ok (t, rest)) (sym fits);
  within = λ bytes s are e. absurd (ok_not_err (made, bytes) s e);
  stays = λ bytes more settled. refl;
}

-- ---- a value or none

-- that of no value has them
pub absent_laws : {A : Type 0} (n : ℕ) (name : Field) → Laws (absent_value {A = A} n name)
unfolding absent_value
absent_laws {A} n name = record {
  takes = λ bytes o rest are e.
      let none : Option A = None in
      let (behind, read, made) = bind_ok (gap_at n name bytes) (λ r. Ok (none, r)) (o, rest) e in
      subst (λ (p : Option A × List ℕ). Takes bytes (replicate n 0) p.1 × (p.0 ≡ None)) (ok_is (none, behind) (o, rest) made) (gap_takes n name bytes behind are read, refl);
  again = λ o rest fits.
      let none : Option A = None in
      ap (λ r. r >>= λ x. Ok (none, x)) (gap_again n name rest) ∙ ap (λ (t : Option A). Ok (t, rest)) (sym fits);
  within = λ bytes s are e.
      let none : Option A = None in
      elim (bind_err (gap_at n name bytes) (λ r. Ok (none, r)) s e) [
        | inl h ↦ gap_within n name bytes s h
        | inr h ↦ let (behind, read, fault) = h in absurd (ok_not_err (none, behind) s fault)
      ];
  stays = λ bytes more settled.
      let none : Option A = None in
      bind_stays (λ r. r ++ more) (longer more) (length more) (gap_at n name bytes) (gap_at n name (bytes ++ more)) (λ r. Ok (none, r)) (gap_stays n name bytes more) (λ x h. refl) settled;
}

-- what is read is there
abbrev with_value : {A : Type 0} → A × List ℕ → Result (Option A × List ℕ) FormFault
with_value x = Ok (Some x.0, x.1)

-- a value that is there is read again
present_again : {A : Type 0} (f : Form A) → Laws f → (o : Option A) (rest : List ℕ) → fits_there f o → (f.read (spelled_there f o ++ rest) >>= with_value) ≡ Ok (o, rest)
present_again f laws None rest fits = absurd fits
present_again f laws (Some x) rest fits = ap (λ r. r >>= with_value) (laws.again x rest fits)

-- that of a value that is there keeps them
pub present_laws : {A : Type 0} (f : Form A) → Laws f → Laws (present f)
unfolding present
present_laws {A} f laws = record {
  takes = λ bytes o rest are e.
      let on = read_on f laws with_value bytes (o, rest) are e in
      subst (λ (p : Option A × List ℕ). Takes bytes (spelled_there f p.0) p.1 × fits_there f p.0) (ok_is (Some on.value, on.left) (o, rest) on.goes_on) (on.taken, on.fits);
  again = present_again f laws;
  within = λ bytes s are e. within_on f laws with_value bytes s are (λ value left left_are shorter h. absurd (ok_not_err (Some value, left) s h)) e;
  stays = λ bytes more settled.
      bind_stays (longer more) (longer more) (length more) (f.read bytes) (f.read (bytes ++ more)) with_value (laws.stays bytes more) (λ x h. refl) settled;
}

-- ---- one form or the other

-- that of one form or the other does
pub either_laws : {A : Type 0} (b : Bool) (f g : Form A) → Laws f → Laws g → Laws (either b f g)
unfolding either
either_laws true f g p q = record { takes = p.takes; again = p.again; within = p.within; stays = p.stays }
either_laws false f g p q = record { takes = q.takes; again = q.again; within = q.within; stays = q.stays }

-- what each knows both know
pub knows_either : {S A : Type 0} (get : S → A) (x : A) (b : Bool) (f g : Form S) → Knows get x f → Knows get x g → Knows get x (either b f g)
unfolding either
knows_either get x true f g p q = record { is = p.is }
knows_either get x false f g p q = record { is = q.is }
