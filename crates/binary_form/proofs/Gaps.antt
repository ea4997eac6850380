-- The laws of forms in which bytes stand that are no value: of bytes that are told, and of zeros.
use Rattle.std.proofs.Common.{◌≡◌, ℕ, zero, suc, ◌+◌, ◌≤◌, true, false, cond, ltb, eqb, List, [], ◌∷◌, ◌++◌, length, take, drop, replicate, Ok, Err, refl, sym, ap, subst, ◌∙◌, append_assoc, arith, inl, inr}
use Rattle.std.specs.List.{list_all}
use Rattle.std.specs.Str.{bytes_eq}
use Rattle.std.proofs.lemmas.Bool.{ltb-false, le-ltb, eqb-true, and_parts}
use Rattle.std.proofs.lemmas.List.{take_at, drop_at, take-append-drop, length-append, length-replicate, length-take}
use Rattle.std.proofs.lemmas.Slice.Eq.{bytes_eq-Decides}
use Rattle.binary_form.specs.declared.fault.Field.{Field}
use Rattle.binary_form.specs.declared.fault.FormFault.{FormFault}
use Rattle.binary_form.specs.declared.fault.FormFault.TheVariants.{Short, Bad}
use Rattle.binary_form.specs.Form.{IsBytes, ◌>>=◌, Form, fault_bytes_left, IsSettled, extended, longer, tag, tag_at, gap, gap_at}
use Rattle.binary_form.proofs.Fields.{chosen_stays}
use Rattle.binary_form.proofs.Leaves.{IsBytes-drop, bind_ok, tests_ok, bind_err, tests_err, Takes-shorter, Takes, Takes-then, Laws, bind_stays, field_stays}

-- ---- bytes that stand there

module _ (wanted : List ℕ) (name : Field) where
  -- they are taken
  tag_takes : (bytes rest : List ℕ) → IsBytes bytes → tag_at wanted name bytes ≡ Ok rest → Takes bytes wanted rest
  unfolding tag_at
  tag_takes bytes rest are e =
      let n = length wanted in
      let tests = tests_ok (ltb (length bytes) n) (bytes_eq (take n bytes) wanted) (Short (length bytes)) (Bad (length bytes) name) (drop n bytes) rest e in
      let (long, same, behind) = tests in
      let front : take n bytes ≡ wanted = (bytes_eq-Decides (take n bytes) wanted).0 same in
      record {
        parts = sym (take-append-drop n bytes) ∙ ap (λ (t : List ℕ). t ++ drop n bytes) front ∙ ap (λ (t : List ℕ). wanted ++ t) behind;
        rest_fits = subst IsBytes behind (IsBytes-drop n bytes are);
      }

  -- .. and read again
  tag_again : (rest : List ℕ) → tag_at wanted name (wanted ++ rest) ≡ Ok rest
  unfolding tag_at
  tag_again rest =
      let long : ltb (length (wanted ++ rest)) (length wanted) ≡ false = le-ltb _ _ (omega (arith, length-append wanted rest)) in
      let same : bytes_eq wanted wanted ≡ true = (bytes_eq-Decides wanted wanted).1 refl in
      rw (long, take_at wanted rest (length wanted) refl, drop_at wanted rest (length wanted) refl, same) refl

  -- where they don't stand there, the fault begins among the bytes
  tag_within : (bytes : List ℕ) (s : FormFault) → tag_at wanted name bytes ≡ Err s → fault_bytes_left s ≤ length bytes
  unfolding tag_at
  tag_within bytes s e =
      let n = length wanted in
      elim (tests_err (ltb (length bytes) n) (bytes_eq (take n bytes) wanted) (Short (length bytes)) (Bad (length bytes) name) (drop n bytes) s e) [
        | inl h ↦ rw (← h) (omega arith)
        | inr h ↦ rw (← h) (omega arith)
      ]

  -- bytes behind change nothing
  tag_stays : (bytes more : List ℕ) → IsSettled (tag_at wanted name bytes) → tag_at wanted name (bytes ++ more) ≡ extended (λ r. r ++ more) (length more) (tag_at wanted name bytes)
  unfolding tag_at
  tag_stays bytes more settled =
      field_stays (λ r. r ++ more) (length wanted) (λ left front rest. cond (bytes_eq front wanted) (Ok rest) (Err (Bad left name))) bytes more
      (λ front rest. chosen_stays (λ r. r ++ more) (length more) (length bytes) (length bytes + length more) name (bytes_eq front wanted) (bytes_eq front wanted) rest refl refl)
      settled

-- a form behind such bytes keeps the laws
pub tag_laws : {S : Type 0} (wanted : List ℕ) (name : Field) (more : Form S) → Laws more → Laws (tag wanted name more)
unfolding tag
tag_laws wanted name more laws = record {
  takes = λ bytes s rest are e.
      let (behind, read, goes_on) = bind_ok (tag_at wanted name bytes) more.read (s, rest) e in
      let front = tag_takes wanted name bytes behind are read in
      let (taken, fits) = laws.takes behind s rest front.rest_fits goes_on in
      (Takes-then bytes wanted behind (more.spell s) rest front taken, fits);
  again = λ s rest fits.
      ap (tag wanted name more).read (append_assoc wanted (more.spell s) rest)
      ∙ ap (λ r. r >>= more.read) (tag_again wanted name (more.spell s ++ rest))
      ∙ laws.again s rest fits;
  within = λ bytes s are e.
      elim (bind_err (tag_at wanted name bytes) more.read s e) [
        | inl h ↦ tag_within wanted name bytes s h
        | inr h ↦
            let (behind, read, fault) = h in
            let front = tag_takes wanted name bytes behind are read in
            omega (arith, Takes-shorter bytes wanted behind front, laws.within behind s front.rest_fits fault)
      ];
  stays = λ bytes behind settled.
      bind_stays (λ r. r ++ behind) (longer behind) (length behind) (tag_at wanted name bytes) (tag_at wanted name (bytes ++ behind)) more.read
      (tag_stays wanted name bytes behind) (λ x. laws.stays x behind) settled;
}

-- ---- zeros

-- bytes of which each is tested to be zero are zeros
pub zeros_are : (xs : List ℕ) → list_all (λ b. eqb b 0) xs ≡ true → xs ≡ replicate (length xs) 0
zeros_are [] e = refl
zeros_are (x ∷ xs) e =
    let (first, others) = and_parts (eqb x 0) (list_all (λ b. eqb b 0) xs) e in
    rw (eqb-true x 0 first) (ap (λ t. 0 ∷ t) (zeros_are xs others))

-- of zeros each is tested to be zero
pub are_zeros : (n : ℕ) → list_all (λ b. eqb b 0) (replicate n 0) ≡ true
are_zeros zero = refl
are_zeros (suc n) = are_zeros n

module _ (n : ℕ) (name : Field) where
  -- they are taken
  pub gap_takes : (bytes rest : List ℕ) → IsBytes bytes → gap_at n name bytes ≡ Ok rest → Takes bytes (replicate n 0) rest
  unfolding gap_at
  gap_takes bytes rest are e =
      let tests = tests_ok (ltb (length bytes) n) (list_all (λ b. eqb b 0) (take n bytes)) (Short (length bytes)) (Bad (length bytes) name) (drop n bytes) rest e in
      let (not_short, zeros, behind) = tests in
      let long : n ≤ length bytes = ltb-false _ _ not_short in
      let len : length (take n bytes) ≡ n = omega (arith, length-take n bytes) in
      let front : take n bytes ≡ replicate n 0 = zeros_are (take n bytes) zeros ∙ ap (λ k. replicate k 0) len in
      record {
        parts = sym (take-append-drop n bytes) ∙ ap (λ (t : List ℕ). t ++ drop n bytes) front ∙ ap (λ (t : List ℕ). replicate n 0 ++ t) behind;
        rest_fits = subst IsBytes behind (IsBytes-drop n bytes are);
      }

  -- .. and read again
  pub gap_again : (rest : List ℕ) → gap_at n name (replicate n 0 ++ rest) ≡ Ok rest
  unfolding gap_at
  gap_again rest =
      let len = length-replicate {A = ℕ} n 0 in
      let long : ltb (length (replicate n 0 ++ rest)) n ≡ false = le-ltb _ _ (omega (arith, length-append (replicate n 0) rest, len)) in
      rw (long, take_at (replicate n 0) rest n len, drop_at (replicate n 0) rest n len, are_zeros n) refl

  -- where they don't stand there, the fault begins among the bytes
  pub gap_within : (bytes : List ℕ) (s : FormFault) → gap_at n name bytes ≡ Err s → fault_bytes_left s ≤ length bytes
  unfolding gap_at
  gap_within bytes s e =
      elim (tests_err (ltb (length bytes) n) (list_all (λ b. eqb b 0) (take n bytes)) (Short (length bytes)) (Bad (length bytes) name) (drop n bytes) s e) [
        | inl h ↦ rw (← h) (omega arith)
        | inr h ↦ rw (← h) (omega arith)
      ]

  -- bytes behind change nothing
  pub gap_stays : (bytes more : List ℕ) → IsSettled (gap_at n name bytes) → gap_at n name (bytes ++ more) ≡ extended (λ r. r ++ more) (length more) (gap_at n name bytes)
  unfolding gap_at
  gap_stays bytes more settled =
      let zeros = λ (front : List ℕ). list_all (λ b. eqb b 0) front in
      field_stays (λ r. r ++ more) n (λ left front rest. cond (list_all (λ b. eqb b 0) front) (Ok rest) (Err (Bad left name))) bytes more
      (λ front rest. chosen_stays (λ r. r ++ more) (length more) (length bytes) (length bytes + length more) name (zeros front) (zeros front) rest refl refl) settled

-- a form behind zeros keeps the laws
pub gap_laws : {S : Type 0} (n : ℕ) (name : Field) (more : Form S) → Laws more → Laws (gap n name more)
unfolding gap
gap_laws n name more laws = record {
  takes = λ bytes s rest are e.
      let (behind, read, goes_on) = bind_ok (gap_at n name bytes) more.read (s, rest) e in
      let front = gap_takes n name bytes behind are read in
      let (taken, fits) = laws.takes behind s rest front.rest_fits goes_on in
      (Takes-then bytes (replicate n 0) behind (more.spell s) rest front taken, fits);
  again = λ s rest fits.
      ap (gap n name more).read (append_assoc (replicate n 0) (more.spell s) rest)
      ∙ ap (λ r. r >>= more.read) (gap_again n name (more.spell s ++ rest))
      ∙ laws.again s rest fits;
  within = λ bytes s are e.
      elim (bind_err (gap_at n name bytes) more.read s e) [
        | inl h ↦ gap_within n name bytes s h
        | inr h ↦
            let (behind, read, fault) = h in
            let front = gap_takes n name bytes behind are read in
            omega (arith, Takes-shorter bytes (replicate n 0) behind front, laws.within behind s front.rest_fits fault)
      ];
  stays = λ bytes behind settled.
      bind_stays (λ r. r ++ behind) (longer behind) (length behind) (gap_at n name bytes) (gap_at n name (bytes ++ behind)) more.read
      (gap_stays n name bytes behind) (λ x. laws.stays x behind) settled;
}
