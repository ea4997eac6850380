-- What fits a form is spelled in bytes, and in no more of them than the form has.
use Rattle.std.proofs.Common.{◌≡◌, ℕ, zero, suc, ◌+◌, ◌-◌, ◌*◌, ◌<◌, ◌≤◌, Bool, true, false, List, [], ◌∷◌, ◌++◌, length, replicate, Option, Some, None, subst, mul-le-mul_right, suc-mul, arith, nat_lt}
use Rattle.std.specs.Prelude.{IsTrue}
use Rattle.std.specs.Int.{Width, byte_len, bytes_low_first, byte_at as digit_at}
use Rattle.std.specs.List.{list_all, sum_by}
use Rattle.std.proofs.lemmas.Bool.{ltb-true, and_parts}
use Rattle.std.proofs.lemmas.Grind.{common_steps}
use Rattle.std.proofs.lemmas.List.{length-append, length-replicate}
use Rattle.std.proofs.lemmas.List.Sums.{sum_by-cons}
use Rattle.muen_num.proofs.Numbers.{byte_low}
use Rattle.muen_num.specs.Naming.{is_name, is_name_byte, name_room}
use Rattle.binary_form.specs.declared.fault.Field.{Field}
use Rattle.binary_form.specs.declared.fault.Field.TheVariants as at
use Rattle.binary_form.specs.Form.{IsBytes, Form, number, byte, fixed_bytes, coded, only, field, gap, done, absent_value, present, spelled_there, fits_there, either, items, spells, all_fit, each, each_spelled, each_fit}
use Rattle.binary_form.specs.Name.{name, name_in, name_bytes}
use Rattle.binary_form.proofs.Leaves.{IsCode, IsWide}
use Rattle.binary_form.proofs.NameLaws.{name_code, name_kept, name_short}

-- ---- bytes

pub no_bytes : IsBytes []
no_bytes i = omega arith

pub one_more : (b : ℕ) (bytes : List ℕ) → b < 256 → IsBytes bytes → IsBytes (b ∷ bytes)
one_more b bytes low h zero = low
one_more b bytes low h (suc i) = h i

pub both_bytes : (a b : List ℕ) → IsBytes a → IsBytes b → IsBytes (a ++ b)
both_bytes [] b h g = g
both_bytes (x ∷ a) b h g = one_more x (a ++ b) (h 0) (both_bytes a b (λ i. h (suc i)) g)

pub zeros : (n : ℕ) → IsBytes (replicate n 0)
zeros zero = no_bytes
zeros (suc n) = one_more 0 (replicate n 0) (omega arith) (zeros n)

-- bytes that are written out
pub each_low : (bytes : List ℕ) → list_all (λ b. nat_lt b 256) bytes ≡ true → IsBytes bytes
each_low [] h = no_bytes
each_low (b ∷ bytes) h =
    let p = and_parts (nat_lt b 256) (list_all (λ b. nat_lt b 256) bytes) h in
    one_more b bytes (ltb-true b 256 p.0) (each_low bytes p.1)

digits_low : (i k n : ℕ) → IsBytes (bytes_low_first i k n)
digits_low i zero n = no_bytes
digits_low i (suc k) n = one_more (digit_at i n) (bytes_low_first (suc i) k n) (byte_low i n) (digits_low (suc i) k n)

letter_low : (c : ℕ) → is_name_byte c ≡ true → c < 256
letter_low c h = grind (arith, common_steps)

letters_low : (text : List ℕ) → list_all is_name_byte text ≡ true → IsBytes text
letters_low [] h = no_bytes
letters_low (c ∷ text) h =
    let p = and_parts (is_name_byte c) (list_all is_name_byte text) h in
    one_more c text (letter_low c p.0) (letters_low text p.1)

name_in_bytes : (text : List ℕ) → is_name text ≡ true → IsBytes (name_bytes text)
unfolding is_name name_room
name_in_bytes text h =
    let few : length text ≤ 63 = name_short text h in
    let letters = and_parts _ (list_all is_name_byte text) h in
    let behind : List ℕ = replicate (63 - length text) 0 in
    one_more (length text) (text ++ behind) (omega (arith, few)) (both_bytes text behind (letters_low text letters.1) (zeros (63 - length text)))

-- ---- the size of a form

-- what fits is spelled in bytes, in no more than so many
pub record IsSized {A : Type 0} (most : ℕ) (f : Form A) : Type 0 where
  pub bytes : (x : A) → f.fits x → IsBytes (f.spell x)
  pub few : (x : A) → f.fits x → length (f.spell x) ≤ most

pub wider : {A : Type 0} (n m : ℕ) (f : Form A) → n ≤ m → IsSized n f → IsSized m f
wider n m f le s = record { bytes = s.bytes; few = λ x fits. let few = s.few x fits in omega (arith, le, few) }

-- no more rows than there may be
pub rows : {A : Type 0} (n k m : ℕ) (f : Form A) → n ≤ k → IsSized (n * m) f → IsSized (k * m) f
rows n k m f le s = wider (n * m) (k * m) f (mul-le-mul_right m le) s

-- ---- fields

pub number_sized : (w : Width) → IsWide w → IsSized (byte_len w) (number w)
unfolding number
number_sized w wide = record { bytes = λ n fits. digits_low 0 (byte_len w) n; few = λ n fits. let len = wide.len n in omega (arith, len) }

pub byte_sized : IsSized 1 byte
unfolding byte
byte_sized = record { bytes = λ b fits. one_more b [] fits no_bytes; few = λ b fits. omega arith }

pub bytes_sized : (n : ℕ) → IsSized n (fixed_bytes n)
unfolding fixed_bytes
bytes_sized n = record { bytes = λ t fits. fits.1; few = λ t fits. let len = fits.0 in omega (arith, len) }

pub coded_sized : {A : Type 0} (n : ℕ) (decode : List ℕ → Option A) (encode : A → List ℕ) (title : Field) → IsCode n decode encode → ((x : A) → decode (encode x) ≡ Some x → IsBytes (encode x)) → IsSized n (coded n decode encode title)
unfolding coded
coded_sized n decode encode _ code low = record { bytes = low; few = λ x fits. let size = code.size x fits in omega (arith, size) }

pub name_sized : IsSized 64 name
unfolding name coded
name_sized = coded_sized 64 name_in name_bytes at.Name name_code (λ text fits. name_in_bytes text (name_kept text fits))

-- ---- forms of forms

-- the condition of a field that fits
pub condition : {A : Type 0} (test : A → Bool) (title : Field) (f : Form A) (x : A) → (only test title f).fits x → IsTrue (test x)
unfolding only
condition test _ f x fits = fits.1

pub only_sized : {A : Type 0} (most : ℕ) (test : A → Bool) (title : Field) (f : Form A) → IsSized most f → IsSized most (only test title f)
unfolding only
only_sized most test _ f s = record { bytes = λ x fits. s.bytes x fits.0; few = λ x fits. s.few x fits.0 }

pub field_sized : {S A : Type 0} (n m : ℕ) (get : S → A) (f : Form A) (more : A → Form S) → IsSized n f → ((x : A) → f.fits x → IsSized m (more x)) → IsSized (n + m) (field get f more)
unfolding field
field_sized n m get f more first rest = record {
  bytes = λ s fits. both_bytes (f.spell (get s)) ((more (get s)).spell s) (first.bytes (get s) fits.0) ((rest (get s) fits.0).bytes s fits.1);
  few = λ s fits.
      let here = first.few (get s) fits.0 in
      let behind = (rest (get s) fits.0).few s fits.1 in
      let sum = length-append (f.spell (get s)) ((more (get s)).spell s) in
      omega (arith, sum, here, behind);
}

pub gap_sized : {S : Type 0} (n m : ℕ) (title : Field) (more : Form S) → IsSized m more → IsSized (n + m) (gap n title more)
unfolding gap
gap_sized n m _ more s = record {
  bytes = λ x fits. both_bytes (replicate n 0) (more.spell x) (zeros n) (s.bytes x fits);
  few = λ x fits.
      let behind = s.few x fits in
      let sum = length-append (replicate n 0) (more.spell x) in
      let many = length-replicate {A = ℕ} n 0 in
      omega (arith, sum, many, behind);
}

pub done_sized : {S : Type 0} (made : S) → IsSized 0 (done made)
unfolding done
done_sized made = record { bytes = λ s fits. no_bytes; few = λ s fits. omega arith }

pub absent_sized : {A : Type 0} (n : ℕ) (title : Field) → IsSized n (absent_value {A = A} n title)
unfolding absent_value
absent_sized n _ = record { bytes = λ o fits. zeros n; few = λ o fits. let many = length-replicate {A = ℕ} n 0 in omega (arith, many) }

there_bytes : {A : Type 0} (n : ℕ) (f : Form A) → IsSized n f → (o : Option A) → fits_there f o → IsBytes (spelled_there f o)
there_bytes n f s None fits = absurd fits
there_bytes n f s (Some x) fits = s.bytes x fits

there_few : {A : Type 0} (n : ℕ) (f : Form A) → IsSized n f → (o : Option A) → fits_there f o → length (spelled_there f o) ≤ n
there_few n f s None fits = absurd fits
there_few n f s (Some x) fits = s.few x fits

pub present_sized : {A : Type 0} (n : ℕ) (f : Form A) → IsSized n f → IsSized n (present f)
unfolding present
present_sized n f s = record { bytes = there_bytes n f s; few = there_few n f s }

pub either_sized : {A : Type 0} (n : ℕ) (b : Bool) (f g : Form A) → IsSized n f → IsSized n g → IsSized n (either b f g)
unfolding either
either_sized n true f g p q = record { bytes = p.bytes; few = p.few }
either_sized n false f g p q = record { bytes = q.bytes; few = q.few }

-- ---- items

items_bytes : {A C : Type 0} (next : C → A → C) (form : C → Form A) (m : ℕ) → ((c : C) → IsSized m (form c)) → (c : C) (xs : List A) → all_fit next (λ d. (form d).fits) c xs → IsBytes (spells next (λ d. (form d).spell) c xs)
unfolding spells all_fit
items_bytes next form m sized c [] fits = no_bytes
items_bytes next form m sized c (x ∷ xs) fits =
    both_bytes ((form c).spell x) (spells next (λ d. (form d).spell) (next c x) xs) ((sized c).bytes x fits.0) (items_bytes next form m sized (next c x) xs fits.1)

items_few : {A C : Type 0} (next : C → A → C) (form : C → Form A) (m : ℕ) → ((c : C) → IsSized m (form c)) → (c : C) (xs : List A) → all_fit next (λ d. (form d).fits) c xs → length (spells next (λ d. (form d).spell) c xs) ≤ length xs * m
unfolding spells all_fit
items_few next form m sized c [] fits = omega arith
items_few next form m sized c (x ∷ xs) fits =
    let here = (sized c).few x fits.0 in
    let rest = items_few next form m sized (next c x) xs fits.1 in
    let sum = length-append ((form c).spell x) (spells next (λ d. (form d).spell) (next c x) xs) in
    let more = suc-mul (length xs) m in
    omega (arith, sum, more, here, rest)

pub items_sized : {A C : Type 0} (next : C → A → C) (form : C → Form A) (c : C) (n m : ℕ) → ((d : C) → IsSized m (form d)) → IsSized (n * m) (items next form c n)
unfolding items
items_sized next form c n m sized = record {
  bytes = λ xs fits. items_bytes next form m sized c xs fits.1;
  few = λ xs fits. subst (λ k. length (spells next (λ d. (form d).spell) c xs) ≤ k * m) fits.0 (items_few next form m sized c xs fits.1);
}

-- ---- one for each

each_bytes : {R A : Type 0} (form : R → Form A) (size : R → ℕ) → ((r : R) → IsSized (size r) (form r)) → (rs : List R) (xs : List A) → each_fit (λ r. (form r).fits) rs xs → IsBytes (each_spelled (λ r. (form r).spell) rs xs)
unfolding each_fit each_spelled
each_bytes form size sized [] [] fits = no_bytes
each_bytes form size sized [] (x ∷ xs) fits = absurd fits
each_bytes form size sized (r ∷ rs) [] fits = absurd fits
each_bytes form size sized (r ∷ rs) (x ∷ xs) fits =
    both_bytes ((form r).spell x) (each_spelled (λ r. (form r).spell) rs xs) ((sized r).bytes x fits.0) (each_bytes form size sized rs xs fits.1)

each_few : {R A : Type 0} (form : R → Form A) (size : R → ℕ) → ((r : R) → IsSized (size r) (form r)) → (rs : List R) (xs : List A) → each_fit (λ r. (form r).fits) rs xs → length (each_spelled (λ r. (form r).spell) rs xs) ≤ sum_by size rs
unfolding each_fit each_spelled
each_few form size sized [] [] fits = omega arith
each_few form size sized [] (x ∷ xs) fits = absurd fits
each_few form size sized (r ∷ rs) [] fits = absurd fits
each_few form size sized (r ∷ rs) (x ∷ xs) fits =
    let here = (sized r).few x fits.0 in
    let rest = each_few form size sized rs xs fits.1 in
    let sum = length-append ((form r).spell x) (each_spelled (λ r. (form r).spell) rs xs) in
    let more = sum_by-cons size r rs in
    omega (arith, sum, more, here, rest)

pub each_sized : {R A : Type 0} (form : R → Form A) (size : R → ℕ) (rs : List R) → ((r : R) → IsSized (size r) (form r)) → IsSized (sum_by size rs) (each form rs)
unfolding each
each_sized form size rs sized = record { bytes = each_bytes form size sized rs; few = each_few form size sized rs }
