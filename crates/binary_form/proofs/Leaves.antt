-- A field that is read is the field that was written, and what was written is read again.
use Rattle.std.proofs.Common.{◌≡◌, ℕ, suc, ◌+◌, ◌^◌, ◌<◌, ◌≤◌, Bool, true, false, cond, ltb, List, [], ◌∷◌, ◌++◌, length, take, drop, Option, Some, None, Result, Ok, Err, refl, sym, ap, subst, ◌∙◌, append_assoc, arith, inl, inr, ◌⊎◌}
use Rattle.std.specs.Int.{Width, w16, w32, w64, byte_len, from_le_bytes, to_le_bytes}
use Rattle.std.proofs.lemmas.Bool.{cases_lt, ltb-false, le-ltb, lt-ltb}
use Rattle.std.proofs.lemmas.List.{take-append-le, drop-append-le, take_at, drop_at, take-append-drop, length-append, length-take, get_or-drop, get_or-take, get_or_past}
use Rattle.std.proofs.lemmas.Nat.{le_bytes_2, le_bytes_4, le_bytes_8, from_le_bytes-to_le_bytes_2, from_le_bytes-to_le_bytes_4, from_le_bytes-to_le_bytes_8}
use Rattle.binary_form.specs.declared.fault.Field.{Field}
use Rattle.binary_form.specs.declared.fault.FormFault.{FormFault}
use Rattle.binary_form.specs.declared.fault.FormFault.TheVariants.{Short, Bad, Trailing}
use Rattle.binary_form.specs.Form.{IsBytes, ◌>>=◌, Form, fault_bytes_left, IsSettled, extended, longer, number, number_at, byte, byte_at, fixed_bytes, bytes_at, coded, coded_at, coded_in}

pub IsBytes-drop : (n : ℕ) (bytes : List ℕ) → IsBytes bytes → IsBytes (drop n bytes)
IsBytes-drop n bytes h i = rw get_or-drop (h (n + i))

pub IsBytes-take : (n : ℕ) (bytes : List ℕ) → IsBytes bytes → IsBytes (take n bytes)
IsBytes-take n bytes h i =
    elim (cases_lt i n) [
      | inl lt ↦ rw (get_or-take n bytes i 0 lt) (h i)
      | inr le ↦ rw (get_or_past (take n bytes) i 0 (omega (arith, length-take n bytes))) (omega arith)
    ]

abbrev passed : {A : Type 0} → A → Result A FormFault
passed x = Ok x

abbrev failed : {A : Type 0} → FormFault → Result A FormFault
failed s = Err s

pub err_is : {A : Type 0} (d s : FormFault) → failed {A = A} d ≡ failed {A = A} s → d ≡ s
err_is d s e = cc

-- the value of a step that did not fail
pub bind_ok : {A B : Type 0} (r : Result A FormFault) (f : A → Result B FormFault) (y : B) → (r >>= f) ≡ Ok y → (x : A) × (r ≡ Ok x) × (f x ≡ Ok y)
bind_ok (Ok x) f y e = (x, refl, e)
bind_ok (Err d) f y e = absurd cc

-- a test that did not fail
pub guard_ok : {A : Type 0} (b : Bool) (d : FormFault) (x y : A) → cond b (Err d) (Ok x) ≡ Ok y → (b ≡ false) × (x ≡ y)
guard_ok true d x y e = absurd cc
guard_ok false d x y e = (refl, cc)

pub test_ok : {A : Type 0} (b : Bool) (d : FormFault) (x y : A) → cond b (Ok x) (Err d) ≡ Ok y → (b ≡ true) × (x ≡ y)
test_ok true d x y e = (refl, cc)
test_ok false d x y e = absurd cc

pub else_ok : {A : Type 0} (b : Bool) (d : FormFault) (r : Result A FormFault) (y : A) → cond b (Err d) r ≡ Ok y → (b ≡ false) × (r ≡ Ok y)
else_ok true d r y e = absurd cc
else_ok false d r y e = (refl, e)

pub bind_err : {A B : Type 0} (r : Result A FormFault) (f : A → Result B FormFault) (s : FormFault) → (r >>= f) ≡ Err s → (r ≡ Err s) ⊎ ((x : A) × (r ≡ Ok x) × (f x ≡ Err s))
bind_err (Ok x) f s e = inr (x, refl, e)
bind_err (Err d) f s e = inl (ap (λ x. Err x) (err_is d s e))

pub guard_err : {A : Type 0} (b : Bool) (d : FormFault) (x : A) (s : FormFault) → cond b (Err d) (Ok x) ≡ Err s → d ≡ s
guard_err true d x s e = err_is d s e
guard_err false d x s e = absurd cc

pub test_err : {A : Type 0} (b : Bool) (d : FormFault) (x : A) (s : FormFault) → cond b (Ok x) (Err d) ≡ Err s → d ≡ s
test_err true d x s e = absurd cc
test_err false d x s e = err_is d s e

pub tests_err : {A : Type 0} (b t : Bool) (d e : FormFault) (x : A) (s : FormFault) → cond b (Err d) (cond t (Ok x) (Err e)) ≡ Err s → (d ≡ s) ⊎ (e ≡ s)
tests_err true t d e x s h = inl (err_is d s h)
tests_err false t d e x s h = inr (test_err t e x s h)

pub else_err : {A : Type 0} (b : Bool) (d : FormFault) (r : Result A FormFault) (s : FormFault) → cond b (Err d) r ≡ Err s → (d ≡ s) ⊎ (r ≡ Err s)
else_err {A} true d r s e = inl (err_is {A = A} d s e)
else_err false d r s e = inr e

pub ok_not_err : {A : Type 0} (x : A) (s : FormFault) → passed x ≡ failed s → ⊥
ok_not_err x s e = absurd cc

-- two tests, one after the other
pub tests_ok : {A : Type 0} (b t : Bool) (d e : FormFault) (x y : A) → cond b (Err d) (cond t (Ok x) (Err e)) ≡ Ok y → (b ≡ false) × (t ≡ true) × (x ≡ y)
tests_ok true t d e x y h = absurd cc
tests_ok false true d e x y h = (refl, refl, cc)
tests_ok false false d e x y h = absurd cc

pub ok_is : {A : Type 0} (x y : A) → passed x ≡ passed y → x ≡ y
ok_is x y e = cc

-- what a reader took from the front
pub record Takes (bytes text rest : List ℕ) : Type 0 where
  pub parts : bytes ≡ text ++ rest
  pub rest_fits : IsBytes rest

pub Takes-shorter : (a x b : List ℕ) → Takes a x b → length b ≤ length a
Takes-shorter a x b t = rw t.parts (omega (arith, length-append x b))

pub Takes-then : (a x b y c : List ℕ) → Takes a x b → Takes b y c → Takes a (x ++ y) c
Takes-then a x b y c p q = record { parts = p.parts ∙ ap (λ (t : List ℕ). x ++ t) q.parts ∙ sym (append_assoc x y c); rest_fits = q.rest_fits }

-- ---- the laws of a form

-- What is read is spelled so, and fits; what fits is read again, whatever follows; the field of a fault begins among
-- the bytes; and bytes behind change neither a value nor a fault other than that the bytes end.
pub record Laws {A : Type 0} (f : Form A) : Type 0 where
  pub takes : (bytes : List ℕ) (x : A) (rest : List ℕ) → IsBytes bytes → f.read bytes ≡ Ok (x, rest) → Takes bytes (f.spell x) rest × f.fits x
  pub again : (x : A) (rest : List ℕ) → f.fits x → f.read (f.spell x ++ rest) ≡ Ok (x, rest)
  pub within : (bytes : List ℕ) (s : FormFault) → IsBytes bytes → f.read bytes ≡ Err s → fault_bytes_left s ≤ length bytes
  pub stays : (bytes more : List ℕ) → IsSettled (f.read bytes) → f.read (bytes ++ more) ≡ extended (longer more) (length more) (f.read bytes)

pub bind_stays : {X Y : Type 0} (gx : X → X) (gy : Y → Y) (n : ℕ) (r q : Result X FormFault) (k : X → Result Y FormFault) → (IsSettled r → q ≡ extended gx n r) → ((x : X) → IsSettled (k x) → k (gx x) ≡ extended gy n (k x))
    → IsSettled (r >>= k) → (q >>= k) ≡ extended gy n (r >>= k)
bind_stays gx gy n (Ok x) q k h then h' = ap (λ t. t >>= k) (h tt) ∙ then x h'
bind_stays gx gy n (Err (Short left)) q k h then h' = absurd h'
bind_stays gx gy n (Err (Bad left title)) q k h then h' = ap (λ t. t >>= k) (h tt)
bind_stays gx gy n (Err (Trailing left)) q k h then h' = ap (λ t. t >>= k) (h tt)

-- a field of n bytes, and what it gives
pub field_stays : {X : Type 0} (g : X → X) (n : ℕ) (k : ℕ → List ℕ → List ℕ → Result X FormFault) (bytes more : List ℕ)
    → ((front rest : List ℕ) → k (length bytes + length more) front (rest ++ more) ≡ extended g (length more) (k (length bytes) front rest))
    → IsSettled (cond (ltb (length bytes) n) (Err (Short (length bytes))) (k (length bytes) (take n bytes) (drop n bytes)))
    → cond (ltb (length (bytes ++ more)) n) (Err (Short (length (bytes ++ more)))) (k (length (bytes ++ more)) (take n (bytes ++ more)) (drop n (bytes ++ more)))
    ≡ extended g (length more) (cond (ltb (length bytes) n) (Err (Short (length bytes))) (k (length bytes) (take n bytes) (drop n bytes)))
field_stays g n k bytes more h settled =
    elim (cases_lt (length bytes) n) [
      | inl lt ↦ absurd (rw (lt-ltb (length bytes) n lt) at settled)
      | inr le ↦
          let a : ltb (length bytes) n ≡ false = le-ltb (length bytes) n le in
          let b : ltb (length (bytes ++ more)) n ≡ false = le-ltb _ _ (omega (arith, length-append bytes more)) in
          rw (b, a, length-append bytes more, take-append-le n bytes more le, drop-append-le n bytes more le) (h (take n bytes) (drop n bytes))
    ]

-- ---- numbers

pub record IsWide (w : Width) : Type 0 where
  pub len : (n : ℕ) → length (to_le_bytes w n) ≡ byte_len w
  pub back : (bytes : List ℕ) → length bytes ≡ byte_len w → IsBytes bytes → to_le_bytes w (from_le_bytes w bytes) ≡ bytes
  pub again : (n : ℕ) → n < 256 ^ byte_len w → from_le_bytes w (to_le_bytes w n) ≡ n
  pub below : (bytes : List ℕ) → IsBytes bytes → from_le_bytes w bytes < 256 ^ byte_len w

pub wide16 : IsWide w16
wide16 = record {
  len = λ n. refl;
  back = λ bytes len fits. le_bytes_2 bytes _ len fits refl;
  again = λ n lt. from_le_bytes-to_le_bytes_2 n lt;
  below = λ bytes fits. omega (arith, fits 0, fits 1);
}

pub wide32 : IsWide w32
wide32 = record {
  len = λ n. refl;
  back = λ bytes len fits. le_bytes_4 bytes _ len fits refl;
  again = λ n lt. from_le_bytes-to_le_bytes_4 n lt;
  below = λ bytes fits. omega (arith, fits 0, fits 1, fits 2, fits 3);
}

pub wide64 : IsWide w64
wide64 = record {
  len = λ n. refl;
  back = λ bytes len fits. le_bytes_8 bytes _ len fits refl;
  again = λ n lt. from_le_bytes-to_le_bytes_8 n lt;
  below = λ bytes fits. omega (arith, fits 0, fits 1, fits 2, fits 3, fits 4, fits 5, fits 6, fits 7);
}

number_takes : (w : Width) (wide : IsWide w) (bytes : List ℕ) (n : ℕ) (rest : List ℕ) → IsBytes bytes → number_at w bytes ≡ Ok (n, rest) → Takes bytes (to_le_bytes w n) rest × (n < 256 ^ byte_len w)
unfolding number_at
number_takes w wide bytes n rest fits e =
    let g = guard_ok (ltb (length bytes) (byte_len w)) (Short (length bytes)) (from_le_bytes w (take (byte_len w) bytes), drop (byte_len w) bytes) (n, rest) e in
    let long : byte_len w ≤ length bytes = ltb-false _ _ g.0 in
    let n-is : from_le_bytes w (take (byte_len w) bytes) ≡ n = ap (λ (p : ℕ × List ℕ). p.0) g.1 in
    let rest-is : drop (byte_len w) bytes ≡ rest = ap (λ (p : ℕ × List ℕ). p.1) g.1 in
    let front : to_le_bytes w n ≡ take (byte_len w) bytes = rw (← n-is) (wide.back (take (byte_len w) bytes) (omega (arith, length-take (byte_len w) bytes)) (IsBytes-take (byte_len w) bytes fits)) in
    (record { parts = rw (front, ← rest-is) (sym (take-append-drop (byte_len w) bytes)); rest_fits = rw (← rest-is) (IsBytes-drop (byte_len w) bytes fits) }, rw (← n-is) (wide.below (take (byte_len w) bytes) (IsBytes-take (byte_len w) bytes fits)))

number_again : (w : Width) (wide : IsWide w) (n : ℕ) (rest : List ℕ) → n < 256 ^ byte_len w → number_at w (to_le_bytes w n ++ rest) ≡ Ok (n, rest)
unfolding number_at
number_again w wide n rest lt =
    let len = wide.len n in
    let long : ltb (length (to_le_bytes w n ++ rest)) (byte_len w) ≡ false = le-ltb _ _ (omega (arith, length-append (to_le_bytes w n) rest)) in
    rw (long, take_at (to_le_bytes w n) rest (byte_len w) len, drop_at (to_le_bytes w n) rest (byte_len w) len, wide.again n lt) refl

number_within : (w : Width) (bytes : List ℕ) (s : FormFault) → IsBytes bytes → number_at w bytes ≡ Err s → fault_bytes_left s ≤ length bytes
unfolding number_at
number_within w bytes s fits e =
    rw (← guard_err (ltb (length bytes) (byte_len w)) (Short (length bytes)) (from_le_bytes w (take (byte_len w) bytes), drop (byte_len w) bytes) s e) (omega arith)

number_stays : (w : Width) (bytes more : List ℕ) → IsSettled (number_at w bytes) → number_at w (bytes ++ more) ≡ extended (longer more) (length more) (number_at w bytes)
unfolding number_at
number_stays w bytes more settled = field_stays (longer more) (byte_len w) (λ left front rest. Ok (from_le_bytes w front, rest)) bytes more (λ front rest. refl) settled

pub number_laws : (w : Width) → IsWide w → Laws (number w)
unfolding number
number_laws w wide = record { takes = number_takes w wide; again = number_again w wide; within = number_within w; stays = number_stays w }

byte_takes : (bytes : List ℕ) (b : ℕ) (rest : List ℕ) → IsBytes bytes → byte_at bytes ≡ Ok (b, rest) → Takes bytes (b ∷ []) rest × (b < 256)
unfolding byte_at
byte_takes [] b rest fits e = absurd cc
byte_takes (x ∷ xs) b rest fits e =
    subst (λ (p : ℕ × List ℕ). Takes (x ∷ xs) (p.0 ∷ []) p.1 × (p.0 < 256)) (ok_is (x, xs) (b, rest) e) (record { parts = refl; rest_fits = λ i. fits (suc i) }, fits 0)

byte_again : (b : ℕ) (rest : List ℕ) → b < 256 → byte_at ((b ∷ []) ++ rest) ≡ Ok (b, rest)
unfolding byte_at
byte_again b rest lt = refl

byte_within : (bytes : List ℕ) (s : FormFault) → IsBytes bytes → byte_at bytes ≡ Err s → fault_bytes_left s ≤ length bytes
unfolding byte_at
byte_within [] s fits e = rw (← err_is (Short 0) s e) (omega arith)
byte_within (x ∷ xs) s fits e = absurd cc

byte_stays : (bytes more : List ℕ) → IsSettled (byte_at bytes) → byte_at (bytes ++ more) ≡ extended (longer more) (length more) (byte_at bytes)
unfolding byte_at
byte_stays [] more settled = absurd settled
byte_stays (b ∷ bytes) more settled = refl

pub byte_laws : Laws byte
unfolding byte
byte_laws = record { takes = byte_takes; again = byte_again; within = byte_within; stays = byte_stays }

bytes_takes : (n : ℕ) (bytes t rest : List ℕ) → IsBytes bytes → bytes_at n bytes ≡ Ok (t, rest) → Takes bytes t rest × ((length t ≡ n) × IsBytes t)
unfolding bytes_at
bytes_takes n bytes t rest fits e =
    let g = guard_ok (ltb (length bytes) n) (Short (length bytes)) (take n bytes, drop n bytes) (t, rest) e in
    let long : n ≤ length bytes = ltb-false _ _ g.0 in
    subst (λ (p : List ℕ × List ℕ). Takes bytes p.0 p.1 × ((length p.0 ≡ n) × IsBytes p.0)) g.1
    (record { parts = sym (take-append-drop n bytes); rest_fits = IsBytes-drop n bytes fits }, (omega (arith, length-take n bytes), IsBytes-take n bytes fits))

bytes_again : (n : ℕ) (t rest : List ℕ) → (length t ≡ n) × IsBytes t → bytes_at n (t ++ rest) ≡ Ok (t, rest)
unfolding bytes_at
bytes_again n t rest fits =
    let len = fits.0 in
    let long : ltb (length (t ++ rest)) n ≡ false = le-ltb _ _ (omega (arith, length-append t rest)) in
    rw (long, take_at t rest n len, drop_at t rest n len) refl

bytes_within : (n : ℕ) (bytes : List ℕ) (s : FormFault) → IsBytes bytes → bytes_at n bytes ≡ Err s → fault_bytes_left s ≤ length bytes
unfolding bytes_at
bytes_within n bytes s fits e = rw (← guard_err (ltb (length bytes) n) (Short (length bytes)) (take n bytes, drop n bytes) s e) (omega arith)

bytes_stays : (n : ℕ) (bytes more : List ℕ) → IsSettled (bytes_at n bytes) → bytes_at n (bytes ++ more) ≡ extended (longer more) (length more) (bytes_at n bytes)
unfolding bytes_at
bytes_stays n bytes more settled = field_stays (longer more) n (λ left front rest. Ok (front, rest)) bytes more (λ front rest. refl) settled

pub bytes_laws : (n : ℕ) → Laws (fixed_bytes n)
unfolding fixed_bytes
bytes_laws n = record { takes = bytes_takes n; again = bytes_again n; within = bytes_within n; stays = bytes_stays n }

-- ---- what is decoded as one

-- what is decoded is encoded so, and in so many bytes
pub record IsCode {A : Type 0} (n : ℕ) (decode : List ℕ → Option A) (encode : A → List ℕ) : Type 0 where
  pub back : (bytes : List ℕ) (x : A) → IsBytes bytes → length bytes ≡ n → decode bytes ≡ Some x → encode x ≡ bytes
  pub size : (x : A) → decode (encode x) ≡ Some x → length (encode x) ≡ n

coded_ok : {A : Type 0} (name : Field) (left : ℕ) (behind : List ℕ) (o : Option A) (x : A) (rest : List ℕ) → coded_in name left behind o ≡ Ok (x, rest) → (o ≡ Some x) × (behind ≡ rest)
coded_ok title left behind None x rest e = absurd cc
coded_ok {A} title left behind (Some y) x rest e =
    let same = ok_is (y, behind) (x, rest) e in
    (ap (λ (p : A × List ℕ). Some p.0) same, ap (λ (p : A × List ℕ). p.1) same)

coded_takes : {A : Type 0} (n : ℕ) (decode : List ℕ → Option A) (encode : A → List ℕ) (name : Field) → IsCode n decode encode → (bytes : List ℕ) (x : A) (rest : List ℕ) → IsBytes bytes
    → coded_at n decode name bytes ≡ Ok (x, rest) → Takes bytes (encode x) rest × (decode (encode x) ≡ Some x)
unfolding coded_at
coded_takes n decode encode name code bytes x rest fits e =
    let g = else_ok (ltb (length bytes) n) (Short (length bytes)) (coded_in name (length bytes) (drop n bytes) (decode (take n bytes))) (x, rest) e in
    let long : n ≤ length bytes = ltb-false _ _ g.0 in
    let size : length (take n bytes) ≡ n = omega (arith, length-take n bytes) in
    let d = coded_ok name (length bytes) (drop n bytes) (decode (take n bytes)) x rest g.1 in
    let same : encode x ≡ take n bytes = code.back (take n bytes) x (IsBytes-take n bytes fits) size d.0 in
    let parts : bytes ≡ encode x ++ rest = sym (take-append-drop n bytes) ∙ ap (λ (t : List ℕ). t ++ drop n bytes) (sym same) ∙ ap (λ (t : List ℕ). encode x ++ t) d.1 in
    (record { parts = parts; rest_fits = subst IsBytes d.1 (IsBytes-drop n bytes fits) }, ap decode same ∙ d.0)

coded_again : {A : Type 0} (n : ℕ) (decode : List ℕ → Option A) (encode : A → List ℕ) (name : Field) → IsCode n decode encode → (x : A) (rest : List ℕ)
    → decode (encode x) ≡ Some x → coded_at n decode name (encode x ++ rest) ≡ Ok (x, rest)
unfolding coded_at
coded_again n decode encode _ code x rest fits =
    let size : length (encode x) ≡ n = code.size x fits in
    let long : ltb (length (encode x ++ rest)) n ≡ false = le-ltb _ _ (omega (arith, length-append (encode x) rest)) in
    rw (long, take_at (encode x) rest n size, drop_at (encode x) rest n size, fits) refl

coded_err : {A : Type 0} (name : Field) (left : ℕ) (behind : List ℕ) (o : Option A) (s : FormFault) → coded_in name left behind o ≡ Err s → fault_bytes_left s ≡ left
coded_err {A} title left behind None s e = ap fault_bytes_left (sym (err_is {A = A × List ℕ} (Bad left title) s e))
coded_err title left behind (Some y) s e = absurd (ok_not_err (y, behind) s e)

coded_within : {A : Type 0} (n : ℕ) (decode : List ℕ → Option A) (name : Field) (bytes : List ℕ) (s : FormFault) → coded_at n decode name bytes ≡ Err s → fault_bytes_left s ≤ length bytes
unfolding coded_at
coded_within n decode name bytes s e =
    elim (else_err (ltb (length bytes) n) (Short (length bytes)) (coded_in name (length bytes) (drop n bytes) (decode (take n bytes))) s e) [
      | inl h ↦ rw (← h) (omega arith)
      | inr h ↦ rw (coded_err name (length bytes) (drop n bytes) (decode (take n bytes)) s h) (omega arith)
    ]

pub coded_in_stays : {A : Type 0} (name : Field) (left n : ℕ) (behind more : List ℕ) (o : Option A) → coded_in name (left + n) (behind ++ more) o ≡ extended (longer more) n (coded_in name left behind o)
coded_in_stays title left n behind more None = refl
coded_in_stays title left n behind more (Some x) = refl

pub coded_stays : {A : Type 0} (n : ℕ) (decode : List ℕ → Option A) (name : Field) (bytes more : List ℕ) → IsSettled (coded_at n decode name bytes)
    → coded_at n decode name (bytes ++ more) ≡ extended (longer more) (length more) (coded_at n decode name bytes)
unfolding coded_at
coded_stays n decode name bytes more settled =
    field_stays (longer more) n (λ left front rest. coded_in name left rest (decode front)) bytes more
    (λ front rest. coded_in_stays name (length bytes) (length more) rest more (decode front)) settled

pub coded_laws : {A : Type 0} (n : ℕ) (decode : List ℕ → Option A) (encode : A → List ℕ) (name : Field) → IsCode n decode encode → Laws (coded n decode encode name)
unfolding coded
coded_laws n decode encode name code = record {
  takes = coded_takes n decode encode name code;
  again = coded_again n decode encode name code;
  within = λ bytes s fits e. coded_within n decode name bytes s e;
  stays = coded_stays n decode name;
}
