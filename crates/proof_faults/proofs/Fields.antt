-- Fields and forms of forms whose faults are those of the bytes up to the end of a field.
use Rattle.std.proofs.Common.{◌≡◌, ℕ, zero, suc, ◌<◌, ◌≤◌, Bool, true, false, cond, ltb, eqb, List, [], ◌∷◌, ◌++◌, length, take, drop, Option, Some, None, Result, Ok, Err, refl, sym, ap, subst, ◌∙◌, arith, inl, inr}
use Rattle.std.specs.Int.{Width, byte_len, from_le_bytes}
use Rattle.std.specs.List.{list_all}
use Rattle.std.specs.Str.{bytes_eq}
use Rattle.std.proofs.lemmas.Bool.{cases_lt, le-ltb, lt-ltb}
use Rattle.std.proofs.lemmas.List.{length-append, length-drop, take-append-drop}
use Rattle.binary_form.specs.declared.fault.Field.{Field}
use Rattle.binary_form.specs.declared.fault.FormFault.{FormFault}
use Rattle.binary_form.specs.declared.fault.FormFault.TheVariants.{Short, Bad}
use Rattle.binary_form.specs.Form.{◌>>=◌, Form, absent_value, byte, byte_at, fixed_bytes, bytes_at, coded, coded_at, coded_in, done, each, each_at, either, field, gap, gap_at, items, items_at, fault_bytes_left, number, number_at, only, present, tag, tag_at}
use Rattle.binary_form.proofs.Leaves.{coded_stays, err_is, ok_is, ok_not_err}
use Rattle.proof_faults.proofs.Readers.{HasMore, IsAmong, IsLocal, Reader, given, given_local, same_local, then, then_local}

-- ---- a field of n bytes

-- where it can be wrong, it has a byte, and no more of them than there is room for
abbrev pub Suits : {A : Type 0} → (Field → ℕ) → ℕ → (List ℕ → Option A) → Field → Type 0
Suits room n decode title = (t : List ℕ) → decode t ≡ None → (0 < n) × (n ≤ room title)

coded_short : {A : Type 0} (n : ℕ) (decode : List ℕ → Option A) (name : Field) (bytes : List ℕ) → length bytes < n → coded_at n decode name bytes ≡ Err (Short (length bytes))
unfolding coded_at
coded_short n decode title bytes lt = rw (lt-ltb (length bytes) n lt) refl

coded_long : {A : Type 0} (n : ℕ) (decode : List ℕ → Option A) (name : Field) (bytes : List ℕ) → n ≤ length bytes → coded_at n decode name bytes ≡ coded_in name (length bytes) (drop n bytes) (decode (take n bytes))
unfolding coded_at
coded_long n decode title bytes le = rw (le-ltb (length bytes) n le) refl

in_ok : {A : Type 0} (name : Field) (left : ℕ) (behind : List ℕ) (o : Option A) (x : A) (rest : List ℕ) → coded_in name left behind o ≡ Ok (x, rest) → behind ≡ rest
in_ok title left behind None x rest e = absurd cc
in_ok {A} title left behind (Some y) x rest e = ap (λ (p : A × List ℕ). p.1) (ok_is (y, behind) (x, rest) e)

-- what is decoded as nothing is a fault there
in_err : {A : Type 0} (name : Field) (left : ℕ) (behind : List ℕ) (o : Option A) (e : FormFault) → coded_in name left behind o ≡ Err e → (o ≡ None) × (e ≡ Bad left name)
in_err {A} title left behind None e h = (refl, sym (err_is {A = A × List ℕ} (Bad left title) e h))
in_err title left behind (Some y) e h = absurd (ok_not_err (y, behind) e h)

in_not_short : {A : Type 0} (name : Field) (left : ℕ) (behind : List ℕ) (o : Option A) (s : ℕ) → coded_in name left behind o ≡ Err (Short s) → ⊥
in_not_short title left behind None s h = absurd cc
in_not_short title left behind (Some y) s h = absurd cc

-- the field begins so many bytes before the end where these are too few
short_is : {A : Type 0} (n : ℕ) (decode : List ℕ → Option A) (name : Field) (bytes : List ℕ) (s : ℕ) → coded_at n decode name bytes ≡ Err (Short s) → (length bytes < n) × (s ≡ length bytes)
short_is {A} n decode title bytes s e =
    elim (cases_lt (length bytes) n) [
      | inl lt ↦ (lt, ap fault_bytes_left (err_is {A = A × List ℕ} (Short s) (Short (length bytes)) (sym e ∙ coded_short n decode title bytes lt)))
      | inr le ↦ absurd (in_not_short title (length bytes) (drop n bytes) (decode (take n bytes)) s (sym (coded_long n decode title bytes le) ∙ e))
    ]

coded_parts : {A : Type 0} (n : ℕ) (decode : List ℕ → Option A) (name : Field) (bytes : List ℕ) (x : A) (rest : List ℕ) → coded_at n decode name bytes ≡ Ok (x, rest) → (n ≤ length bytes) × (drop n bytes ≡ rest)
coded_parts n decode title bytes x rest e =
    elim (cases_lt (length bytes) n) [
      | inl lt ↦ absurd (ok_not_err (x, rest) (Short (length bytes)) (sym e ∙ coded_short n decode title bytes lt))
      | inr le ↦ (le, in_ok title (length bytes) (drop n bytes) (decode (take n bytes)) x rest (sym (coded_long n decode title bytes le) ∙ e))
    ]

coded_err : {A : Type 0} (room : Field → ℕ) (n : ℕ) (decode : List ℕ → Option A) (name : Field) → Suits room n decode name → (bytes : List ℕ) (e : FormFault) → coded_at n decode name bytes ≡ Err e
    → (fault_bytes_left e ≡ length bytes) × IsAmong (length bytes) e × ((s : ℕ) → s < n → HasMore room s e)
coded_err {A} room n decode title suits bytes e h =
    elim (cases_lt (length bytes) n) [
      | inl lt ↦
          subst (λ d. (fault_bytes_left d ≡ length bytes) × IsAmong (length bytes) d × ((s : ℕ) → s < n → HasMore room s d))
          (err_is {A = A × List ℕ} (Short (length bytes)) e (sym (coded_short n decode title bytes lt) ∙ h))
          (refl, omega arith, λ s low. tt)
      | inr le ↦
          let f = in_err title (length bytes) (drop n bytes) (decode (take n bytes)) e (sym (coded_long n decode title bytes le) ∙ h) in
          let fit = suits (take n bytes) f.0 in
          subst (λ d. (fault_bytes_left d ≡ length bytes) × IsAmong (length bytes) d × ((s : ℕ) → s < n → HasMore room s d)) (sym f.1)
          (refl, (omega (arith, fit.0, le), omega arith), λ s low. omega (arith, low, fit.1))
    ]

pub coded_local : {A : Type 0} (room : Field → ℕ) (n : ℕ) (decode : List ℕ → Option A) (name : Field) → Suits room n decode name → IsLocal room (coded_at n decode name)
coded_local room n decode name suits = record {
  parts = λ bytes x rest e. (take n bytes, sym (take-append-drop n bytes) ∙ ap (λ (t : List ℕ). take n bytes ++ t) (coded_parts n decode name bytes x rest e).1);
  among = λ bytes e h. (coded_err room n decode name suits bytes e h).1;
  stays = coded_stays n decode name;
  past = λ bytes more s x rest e h.
      let few = short_is n decode name bytes s e in
      let p = coded_parts n decode name (bytes ++ more) x rest h in
      rw (← p.1) (omega (arith, few.0, p.0, length-append bytes more, length-drop n (bytes ++ more)));
  near = λ bytes more s e h g le.
      let few = short_is n decode name bytes s h in
      let f = coded_err room n decode name suits (bytes ++ more) e g in
      (omega (arith, f.0, few.1, length-append bytes more), f.2 s (omega (arith, few.0, few.1)));
}

-- ---- fields of a form

-- a form that reads n bytes and decodes them as one, and finds them wrong under this name
pub record IsField {A : Type 0} (n : ℕ) (name : Field) (f : Form A) : Type 0 where
  pub decode : List ℕ → Option A
  pub is : (bytes : List ℕ) → f.read bytes ≡ coded_at n decode name bytes

pub local_field : {A : Type 0} (room : Field → ℕ) (n : ℕ) (name : Field) (f : Form A) → IsField n name f → 0 < n → n ≤ room name → IsLocal room f.read
local_field room n name f one some le = same_local room f.read (coded_at n one.decode name) one.is (coded_local room n one.decode name (λ t e. (some, le)))

pub number_field : (w : Width) (name : Field) → IsField (byte_len w) name (number w)
unfolding number number_at coded_at
number_field w title = record { decode = λ t. Some (from_le_bytes w t); is = λ bytes. refl }

first_byte : List ℕ → Option ℕ
first_byte [] = None
first_byte (b ∷ bytes) = Some b

byte_is : (name : Field) (bytes : List ℕ) → byte_at bytes ≡ coded_at 1 first_byte name bytes
unfolding byte_at coded_at first_byte
byte_is title [] = refl
byte_is title (b ∷ bytes) = let long : ltb (length (b ∷ bytes)) 1 ≡ false = le-ltb _ _ (omega arith) in rw long refl

pub byte_field : (name : Field) → IsField 1 name byte
unfolding byte
byte_field title = record { decode = first_byte; is = byte_is title }

pub coded_field : {A : Type 0} (n : ℕ) (decode : List ℕ → Option A) (encode : A → List ℕ) (name : Field) → IsField n name (coded n decode encode name)
unfolding coded
coded_field n decode encode title = record { decode = decode; is = λ bytes. refl }

tested : {A : Type 0} → (A → Bool) → Option A → Option A
tested test None = None
tested test (Some x) = cond (test x) (Some x) None

chosen_in : {A : Type 0} (b : Bool) (name : Field) (left : ℕ) (rest : List ℕ) (x : A) → cond b (Ok (x, rest)) (Err (Bad left name)) ≡ coded_in name left rest (cond b (Some x) None)
chosen_in true title left rest x = refl
chosen_in false title left rest x = refl

tested_in : {A : Type 0} (test : A → Bool) (name : Field) (left : ℕ) (rest : List ℕ) (o : Option A)
    → (coded_in name left rest o >>= λ x. cond (test x.0) (Ok x) (Err (Bad left name))) ≡ coded_in name left rest (tested test o)
unfolding tested
tested_in test title left rest None = refl
tested_in test title left rest (Some x) = chosen_in (test x) title left rest x

only_is : {A : Type 0} (test : A → Bool) (n : ℕ) (name : Field) (decode : List ℕ → Option A) (bytes : List ℕ)
    → (coded_at n decode name bytes >>= λ x. cond (test x.0) (Ok x) (Err (Bad (length bytes) name))) ≡ coded_at n (λ t. tested test (decode t)) name bytes
only_is test n title decode bytes =
    elim (cases_lt (length bytes) n) [
      | inl lt ↦ rw (coded_short n decode title bytes lt, coded_short n (λ t. tested test (decode t)) title bytes lt) refl
      | inr le ↦ rw (coded_long n decode title bytes le, coded_long n (λ t. tested test (decode t)) title bytes le) (tested_in test title (length bytes) (drop n bytes) (decode (take n bytes)))
    ]

pub only_field : {A : Type 0} (n : ℕ) (test : A → Bool) (name : Field) (f : Form A) → IsField n name f → IsField n name (only test name f)
unfolding only
only_field n test title f one = record {
  decode = λ t. tested test (one.decode t);
  is = λ bytes. ap (λ r. r >>= λ x. cond (test x.0) (Ok x) (Err (Bad (length bytes) title))) (one.is bytes) ∙ only_is test n title one.decode bytes;
}

-- ---- fields that cannot be wrong

-- a form that reads n bytes and has a value of any of them
pub number_local : (room : Field → ℕ) (w : Width) → IsLocal room (number w).read
unfolding number number_at coded_at
number_local room w = same_local room (number_at w) (coded_at (byte_len w) (λ t. Some (from_le_bytes w t)) Field.Zero) (λ bytes. refl) (coded_local room (byte_len w) (λ t. Some (from_le_bytes w t)) Field.Zero (λ t e. absurd cc))

pub byte_local : (room : Field → ℕ) (name : Field) → 1 ≤ room name → IsLocal room byte.read
byte_local room title le = local_field room 1 title byte (byte_field title) (omega arith) le

pub bytes_local : (room : Field → ℕ) (n : ℕ) → IsLocal room (fixed_bytes n).read
unfolding fixed_bytes bytes_at coded_at
bytes_local room n = same_local room (bytes_at n) (coded_at n (λ t. Some t) Field.Zero) (λ bytes. refl) (coded_local room n (λ t. Some t) Field.Zero (λ t e. absurd cc))

-- ---- bytes that have no value

abbrev nothing_if : Bool → Option (Unit {0})
nothing_if true = Some tt
nothing_if false = None

chosen_on : {X : Type 0} (b : Bool) (name : Field) (left : ℕ) (rest : List ℕ) (k : List ℕ → Result X FormFault)
    → (cond b (Ok rest) (Err (Bad left name)) >>= k) ≡ (coded_in name left rest (nothing_if b) >>= λ x. k x.1)
chosen_on true title left rest k = refl
chosen_on false title left rest k = refl

-- zeros
zeros_in : List ℕ → Option (Unit {0})
zeros_in t = nothing_if (list_all (λ b. eqb b 0) t)

abbrev zeros_read : ℕ → Field → Reader (Unit {0})
zeros_read n name = coded_at n zeros_in name

gap_is : {X : Type 0} (n : ℕ) (name : Field) (k : List ℕ → Result X FormFault) (bytes : List ℕ) → (gap_at n name bytes >>= k) ≡ (zeros_read n name bytes >>= λ x. k x.1)
unfolding gap_at coded_at zeros_in
gap_is n title k bytes =
    elim (cases_lt (length bytes) n) [
      | inl lt ↦ rw (lt-ltb (length bytes) n lt) refl
      | inr le ↦ rw (le-ltb (length bytes) n le) (chosen_on (list_all (λ b. eqb b 0) (take n bytes)) title (length bytes) (drop n bytes) k)
    ]

zeros_local : (room : Field → ℕ) (n : ℕ) (name : Field) → 0 < n → n ≤ room name → IsLocal room (zeros_read n name)
zeros_local room n name some le = coded_local room n zeros_in name (λ t e. (some, le))

pub gap_local : {S : Type 0} (room : Field → ℕ) (n : ℕ) (name : Field) (more : Form S) → 0 < n → n ≤ room name → IsLocal room more.read → IsLocal room (gap n name more).read
unfolding gap
gap_local room n title more some le rest =
    same_local room (λ bytes. gap_at n title bytes >>= more.read) (then (zeros_read n title) (λ u. more.read)) (λ bytes. gap_is n title more.read bytes)
    (then_local room (zeros_read n title) (λ u. more.read) (zeros_local room n title some le) (λ u. rest))

abbrev nothing : {A : Type 0} → Option A
nothing = None

pub absent_local : {A : Type 0} (room : Field → ℕ) (n : ℕ) (name : Field) → 0 < n → n ≤ room name → IsLocal room (absent_value {A = A} n name).read
unfolding absent_value
absent_local {A} room n title some le =
    same_local room (λ bytes. gap_at n title bytes >>= given (nothing {A = A})) (then (zeros_read n title) (λ u. given (nothing {A = A}))) (λ bytes. gap_is n title (given (nothing {A = A})) bytes)
    (then_local room (zeros_read n title) (λ u. given (nothing {A = A})) (zeros_local room n title some le) (λ u. given_local room (nothing {A = A})))

-- these bytes, and no others
tag_in : List ℕ → List ℕ → Option (Unit {0})
tag_in wanted t = nothing_if (bytes_eq t wanted)

abbrev tag_read : List ℕ → Field → Reader (Unit {0})
tag_read wanted name = coded_at (length wanted) (tag_in wanted) name

tag_is : {X : Type 0} (wanted : List ℕ) (name : Field) (k : List ℕ → Result X FormFault) (bytes : List ℕ) → (tag_at wanted name bytes >>= k) ≡ (tag_read wanted name bytes >>= λ x. k x.1)
unfolding tag_at coded_at tag_in
tag_is wanted title k bytes =
    elim (cases_lt (length bytes) (length wanted)) [
      | inl lt ↦ rw (lt-ltb (length bytes) (length wanted) lt) refl
      | inr le ↦ rw (le-ltb (length bytes) (length wanted) le) (chosen_on (bytes_eq (take (length wanted) bytes) wanted) title (length bytes) (drop (length wanted) bytes) k)
    ]

pub tag_local : {S : Type 0} (room : Field → ℕ) (wanted : List ℕ) (name : Field) (more : Form S) → 0 < length wanted → length wanted ≤ room name → IsLocal room more.read → IsLocal room (tag wanted name more).read
unfolding tag
tag_local room wanted title more some le rest =
    same_local room (λ bytes. tag_at wanted title bytes >>= more.read) (then (tag_read wanted title) (λ u. more.read)) (λ bytes. tag_is wanted title more.read bytes)
    (then_local room (tag_read wanted title) (λ u. more.read) (coded_local room (length wanted) (tag_in wanted) title (λ t e. (some, le))) (λ u. rest))

-- ---- forms of forms

pub done_local : {S : Type 0} (room : Field → ℕ) (made : S) → IsLocal room (done made).read
unfolding done
done_local room made = given_local room made

pub present_local : {A : Type 0} (room : Field → ℕ) (f : Form A) → IsLocal room f.read → IsLocal room (present f).read
unfolding present
present_local {A} room f local = then_local room f.read (λ x. given (Some x)) local (λ x. given_local room (Some x))

pub either_local : {A : Type 0} (room : Field → ℕ) (b : Bool) (f g : Form A) → IsLocal room f.read → IsLocal room g.read → IsLocal room (either b f g).read
unfolding either
either_local room true f g p q = p
either_local room false f g p q = q

pub field_local : {S A : Type 0} (room : Field → ℕ) (get : S → A) (f : Form A) (more : A → Form S) → IsLocal room f.read → ((x : A) → IsLocal room (more x).read) → IsLocal room (field get f more).read
unfolding field
field_local room get f more first others = then_local room f.read (λ x. (more x).read) first others

items_read_local : {A C : Type 0} (room : Field → ℕ) (next : C → A → C) (form : C → Form A) → ((c : C) → IsLocal room (form c).read) → (c : C) (n : ℕ) → IsLocal room (items_at next (λ d. (form d).read) c n)
unfolding items_at
items_read_local {A} room next form each c zero = let none : List A = [] in given_local room none
items_read_local room next form each c (suc n) =
    then_local room (form c).read (λ x. then (items_at next (λ d. (form d).read) (next c x) n) (λ xs. given (x ∷ xs))) (each c)
    (λ x. then_local room (items_at next (λ d. (form d).read) (next c x) n) (λ xs. given (x ∷ xs)) (items_read_local room next form each (next c x) n) (λ xs. given_local room (x ∷ xs)))

pub items_local : {A C : Type 0} (room : Field → ℕ) (next : C → A → C) (form : C → Form A) (c : C) (n : ℕ) → ((d : C) → IsLocal room (form d).read) → IsLocal room (items next form c n).read
unfolding items
items_local room next form c n each = items_read_local room next form each c n

each_read_local : {R A : Type 0} (room : Field → ℕ) (form : R → Form A) → ((r : R) → IsLocal room (form r).read) → (rs : List R) → IsLocal room (each_at (λ r. (form r).read) rs)
unfolding each_at
each_read_local {A = A} room form each [] = let none : List A = [] in given_local room none
each_read_local room form each (r ∷ rs) =
    then_local room (form r).read (λ x. then (each_at (λ r. (form r).read) rs) (λ xs. given (x ∷ xs))) (each r)
    (λ x. then_local room (each_at (λ r. (form r).read) rs) (λ xs. given (x ∷ xs)) (each_read_local room form each rs) (λ xs. given_local room (x ∷ xs)))

pub each_local : {R A : Type 0} (room : Field → ℕ) (form : R → Form A) (rs : List R) → ((r : R) → IsLocal room (form r).read) → IsLocal room (each form rs).read
unfolding each
each_local room form rs one = each_read_local room form one rs
