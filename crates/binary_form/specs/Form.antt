-- A form of bytes: how they are read, with the first fault, how a value is spelled, and which values have a spelling.
use Rattle.std.specs.Prelude.{◌≡◌, ℕ, zero, suc, ◌+◌, ◌<◌, ◌^◌, Bool, true, false, ◌==◌, List, [], ◌∷◌, ◌++◌, length, take, drop, replicate, slice_index, Option, Some, None, Result, Ok, Err, nat_lt, if◌then◌else◌, IsTrue}
use Rattle.std.specs.Int.{Width, byte_len, from_le_bytes, to_le_bytes}
use Rattle.std.specs.List.{list_all}
use Rattle.std.specs.Str.{bytes_eq}
use Rattle.binary_form.specs.declared.fault.Field.{Field}
use Rattle.binary_form.specs.declared.fault.FormFault.{FormFault}
use Rattle.binary_form.specs.declared.fault.FormFault.TheVariants.{Short, Bad, Trailing}
use Rattle.binary_form.specs.declared.fault.FormError.{FormError}
use Rattle.binary_form.specs.declared.fault.FormError.TheVariants.{NoMemory, At}

-- each is a byte
abbrev pub IsBytes : List ℕ → Type 0
IsBytes bytes = (i : ℕ) → slice_index bytes i < 256

infixl 10 ◌>>=◌
-- a step, and then the next one where it did not fail
abbrev pub ◌>>=◌ : {A B : Type 0} → Result A FormFault → (A → Result B FormFault) → Result B FormFault
(Ok x) >>= f = f x
(Err e) >>= f = Err e

-- `read` answers the value and the bytes behind it, or the first fault
pub record Form (A : Type 0) : Type 1 where
  pub read : List ℕ → Result (A × List ℕ) FormFault
  pub spell : A → List ℕ
  pub fits : A → Type 0

-- how many bytes are left from where the field of a fault begins
abbrev pub fault_bytes_left : FormFault → ℕ
fault_bytes_left (Short left) = left
fault_bytes_left (Bad left field) = left
fault_bytes_left (Trailing left) = left

-- more than the end of the bytes stopped it, or nothing did
abbrev pub IsSettled : {X : Type 0} → Result X FormFault → Type 0
IsSettled (Ok x) = Unit {0}
IsSettled (Err (Short left)) = ⊥
IsSettled (Err (Bad left field)) = Unit {0}
IsSettled (Err (Trailing left)) = Unit {0}

-- the same with n bytes more behind
abbrev pub extended : {X : Type 0} → (X → X) → ℕ → Result X FormFault → Result X FormFault
extended more n (Ok x) = Ok (more x)
extended more n (Err (Short left)) = Err (Short left)
extended more n (Err (Bad left field)) = Err (Bad (left + n) field)
extended more n (Err (Trailing left)) = Err (Trailing (left + n))

abbrev pub longer : {A : Type 0} → List ℕ → A × List ℕ → A × List ℕ
longer more x = (x.0, x.1 ++ more)

-- the fault is the one that is read, unless memory ran out
abbrev pub Fails : {Y : Type 0} → FormError → Result Y FormFault → Type 0
Fails NoMemory read = Unit {0}
Fails (At s) read = read ≡ Err s

-- the answer of a reader is what is read, unless memory ran out
abbrev pub Gives : {X Y : Type 0} → (X → Y) → Result X FormError → Result Y FormFault → Type 0
Gives view (Ok x) read = read ≡ Ok (view x)
Gives view (Err e) read = Fails e read

-- ---- fields

unfoldable pub number_at : Width → List ℕ → Result (ℕ × List ℕ) FormFault
number_at w bytes =
    if nat_lt (length bytes) (byte_len w) then Err (Short (length bytes))
    else Ok (from_le_bytes w (take (byte_len w) bytes), drop (byte_len w) bytes)

-- a number, its low byte first
unfoldable pub number : Width → Form ℕ
number w = record { read = number_at w; spell = to_le_bytes w; fits = λ n. n < 256 ^ byte_len w }

unfoldable pub byte_at : List ℕ → Result (ℕ × List ℕ) FormFault
byte_at [] = Err (Short 0)
byte_at (b ∷ rest) = Ok (b, rest)

-- a number of one byte
unfoldable pub byte : Form ℕ
byte = record { read = byte_at; spell = λ b. b ∷ []; fits = λ b. b < 256 }

unfoldable pub bytes_at : ℕ → List ℕ → Result (List ℕ × List ℕ) FormFault
bytes_at n bytes = if nat_lt (length bytes) n then Err (Short (length bytes)) else Ok (take n bytes, drop n bytes)

-- so many bytes, as they are
unfoldable pub fixed_bytes : ℕ → Form (List ℕ)
fixed_bytes n = record { read = bytes_at n; spell = λ t. t; fits = λ t. (length t ≡ n) × IsBytes t }

abbrev pub coded_in : {A : Type 0} → Field → ℕ → List ℕ → Option A → Result (A × List ℕ) FormFault
coded_in field left rest (Some x) = Ok (x, rest)
coded_in field left rest None = Err (Bad left field)

unfoldable pub coded_at : {A : Type 0} → ℕ → (List ℕ → Option A) → Field → List ℕ → Result (A × List ℕ) FormFault
coded_at n decode field bytes =
    if nat_lt (length bytes) n then Err (Short (length bytes))
    else coded_in field (length bytes) (drop n bytes) (decode (take n bytes))

-- so many bytes that are decoded as one
unfoldable pub coded : {A : Type 0} → ℕ → (List ℕ → Option A) → (A → List ℕ) → Field → Form A
coded n decode encode field = record {
  read = coded_at n decode field;
  spell = encode;
  fits = λ x. decode (encode x) ≡ Some x;
}

unfoldable pub tag_at : List ℕ → Field → List ℕ → Result (List ℕ) FormFault
tag_at wanted field bytes =
    if nat_lt (length bytes) (length wanted) then Err (Short (length bytes))
    else (if bytes_eq (take (length wanted) bytes) wanted then Ok (drop (length wanted) bytes) else Err (Bad (length bytes) field))

unfoldable pub gap_at : ℕ → Field → List ℕ → Result (List ℕ) FormFault
gap_at n field bytes =
    if nat_lt (length bytes) n then Err (Short (length bytes))
    else (if list_all (λ b. b == 0) (take n bytes) then Ok (drop n bytes) else Err (Bad (length bytes) field))

-- so many zeros, and there is no value
unfoldable pub absent_value : {A : Type 0} → ℕ → Field → Form (Option A)
absent_value n field = record {
  read = λ bytes. gap_at n field bytes >>= λ rest. Ok (None, rest);
  spell = λ o. replicate n 0;
  fits = λ o. o ≡ None;
}

-- ---- forms of forms

abbrev pub spelled_there : {A : Type 0} → Form A → Option A → List ℕ
spelled_there f None = []
spelled_there f (Some x) = f.spell x

abbrev pub fits_there : {A : Type 0} → Form A → Option A → Type 0
fits_there f None = ⊥
fits_there f (Some x) = f.fits x

-- there is a value, of this form
unfoldable pub present : {A : Type 0} → Form A → Form (Option A)
present f = record {
  read = λ bytes. f.read bytes >>= λ x. Ok (Some x.0, x.1);
  spell = spelled_there f;
  fits = fits_there f;
}

abbrev pub fits_either : Bool → Type 0 → Type 0 → Type 0
fits_either true p q = p
fits_either false p q = q

-- one form or the other, by what stands before
unfoldable pub either : {A : Type 0} → Bool → Form A → Form A → Form A
either b f g = record {
  read = λ bytes. if b then f.read bytes else g.read bytes;
  spell = λ x. if b then f.spell x else g.spell x;
  fits = λ x. fits_either b (f.fits x) (g.fits x);
}

-- a field with a condition on it and on what stands before
unfoldable pub only : {A : Type 0} → (A → Bool) → Field → Form A → Form A
only test name f = record {
  read = λ bytes. f.read bytes >>= λ x. if test x.0 then Ok x else Err (Bad (length bytes) name);
  spell = f.spell;
  fits = λ x. f.fits x × IsTrue (test x);
}

-- the value of this field is `get` of the whole, and then the rest
unfoldable pub field : {S A : Type 0} → (S → A) → Form A → (A → Form S) → Form S
field get f more = record {
  read = λ bytes. f.read bytes >>= λ x. (more x.0).read x.1;
  spell = λ s. f.spell (get s) ++ (more (get s)).spell s;
  fits = λ s. f.fits (get s) × (more (get s)).fits s;
}

-- these bytes, and then the rest
unfoldable pub tag : {S : Type 0} → List ℕ → Field → Form S → Form S
tag wanted name more = record {
  read = λ bytes. tag_at wanted name bytes >>= λ rest. more.read rest;
  spell = λ s. wanted ++ more.spell s;
  fits = more.fits;
}

-- so many zeros, and then the rest
unfoldable pub gap : {S : Type 0} → ℕ → Field → Form S → Form S
gap n name more = record {
  read = λ bytes. gap_at n name bytes >>= λ rest. more.read rest;
  spell = λ s. replicate n 0 ++ more.spell s;
  fits = more.fits;
}

-- nothing more: the whole is this
unfoldable pub done : {S : Type 0} → S → Form S
done made = record { read = λ bytes. Ok (made, bytes); spell = λ s. []; fits = λ s. s ≡ made }

unfoldable pub items_at : {A C : Type 0} → (C → A → C) → (C → List ℕ → Result (A × List ℕ) FormFault) → C → ℕ → List ℕ → Result (List A × List ℕ) FormFault
items_at next read c zero bytes = Ok ([], bytes)
items_at next read c (suc n) bytes = read c bytes >>= λ x. items_at next read (next c x.0) n x.1 >>= λ ys. Ok (x.0 ∷ ys.0, ys.1)

unfoldable pub spells : {A C : Type 0} → (C → A → C) → (C → A → List ℕ) → C → List A → List ℕ
spells next spell c [] = []
spells next spell c (x ∷ xs) = spell c x ++ spells next spell (next c x) xs

unfoldable pub all_fit : {A C : Type 0} → (C → A → C) → (C → A → Type 0) → C → List A → Type 0
all_fit next fits c [] = Unit {0}
all_fit next fits c (x ∷ xs) = fits c x × all_fit next fits (next c x) xs

-- so many items, each by what the ones before it left
unfoldable pub items : {A C : Type 0} → (C → A → C) → (C → Form A) → C → ℕ → Form (List A)
items next form c n = record {
  read = items_at next (λ d. (form d).read) c n;
  spell = spells next (λ d. (form d).spell) c;
  fits = λ xs. (length xs ≡ n) × all_fit next (λ d. (form d).fits) c xs;
}

unfoldable pub each_at : {R A : Type 0} → (R → List ℕ → Result (A × List ℕ) FormFault) → List R → List ℕ → Result (List A × List ℕ) FormFault
each_at read [] bytes = Ok ([], bytes)
each_at read (r ∷ rs) bytes = read r bytes >>= λ x. each_at read rs x.1 >>= λ ys. Ok (x.0 ∷ ys.0, ys.1)

unfoldable pub each_spelled : {R A : Type 0} → (R → A → List ℕ) → List R → List A → List ℕ
each_spelled spell [] xs = []
each_spelled spell (r ∷ rs) [] = []
each_spelled spell (r ∷ rs) (x ∷ xs) = spell r x ++ each_spelled spell rs xs

unfoldable pub each_fit : {R A : Type 0} → (R → A → Type 0) → List R → List A → Type 0
each_fit fits [] [] = Unit {0}
each_fit fits [] (x ∷ xs) = ⊥
each_fit fits (r ∷ rs) [] = ⊥
each_fit fits (r ∷ rs) (x ∷ xs) = fits r x × each_fit fits rs xs

-- one for each of these, by it
unfoldable pub each : {R A : Type 0} → (R → Form A) → List R → Form (List A)
each form rs = record {
  read = each_at (λ r. (form r).read) rs;
  spell = each_spelled (λ r. (form r).spell) rs;
  fits = each_fit (λ r. (form r).fits) rs;
}

-- the bytes are this, and no byte is behind it
unfoldable pub whole : {A : Type 0} → Form A → List ℕ → Result A FormFault
whole f bytes = f.read bytes >>= λ x. if length x.1 == 0 then Ok x.0 else Err (Trailing (length x.1))
