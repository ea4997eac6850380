-- Values one after another.
use Rattle.std.proofs.Common.{◌≡◌, ℕ, zero, suc, ◌+◌, ◌≤◌, Bool, true, false, List, [], ◌∷◌, ◌++◌, Option, Some, None, option_map, Result, Ok, Err, IfOk, refl, ap, ◌∙◌, sym, append_assoc, inl, inr, min, arith}
use Rattle.std.specs.Prelude.{◌⊎◌, codes, if◌then◌else◌}
use Rattle.std.specs.Str.{bytes_eq}
use Rattle.text_words.specs.Steps.{◌>>=◌, mapped}
use Rattle.asm_text.specs.Reading.{as_term, atom_of, comma, token_count, found, keyword, line_bytes_left, sign_of, signed_terms, terms, terms_behind, terms_of, value, values, wanted, with_others, with_signed_term, with_term, without_term}
use Rattle.asm_text.specs.Shown.{is_over}
use Rattle.asm_text.specs.Tokens.{Tokens, end_with, token}
use Rattle.asm_text.specs.declared.fault.LineError.{LineError}
use Rattle.asm_text.specs.declared.fault.Want.TheVariants.{Comma, Term as TermWant}
use Rattle.asm_text.specs.declared.statement.Atom.{Atom}
use Rattle.asm_text.specs.declared.statement.Term.{Term}
use Rattle.asm_text.specs.declared.statement.Value.{Value}

-- ---- what is left has no more tokens

abbrev Within : {X : Type 0} → ℕ → Result (X × Tokens) LineError → Type 0
Within n r = IfOk r (λ s. token_count s.1 ≤ n)

with_term_within : (n left : ℕ) (minus : Bool) (atom : Option Atom) (r : Result (List Term × Tokens) LineError) → Within n r → Within n (with_term left minus atom r)
with_term_within n left minus None r h = tt
with_term_within n left minus (Some atom) (Ok s) h = h
with_term_within n left minus (Some atom) (Err e) h = tt

weaker : {X : Type 0} (n m : ℕ) (r : Result (X × Tokens) LineError) → n ≤ m → Within n r → Within m r
weaker n m (Ok s) h w = omega (arith, h, w)
weaker n m (Err e) h w = tt

last_within : (sign : Option Bool) (here : Tokens) (last : ℕ) → Within (token_count here) (without_term sign here last)
last_within None here last = omega arith
last_within (Some minus) here last = tt

middle_within : (sign : Option Bool) (here : Tokens) (at : ℕ) (atom : Option Atom) (r : Result (List Term × Tokens) LineError) → Within (token_count here) r
    → Within (token_count here) (with_signed_term sign here at atom r)
middle_within None here at atom r h = omega arith
middle_within (Some minus) here at atom r h = with_term_within (token_count here) at minus atom r h

signed_within : (ts : Tokens) → Within (token_count ts) (signed_terms ts)
unfolding signed_terms
signed_within (end_with left) = omega arith
signed_within (token left word (end_with last)) = last_within (sign_of word) (token left word (end_with last)) last
signed_within (token left word (token at atom more)) =
    middle_within (sign_of word) (token left word (token at atom more)) at (atom_of atom) (signed_terms more)
    (weaker (token_count more) (1 + (1 + token_count more)) (signed_terms more) (omega arith) (signed_within more))

then_within : (n : ℕ) (t : Term) (r : Result (List Term × Tokens) LineError) → Within n r → Within n (mapped {B = List Term × Tokens} (λ s. (t ∷ s.0, s.1)) r)
then_within n t (Ok s) h = h
then_within n t (Err e) h = tt

terms_of_within : (n : ℕ) (minus : Bool) (ts : Tokens) → token_count ts ≤ n → Within n (terms_of minus ts)
terms_of_within n minus (end_with left) h = tt
terms_of_within n minus (token left word more) h = by (atom_of word)
  where
    others : Within n (signed_terms more)
    others = weaker (token_count more) n (signed_terms more) (omega (arith, h)) (signed_within more)

    by : (o : Option Atom) → Within n (◌>>=◌ {B = List Term × Tokens} (as_term left minus more o) (λ t. mapped (λ s. (t.0 ∷ s.0, s.1)) (signed_terms t.1)))
    by None = tt
    by (Some atom) = then_within n (record { left = left; minus = minus; atom = atom }) (signed_terms more) others

terms_within : (ts : Tokens) → Within (token_count ts) (terms ts)
terms_within (end_with left) = tt
terms_within (token left word more) = by (sign_of word)
  where
    by : (sign : Option Bool) → Within (1 + token_count more) (terms_behind (option_map (λ minus. (minus, more)) sign) (token left word more))
    by None = terms_of_within (1 + token_count more) false (token left word more) (omega arith)
    by (Some minus) = terms_of_within (1 + token_count more) minus more (omega arith)

as_value : (n left : ℕ) (r : Result (List Term × Tokens) LineError) → Within n r
    → Within n (◌>>=◌ {B = Value × Tokens} r (λ s. Ok (record { left = left; terms = s.0 }, s.1)))
as_value n left (Ok s) h = h
as_value n left (Err e) h = tt

value_within : (ts : Tokens) → Within (token_count ts) (value ts)
unfolding value
value_within ts = as_value (token_count ts) (line_bytes_left ts) (terms ts) (terms_within ts)

-- ---- a number of values that suffices

abbrev by_comma : Bool → ℕ → Tokens → Value → (Tokens → Result (List Value) LineError) → Result (List Value) LineError
by_comma true left more v others = others more >>= λ vs. Ok (v ∷ vs)
by_comma false left more v others = wanted left Comma

others_by_comma : (v : Value) (left : ℕ) (word : List ℕ) (more : Tokens) (others : Tokens → Result (List Value) LineError)
    → with_others v (token left word more) others ≡ by_comma (bytes_eq word (codes ",")) left more v others
unfolding keyword
others_by_comma v left word more others =
    elim (bytes_eq word (codes ",")) as (λ b. (◌>>=◌ {B = List Value} (◌>>=◌ {B = Tokens} (found left Comma more (if b then Some (tt {0}) else None)) (λ r. Ok r.1)) (λ ts. others ts >>= λ vs. Ok (v ∷ vs))) ≡ by_comma b left more v others) [
      | true ↦ refl
      | false ↦ refl
    ]

same_by_comma : (b : Bool) (left : ℕ) (more : Tokens) (v : Value) (f g : Tokens → Result (List Value) LineError) → f more ≡ g more → by_comma b left more v f ≡ by_comma b left more v g
same_by_comma true left more v f g h = ap (λ r. ◌>>=◌ {B = List Value} r (λ vs. Ok (v ∷ vs))) h
same_by_comma false left more v f g h = refl

same_others : (v : Value) (ts : Tokens) (n : ℕ) (f g : Tokens → Result (List Value) LineError) → token_count ts ≤ suc n → ((more : Tokens) → token_count more ≤ n → f more ≡ g more)
    → with_others v ts f ≡ with_others v ts g
same_others v (end_with left) n f g h same = refl
same_others v (token left word more) n f g h same =
    others_by_comma v left word more f ∙ same_by_comma (bytes_eq word (codes ",")) left more v f g (same more (omega (arith, h))) ∙ sym (others_by_comma v left word more g)

-- a value, and others behind it
abbrev and_others : (Tokens → Result (List Value) LineError) → Result (Value × Tokens) LineError → Result (List Value) LineError
and_others f r = r >>= λ s. with_others s.0 s.1 f

same_values : (n : ℕ) (f g : Tokens → Result (List Value) LineError) (r : Result (Value × Tokens) LineError) → Within (suc n) r → ((more : Tokens) → token_count more ≤ n → f more ≡ g more)
    → and_others f r ≡ and_others g r
same_values n f g (Ok s) h same = same_others s.0 s.1 n f g h same
same_values n f g (Err e) h same = refl

no_value_there : (ts : Tokens) → token_count ts ≤ 0 → value ts ≡ wanted (line_bytes_left ts) TermWant
unfolding value
no_value_there (end_with left) h = refl
no_value_there (token left word more) h = absurd (omega (arith, h))

value_fails : (ts : Tokens) (f : Tokens → Result (List Value) LineError) → token_count ts ≤ 0 → and_others f (value ts) ≡ wanted (line_bytes_left ts) TermWant
value_fails ts f h = ap (and_others f) (no_value_there ts h)

-- as many values as there are tokens are enough
enough : (n m : ℕ) (ts : Tokens) → token_count ts ≤ n → token_count ts ≤ m → values n ts ≡ values m ts
unfolding values
enough zero zero ts h k = refl
enough zero (suc m) ts h k = sym (value_fails ts (values m) h)
enough (suc n) zero ts h k = value_fails ts (values n) k
enough (suc n) (suc m) ts h k =
    same_values (min n m) (values n) (values m) (value ts) (weaker (token_count ts) (suc (min n m)) (value ts) (omega (arith, h, k)) (value_within ts))
    (λ more l. enough n m more (omega (arith, l)) (omega (arith, l)))

abbrev pub all_values : Tokens → Result (List Value) LineError
all_values ts = values (token_count ts) ts

step_of : (n : ℕ) (ts : Tokens) → values (suc n) ts ≡ and_others (values n) (value ts)
unfolding values
step_of n ts = refl

pub values_one_by_one : (ts : Tokens) → all_values ts ≡ and_others all_values (value ts)
values_one_by_one ts =
    enough (token_count ts) (suc (token_count ts)) ts (omega arith) (omega arith)
    ∙ step_of (token_count ts) ts
    ∙ same_values (token_count ts) (values (token_count ts)) all_values (value ts) (weaker (token_count ts) (suc (token_count ts)) (value ts) (omega arith) (value_within ts))
    (λ more l. enough (token_count ts) (token_count more) more l (omega arith))

-- ---- as a loop reads them: with the values before

abbrev pub before : List Value → Result (List Value) LineError → Result (List Value) LineError
before front r = mapped (λ vs. front ++ vs) r

before_more : (front : List Value) (v : Value) (r : Result (List Value) LineError) → before front (r >>= λ vs. Ok (v ∷ vs)) ≡ before (front ++ v ∷ []) r
before_more front v (Ok vs) = ap Ok (sym (append_assoc front (v ∷ []) vs))
before_more front v (Err e) = refl

-- there is no value
pub value_refused : (front : List Value) (ts : Tokens) (e : LineError) → value ts ≡ Err e → before front (all_values ts) ≡ Err e
value_refused front ts e h = ap (before front) (values_one_by_one ts ∙ ap (and_others all_values) h)

-- what a call for a value answered is what the whole call answers
pub value_refused_here : (front : List Value) (ts : Tokens) (e none : LineError) (whole : Result (List Value) LineError) → (e ≡ none) ⊎ (value ts ≡ Err e) → before front (all_values ts) ≡ whole
    → (e ≡ none) ⊎ (whole ≡ Err e)
value_refused_here front ts e none whole (inl h) same = inl h
value_refused_here front ts e none whole (inr h) same = inr (sym same ∙ value_refused front ts e h)

abbrev tail_of : List Value → Value → Tokens → Result (List Value) LineError
tail_of front v rest = before front (with_others v rest all_values)

first_of : (front : List Value) (ts rest : Tokens) (v : Value) → value ts ≡ Ok (v, rest) → before front (all_values ts) ≡ tail_of front v rest
first_of front ts rest v h = ap (before front) (values_one_by_one ts ∙ ap (and_others all_values) h)

-- it is the last one
pub last_value : (front : List Value) (ts rest : Tokens) (v : Value) → value ts ≡ Ok (v, rest) → is_over rest ≡ true → before front (all_values ts) ≡ Ok (front ++ v ∷ [])
last_value front ts (end_with left) v h e = first_of front ts (end_with left) v h
last_value front ts (token left word more) v h e = cc

by_rest : (r : Result Tokens LineError) (front : List Value) (v : Value)
    → before front (◌>>=◌ {B = List Value} r (λ ts. all_values ts >>= λ vs. Ok (v ∷ vs))) ≡ (r >>= λ ts. before (front ++ v ∷ []) (all_values ts))
by_rest (Ok ts) front v = before_more front v (all_values ts)
by_rest (Err e) front v = refl

-- a comma is wanted behind it
then_comma : (front : List Value) (v : Value) (rest : Tokens) → is_over rest ≡ false → tail_of front v rest ≡ (comma rest >>= λ ts. before (front ++ v ∷ []) (all_values ts))
then_comma front v (end_with left) e = cc
then_comma front v (token left word more) e = by_rest (comma (token left word more)) front v

pub no_comma : (front : List Value) (ts rest : Tokens) (v : Value) (e : LineError) → value ts ≡ Ok (v, rest) → is_over rest ≡ false → comma rest ≡ Err e
    → before front (all_values ts) ≡ Err e
no_comma front ts rest v e h o k =
    first_of front ts rest v h ∙ then_comma front v rest o ∙ ap (λ r. r >>= λ ts. before (front ++ v ∷ []) (all_values ts)) k

pub next_value : (front : List Value) (ts rest more : Tokens) (v : Value) → value ts ≡ Ok (v, rest) → is_over rest ≡ false → comma rest ≡ Ok more
    → before front (all_values ts) ≡ before (front ++ v ∷ []) (all_values more)
next_value front ts rest more v h o k =
    first_of front ts rest v h ∙ then_comma front v rest o ∙ ap (λ r. r >>= λ ts. before (front ++ v ∷ []) (all_values ts)) k
