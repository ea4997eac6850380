-- Terms one after another.
use Rattle.std.proofs.Common.{◌≡◌, ℕ, Bool, List, [], ◌∷◌, ◌++◌, Option, Some, None, Result, Ok, Err, option_map, refl, ap, ◌∙◌, sym, append_assoc, append-nil}
use Rattle.text_words.specs.Steps.{◌>>=◌, mapped}
use Rattle.asm_text.specs.Reading.{as_term, atom_of, sign_at, sign_of, signed_terms, term_of, terms_of, with_signed_term, with_term, without_term}
use Rattle.asm_text.specs.Tokens.{Tokens, end_with, token}
use Rattle.asm_text.specs.declared.fault.LineError.{LineError}
use Rattle.asm_text.specs.declared.statement.Atom.{Atom}
use Rattle.asm_text.specs.declared.statement.Term.{Term}

-- a term, and then others
abbrev and_others : Term × Tokens → Result (List Term × Tokens) LineError
and_others t = mapped (λ r. (t.0 ∷ r.0, r.1)) (signed_terms t.1)

-- where a sign stands there
abbrev behind_sign : Option (Bool × Tokens) → Tokens → Result (List Term × Tokens) LineError
behind_sign None ts = Ok ([], ts)
behind_sign (Some s) ts = term_of s.0 s.1 >>= and_others

then_is : (t : Term) (r : Result (List Term × Tokens) LineError) → ◌>>=◌ {B = List Term × Tokens} r (λ s. Ok (t ∷ s.0, s.1)) ≡ mapped (λ s. (t ∷ s.0, s.1)) r
then_is t (Ok s) = refl
then_is t (Err e) = refl

with_term_is : (left : ℕ) (minus : Bool) (atom : Option Atom) (more : Tokens)
    → with_term left minus atom (signed_terms more) ≡ (as_term left minus more atom >>= and_others)
with_term_is left minus None more = refl
with_term_is left minus (Some atom) more = then_is (record { left = left; minus = minus; atom = atom }) (signed_terms more)

between : (sign : Option Bool) (here : Tokens) (at : ℕ) (word : List ℕ) (more : Tokens)
    → with_signed_term sign here at (atom_of word) (signed_terms more) ≡ behind_sign (option_map (λ minus. (minus, token at word more)) sign) here
between None here at word more = refl
between (Some minus) here at word more = with_term_is at minus (atom_of word) more

at_last : (sign : Option Bool) (here : Tokens) (last : ℕ) → without_term sign here last ≡ behind_sign (option_map (λ minus. (minus, end_with last)) sign) here
at_last None here last = refl
at_last (Some minus) here last = refl

-- the terms that remain, one by one
pub terms_by_sign : (ts : Tokens) → signed_terms ts ≡ behind_sign (sign_at ts) ts
unfolding signed_terms
terms_by_sign (end_with left) = refl
terms_by_sign (token left word (end_with last)) = at_last (sign_of word) (token left word (end_with last)) last
terms_by_sign (token left word (token at atom more)) = between (sign_of word) (token left word (token at atom more)) at atom more

-- ---- as a loop reads them: with the terms before

abbrev pub before : List Term → Result (List Term × Tokens) LineError → Result (List Term × Tokens) LineError
before front r = mapped (λ s. (front ++ s.0, s.1)) r

before_more : (front : List Term) (t : Term) (r : Result (List Term × Tokens) LineError)
    → before front (mapped (λ s. (t ∷ s.0, s.1)) r) ≡ before (front ++ t ∷ []) r
before_more front t (Ok s) = ap (λ xs. Ok (xs, s.1)) (sym (append_assoc front (t ∷ []) s.0))
before_more front t (Err e) = refl

-- no sign stands there
pub no_more_terms : (front : List Term) (ts : Tokens) → sign_at ts ≡ None → before front (signed_terms ts) ≡ Ok (front, ts)
no_more_terms front ts h =
    ap (before front) (terms_by_sign ts ∙ ap (λ o. behind_sign o ts) h) ∙ ap (λ xs. Ok (xs, ts)) (append-nil front)

-- a sign and no term
pub no_term : (front : List Term) (ts more : Tokens) (minus : Bool) (e : LineError) → sign_at ts ≡ Some (minus, more) → term_of minus more ≡ Err e
    → before front (signed_terms ts) ≡ Err e
no_term front ts more minus e h t = ap (before front) (terms_by_sign ts ∙ ap (λ o. behind_sign o ts) h ∙ ap (λ r. r >>= and_others) t)

-- a sign and a term
pub term_more : (front : List Term) (ts more rest : Tokens) (minus : Bool) (t : Term) → sign_at ts ≡ Some (minus, more) → term_of minus more ≡ Ok (t, rest)
    → before front (signed_terms ts) ≡ before (front ++ t ∷ []) (signed_terms rest)
term_more front ts more rest minus t h e =
    ap (before front) (terms_by_sign ts ∙ ap (λ o. behind_sign o ts) h ∙ ap (λ r. r >>= and_others) e) ∙ before_more front t (signed_terms rest)

-- ---- a sum

-- a term, and then others behind it
pub term_then : (minus : Bool) (ts rest : Tokens) (t : Term) → term_of minus ts ≡ Ok (t, rest) → before (t ∷ []) (signed_terms rest) ≡ terms_of minus ts
term_then minus ts rest t h = sym (ap (λ r. r >>= and_others) h)

pub term_fails : (minus : Bool) (ts : Tokens) (e : LineError) → term_of minus ts ≡ Err e → terms_of minus ts ≡ Err e
term_fails minus ts e h = ap (λ r. r >>= and_others) h
