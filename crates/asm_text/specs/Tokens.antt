-- The tokens of a line: words, and marks that stand for themselves.
use Rattle.std.specs.Prelude.{◌≡◌, ℕ, suc, ◌==◌, ◌&&◌, ◌||◌, Bool, false, not, List, [], ◌∷◌, length, if◌then◌else◌}

-- the tokens of a line that remain; each with how many bytes of the line are left where it begins, and at the end
-- how many are left there
pub data Tokens : Type 0 where
  end_with : ℕ → Tokens
  token : ℕ → List ℕ → Tokens → Tokens

-- a blank, a tab, a carriage return
abbrev pub is_blank : ℕ → Bool
is_blank c = (c == 32) || (c == 9) || (c == 13)

-- `,` `:` `=` `+` `-`
abbrev pub is_mark : ℕ → Bool
is_mark c = (c == 44) || (c == 58) || (c == 61) || (c == 43) || (c == 45)

-- `;`
abbrev pub begins_comment : ℕ → Bool
begins_comment c = c == 59

abbrev pub is_word_byte : ℕ → Bool
is_word_byte c = not (is_blank c || is_mark c || begins_comment c)

-- a word goes on
abbrev pub word_goes_on : List ℕ → Bool
word_goes_on [] = false
word_goes_on (c ∷ cs) = is_word_byte c

-- a byte more at the head of the first token, where so many bytes are left
abbrev pub with_token_byte : ℕ → ℕ → Tokens → Tokens
with_token_byte left c (end_with n) = token left (c ∷ []) (end_with n)
with_token_byte left c (token n word more) = token left (c ∷ word) more

-- the tokens of what is left of a line
unfoldable pub tokens_of : List ℕ → Tokens
tokens_of [] = end_with 0
tokens_of (c ∷ cs) =
    if begins_comment c then end_with (length (c ∷ cs))
    else if is_blank c then tokens_of cs
    else if word_goes_on cs && not (is_mark c) then with_token_byte (length (c ∷ cs)) c (tokens_of cs)
    else token (length (c ∷ cs)) (c ∷ []) (tokens_of cs)

-- how many bytes of a word stand at the head
abbrev pub word_size : List ℕ → ℕ
word_size [] = 0
word_size (c ∷ cs) = if is_word_byte c then suc (word_size cs) else 0

-- no blank stands at the head
abbrev pub IsPastBlanks : List ℕ → Type 0
IsPastBlanks [] = Unit {0}
IsPastBlanks (c ∷ cs) = is_blank c ≡ false
