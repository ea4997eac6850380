-- The first token of a line.
use Rattle.std.proofs.Common.{◌≡◌, ℕ, suc, ◌+◌, ◌≤◌, Bool, true, false, not, cond, List, [], ◌∷◌, length, take, drop, Some, None, position, ltb, refl, ap, ◌∙◌, sym, arith}
use Rattle.std.specs.Prelude.{◌&&◌, if◌then◌else◌}
use Rattle.std.specs.List.{position_or_len}
use Rattle.std.proofs.lemmas.Bool.Decides.{nat_tests}
use Rattle.text_words.proofs.Cuts.{is_none}
use Rattle.asm_text.specs.Tokens.{Tokens, end_with, token, begins_comment, word_goes_on, is_blank, is_mark, is_word_byte, tokens_of, with_token_byte, word_size, IsPastBlanks}

-- ---- by what the first byte is

abbrev by : Bool → Bool → Bool → ℕ → List ℕ → Tokens
by comment blank joined c cs =
    if comment then end_with (length (c ∷ cs))
    else if blank then tokens_of cs
    else if joined then with_token_byte (length (c ∷ cs)) c (tokens_of cs)
    else token (length (c ∷ cs)) (c ∷ []) (tokens_of cs)

first : (c : ℕ) (cs : List ℕ) → tokens_of (c ∷ cs) ≡ by (begins_comment c) (is_blank c) (word_goes_on cs && not (is_mark c)) c cs
unfolding tokens_of
first c cs = refl

blank_is_no_comment : (c : ℕ) → is_blank c ≡ true → begins_comment c ≡ false
blank_is_no_comment c h = grind (arith, nat_tests, h)

pub blank_passed : (c : ℕ) (cs : List ℕ) → is_blank c ≡ true → tokens_of (c ∷ cs) ≡ tokens_of cs
blank_passed c cs h =
    let e = blank_is_no_comment c h in
    first c cs ∙ rw (e, h) refl

-- where a blank stands there, what is behind it
pub blank_here : (line : List ℕ) (c : ℕ) (cs : List ℕ) → line ≡ c ∷ cs → is_blank c ≡ true → tokens_of cs ≡ tokens_of line
blank_here line c cs e h = sym (ap tokens_of e ∙ blank_passed c cs h)

pub comment_ends : (c : ℕ) (cs : List ℕ) → begins_comment c ≡ true → tokens_of (c ∷ cs) ≡ end_with (length (c ∷ cs))
comment_ends c cs h = first c cs ∙ rw h refl

pub nothing_ends : tokens_of [] ≡ end_with 0
unfolding tokens_of
nothing_ends = refl

-- ---- marks

no_join : (b : Bool) (c : ℕ) (cs : List ℕ) → by false false (b && false) c cs ≡ token (length (c ∷ cs)) (c ∷ []) (tokens_of cs)
no_join true c cs = refl
no_join false c cs = refl

pub mark_first : (c : ℕ) (cs : List ℕ) → begins_comment c ≡ false → is_blank c ≡ false → is_mark c ≡ true
    → tokens_of (c ∷ cs) ≡ token (length (c ∷ cs)) (c ∷ []) (tokens_of cs)
mark_first c cs comment blank mark = first c cs ∙ rw (comment, blank, mark) (no_join (word_goes_on cs) c cs)

-- ---- words

word_by : (b : Bool) (c : ℕ) (cs : List ℕ) → by false false (b && true) c cs
    ≡ (if b then with_token_byte (length (c ∷ cs)) c (tokens_of cs) else token (length (c ∷ cs)) (c ∷ []) (tokens_of cs))
word_by true c cs = refl
word_by false c cs = refl

word_is : (c : ℕ) → is_word_byte c ≡ true → (begins_comment c ≡ false) × (is_blank c ≡ false) × (is_mark c ≡ false)
word_is c h = (grind (arith, nat_tests, h), grind (arith, nat_tests, h), grind (arith, nat_tests, h))

one_byte : (c : ℕ) (cs : List ℕ) → is_word_byte c ≡ true → tokens_of (c ∷ cs)
    ≡ (if word_goes_on cs then with_token_byte (length (c ∷ cs)) c (tokens_of cs) else token (length (c ∷ cs)) (c ∷ []) (tokens_of cs))
one_byte c cs h =
    let w = word_is c h in
    first c cs ∙ rw (w.0, w.1, w.2) (word_by (word_goes_on cs) c cs)

pub word_first : (c : ℕ) (cs : List ℕ) → is_word_byte c ≡ true
    → tokens_of (c ∷ cs) ≡ token (length (c ∷ cs)) (c ∷ take (word_size cs) cs) (tokens_of (drop (word_size cs) cs))
word_first c [] h = one_byte c [] h
word_first c (d ∷ ds) h =
    elim (is_word_byte d) as (λ b. is_word_byte d ≡ b → tokens_of (c ∷ d ∷ ds) ≡ token (length (c ∷ d ∷ ds)) (c ∷ take (if b then suc (word_size ds) else 0) (d ∷ ds)) (tokens_of (drop (if b then suc (word_size ds) else 0) (d ∷ ds)))) [
      | true ↦ λ e. one_byte c (d ∷ ds) h ∙ rw e (ap (with_token_byte (length (c ∷ d ∷ ds)) c) (word_first d ds e))
      | false ↦ λ e. one_byte c (d ∷ ds) h ∙ rw e refl
    ] refl

-- ---- as the first token is read

pub past_blanks : (line : List ℕ) (c : ℕ) (cs : List ℕ) → line ≡ c ∷ cs → is_blank c ≡ false → IsPastBlanks line
past_blanks line c cs e h = rw e h

head_is : (line : List ℕ) (c : ℕ) (cs : List ℕ) → line ≡ c ∷ cs → IsPastBlanks line → is_blank c ≡ false
head_is line c cs e h = rw e at h

pub mark_here : (line : List ℕ) (c : ℕ) (cs : List ℕ) → line ≡ c ∷ cs → IsPastBlanks line → begins_comment c ≡ false → is_mark c ≡ true
    → token (length line) (take 1 line) (tokens_of (drop 1 line)) ≡ tokens_of line
mark_here line c cs e past comment mark =
    let blank = head_is line c cs e past in
    rw e (sym (mark_first c cs comment blank mark))

word_byte : (c : ℕ) → begins_comment c ≡ false → is_blank c ≡ false → is_mark c ≡ false → is_word_byte c ≡ true
word_byte c comment blank mark = rw (comment, blank, mark) refl

pub word_here : (line : List ℕ) (c : ℕ) (cs : List ℕ) → line ≡ c ∷ cs → IsPastBlanks line → begins_comment c ≡ false → is_mark c ≡ false
    → token (length line) (take (suc (word_size cs)) line) (tokens_of (drop (suc (word_size cs)) line)) ≡ tokens_of line
word_here line c cs e past comment mark =
    let blank = head_is line c cs e past in
    let w = word_byte c comment blank mark in
    rw e (sym (word_first c cs w))

pub comment_here : (line : List ℕ) (c : ℕ) (cs : List ℕ) → line ≡ c ∷ cs → begins_comment c ≡ true → end_with (length line) ≡ tokens_of line
comment_here line c cs e h = rw e (sym (comment_ends c cs h))

pub nothing_here : (line : List ℕ) → length line ≡ 0 → end_with (length line) ≡ tokens_of line
nothing_here [] e = sym nothing_ends
nothing_here (c ∷ cs) e = absurd (omega arith)

abbrev size_by : Bool → List ℕ → ℕ
size_by mark cs = if mark then 1 else suc (word_size cs)

-- the first token, of so many bytes
pub token_here : (line : List ℕ) (c : ℕ) (cs : List ℕ) (size : ℕ) (word rest : List ℕ) → line ≡ c ∷ cs → IsPastBlanks line → begins_comment c ≡ false
    → size ≡ size_by (is_mark c) cs → word ≡ take size line → rest ≡ drop size line
    → token (length line) word (tokens_of rest) ≡ tokens_of line
token_here line c cs size word rest e past comment s w r =
    rw (w, r, s) (
    elim (is_mark c) as (λ b. is_mark c ≡ b → token (length line) (take (size_by b cs) line) (tokens_of (drop (size_by b cs) line)) ≡ tokens_of line) [
      | true ↦ λ m. mark_here line c cs e past comment m
      | false ↦ λ m. word_here line c cs e past comment m
    ] refl
    )

-- ---- how many bytes a token has

sizes : (cs : List ℕ) → word_size cs ≡ position_or_len (λ c. not (is_word_byte c)) cs
sizes [] = refl
sizes (c ∷ cs) =
    elim (is_word_byte c) as (λ b. (if b then suc (word_size cs) else 0) ≡ cond (not (not b)) (1 + position_or_len (λ d. not (is_word_byte d)) cs) 0) [
      | true ↦ let more = sizes cs in omega (arith, more)
      | false ↦ refl
    ]

at_position : (a n at : ℕ) → cond (ltb a n) (Some a) None ≡ Some at → a ≡ at
at_position a n at h = grind (arith, nat_tests)

pub size_by_position : (cs : List ℕ) (at : ℕ) → position (λ c. not (is_word_byte c)) cs ≡ Some at → at ≡ word_size cs
size_by_position cs at h = sym (sizes cs ∙ at_position (position_or_len (λ c. not (is_word_byte c)) cs) (length cs) at h)

pub within_line : (cs : List ℕ) → word_size cs ≤ length cs
within_line [] = omega arith
within_line (c ∷ cs) =
    let more = within_line cs in
    elim (is_word_byte c) as (λ b. (if b then suc (word_size cs) else 0) ≤ length (c ∷ cs)) [
      | true ↦ omega (arith, more)
      | false ↦ omega arith
    ]

pub size_without_position : (cs : List ℕ) → position (λ c. not (is_word_byte c)) cs ≡ None → length cs ≡ word_size cs
size_without_position cs h =
    let past = is_none (position_or_len (λ c. not (is_word_byte c)) cs) (length cs) h in
    let within = within_line cs in
    let same = sizes cs in
    omega (arith, past, within, same)
