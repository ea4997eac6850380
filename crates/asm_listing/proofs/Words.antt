-- The words of a printed line: how they part, and what each spells.
use Rattle.std.proofs.Common.{◌≡◌, ℕ, zero, suc, ◌^◌, ◌<◌, Bool, true, false, List, [], ◌∷◌, ◌++◌, length, take, drop, Option, Some, None, Result, refl, ap, sym, ◌∙◌, arith}
use Rattle.std.specs.Prelude.{◌==◌, ◌&&◌, if◌then◌else◌, nat_le, nat_lt, codes, decimal, option_map, option_and_then}
use Rattle.std.specs.Char.{is_ascii_digit}
use Rattle.std.specs.Cmp.Lexicographic.{bytes_decides}
use Rattle.std.specs.List.{list_all}
use Rattle.std.specs.Option.{option_or}
use Rattle.std.specs.Result.{result_ok}
use Rattle.std.specs.Str.{bytes_eq}
use Rattle.std.proofs.lemmas.Bool.{agree_below_at, and_from, and_parts, both_ways, eqb-true, false_from_ne_true, false≢true, lt-ltb, ltb-true}
use Rattle.std.proofs.lemmas.Bool.Decides.{nat_tests}
use Rattle.std.proofs.lemmas.Fmt.{decimal_nonempty}
use Rattle.std.proofs.lemmas.List.{drop_at, take_at}
use Rattle.muen_num.proofs.Lists.{each_from}
use Rattle.hex.specs.Hex.{encode_lower, encode_with}
use Rattle.text_words.specs.Groups.{before_mark, behind_mark, groups_of, number_of_groups}
use Rattle.text_words.specs.declared.number.NumberError.{NumberError}
use Rattle.asm_text.specs.Reading.{atom_of, sign_of}
use Rattle.asm_text.specs.Tokens.{token, word_goes_on, is_word_byte, tokens_of, word_size}
use Rattle.asm_text.specs.Words.{behind, if_below, by_mark, number_in, register_of, symbol_of}
use Rattle.asm_text.specs.declared.statement.Atom.TheVariants.{Number as NumberAtom, Name as NameAtom}
use Rattle.asm_text.proofs.TokenLaws.{word_first}
use Rattle.asm_listing.specs.Source.{byte_text, register_text}
use Rattle.text_words.proofs.Numerals.{decimal_read, digits_alone, first_digit}

-- ---- all bytes of a text

all_taken : (p : ℕ → Bool) (n : ℕ) (xs : List ℕ) → list_all p xs ≡ true → list_all p (take n xs) ≡ true
all_taken p zero xs h = refl
all_taken p (suc n) [] h = refl
all_taken p (suc n) (x ∷ xs) h =
    let a = and_parts (p x) (list_all p xs) h in
    and_from (p x) (list_all p (take n xs)) a.0 (all_taken p n xs a.1)

-- of two texts one alone has such bytes only
unlike : (p : ℕ → Bool) (xs ys : List ℕ) → list_all p xs ≡ true → list_all p ys ≡ false → bytes_eq xs ys ≡ false
unlike p xs ys all other =
    false_from_ne_true (bytes_eq xs ys) (λ e. both_ways (list_all p ys) other (ap (list_all p) (sym ((bytes_decides xs ys).0 e)) ∙ all))

-- ---- words part

-- a word has a byte, and all its bytes are those of words
pub record IsWord (word : List ℕ) : Type 0 where
  pub some : 0 < length word
  pub bytes : list_all is_word_byte word ≡ true

pub word_by : (word : List ℕ) → (nat_lt 0 (length word) && list_all is_word_byte word) ≡ true → IsWord word
word_by word h =
    let a = and_parts (nat_lt 0 (length word)) (list_all is_word_byte word) h in
    record { some = ltb-true 0 (length word) a.0; bytes = a.1 }

size_before : (cs rest : List ℕ) → list_all is_word_byte cs ≡ true → word_goes_on rest ≡ false → length cs ≡ word_size (cs ++ rest)
size_before [] [] h ends = refl
size_before [] (d ∷ rest) h ends = sym (ap (λ b. if b then suc (word_size rest) else 0) ends)
size_before (c ∷ cs) rest h ends =
    let a = and_parts (is_word_byte c) (list_all is_word_byte cs) h in
    ap suc (size_before cs rest a.1 ends) ∙ sym (ap (λ b. if b then suc (word_size (cs ++ rest)) else 0) a.0)

-- a word at the head is the first token, where what follows is none of its bytes
pub word_parted : (word rest : List ℕ) → IsWord word → word_goes_on rest ≡ false → tokens_of (word ++ rest) ≡ token (length (word ++ rest)) word (tokens_of rest)
word_parted [] rest h ends = absurd (omega (arith, h.some))
word_parted (c ∷ cs) rest h ends =
    let a = and_parts (is_word_byte c) (list_all is_word_byte cs) h.bytes in
    let n = word_size (cs ++ rest) in
    let long = size_before cs rest a.1 ends in
    word_first c (cs ++ rest) a.0
    ∙ (λ i. token (length (c ∷ cs ++ rest)) (c ∷ take_at cs rest n long i) (tokens_of (drop_at cs rest n long i)))

-- a word is no mark, and so no sign
pub no_mark : (word : List ℕ) (mark : ℕ) → IsWord word → is_word_byte mark ≡ false → bytes_eq word (mark ∷ []) ≡ false
no_mark word mark h m = unlike is_word_byte word (mark ∷ []) h.bytes (ap (λ b. b && true) m)

pub no_sign : (word : List ℕ) → IsWord word → sign_of word ≡ None
no_sign word h = λ i. if no_mark word 45 h refl i then Some true else if no_mark word 43 h refl i then Some false else None

-- ---- numbers

word_digit : (c : ℕ) → is_ascii_digit c ≡ true → is_word_byte c ≡ true
word_digit c h = grind (arith, nat_tests)

module _ (n : ℕ) (h : n < 2 ^ 64) where
  pub decimal_word : IsWord (decimal n)
  decimal_word = record { some = decimal_nonempty n h; bytes = each_from is_ascii_digit is_word_byte word_digit (decimal n) (digits_alone n h) }

  no_prefix : behind (codes "0x") (decimal n) ≡ None
  no_prefix =
      ap (λ b. if b then Some (drop 2 (decimal n)) else None)
      (unlike is_ascii_digit (take 2 (decimal n)) (codes "0x") (all_taken is_ascii_digit 2 (decimal n) (digits_alone n h)) refl)

  no_base : behind_mark (decimal n) ≡ None
  no_base =
      ap (λ b. if b then Some (drop 3 (decimal n)) else None)
      (unlike is_ascii_digit (take 3 (decimal n)) (codes "16#") (all_taken is_ascii_digit 3 (decimal n) (digits_alone n h)) refl)

  number_reads : number_in (decimal n) ≡ Some n
  number_reads =
      λ i.
      by_mark (no_prefix i)
      (option_or (option_and_then (λ middle. number_of_groups (groups_of middle)) (option_and_then before_mark (no_base i))) (result_ok (decimal_read n h i)))

  pub decimal_atom : atom_of (decimal n) ≡ Some (NumberAtom n)
  decimal_atom = λ i. if first_digit n h i then option_map NumberAtom (number_reads i) else option_map NameAtom (symbol_of (decimal n))

-- ---- registers

some_byte : (c : ℕ) (cs : List ℕ) → 0 < length (c ∷ cs)
some_byte c cs = omega arith

pub register_word : (r : ℕ) → r < 16 → IsWord (register_text r)
register_word r h =
    record { some = some_byte 114 (decimal r); bytes = (decimal_word r (omega arith)).bytes }

pub register_reads : (r : ℕ) → r < 16 → register_of (register_text r) ≡ Some r
register_reads r h =
    ap (λ (x : Result ℕ NumberError). option_and_then (if_below 16) (result_ok x)) (decimal_read r (omega arith)) ∙ ap (λ b. if b then Some r else None) (lt-ltb r 16 h)

-- ---- bytes in hexadecimal digits

is_number : Option ℕ → ℕ → Bool
is_number None n = false
is_number (Some m) n = m == n

is_number-true : (o : Option ℕ) (n : ℕ) → is_number o n ≡ true → o ≡ Some n
unfolding is_number
is_number-true None n h = absurd (false≢true h)
is_number-true (Some m) n h = ap Some (eqb-true m n h)

-- no control byte
abbrev pub is_seen : ℕ → Bool
is_seen c = nat_le 32 c

reads_byte : ℕ → Bool
reads_byte b = list_all is_word_byte (byte_text b) && (list_all is_seen (byte_text b) && is_number (number_in (byte_text b)) b)

each_byte : (b : ℕ) → b < 256 → reads_byte b ≡ true
unfolding reads_byte is_number encode_with
each_byte b h = agree_below_at reads_byte (λ _. true) 256 b refl h

module _ (b : ℕ) (h : b < 256) where
  byte_parts : (list_all is_word_byte (byte_text b) ≡ true) × (list_all is_seen (byte_text b) ≡ true) × (number_in (byte_text b) ≡ Some b)
  unfolding reads_byte
  byte_parts =
      let one = and_parts (list_all is_word_byte (byte_text b)) (list_all is_seen (byte_text b) && is_number (number_in (byte_text b)) b) (each_byte b h) in
      let two = and_parts (list_all is_seen (byte_text b)) (is_number (number_in (byte_text b)) b) one.1 in
      (one.0, two.0, is_number-true (number_in (byte_text b)) b two.1)

  pub byte_word : IsWord (byte_text b)
  byte_word = record { some = some_byte 48 (120 ∷ encode_lower (b ∷ [])); bytes = byte_parts.0 }

  pub byte_seen : list_all is_seen (byte_text b) ≡ true
  byte_seen = byte_parts.1

  pub byte_atom : atom_of (byte_text b) ≡ Some (NumberAtom b)
  byte_atom = ap (option_map NumberAtom) byte_parts.2
