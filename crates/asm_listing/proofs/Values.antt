-- What numbers in a printed line read as: immediates, and what is added to a register.
use Rattle.std.proofs.Common.{◌≡◌, ℕ, zero, suc, ◌^◌, ◌<◌, Bool, true, false, ℤ, pos, negsuc, ◌+ℤ◌, List, [], ◌∷◌, ◌++◌, length, Option, Some, Result, Ok, refl, ap, sym, subst, ◌∙◌, add-zero, w32, arith}
use Rattle.std.specs.Prelude.{codes, decimal, option_map}
use Rattle.std.specs.Fmt.{signed_decimal}
use Rattle.std.specs.Int.RustNames.{FitsSigned}
use Rattle.std.specs.Str.{bytes_eq}
use Rattle.std.proofs.lemmas.Int.{ints}
use Rattle.text_words.specs.Steps.{◌>>=◌, mapped}
use Rattle.asm_text.specs.Layout.{SymbolTable}
use Rattle.asm_text.specs.Meaning.{sum_of}
use Rattle.asm_text.specs.Reading.{as_term, atom_of, displacement, found, line_bytes_left, register_token, sign_of, signed_terms, terms_behind, terms_of, value, with_signed_term}
use Rattle.asm_text.specs.Tokens.{Tokens, end_with, token, begins_comment, word_goes_on, is_blank, is_mark, tokens_of}
use Rattle.asm_text.specs.declared.fault.LineError.{LineError}
use Rattle.asm_text.specs.declared.fault.Want.TheVariants.{Register}
use Rattle.asm_text.specs.declared.statement.Atom.TheVariants.{Number as NumberAtom}
use Rattle.asm_text.specs.declared.statement.Term.{Term}
use Rattle.asm_text.specs.declared.statement.Value.{Value}
use Rattle.asm_listing.specs.Source.{displacement_text, register_text}
use Rattle.asm_text.proofs.TokenLaws.{mark_first}
use Rattle.asm_listing.proofs.Words.{IsWord, decimal_atom, decimal_word, no_mark, no_sign, register_reads, word_parted}

-- neither a label's mark nor that of a name for a number
abbrev pub IsUnmarked : Tokens → Type 0
IsUnmarked (end_with left) = Unit {0}
IsUnmarked (token left word more) = (bytes_eq word (codes ":") ≡ false) × (bytes_eq word (codes "=") ≡ false)

pub unmarked_word : (left : ℕ) (word : List ℕ) (more : Tokens) → IsWord word → IsUnmarked (token left word more)
unmarked_word left word more h = (no_mark word 58 h refl, no_mark word 61 h refl)

-- a text that begins with a word
pub unmarked_text : (word rest : List ℕ) → IsWord word → word_goes_on rest ≡ false → IsUnmarked (tokens_of (word ++ rest))
unmarked_text word rest h ends =
    subst IsUnmarked (sym (word_parted word rest h ends)) (unmarked_word (length (word ++ rest)) word (tokens_of rest) h)

-- ---- one number

abbrev pub number_term : ℕ → Bool → ℕ → Term
number_term left minus n = record { left = left; minus = minus; atom = NumberAtom n }

abbrev pub one_value : ℕ → Term → Value
one_value left t = record { left = left; terms = t ∷ [] }

abbrev as_value : ℕ → List Term × Tokens → Result (Value × Tokens) LineError
as_value left x = Ok (record { left = left; terms = x.0 }, x.1)

-- no term follows
abbrev pub IsLast : Tokens → Type 0
IsLast more = signed_terms more ≡ Ok ([], more)

pub ended : (left : ℕ) → IsLast (end_with left)
unfolding signed_terms
ended left = refl

-- a comma and a word follow
pub comma_ends : (left at : ℕ) (word : List ℕ) (more : Tokens) → IsLast (token left (codes ",") (token at word more))
unfolding signed_terms
comma_ends left at word more = refl

one_term : (left : ℕ) (minus : Bool) (word : List ℕ) (n : ℕ) (more : Tokens) → atom_of word ≡ Some (NumberAtom n) → IsLast more
    → terms_of minus (token left word more) ≡ Ok (number_term left minus n ∷ [], more)
one_term left minus word n more atom last =
    ap (λ o. ◌>>=◌ {B = List Term × Tokens} (as_term left minus more o) (λ t. mapped (λ r. (t.0 ∷ r.0, r.1)) (signed_terms t.1))) atom
    ∙ ap (mapped {B = List Term × Tokens} (λ r. (number_term left minus n ∷ r.0, r.1))) last

pub number_value : (left : ℕ) (word : List ℕ) (n : ℕ) (more : Tokens) → IsWord word → atom_of word ≡ Some (NumberAtom n) → IsLast more
    → value (token left word more) ≡ Ok (one_value left (number_term left false n), more)
unfolding value
number_value left word n more h atom last =
    ap (λ (s : Option Bool). terms_behind (option_map (λ minus. (minus, more)) s) (token left word more) >>= as_value left) (no_sign word h)
    ∙ ap (λ (r : Result (List Term × Tokens) LineError). r >>= as_value left) (one_term left false word n more atom last)

minus_value : (left at : ℕ) (word : List ℕ) (n : ℕ) (more : Tokens) → atom_of word ≡ Some (NumberAtom n) → IsLast more
    → value (token left (codes "-") (token at word more)) ≡ Ok (one_value left (number_term at true n), more)
unfolding value
minus_value left at word n more atom last =
    ap (λ (r : Result (List Term × Tokens) LineError). r >>= as_value left) (one_term at true word n more atom last)

-- the sum of this one number
abbrev pub sum_is : List Term → ℤ → Type 0
sum_is terms z = (names : SymbolTable) → sum_of names terms ≡ Ok (record { number = z; labels = pos 0 })

pub plus_sum : (left n : ℕ) → sum_is (number_term left false n ∷ []) (pos n)
unfolding sum_of
plus_sum left n names = λ i. Ok (record { number = pos (add-zero n i); labels = pos 0 })

minus_sum : (left n : ℕ) → sum_is (number_term left true (suc n) ∷ []) (negsuc n)
unfolding sum_of
minus_sum left n names =
    let e : negsuc n +ℤ pos 0 ≡ negsuc n = omega (arith, ints) in
    λ i. Ok (record { number = e i; labels = pos 0 })

-- ---- signed numbers

-- what is read there, behind which this is left, and what it comes to
pub record SumRead (read_by : Tokens → Result (Value × Tokens) LineError) (ts more : Tokens) (z : ℤ) : Type 0 where
  pub read : Value
  pub is : read_by ts ≡ Ok (read, more)
  pub sum : (names : SymbolTable) → sum_of names read.terms ≡ Ok (record { number = z; labels = pos 0 })

pub small : (z : ℤ) → FitsSigned w32 z → (n : ℕ) → z ≡ pos n → n < 2 ^ 64
small z h n e = omega (arith, ints, h, e)

pub below_zero : (z : ℤ) → FitsSigned w32 z → (n : ℕ) → z ≡ negsuc n → suc n < 2 ^ 64
below_zero z h n e = omega (arith, ints, h, e)

-- what a printed number reads as, where neither a word nor a sum goes on behind it
module _ (rest : List ℕ) (ends : word_goes_on rest ≡ false) (last : IsLast (tokens_of rest)) where
  pub signed_read : (z : ℤ) → FitsSigned w32 z → SumRead value (tokens_of (signed_decimal z ++ rest)) (tokens_of rest) z
  signed_read (pos n) h =
      let low = small (pos n) h n refl in
      let word = decimal_word n low in
      let left = length (decimal n ++ rest) in
      subst (λ ts. SumRead value ts (tokens_of rest) (pos n)) (sym (word_parted (decimal n) rest word ends)) (record {
        read = one_value left (number_term left false n);
        is = number_value left (decimal n) n (tokens_of rest) word (decimal_atom n low) last;
        sum = plus_sum left n;
      })
  signed_read (negsuc n) h =
      let low = below_zero (negsuc n) h n refl in
      let digits = decimal (suc n) in
      let left = length (45 ∷ digits ++ rest) in
      let at = length (digits ++ rest) in
      subst (λ ts. SumRead value ts (tokens_of rest) (negsuc n))
      (sym (mark_first 45 (digits ++ rest) refl refl refl ∙ ap (token left (codes "-")) (word_parted digits rest (decimal_word (suc n) low) ends))) (record {
        read = one_value left (number_term at true (suc n));
        is = minus_value left at digits (suc n) (tokens_of rest) (decimal_atom (suc n) low) last;
        sum = minus_sum at n;
      })

  pub signed_unmarked : (z : ℤ) → FitsSigned w32 z → IsUnmarked (tokens_of (signed_decimal z ++ rest))
  signed_unmarked (pos n) h = unmarked_text (decimal n) rest (decimal_word n (small (pos n) h n refl)) ends
  signed_unmarked (negsuc n) h = subst IsUnmarked (sym (mark_first 45 (decimal (suc n) ++ rest) refl refl refl)) (refl, refl)

  -- ---- what is added to a register

  no_displacement : SumRead displacement (tokens_of rest) (tokens_of rest) (pos 0)
  unfolding displacement sum_of
  no_displacement =
      let left = line_bytes_left (tokens_of rest) in
      record {
        read = record { left = left; terms = [] };
        is = ap (λ (r : Result (List Term × Tokens) LineError). r >>= as_value left) last;
        sum = λ names. refl;
      }

  -- behind this sign
  one_displacement : (sign : ℕ) (minus : Bool) (n : ℕ) (z : ℤ) → (begins_comment sign ≡ false) × (is_blank sign ≡ false) × (is_mark sign ≡ true)
      → sign_of (sign ∷ []) ≡ Some minus → n < 2 ^ 64
      → ((left : ℕ) → sum_is (number_term left minus n ∷ []) z) → SumRead displacement (tokens_of (32 ∷ sign ∷ 32 ∷ decimal n ++ rest)) (tokens_of rest) z
  unfolding displacement signed_terms tokens_of
  one_displacement sign minus n z mark is low sum =
      let left = length (sign ∷ 32 ∷ decimal n ++ rest) in
      let at = length (decimal n ++ rest) in
      let digits = token at (decimal n) (tokens_of rest) in
      subst (λ ts. SumRead displacement ts (tokens_of rest) z)
      (sym (mark_first sign (32 ∷ decimal n ++ rest) mark.0 mark.1 mark.2 ∙ ap (token left (sign ∷ [])) (word_parted (decimal n) rest (decimal_word n low) ends))) (record {
        read = one_value left (number_term at minus n);
        is = λ i. with_signed_term (is i) (token left (sign ∷ []) digits) at (decimal_atom n low i) (last i) >>= as_value left;
        sum = sum at;
      })

  pub displacement_read : (z : ℤ) → FitsSigned w32 z → SumRead displacement (tokens_of (displacement_text z ++ rest)) (tokens_of rest) z
  displacement_read (pos zero) h = no_displacement
  displacement_read (pos (suc n)) h =
      one_displacement 43 false (suc n) (pos (suc n)) (refl, refl, refl) refl (small (pos (suc n)) h (suc n) refl) (λ left. plus_sum left (suc n))
  displacement_read (negsuc n) h =
      one_displacement 45 true (suc n) (negsuc n) (refl, refl, refl) refl (below_zero (negsuc n) h n refl) (λ left. minus_sum left n)

-- ---- registers

pub register_read : (left r : ℕ) (more : Tokens) → r < 16 → register_token (token left (register_text r) more) ≡ Ok (r, more)
unfolding register_token
register_read left r more h = ap (found left Register more) (register_reads r h)
