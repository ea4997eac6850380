-- Hexadecimal digits are text.
use Rattle.std.proofs.Common.{◌≡◌, ℕ, ◌<◌, List, refl, sym, subst}
use Rattle.std.specs.Int.{to_be_bytes, w64}
use Rattle.std.specs.List.{All}
use Rattle.std.specs.Prelude.{IsOk, MatchResult, Result, Ok, Err, nat_lt}
use Rattle.std.specs.Str.{IsUtf8}
use Rattle.std.proofs.lemmas.Bool.{ltb-true}
use Rattle.std.proofs.lemmas.List.Sums.{AllPass-from_list_all}
use Rattle.std.proofs.lemmas.Str.{IsUtf8-from_ascii}
use Rattle.std.proofs.lemmas.Str.Ascii.{IsAscii-from_all}
use Rattle.hex.specs.Hex.{encode_lower, lower_digits}
use Rattle.hex.proofs.HexLemmas.{IsAscii-encode_with}
use Rattle.muen_num.specs.Fixed.{hex16}

digits_small : All (λ b. b < 128) lower_digits
digits_small i d g = ltb-true _ 128 (AllPass-from_list_all (λ b. nat_lt b 128) lower_digits refl i d g)

-- those of any bytes
pub digits_are_text : (bytes : List ℕ) → IsUtf8 (encode_lower bytes)
digits_are_text bytes = IsUtf8-from_ascii (encode_lower bytes) (IsAscii-encode_with lower_digits bytes (IsAscii-from_all lower_digits digits_small))

pub hex_is_text : (n : ℕ) (digits : List ℕ) → digits ≡ hex16 n → IsUtf8 digits
hex_is_text n digits is = subst IsUtf8 (sym is) (digits_are_text (to_be_bytes w64 n))

-- what is text is read as one
pub is_ok : {A E : Type 0} (r : Result A E) (P : A → Type 0) (Q : E → Type 0) {T : Type 0} → T → MatchResult r P (λ e. (T → ⊥) × Q e) → IsOk r
is_ok (Ok x) P Q t h = refl
is_ok (Err e) P Q t h = absurd (h.0 t)
