-- The words of a line, and the lines of a text, are read back.
use Rattle.std.proofs.Common.{◌≡◌, ℕ, ◌+◌, Bool, true, false, not, cond, List, [], ◌∷◌, ◌++◌, Ok, Err, refl, ap, ◌∙◌, append_assoc, append-nil, arith}
use Rattle.std.specs.Prelude.{◌&&◌, ◌||◌, ◌==◌, nat_le, nat_lt, if◌then◌else◌}
use Rattle.std.specs.Char.{is_ascii_digit}
use Rattle.std.specs.List.{flat_map, list_all, list_any, onto_first}
use Rattle.std.proofs.lemmas.Bool.{and_from, and_parts, eq-eqb}
use Rattle.std.proofs.lemmas.Bool.Decides.{nat_tests}
use Rattle.std.proofs.lemmas.List.Folds.{list_all-append}
use Rattle.record_text.proofs.Cuts.{lines_then}
use Rattle.record_text.specs.Reading.{all_ascii}
use Rattle.record_text.specs.declared.fault.RecordFault.TheVariants.{NotAscii}
use Rattle.record_text.specs.Parts.{lines_of, parts_of}
use Rattle.record_text.specs.Words.{words_of}
use Rattle.generated_system.specs.RecordText.{words_line, with_line_feed}
use Rattle.muen_num.proofs.Lists.{each_from}

-- ---- parts

-- the byte isn't there
abbrev is_clear : ℕ → List ℕ → Bool
is_clear byte text = list_all (λ c. not (c == byte)) text

part_then : (byte : ℕ) (text rest : List ℕ) → is_clear byte text ≡ true → parts_of byte (text ++ byte ∷ rest) ≡ text ∷ parts_of byte rest
part_then byte [] rest h = ap (λ b. cond b ([] ∷ parts_of byte rest) (onto_first byte (parts_of byte rest))) (eq-eqb byte byte refl)
part_then byte (c ∷ text) rest h =
    elim (c == byte) as (λ b. (not b && is_clear byte text) ≡ true → cond b ([] ∷ parts_of byte (text ++ byte ∷ rest)) (onto_first c (parts_of byte (text ++ byte ∷ rest))) ≡ (c ∷ text) ∷ parts_of byte rest) [
      | true ↦ λ e. absurd (cc)
      | false ↦ λ e. ap (onto_first c) (part_then byte text rest e)
    ] h

part_alone : (byte : ℕ) (text : List ℕ) → is_clear byte text ≡ true → parts_of byte text ≡ text ∷ []
part_alone byte [] h = refl
part_alone byte (c ∷ text) h =
    elim (c == byte) as (λ b. (not b && is_clear byte text) ≡ true → cond b ([] ∷ parts_of byte text) (onto_first c (parts_of byte text)) ≡ (c ∷ text) ∷ []) [
      | true ↦ λ e. absurd (cc)
      | false ↦ λ e. ap (onto_first c) (part_alone byte text e)
    ] h

-- ---- what words and lines are made of

-- no blank and no control byte, but below 128
abbrev is_visible : ℕ → Bool
is_visible c = nat_le 33 c && nat_le c 127

abbrev is_printed : ℕ → Bool
is_printed c = nat_le 32 c && nat_le c 127

abbrev pub is_word : List ℕ → Bool
is_word word = list_all is_visible word

abbrev pub is_plain : List ℕ → Bool
is_plain line = list_all is_printed line

digit_visible : (c : ℕ) → is_ascii_digit c ≡ true → is_visible c ≡ true
digit_visible c h = grind (arith, nat_tests)

visible_printed : (c : ℕ) → is_visible c ≡ true → is_printed c ≡ true
visible_printed c h = grind (arith, nat_tests)

visible_clear : (c : ℕ) → is_visible c ≡ true → not (c == 32) ≡ true
visible_clear c h = grind (arith, nat_tests)

printed_clear : (c : ℕ) → is_printed c ≡ true → not (c == 10) ≡ true
printed_clear c h = grind (arith, nat_tests)

printed_low : (c : ℕ) → is_printed c ≡ true → nat_lt 127 c ≡ false
printed_low c h = grind (arith, nat_tests)

pub digits_word : (ds : List ℕ) → list_all is_ascii_digit ds ≡ true → is_word ds ≡ true
digits_word ds h = each_from is_ascii_digit is_visible digit_visible ds h

-- ---- a line

pub words_back : (kind : List ℕ) (words : List (List ℕ)) → list_all is_word (kind ∷ words) ≡ true → words_of (words_line kind words) ≡ kind ∷ words
unfolding words_of
words_back kind [] h =
    let parts = and_parts (is_word kind) true h in
    ap (parts_of 32) (append-nil kind) ∙ part_alone 32 kind (each_from is_visible (λ c. not (c == 32)) visible_clear kind parts.0)
words_back kind (word ∷ words) h =
    let parts = and_parts (is_word kind) (list_all is_word (word ∷ words)) h in
    part_then 32 kind (words_line word words) (each_from is_visible (λ c. not (c == 32)) visible_clear kind parts.0)
    ∙ ap (λ ws. kind ∷ ws) (words_back word words parts.1)

further_plain : (words : List (List ℕ)) → list_all is_word words ≡ true → is_plain (flat_map (λ word. 32 ∷ word) words) ≡ true
further_plain [] h = refl
further_plain (word ∷ words) h =
    let parts = and_parts (is_word word) (list_all is_word words) h in
    list_all-append is_printed word (flat_map (λ word. 32 ∷ word) words)
    ∙ and_from (is_plain word) (is_plain (flat_map (λ word. 32 ∷ word) words)) (each_from is_visible is_printed visible_printed word parts.0) (further_plain words parts.1)

pub line_plain : (kind : List ℕ) (words : List (List ℕ)) → list_all is_word (kind ∷ words) ≡ true → is_plain (words_line kind words) ≡ true
line_plain kind words h =
    let parts = and_parts (is_word kind) (list_all is_word words) h in
    list_all-append is_printed kind (flat_map (λ word. 32 ∷ word) words)
    ∙ and_from (is_plain kind) (is_plain (flat_map (λ word. 32 ∷ word) words)) (each_from is_visible is_printed visible_printed kind parts.0) (further_plain words parts.1)

-- ---- a text

pub lines_back : (lines : List (List ℕ)) → list_all is_plain lines ≡ true → lines_of (flat_map with_line_feed lines) ≡ lines
unfolding lines_of
lines_back [] h = refl
lines_back (line ∷ lines) h =
    let parts = and_parts (is_plain line) (list_all is_plain lines) h in
    let behind : List ℕ = flat_map with_line_feed lines in
    lines_then (with_line_feed line ++ behind) line behind
    (ap (parts_of 10) (append_assoc line (10 ∷ []) behind) ∙ part_then 10 line behind (each_from is_printed (λ c. not (c == 10)) printed_clear line parts.0))
    ∙ ap (λ ls. line ∷ ls) (lines_back lines parts.1)

none_high : (line : List ℕ) → is_plain line ≡ true → list_any (λ c. nat_lt 127 c) line ≡ false
none_high [] h = refl
none_high (c ∷ line) h =
    let parts = and_parts (is_printed c) (is_plain line) h in
    ap (λ b. b || list_any (λ c. nat_lt 127 c) line) (printed_low c parts.0) ∙ none_high line parts.1

pub ascii_lines : (n : ℕ) (lines : List (List ℕ)) → list_all is_plain lines ≡ true → all_ascii n lines ≡ Ok tt
ascii_lines n [] h = refl
ascii_lines n (line ∷ lines) h =
    let parts = and_parts (is_plain line) (list_all is_plain lines) h in
    ap (λ b. if b then Err (NotAscii n) else all_ascii (n + 1) lines) (none_high line parts.0) ∙ ascii_lines (n + 1) lines parts.1
