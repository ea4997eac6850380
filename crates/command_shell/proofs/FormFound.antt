-- The form that words have.
use Rattle.std.proofs.Common.{◌≡◌, ℕ, suc, List, [], ◌∷◌, arith, length, map, Option, None, String, refl, sym, ap, ◌∙◌}
use Rattle.std.specs.Prelude.{option_map, string_bytes}
use Rattle.std.specs.List.{find}
use Rattle.std.specs.declared.alloc.Global.{Global}
use Rattle.std.proofs.lemmas.List.{length-map}
use Rattle.muen_num.proofs.Lists.{find-map, option_map-option_map}
use Rattle.command_shell.specs.Forms.{Row, command_in, fits, form_shown, taken}
use Rattle.command_shell.specs.declared.form.Form.{Form}

-- of the code's own table
pub by_found : {C : Type 0} (forms : List (Form C)) (word : List ℕ) (count : ℕ) (arguments : List (List ℕ)) (found : Option (Form C)) → found ≡ find (λ f. fits word count (form_shown f)) forms
    → option_map (λ f. taken arguments (form_shown f)) found ≡ option_map (taken arguments) (find (fits word count) (map form_shown forms))
by_found {C} forms word count arguments found is =
    ap (option_map (λ (f : Form C). taken arguments (form_shown f))) is
    ∙ sym (option_map-option_map (taken arguments) form_shown (find (λ f. fits word count (form_shown f)) forms))
    ∙ sym (ap (option_map (taken arguments)) (find-map (fits word count) form_shown forms))

-- of a first word, and those behind it
pub words_cut : {C : Type 0} (forms : List (Row C)) (words rest : List (String Global)) (word : String Global) → words ≡ word ∷ rest
    → option_map (taken (map string_bytes rest)) (find (fits (string_bytes word) (length rest)) forms) ≡ command_in forms (map string_bytes words)
words_cut {C} forms words rest word is =
    ap (λ n. option_map (taken (map string_bytes rest)) (find (fits (string_bytes word) n) forms)) (sym (length-map rest string_bytes))
    ∙ sym (ap (λ ws. command_in forms (map string_bytes ws)) is)

pub words_none : {C : Type 0} (forms : List (Row C)) (words : List (String Global)) → length words ≡ 0 → None ≡ command_in forms (map string_bytes words)
words_none forms [] is = refl
words_none forms (word ∷ words) is = absurd (by_length is)
  where
    by_length : suc (length words) ≡ 0 → ⊥
    by_length h = omega (arith, h)
