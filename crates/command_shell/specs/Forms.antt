-- The forms of a program's commands, as a table.
use Rattle.std.specs.Prelude.{ℕ, List, [], ◌∷◌, ◌++◌, Bool, ◌&&◌, ◌==◌, length, map, Option, None, option_map, codes, find, flat_map, String, string_bytes}
use Rattle.std.specs.Borrow.{Bor}
use Rattle.std.specs.declared.alloc.Global.{Global}
use Rattle.std.specs.Str.{bytes_eq}
use Rattle.command_shell.specs.declared.form.Form.{Form}

-- a form: its first word, what the words behind it are called, and the command that has it
pub record Row (C : Type 0) : Type 0 where
  pub word : List ℕ
  pub parameters : List (List ℕ)
  pub command : C

abbrev pub row : {C : Type 0} → List ℕ → List (List ℕ) → C → Row C
row word parameters command = record { word = word; parameters = parameters; command = command }

-- a row of the code's own table
abbrev pub form_shown : {C : Type 0} → Form C → Row C
form_shown form = record { word = form.word.now; parameters = map (λ p. p.now) form.parameters.now; command = form.command }

-- ---- which command words ask for

-- a form begins with this word, and so many stand behind that
abbrev pub fits : {C : Type 0} → List ℕ → ℕ → Row C → Bool
fits word count form = bytes_eq word form.word && (count == length form.parameters)

-- the command of a form, with these words behind its own
abbrev pub taken : {C : Type 0} → List (List ℕ) → Row C → C × List (List ℕ)
taken arguments form = (form.command, arguments)

-- .. as it is handed on
abbrev pub taken_shown : {C : Type 0} → C × Bor (List (String Global)) → C × List (List ℕ)
taken_shown found = (found.0, map string_bytes found.1.now)

-- the command whose form the words have, the first such, and the words behind its own
abbrev pub command_in : {C : Type 0} → List (Row C) → List (List ℕ) → Option (C × List (List ℕ))
command_in forms [] = None
command_in forms (word ∷ arguments) = option_map (taken arguments) (find (fits word (length arguments)) forms)

-- ---- how they are told

abbrev pub parameter_text : List ℕ → List ℕ
parameter_text parameter = codes " " ++ parameter

abbrev pub form_text : {C : Type 0} → Row C → List ℕ
form_text form = form.word ++ flat_map parameter_text form.parameters

abbrev pub other_forms_text : {C : Type 0} → List (Row C) → List ℕ
other_forms_text forms = flat_map (λ form. codes ", " ++ form_text form) forms

-- all forms, in their order
abbrev pub usage_text : {C : Type 0} → List (Row C) → List ℕ
usage_text [] = codes "usage: "
usage_text (form ∷ forms) = codes "usage: " ++ (form_text form ++ other_forms_text forms)
