-- The words of a line that remain.
use Rattle.std.specs.Prelude.{◌≡◌, ℕ, List, [], ◌∷◌, Option, Some, None, Result, Err}
use Rattle.std.specs.Borrow.{Bor}
use Rattle.text_words.specs.Parts.{parts_remaining}
use Rattle.record_text.specs.declared.words.Words.{Words}
use Rattle.record_text.specs.declared.fault.LineWant.{LineWant}
use Rattle.record_text.specs.declared.fault.LineWant.TheVariants.{Count}
use Rattle.record_text.specs.declared.number.LineError.{LineError}
use Rattle.record_text.specs.declared.number.LineError.TheVariants.{Want}

-- the words of a line that remain
abbrev pub words_remaining : Words → List (List ℕ)
words_remaining words = parts_remaining 32 words.rest

-- the first word was taken, or there was none
abbrev pub TakesWord : List (List ℕ) → Option (Bor (List ℕ)) → List (List ℕ) → Type 0
TakesWord before None after = before ≡ []
TakesWord before (Some word) after = before ≡ word.now ∷ after

-- there is another number of words than what was wanted
abbrev pub IsMiscounted : {X : Type 0} → Result X LineWant → LineError → Type 0
IsMiscounted r error = (error ≡ Want Count) × (r ≡ Err Count)
