-- What a call answers, in the words of the definition: what is left of a line is its tokens.
use Rattle.std.specs.Prelude.{ℕ, Bool, true, false, List, Option, Some, None, Result, Ok, Err, if◌then◌else◌}
use Rattle.std.specs.Borrow.{Bor}
use Rattle.std.specs.Str.{bytes_eq}
use Rattle.asm_text.specs.Tokens.{Tokens, end_with, token, tokens_of}
use Rattle.asm_text.specs.declared.fault.LineError.{LineError}
use Rattle.asm_text.specs.declared.tokens.Next.{Next}
use Rattle.asm_text.specs.declared.tokens.Token.{Token}

abbrev pub shown_token : ℕ → Option Token → Tokens
shown_token left None = end_with left
shown_token left (Some t) = token left t.word.now (tokens_of t.rest.now)

abbrev pub shown : Next → Tokens
shown n = shown_token n.left n.token

-- what was read, and what is left
abbrev pub told : {X : Type 0} → Result (X × Bor (List ℕ)) LineError → Result (X × Tokens) LineError
told (Ok r) = Ok (r.0, tokens_of r.1.now)
told (Err e) = Err e

-- what is left
abbrev pub told_rest : Result (Bor (List ℕ)) LineError → Result Tokens LineError
told_rest (Ok r) = Ok (tokens_of r.now)
told_rest (Err e) = Err e

-- what the call keeps, and what is left
abbrev pub told_with : {X : Type 0} → Result (Bor (List ℕ)) LineError → X → Result (X × Tokens) LineError
told_with (Ok r) x = Ok (x, tokens_of r.now)
told_with (Err e) x = Err e

-- ---- what comes next

-- what is behind this mark
abbrev pub mark_at : List ℕ → Tokens → Option Tokens
mark_at mark (end_with left) = None
mark_at mark (token left word more) = if bytes_eq word mark then Some more else None

-- nothing
abbrev pub is_over : Tokens → Bool
is_over (end_with left) = true
is_over (token left word more) = false
