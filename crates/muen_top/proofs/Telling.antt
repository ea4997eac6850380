-- A line that was put has told its text.
use Rattle.std.proofs.Common.{◌≡◌, inl, inr, ℕ, List, Result, Ok, Err, subst}
use Rattle.muen_outside.specs.States.{SinkState}
use Rattle.muen_outside.specs.Puts.{Appended, Failed, Puts}
use Rattle.muen_top.specs.Reports.{Told, error_line}

pub told_by : {E : Type 0} (text shown : List ℕ) (s u : SinkState) (r : Result (Unit {0}) E) → shown ≡ text → Puts (error_line shown) s u r → Told text s u
told_by text shown s u (Ok x) is p = inl (subst (λ t. Appended (error_line t) s u) is p)
told_by text shown s u (Err e) is p = inr (subst (λ t. Failed (error_line t) s u) is p)
