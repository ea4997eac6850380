use Rattle.std.proofs.Common.{◌≡◌, ◌≢◌, ◌<◌, ℕ, false, Some}
use Rattle.std.specs.Prelude.{slice_get}
use Rattle.image_pack.specs.declared.parts.SubjectPart.{SubjectPart}
use Rattle.image_soundness.specs.Sound.{share_a_span}
use Rattle.image_checks.proofs.own_pages.shares_with_none.Given as goal

-- it shares none with those so far
abbrev pub invariant-loop-other : goal.invariant-loop-other
invariant-loop-other l = (j : ℕ) (b : SubjectPart) → j < l.other → slice_get l.parts j ≡ Some b → j ≢ l.index → share_a_span l.part b ≡ false
