use Rattle.std.proofs.Common.{ℕ, List, Some, ap, ◌∙◌}
use Rattle.std.specs.Prelude.{length, option_map}
use Rattle.muen_build.proofs.accepted.ComponentFiles.length.Goals as goal

pub returns-in-None : goal.returns-in-None
returns-in-None c = rw (← c.self.view_is) (ap (option_map (λ (bytes : List ℕ). length bytes)) c.in-None.ensures.value)

pub returns-in-Some : goal.returns-in-Some
returns-in-Some c =
    rw (← c.self.view_is) (ap (λ (n : ℕ). Some n) c.len.ensures ∙ ap (option_map (λ (bytes : List ℕ). length bytes)) c.in-Some.ensures.value)
