-- From a lawful policy to one whose regions are placed.
use Rattle.std.proofs.Common.{◌≡◌, inl, inr, ℕ, List, None, Result, Ok, Err, sym, ap, ◌∙◌}
use Rattle.std.specs.Prelude.{IfOk, IfErr}
use Rattle.muen_num.specs.Answers.{Answers, Explains}
use Rattle.policy_lawful.specs.Lawful.{kept_or}
use Rattle.policy_lawful.specs.Resolution.{Resolution, source_of}
use Rattle.policy_lawful.specs.refusal.Refusal.{Refusal}
use Rattle.policy_lawful.specs.refusal.Refusal.TheVariants.{NoMemory}
use Rattle.region_alloc.specs.Placed.{Placement}
use Rattle.region_alloc.specs.Placement.{no_room}
use Rattle.muen_build.specs.Accepting.{placed_source}
use Rattle.muen_build.specs.Refusals.{laid_policy_of, lawful_policy_of}
use Rattle.muen_build.proofs.Refusing.{room_decides}

pub laid_so : (bytes : List ℕ) (r : Resolution) (result : Result Placement Refusal) → lawful_policy_of bytes ≡ Ok (source_of r)
    → IfOk result (λ x. x.expanded.lawful ≡ r) → IfOk result (λ x. no_room (source_of r) ≡ None) → IfErr result (Explains NoMemory (no_room (source_of r)))
    → Answers NoMemory (laid_policy_of bytes) (placed_source result)
laid_so bytes r (Ok x) lawful same room err =
    room_decides bytes (source_of r) lawful ∙ ap (kept_or (source_of r)) room ∙ ap (λ q. Ok (source_of q)) (sym same)
laid_so bytes r (Err e) lawful same room (inl m) = inl m
laid_so bytes r (Err e) lawful same room (inr h) = inr (room_decides bytes (source_of r) lawful ∙ ap (kept_or (source_of r)) h)
