-- The plan of a resolved policy that keeps the rules is the policy's.
use Rattle.std.proofs.Common.{◌≡◌, true, sym, subst}
use Rattle.std.specs.List.{list_all}
use Rattle.frame_clock.specs.declared.plan.Plan.{Plan}
use Rattle.policy_lawful.specs.Lawful.{IsLawful}
use Rattle.policy_lawful.specs.Resolution.{IsResolved, Resolution, source_of}
use Rattle.plan_emit.specs.Emitted.{emitted, fits_group, fits_major}
use Rattle.image_soundness.specs.PlanOf.{IsPlanOf}
use Rattle.plan_emit.proofs.Fitting.{groups_fit, majors_fit}
use Rattle.plan_emit.proofs.EmittedGroups.{firsts_emitted, firsts_there, groups_emitted}
use Rattle.plan_emit.proofs.EmittedFrames.{cpus_emitted, frames_emitted}
use Rattle.plan_emit.proofs.ValidPlan.{plan_valid}
use Rattle.policy_lawful.proofs.KeptPlan.{PlanKept, plan_kept}

pub is_plan_of : (r : Resolution) → PlanKept r → IsPlanOf (source_of r) (emitted r)
unfolding source_of
is_plan_of r k = record {
  valid = plan_valid r k;
  cpus = cpus_emitted r k;
  frames = frames_emitted r k;
  groups = groups_emitted r;
  firsts = firsts_emitted r k;
  there = firsts_there r k;
}

-- ---- of a lawful policy

pub lawful_groups_fit : (r : Resolution) → IsResolved r → IsLawful (source_of r) → list_all fits_group r.scheduling.groups ≡ true
lawful_groups_fit r resolved lawful = groups_fit r (plan_kept r resolved lawful)

pub lawful_majors_fit : (r : Resolution) → IsResolved r → IsLawful (source_of r) → list_all fits_major r.scheduling.major_frames ≡ true
lawful_majors_fit r resolved lawful = majors_fit r (plan_kept r resolved lawful)

pub lawful_plan : (r : Resolution) (plan : Plan) → IsResolved r → IsLawful (source_of r) → plan ≡ emitted r → IsPlanOf (source_of r) plan
lawful_plan r plan resolved lawful is = subst (IsPlanOf (source_of r)) (sym is) (is_plan_of r (plan_kept r resolved lawful))
