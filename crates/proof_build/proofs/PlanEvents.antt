-- The plan and the events of the image that is made are the policy's.
use Rattle.std.proofs.Common.{◌∙◌, refl, sym}
use Rattle.image_emit.proofs.ConditionsOfPlan.{subjects_many}
use Rattle.image_emit.proofs.PlanChoice.{choice_of_policy}
use Rattle.image_emit.proofs.PlanDevices.{devices_of_policy}
use Rattle.image_emit.proofs.PlanSubjects.{subjects_of_policy}
use Rattle.image_emit.specs.Made.{IsMade, Made, image_of, policy_of}
use Rattle.image_soundness.proofs.SubjectsOfBoth.{for_each}
use Rattle.image_soundness.specs.Sound.{HasPlanAndEvents, IsSubjectOf}
use Rattle.policy_lawful.proofs.SourceElements.{many_subjects}
use Rattle.policy_lawful.specs.Resolution.{source_of}

-- **plan and events** of the image are the policy's
pub plan_and_events : (m : Made) → IsMade m → HasPlanAndEvents (source_of (policy_of m)) (image_of m)
unfolding image_of source_of
plan_and_events m h = record {
  many = subjects_many m h ∙ sym (many_subjects (policy_of m));
  subjects = for_each (source_of (policy_of m)) (image_of m) (IsSubjectOf (source_of (policy_of m))) (subjects_of_policy m h);
  cpus = refl;
  plan = h.plan;
  tau0 = choice_of_policy m h;
  devices = devices_of_policy m h;
}
