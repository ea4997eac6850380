-- The scheduling plan of a policy, by numbers (this project's own format, after Muen's scheduling plans).
use Rattle.std.specs.Prelude.{◌≡◌, ◌<◌, ℕ, true, [], length, map, slice_index_or, nat_lt}
use Rattle.std.specs.List.{list_all}
use Rattle.frame_clock.specs.Plan.{cpus_of, frames_in, is_plan}
use Rattle.frame_clock.specs.declared.plan.Plan.{Plan}
use Rattle.policy_lawful.specs.Frames.{first_member, frames_of}
use Rattle.policy_lawful.specs.source.Source.{Source}

-- a plan is that of a policy
pub record IsPlanOf (p : Source) (plan : Plan) : Type 0 where
  pub valid : is_plan plan ≡ true
  pub cpus : cpus_of plan ≡ p.processor.logical_cpus
  pub frames : (cpu : ℕ) → cpu < p.processor.logical_cpus → frames_in plan cpu ≡ frames_of p cpu
  -- each group is on its CPU
  pub groups : map (λ g. g.cpu) plan.groups ≡ map (λ g. g.cpu) p.scheduling.groups
  -- its first listed member is active at the start
  pub firsts : map (λ g. slice_index_or (map (λ s. s.name) p.subjects) g.first []) plan.groups ≡ map (λ g. first_member g.subjects) p.scheduling.groups
  pub there : list_all (λ g. nat_lt g.first (length p.subjects)) plan.groups ≡ true
