-- What the tests of a plan tell.
use Rattle.std.proofs.Common.{◌≡◌, ◌∙◌, ℕ, Bool, Option, Some, None, refl, sym, ap, subst}
use Rattle.std.specs.Prelude.{option_map}
use Rattle.std.proofs.lemmas.Option.{same_Some}
use Rattle.image_pack.specs.plan.Plan.{Plan}
use Rattle.image_soundness.proofs.OnePlan.{plans_are_one}
use Rattle.image_checks.proofs.Decided.{decided}
use Rattle.image_checks.specs.Firsts.{Decides}
use Rattle.image_checks.specs.PlanFault.{HasChoice, HasPlan}
use Rattle.image_pack.specs.declared.parts.Image.{Image}
use Rattle.image_soundness.specs.Named.{tag_at}
use Rattle.muen_num.specs.declared.tag.Tag.{Tag}
use Rattle.image_soundness.specs.PlanOf.{IsPlanOf}
use Rattle.plan_emit.proofs.ValidPlan.{processor_same}
use Rattle.policy_lawful.proofs.UniqueNames.{unique}
use Rattle.policy_lawful.specs.Resolution.{IsResolved, Resolution, source_of}
use Rattle.policy_lawful.specs.Thing.{region, thing_tag}
use Rattle.policy_lawful.specs.source.Tau0.{Tau0}

-- the plan that is made, and one that is given
pub plan_told : (r : Resolution) → IsResolved r → (made given : Plan) → IsPlanOf (source_of r) made → (b : Bool) → Decides (made ≡ given) b → Decides (IsPlanOf (source_of r) given) b
plan_told r resolved made given is b d =
    decided (made ≡ given) (IsPlanOf (source_of r) given) b (λ e. subst (IsPlanOf (source_of r)) e is)
    (λ h. plans_are_one (source_of r) (unique (source_of r) resolved.names).subjects made given is h) d

-- ---- the region of the scheduler

abbrev chosen_tag : Tau0 → Option Tag
chosen_tag t = Some (thing_tag (region t.region))

module _ (r : Resolution) (i : Image) where
  tau0_named : (source_of r).scheduling.tau0 ≡ r.scheduling.tau0
  unfolding source_of
  tau0_named = refl

  pub no_choice : i.header.tau0 ≡ None → r.scheduling.tau0 ≡ None → HasChoice (source_of r) i
  no_choice a b = ap (option_map (tag_at i)) a ∙ sym (ap (option_map chosen_tag) (tau0_named ∙ b))

  pub lacks_choice : (t : Tau0) → i.header.tau0 ≡ None → r.scheduling.tau0 ≡ Some t → HasChoice (source_of r) i → ⊥
  lacks_choice t a b h =
      let e : None ≡ Some (chosen_tag t) = sym (ap (option_map (tag_at i)) a) ∙ h ∙ ap (option_map chosen_tag) (tau0_named ∙ b) in
      absurd (cc (e))

  pub other_choice : (n : ℕ) → i.header.tau0 ≡ Some n → r.scheduling.tau0 ≡ None → HasChoice (source_of r) i → ⊥
  other_choice n a b h =
      let e : Some (tag_at i n) ≡ None = sym (ap (option_map (tag_at i)) a) ∙ h ∙ ap (option_map chosen_tag) (tau0_named ∙ b) in
      absurd (cc (e))

  pub some_choice : (n : ℕ) (t : Tau0) → i.header.tau0 ≡ Some n → r.scheduling.tau0 ≡ Some t → (b : Bool) → Decides (tag_at i n ≡ Some (thing_tag (region t.region))) b → Decides (HasChoice (source_of r) i) b
  some_choice n t a b test d =
      let left = ap (option_map (tag_at i)) a in
      let right = ap (option_map chosen_tag) (tau0_named ∙ b) in
      decided (tag_at i n ≡ chosen_tag t) (HasChoice (source_of r) i) test (λ e. left ∙ ap Some e ∙ sym right)
      (λ h. same_Some (tag_at i n) (chosen_tag t) (sym left ∙ h ∙ right)) d

  -- ---- the whole

  pub other_cpus : (i.header.cpus ≡ r.processor.logical_cpus → ⊥) → HasPlan (source_of r) i → ⊥
  other_cpus apart h = apart (h.cpus ∙ processor_same r)

  pub plan_whole : HasChoice (source_of r) i → i.header.cpus ≡ r.processor.logical_cpus → (b : Bool) → Decides (IsPlanOf (source_of r) i.plan) b → Decides (HasPlan (source_of r) i) b
  plan_whole tau0 cpus b d =
      decided (IsPlanOf (source_of r) i.plan) (HasPlan (source_of r) i) b (λ plan. record { cpus = cpus ∙ sym (processor_same r); plan = plan; tau0 = tau0 }) (λ h. h.plan) d
