-- A lawful policy with all that follows from it but addresses.
use Rattle.std.specs.Prelude.{◌≡◌, List, true}
use Rattle.std.specs.List.{list_all}
use Rattle.expand_grants.specs.Grants.{AreGrants, AreRoutes}
use Rattle.expand_grants.specs.declared.granted.Grants.{Grants}
use Rattle.expand_grants.specs.declared.granted.Route.{Route}
use Rattle.expand_kernel.specs.Regions.{regions_of}
use Rattle.policy_lawful.specs.declared.thing.Region.{Region}
use Rattle.muen_num.specs.Naming.{is_name}
use Rattle.policy_lawful.specs.Lawful.{IsLawful}
use Rattle.policy_lawful.specs.Resolution.{IsResolved, Resolution, source_of}
use Rattle.policy_lawful.specs.declared.resolved.Subject.{Subject}

pub record Expansion : Type 0 where
  pub lawful : Resolution
  pub regions : List Region
  pub grants : List Grants
  pub routes : List Route

pub record IsExpansion (x : Expansion) : Type 0 where
  pub regions : x.regions ≡ regions_of (source_of x.lawful)
  pub grants : AreGrants x.lawful x.grants
  pub routes : AreRoutes x.lawful x.routes

-- what its type promises: the policy is resolved and lawful beside
pub record IsExpanded (x : Expansion) : Type 0 where
  pub resolved : IsResolved x.lawful
  pub lawful : IsLawful (source_of x.lawful)
  pub expansion : IsExpansion x

-- the names of these subjects are names
abbrev pub HaveNames : List Subject → Type 0
HaveNames subjects = list_all (λ s. is_name s.name) subjects ≡ true
