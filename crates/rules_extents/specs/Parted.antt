-- Windows on what components provide, held once for each component.
use Rattle.std.specs.Prelude.{◌≡◌, ℕ, List, map, slice_get, Option, Some, None, option_and_then}
use Rattle.policy_lawful.specs.declared.offence.Extent.{Extent}
use Rattle.policy_lawful.specs.declared.resolved.ComponentUse.{ComponentUse}
use Rattle.policy_lawful.specs.source.Component.{Component}
use Rattle.policy_lawful.specs.source.Provided.{Provided}
use Rattle.rules_extents.specs.Shared.{AreKept}
use Rattle.rules_extents.specs.declared.overlap.AddressRange.{AddressRange}

-- a region that a component provides, as a named range of guest addresses
abbrev pub provided_extent : Provided → Extent
provided_extent x = record { name = x.logical; address = x.virtual_address; size = x.size }

-- the ranges that are kept for a component, if some are
abbrev pub kept_at : List (Option (List AddressRange)) → ℕ → Option (List AddressRange)
kept_at provided k = option_and_then (λ o. o) (slice_get provided k)

-- for the component that is used, if one is
abbrev pub provided_to : List (Option (List AddressRange)) → Option ComponentUse → Option (List AddressRange)
provided_to provided None = None
provided_to provided (Some used) = kept_at provided used.used

-- what is kept for a component are the ranges of what it provides
abbrev pub AreProvided : List (Option (List AddressRange)) → List Component → Type 0
AreProvided provided components =
    (k : ℕ) (ranges : List AddressRange) → kept_at provided k ≡ Some ranges → (c : Component) × (slice_get components k ≡ Some c) × AreKept ranges (map provided_extent c.provides)
