-- Names of parts, each list for itself or together.
use Rattle.std.proofs.Common.{◌≡◌, ℕ, List, ◌++◌, None}
use Rattle.std.specs.Prelude.{map, not}
use Rattle.std.specs.Option.{option_or}
use Rattle.std.specs.Str.{bytes_eq}
use Rattle.muen_num.specs.Search.{unless}
use Rattle.muen_num.proofs.FirstPair.{first_pair-append}
use Rattle.muen_num.proofs.SearchLaws.{option_or-None}
use Rattle.policy_lawful.specs.Offences.{alone}
use Rattle.policy_lawful.proofs.UniqueNames.{unique_parts}
use Rattle.policy_lawful.specs.Rules.{logical_names}
use Rattle.policy_lawful.specs.source.Component.{Component}
use Rattle.policy_names.specs.Parts.{repeats, repeats_behind}
use Rattle.policy_names.proofs.Refusals.{one_behind_another}

-- names that are joined repeat where the first do, or else the others behind them
pub repeats-append : (xs ys : List (List ℕ)) → repeats (xs ++ ys) ≡ option_or (repeats xs) (repeats_behind xs ys)
unfolding repeats repeats_behind
repeats-append xs ys = first_pair-append (λ a b. unless (not (bytes_eq a b)) (alone b)) xs ys

-- where none of them does, none of the others does by themselves
pub others_alone : (xs ys : List (List ℕ)) → repeats (xs ++ ys) ≡ None → repeats ys ≡ None
unfolding repeats
others_alone xs ys h = (unique_parts xs ys h).1

-- where no logical name of a component repeats, none that wants a region does, and none that wants a channel
pub regions_alone : (c : Component) → repeats (logical_names c) ≡ None → repeats (map (λ x. x.logical) c.memory) ≡ None
unfolding repeats
regions_alone c h = (unique_parts (map (λ x. x.logical) c.provides) (map (λ x. x.logical) c.memory) (unique_parts (map (λ x. x.logical) c.provides ++ map (λ x. x.logical) c.memory) (map (λ x. x.logical) c.channels) h).0).1

pub channels_alone : (c : Component) → repeats (logical_names c) ≡ None → repeats (map (λ x. x.logical) c.channels) ≡ None
channels_alone c h = others_alone (map (λ x. x.logical) c.provides ++ map (λ x. x.logical) c.memory) (map (λ x. x.logical) c.channels) h

pub ruleset in_lists = (option_or-None, one_behind_another)

pub ruleset in_parts = (repeats-append, others_alone, one_behind_another)

pub ruleset logical = (regions_alone, channels_alone, one_behind_another)
