-- The subjects that raise each event, and those that it reaches, by indexes.
use Rattle.std.specs.Prelude.{ℕ, List, map}
use Rattle.std.specs.List.{enumerate_from, flat_map}
use Rattle.policy_lawful.specs.Resolution.{Resolution}
use Rattle.policy_lawful.specs.declared.resolved.Subject.{Subject}
use Rattle.rules_channels.specs.ByIndex.{items_at_index}
use Rattle.rules_channels.specs.declared.parties.Party.{Party}

abbrev pub party : ℕ × Subject → Party
party (index, s) = record { name = s.name; index = index }

-- a subject with its index, at the event of each of its sources
abbrev pub source_parties : ℕ × Subject → List (ℕ × Party)
source_parties (index, s) = map (λ e. (e.event, party (index, s))) s.sources

-- and of each of its targets
abbrev pub target_parties : ℕ × Subject → List (ℕ × Party)
target_parties (index, s) = map (λ e. (e.event, party (index, s))) s.targets

-- the sources of the event at an index, and its targets
abbrev pub sources_at : Resolution → ℕ → List Party
sources_at r k = items_at_index k (flat_map source_parties (enumerate_from 0 r.subjects))

abbrev pub targets_at : Resolution → ℕ → List Party
targets_at r k = items_at_index k (flat_map target_parties (enumerate_from 0 r.subjects))
