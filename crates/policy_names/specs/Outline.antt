-- A policy without its references: what is known of the resolved policy before they are looked up.
use Rattle.std.specs.Prelude.{Bool, true, List, [], map, Option, None, option_map}
use Rattle.std.specs.List.{enumerate_from, list_all}
use Rattle.std.specs.Option.{option_map_or}
use Rattle.muen_num.specs.Search.{first_in}
use Rattle.policy_lawful.specs.Resolution.{Resolution, component_in_range, component_named, major_in_range, major_named}
use Rattle.policy_lawful.specs.Rules.{frame_references, major_name, undeclared}
use Rattle.policy_lawful.specs.declared.offence.Offence.{Offence}
use Rattle.policy_lawful.specs.declared.resolved.ComponentUse.{ComponentUse as ResolvedUse}
use Rattle.policy_lawful.specs.declared.resolved.Group.{Group as ResolvedGroup}
use Rattle.policy_lawful.specs.declared.resolved.MajorFrame.{MajorFrame as ResolvedMajor}
use Rattle.policy_lawful.specs.declared.resolved.Scheduling.{Scheduling as ResolvedScheduling}
use Rattle.policy_lawful.specs.declared.resolved.Subject.{Subject as ResolvedSubject}
use Rattle.policy_lawful.specs.source.ComponentUse.{ComponentUse}
use Rattle.policy_lawful.specs.source.Group.{Group}
use Rattle.policy_lawful.specs.source.MajorFrame.{MajorFrame}
use Rattle.policy_lawful.specs.source.Source.{Source}
use Rattle.policy_lawful.specs.source.Subject.{Subject}

-- the policy with these in place of its subjects and its scheduling plan
abbrev pub with_resolved : Source → List ResolvedSubject → ResolvedScheduling → Resolution
with_resolved p subjects scheduling = record {
  processor = p.processor;
  memory_blocks = p.memory_blocks;
  devices = p.devices;
  memory = p.memory;
  channels = p.channels;
  components = p.components;
  events = p.events;
  subjects = subjects;
  scheduling = scheduling;
  device_domains = p.device_domains;
}

-- a subject that refers to nothing
abbrev pub bare_subject : Subject → ResolvedSubject
bare_subject s = record {
  name = s.name;
  cpu = s.cpu;
  entry = s.entry;
  component = None;
  memory = [];
  channels = [];
  devices = [];
  msrs = s.msrs;
  sources = [];
  targets = [];
  monitors = [];
}

-- a group without members
abbrev pub bare_group : Group → ResolvedGroup
bare_group g = record { name = g.name; cpu = g.cpu; subjects = [] }

-- each name at its index, and no references
abbrev pub bare_resolution : Source → Resolution
bare_resolution p = with_resolved p (map bare_subject p.subjects) (record { groups = map bare_group p.scheduling.groups; major_frames = []; tau0 = p.scheduling.tau0 })

-- ---- what stands for it by indexes

-- the use of a component that a use by indexes is, and whether its indexes are in range; there may be none
abbrev pub use_named : Source → Option ResolvedUse → Option ComponentUse
use_named p c = option_map (component_named (bare_resolution p)) c

abbrev pub use_in_range : Source → Option ResolvedUse → Bool
use_in_range p c = option_map_or (component_in_range (bare_resolution p)) c true

-- so of all major frames, and the first group that they name and that isn't declared
abbrev pub majors_named : Source → List ResolvedMajor → List MajorFrame
majors_named p majors = map (major_named (bare_resolution p)) majors

abbrev pub majors_in_range : Source → List ResolvedMajor → Bool
majors_in_range p majors = list_all (major_in_range (bare_resolution p)) majors

abbrev pub majors_undeclared : Source → List MajorFrame → Option Offence
majors_undeclared p majors = first_in (λ m. first_in (undeclared (major_name m.0)) (frame_references p m.1)) (enumerate_from 0 majors)
