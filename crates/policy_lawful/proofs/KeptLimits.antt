-- Rule 20: how much and how many there is of everything, and how long the major frames are.
use Rattle.std.proofs.Common.{◌≡◌, ℕ, ◌+◌, ◌≤◌, Bool, true, List, length, None}
use Rattle.std.specs.Prelude.{◌&&◌, nat_le, codes, is_some}
use Rattle.std.specs.List.{list_all, sum_by, count_by}
use Rattle.std.proofs.lemmas.Bool.{and_parts, leb-true}
use Rattle.policy_lawful.specs.Rules.{at_most, device_limit, logical_names, major_limit, major_name, majors_of, offence_20, regions_for, is_short, msrs_in, subject_limit, window_extents}
use Rattle.muen_num.specs.declared.limits.TheConstants.{MOST_BLOCK_BYTES, MOST_BLOCKS, MOST_CHANNELS, MOST_COMPONENTS, MOST_DEVICE_BYTES, MOST_DEVICE_WINDOWS, MOST_DEVICES, MOST_EVENTS, MOST_LOGICAL_NAMES, MOST_MAJOR_FRAMES, MOST_MSRS, MOST_PER_DEVICE, MOST_REGIONS, MOST_SUBJECTS, MOST_WINDOWS}
use Rattle.muen_num.specs.Search.{first_in, unless}
use Rattle.policy_lawful.specs.Offences.{alone}
use Rattle.policy_types.specs.declared.source.Device.{Device}
use Rattle.policy_types.specs.declared.source.Source.{Source}
use Rattle.policy_types.specs.declared.source.Subject.{Subject}
use Rattle.muen_num.proofs.SearchLaws.{all_numbered, all_pass, none_both, unless_none}

-- as many things of each kind as a device may have
abbrev pub has_few_parts : Device → Bool
has_few_parts d = nat_le (length d.memory) MOST_PER_DEVICE && nat_le (length d.io_ports) MOST_PER_DEVICE && nat_le (length d.irqs) MOST_PER_DEVICE

-- as many windows and MSRs as a subject may have
abbrev pub has_few : Source → Subject → Bool
has_few p s = nat_le (length (window_extents p s)) MOST_WINDOWS && nat_le (msrs_in s) MOST_MSRS

pub record LimitsKept (p : Source) : Type 0 where
  pub block_bytes : sum_by (λ b. b.size) p.memory_blocks ≤ MOST_BLOCK_BYTES
  pub most_devices : length p.devices ≤ MOST_DEVICES
  pub device_parts : list_all has_few_parts p.devices ≡ true
  pub device_windows : sum_by (λ d. length d.memory) p.devices ≤ MOST_DEVICE_WINDOWS
  pub device_bytes : sum_by (λ d. sum_by (λ m. m.size) d.memory) p.devices ≤ MOST_DEVICE_BYTES
  pub some_subjects : 1 ≤ length p.subjects
  pub most_subjects : length p.subjects ≤ MOST_SUBJECTS
  pub subjects : list_all (has_few p) p.subjects ≡ true
  pub regions : length p.memory + length p.channels + sum_by (regions_for p) p.subjects ≤ MOST_REGIONS
  pub some_majors : 1 ≤ length p.scheduling.major_frames
  pub most_majors : length p.scheduling.major_frames ≤ MOST_MAJOR_FRAMES
  pub frames : list_all (λ m. list_all is_short m.cpus) p.scheduling.major_frames ≡ true

at_most_none : (n most : ℕ) (name : List ℕ) → at_most n most name ≡ None → n ≤ most
at_most_none n most name h = leb-true n most (unless_none (nat_le n most) (alone name) h)

pub limits_kept : (p : Source) → offence_20 p ≡ None → LimitsKept p
unfolding offence_20
limits_kept p h =
    let blocks = none_both (at_most (length p.memory_blocks) MOST_BLOCKS (codes "memoryBlocks")) _ h in
    let bytes = none_both (at_most (sum_by (λ b. b.size) p.memory_blocks) MOST_BLOCK_BYTES (codes "memoryBlocks")) _ blocks.1 in
    let devices = none_both (at_most (length p.devices) MOST_DEVICES (codes "devices")) _ bytes.1 in
    let device = none_both (first_in device_limit p.devices) _ devices.1 in
    let memories = none_both (at_most (sum_by (λ d. length d.memory) p.devices) MOST_DEVICE_WINDOWS (codes "devices")) _ device.1 in
    let sizes = none_both (at_most (sum_by (λ d. sum_by (λ m. m.size) d.memory) p.devices) MOST_DEVICE_BYTES (codes "devices")) _ memories.1 in
    let channels = none_both (at_most (length p.channels) MOST_CHANNELS (codes "channels")) _ sizes.1 in
    let components = none_both (at_most (length p.components) MOST_COMPONENTS (codes "components")) _ channels.1 in
    let logical = none_both (first_in (λ c. at_most (length (logical_names c)) MOST_LOGICAL_NAMES c.name) p.components) _ components.1 in
    let events = none_both (at_most (length p.events + count_by (λ c. is_some c.has_event) p.channels) MOST_EVENTS (codes "events")) _ logical.1 in
    let subjects = none_both (unless (nat_le 1 (length p.subjects) && nat_le (length p.subjects) MOST_SUBJECTS) (alone (codes "subjects"))) _ events.1 in
    let subject = none_both (first_in (subject_limit p) p.subjects) _ subjects.1 in
    let regions = none_both (at_most (length p.memory + length p.channels + sum_by (regions_for p) p.subjects) MOST_REGIONS (codes "memory")) _ subject.1 in
    let majors = none_both (unless (nat_le 1 (length p.scheduling.major_frames) && nat_le (length p.scheduling.major_frames) MOST_MAJOR_FRAMES) (alone (codes "majorFrames"))) _ regions.1 in
    let frames = none_both (first_in major_limit (majors_of p)) None majors.1 in
    let number = and_parts (nat_le 1 (length p.subjects)) (nat_le (length p.subjects) MOST_SUBJECTS) (unless_none _ _ subjects.0) in
    let count = and_parts (nat_le 1 (length p.scheduling.major_frames)) (nat_le (length p.scheduling.major_frames) MOST_MAJOR_FRAMES) (unless_none _ _ majors.0) in
    record {
      block_bytes = at_most_none _ MOST_BLOCK_BYTES _ bytes.0;
      most_devices = at_most_none _ MOST_DEVICES _ devices.0;
      device_parts = all_pass has_few_parts (λ d. alone d.name) p.devices device.0;
      device_windows = at_most_none _ MOST_DEVICE_WINDOWS _ memories.0;
      device_bytes = at_most_none _ MOST_DEVICE_BYTES _ sizes.0;
      some_subjects = leb-true 1 (length p.subjects) number.0;
      most_subjects = leb-true (length p.subjects) MOST_SUBJECTS number.1;
      subjects = all_pass (has_few p) (λ s. alone s.name) p.subjects subject.0;
      regions = at_most_none _ MOST_REGIONS _ regions.0;
      some_majors = leb-true 1 (length p.scheduling.major_frames) count.0;
      most_majors = leb-true (length p.scheduling.major_frames) MOST_MAJOR_FRAMES count.1;
      frames = all_numbered (λ m. list_all is_short m.cpus) major_limit
          (λ k m none. unless_none (list_all is_short m.cpus) (alone (major_name k)) none) 0 p.scheduling.major_frames frames.0;
    }
