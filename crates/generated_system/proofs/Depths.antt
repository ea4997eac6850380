-- The value of the generated policy document doesn't nest deep.
use Rattle.std.proofs.Common.{ℕ, ◌≤◌, true, false, List, [], ◌∷◌, map, arith}
use Rattle.std.specs.Prelude.{◌==◌, if◌then◌else◌}
use Rattle.muen_num.specs.Range.{numbers_below}
use Rattle.serde_json.specs.Data.{Data, depth, items_depth}
use Rattle.serde_json.specs.Read.{max_depth}
use Rattle.serde_json.specs.View.{items_of}
use Rattle.generated_system.specs.PolicyValue.{block_value, channel_value, device_value, devices_value, frames_value, generated_value, group_value, list, minor_frame_value, reader_value, region_value, scheduling_value, subject_value, system_value, whole_device_value, window_value, writer_value}
use Rattle.generated_system.specs.System.{code_of, cpus_for, first_ticks_for, subjects_on}

items_deep : (value : ℕ → Data) (most : ℕ) → ((i : ℕ) → depth (value i) ≤ most) → (is : List ℕ) → items_depth (items_of (map value is)) ≤ most
items_deep value most h [] = omega arith
items_deep value most h (i ∷ is) = omega (arith, h i, items_deep value most h is)

region_deep : (code : ℕ → List ℕ) (i : ℕ) → depth (region_value code i) ≤ 2
unfolding region_value
region_deep code i = omega arith

channel_deep : (i : ℕ) → depth (channel_value i) ≤ 1
unfolding channel_value
channel_deep i = omega arith

device_deep : depth device_value ≤ 3
unfolding device_value
device_deep = omega arith

block_deep : depth block_value ≤ 1
unfolding block_value
block_deep = omega arith

devices_deep : (i : ℕ) → depth (devices_value i) ≤ 4
unfolding devices_value whole_device_value
devices_deep i = elim (i == 0) as (λ b. depth (list (if b then whole_device_value ∷ [] else [])) ≤ 4) [ true ↦ omega arith | false ↦ omega arith ]

subject_deep : (cpus i : ℕ) → depth (subject_value cpus i) ≤ 5
unfolding subject_value writer_value reader_value window_value
subject_deep cpus i = omega (arith, devices_deep i)

group_deep : (i : ℕ) → depth (group_value i) ≤ 2
unfolding group_value
group_deep i = omega arith

frames_deep : (first j : ℕ) → depth (frames_value first j) ≤ 3
unfolding frames_value minor_frame_value
frames_deep first j = omega arith

scheduling_deep : (cpus first : ℕ) → depth (scheduling_value cpus first) ≤ 7
unfolding scheduling_value
scheduling_deep cpus first =
    omega (arith, items_deep group_value 2 group_deep (numbers_below (subjects_on cpus)), items_deep (frames_value first) 3 (frames_deep first) (numbers_below cpus))

system_deep : (cpus first : ℕ) (code : ℕ → List ℕ) → depth (system_value cpus first code) ≤ 8
unfolding system_value
system_deep cpus first code =
    let is : List ℕ = numbers_below (subjects_on cpus) in
    omega (arith, items_deep channel_value 1 channel_deep is, items_deep (region_value code) 2 (region_deep code) is, items_deep (subject_value cpus) 5 (subject_deep cpus) is, device_deep, block_deep, scheduling_deep cpus first)

pub generated_deep : (n : ℕ) → depth (generated_value n) ≤ max_depth
generated_deep n = omega (arith, system_deep (cpus_for n) (first_ticks_for n) (code_of n))
