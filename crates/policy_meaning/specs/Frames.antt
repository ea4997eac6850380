-- The frames of the scheduling plan (Muen kernel report: major and minor frames).
use Rattle.std.specs.Prelude.{ℕ, ◌==◌, List, [], ◌∷◌, map, Option, option_map, position}
use Rattle.std.specs.Option.{option_map_or}
use Rattle.std.specs.List.{find, filter_map, list_any}
use Rattle.std.specs.Str.{bytes_eq}
use Rattle.muen_num.specs.Frame.{Frame}
use Rattle.policy_types.specs.declared.source.Source.{Source}
use Rattle.policy_types.specs.declared.source.MajorFrame.{MajorFrame}
use Rattle.policy_types.specs.declared.source.MinorFrame.{MinorFrame}
use Rattle.policy_types.specs.declared.source.CpuFrames.{CpuFrames}

-- a minor frame, with its group by number
abbrev pub frame_of : Source → MinorFrame → Option Frame
frame_of p f =
    option_map (λ n. record { group = n; ticks = f.ticks }) (position (λ g. bytes_eq g.name f.group) p.scheduling.groups)

abbrev pub entry_frames : Source → CpuFrames → List Frame
entry_frames p c = filter_map (frame_of p) c.minor_frames

-- the minor frames of a CPU in a major frame: those of the entry that names it
abbrev pub major_frames_of : Source → ℕ → MajorFrame → List Frame
major_frames_of p cpu m = option_map_or (entry_frames p) (find (λ c. c.cpu == cpu) m.cpus) []

-- the minor frames of a CPU, in each of the major frames in order
unfoldable pub frames_of : Source → ℕ → List (List Frame)
frames_of p cpu = map (major_frames_of p cpu) p.scheduling.major_frames

-- the first listed member of a group, which is active at the start
abbrev pub first_member : List (List ℕ) → List ℕ
first_member [] = []
first_member (name ∷ names) = name

-- the number of the group in which the subject of this name stands
abbrev pub group_of : Source → List ℕ → Option ℕ
group_of p name = position (λ g. list_any (λ n. bytes_eq n name) g.subjects) p.scheduling.groups
