-- The text of a policy, by the numbers of its things and the indexes of its subjects.
use Rattle.std.specs.Prelude.{ℕ, List, [], ◌++◌, codes, slice_get, Option, Some, None}
use Rattle.std.specs.Option.{option_map_or}
use Rattle.std.specs.List.{enumerate_from, flat_map}
use Rattle.expand_kernel.specs.Numbered.{shown_tag}
use Rattle.expand_kernel.specs.granted.GrantedWindow.{GrantedWindow}
use Rattle.expand_kernel.specs.granted.Grants.{Grants}
use Rattle.expand_kernel.specs.thing.Region.{Region}
use Rattle.map_report.specs.MapText.{region_line, region_lines, window_line}
use Rattle.muen_num.specs.declared.tag.Tag.{Tag}
use Rattle.policy_lawful.specs.Resolution.{Resolution}
use Rattle.policy_lawful.specs.Things.{device_things}
use Rattle.policy_lawful.specs.declared.resolved.Subject.{Subject}
use Rattle.policy_lawful.specs.declared.thing.Thing.{Thing}

abbrev pub tagged_line : List ℕ → GrantedWindow → Option Tag → List ℕ
tagged_line subject w None = []
tagged_line subject w (Some name) = window_line subject w.guest w.size w.rights name

-- a window of the subject of this name, where what it shows is there
abbrev pub granted_line : Resolution → List ℕ → GrantedWindow → List ℕ
granted_line r subject w = tagged_line subject w (shown_tag r w.thing)

abbrev pub granted_lines : Resolution → List ℕ → List GrantedWindow → List ℕ
granted_lines r subject windows = flat_map (granted_line r subject) windows

-- the windows of the subject at an index
abbrev pub windows_at : List Grants → ℕ → List GrantedWindow
windows_at grants index = option_map_or (λ g. g.windows) (slice_get grants index) []

-- those of these subjects, the first of which has this index
abbrev pub all_granted_lines : Resolution → List Grants → ℕ → List Subject → List ℕ
all_granted_lines r grants first subjects =
    flat_map (λ x. granted_lines r x.1.name (windows_at grants x.0)) (enumerate_from first subjects)

-- memory of a device, where it has to be
abbrev pub memory_line : Thing → List ℕ
memory_line t = option_map_or (λ address. region_line (codes "device") address t.size t.tag) t.fixed []

-- the whole text
abbrev pub map_lines : Resolution → List ℕ → List Region → List Grants → List ℕ
map_lines r addresses regions grants =
    region_lines addresses regions ++ flat_map memory_line (device_things r) ++ all_granted_lines r grants 0 r.subjects
