-- On whom a subject can depend where devices count, and the text that tells it (this project's own).
use Rattle.std.specs.Prelude.{◌≡◌, ℕ, Bool, false, List, map, filter}
use Rattle.std.specs.List.{flat_map}
use Rattle.std.specs.Str.{bytes_eq}
use Rattle.policy_lawful.specs.source.Source.{Source}
use Rattle.flow_report.specs.FlowText.{flow_line}
use Rattle.flow_report.specs.Sets.{members_of}
use Rattle.device_flows.specs.Closures.{closure_from}
use Rattle.device_flows.specs.Ends.{End, subject, device, ends_of, leads_to}

-- it is the subject of this name
abbrev pub is_subject : List ℕ → End → Bool
is_subject name (subject s) = bytes_eq s.name name
is_subject name (device d) = false

-- the subjects and devices of which what they do can reach the subject of this name, over any others
unfoldable pub reaches_over_devices : Source → List ℕ → End → Bool
reaches_over_devices p name = closure_from (leads_to p) (ends_of p) (is_subject name)

-- of these the subjects, in the policy's order
unfoldable pub device_closure_of : Source → List ℕ → List (List ℕ)
device_closure_of p name = map (λ u. u.name) (filter (λ u. reaches_over_devices p name (subject u)) p.subjects)

-- a line for each subject, as `flows` has it
unfoldable pub device_flow_text_of : Source → List ℕ
device_flow_text_of p = flat_map (λ s. flow_line s.name (device_closure_of p s.name)) p.subjects

-- for each subject the marks of the subjects in its set; more marks may follow
abbrev pub AreDeviceFlows : Source → List (List Bool) → Type 0
AreDeviceFlows p sets = map (members_of p) sets ≡ map (λ s. device_closure_of p s.name) p.subjects
