-- Rows of marks: those of subjects, and behind them those of devices.
use Rattle.std.proofs.Common.{◌≡◌, ℕ, Bool, false, List, [], ◌++◌, length, map, Some, sym, ap, ◌∙◌}
use Rattle.std.specs.Prelude.{slice_get, slice_index_or}
use Rattle.std.proofs.lemmas.Option.{get_or_from_slice_get, slice_get-map}
use Rattle.std.specs.Prelude.{option_map}
use Rattle.std.specs.Str.{bytes_eq}
use Rattle.muen_num.proofs.Lists.{map-map, map_same}
use Rattle.policy_lawful.specs.Resolution.{Resolution, source_of, subject_named}
use Rattle.policy_lawful.specs.declared.resolved.Subject.{Subject}
use Rattle.policy_lawful.specs.source.Device.{Device}
use Rattle.policy_lawful.specs.source.Subject.{Subject as NamedSubject}
use Rattle.policy_flows.specs.Flows.{flows_to}
use Rattle.flow_report.specs.Marks.{after_rounds}
use Rattle.flow_report.specs.Sets.{direct_flows_of, members_of}
use Rattle.device_flows.specs.DeviceFlows.{AreDeviceFlows, device_closure_of, is_subject}
use Rattle.device_flows.specs.ByIndex.{device_row, row_of, sets_after, subject_row}
use Rattle.device_flows.specs.Ends.{subject, device, are_together, ends_of, hears, leads_to, tells}
use Rattle.device_flows.proofs.MarkedEnds.{ends_told, set_is}

-- what is told of a policy's subjects is told of its resolved ones
pub of_resolved : {Y : Type 0} (f : NamedSubject → Y) (r : Resolution) → map f (source_of r).subjects ≡ map (λ s. f (subject_named r s)) r.subjects
unfolding source_of
of_resolved f r = map-map f (subject_named r) r.subjects

direct_at : (r : Resolution) (k : ℕ) (s : Subject) → slice_get r.subjects k ≡ Some s → slice_index_or (direct_flows_of (source_of r)) k [] ≡ map (flows_to (source_of r) (subject_named r s)) (source_of r).subjects
direct_at r k s at =
    let row : NamedSubject → List Bool = λ u. map (flows_to (source_of r) u) (source_of r).subjects in
    let here : slice_get (direct_flows_of (source_of r)) k ≡ Some (row (subject_named r s)) =
    ap (λ rows. slice_get rows k) (of_resolved row r)
    ∙ slice_get-map (λ s. row (subject_named r s)) r.subjects k
    ∙ ap (option_map (λ (s : Subject). row (subject_named r s))) at in
    get_or_from_slice_get (direct_flows_of (source_of r)) k (row (subject_named r s)) [] here

pub subject_row_is : (r : Resolution) (k : ℕ) (s : Subject) → slice_get r.subjects k ≡ Some s
    → slice_index_or (direct_flows_of (source_of r)) k [] ++ map (tells (source_of r) (subject_named r s)) r.devices ≡ subject_row r s
unfolding source_of
subject_row_is r k s at =
    (λ i. direct_at r k s at i ++ map (tells (source_of r) (subject_named r s)) r.devices)
    ∙ sym (ends_told (leads_to (source_of r) (subject (subject_named r s))) (source_of r))

pub device_row_is : (r : Resolution) (d : Device)
    → map (λ s. hears (source_of r) (subject_named r s) d) r.subjects ++ map (are_together (source_of r) d) r.devices ≡ device_row r d
unfolding source_of
device_row_is r d =
    (λ i. sym (of_resolved (λ s. hears (source_of r) s d) r) i ++ map (are_together (source_of r) d) r.devices)
    ∙ sym (ends_told (leads_to (source_of r) (device d)) (source_of r))

pub rows_are : (r : Resolution) → map (subject_row r) r.subjects ++ map (device_row r) r.devices ≡ map (row_of r) (ends_of (source_of r))
unfolding source_of
rows_are r =
    (λ i. sym (of_resolved (λ s. row_of r (subject s)) r) i ++ map (device_row r) r.devices)
    ∙ sym (ends_told (row_of r) (source_of r))

-- the marks of the subject of a name alone
pub alone_is : (r : Resolution) (name : List ℕ) → map (λ s. bytes_eq s.name name) r.subjects ++ map (λ _. false) r.devices ≡ map (is_subject name) (ends_of (source_of r))
unfolding source_of
alone_is r name =
    (λ i. sym (of_resolved (λ s. bytes_eq s.name name) r) i ++ map (λ _. false) r.devices)
    ∙ sym (ends_told (is_subject name) (source_of r))

-- of the rows of all, the marks after as many rounds as there are subjects and devices are those of the sets
pub sets_are : (r : Resolution) (rows : List (List Bool)) → rows ≡ map (row_of r) (ends_of (source_of r)) → (n : ℕ) → n ≡ length (ends_of (source_of r)) → AreDeviceFlows (source_of r) (sets_after r r.subjects rows n)
sets_are r rows is n many =
    let set : Subject → List Bool = λ s. after_rounds rows (map (is_subject s.name) (ends_of (source_of r))) n in
    map-map (members_of (source_of r)) set r.subjects
    ∙ map_same (λ s. members_of (source_of r) (set s)) (λ s. device_closure_of (source_of r) s.name) (λ s. set_is (source_of r) s.name rows is n many) r.subjects
    ∙ sym (of_resolved (λ s. device_closure_of (source_of r) s.name) r)
