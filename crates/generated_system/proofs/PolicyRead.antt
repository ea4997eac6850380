-- The value of the generated policy document is read as the generated system.
use Rattle.std.proofs.Common.{◌≡◌, ℕ, zero, suc, ◌+◌, ◌-◌, ◌*◌, ◌<◌, ◌≤◌, true, false, List, [], ◌∷◌, ◌++◌, map, Ok, Result, Some, None, refl, ap, ◌∙◌, arith}
use Rattle.std.specs.Prelude.{◌==◌, codes, decimal, if◌then◌else◌}
use Rattle.std.specs.Fmt.{digits}
use Rattle.std.specs.List.{AllByRecursion}
use Rattle.std.specs.Result.{result_ok}
use Rattle.hex.proofs.HexLemmas.{decode_of-encode_lower}
use Rattle.hex.specs.Hex.{IsBytes, encode_lower}
use Rattle.muen_num.specs.Naming.{is_name}
use Rattle.muen_num.specs.Range.{numbers_below}
use Rattle.policy_json.specs.Document.{json_of, policy_from, policy_of, read_system, shape_refused}
use Rattle.policy_json.specs.Faults.{and_then, under, or_want}
use Rattle.policy_json.specs.Objects.{description, read_if_present, read_known, read_object, read_optional, read_required}
use Rattle.policy_json.specs.Table as table
use Rattle.policy_json.specs.Values.{read_hexadecimal, read_items, read_list, read_mode, read_name, read_number, read_rights, read_role}
use Rattle.policy_lawful.specs.refusal.Fault.{Fault}
use Rattle.policy_lawful.specs.refusal.Want.TheVariants.{Hexadecimal}
use Rattle.policy_lawful.specs.rights.Rights.TheVariants.{Rx}
use Rattle.serde_json.specs.Data.{Data, member, no_members, number, object, string, unsigned}
use Rattle.serde_json.specs.Read.{read}
use Rattle.serde_json.specs.View.{items_of}
use Rattle.std.specs.Str.{IsUtf8}
use Rattle.std.proofs.lemmas.Str.{is_utf8-from_IsUtf8}
use Rattle.generated_system.proofs.CodeBytes.{code_bytes}
use Rattle.generated_system.proofs.Shapes.{below_eight}
use Rattle.generated_system.specs.PolicyValue.{block_value, channel_value, device_value, devices_value, frames_value, generated_value, group_value, list, minor_frame_value, reader_value, region_value, scheduling_value, subject_value, system_value, whole_device_value, window_value, writer_value}
use Rattle.generated_system.specs.System.{generated_block, channel, channel_name, code_of, code_region, cpus_for, device, devices_of_subject, first_ticks_for, generated_cpu_frames, generated_system, group, group_name, generated_minor_frame, one_before, reads_from_channel, region_name, scheduling_with, subject, generated_subject_name, subjects_on, system_with, whole_device, writes_to}

-- ---- names

region_named : (i : ℕ) → i < 8 → read_name (string (region_name i)) ≡ Ok (region_name i)
unfolding read_name is_name digits
region_named = below_eight (λ i. read_name (string (region_name i)) ≡ Ok (region_name i)) refl refl refl refl refl refl refl refl

channel_named : (i : ℕ) → i < 8 → read_name (string (channel_name i)) ≡ Ok (channel_name i)
unfolding read_name is_name digits
channel_named = below_eight (λ i. read_name (string (channel_name i)) ≡ Ok (channel_name i)) refl refl refl refl refl refl refl refl

subject_named : (i : ℕ) → i < 8 → read_name (string (generated_subject_name i)) ≡ Ok (generated_subject_name i)
unfolding read_name is_name digits
subject_named = below_eight (λ i. read_name (string (generated_subject_name i)) ≡ Ok (generated_subject_name i)) refl refl refl refl refl refl refl refl

group_named : (i : ℕ) → i < 8 → read_name (string (group_name i)) ≡ Ok (group_name i)
unfolding read_name is_name digits
group_named = below_eight (λ i. read_name (string (group_name i)) ≡ Ok (group_name i)) refl refl refl refl refl refl refl refl

hexadecimal_read : (bytes : List ℕ) → IsBytes bytes → read_hexadecimal (string (encode_lower bytes)) ≡ Ok bytes
unfolding read_hexadecimal
hexadecimal_read bytes h = ap (λ r. or_want Hexadecimal (result_ok r)) (decode_of-encode_lower bytes h)

-- ---- elements

region_read : (code : ℕ → List ℕ) (i : ℕ) → i < 8 → IsBytes (code i) → read_object table.region (region_value code i) ≡ Ok (code_region code i)
unfolding region_value read_object table.region table.content table.one_content table.is_one_content read_known description read_required read_optional read_if_present read_list read_number
region_read code i less bytes = rw (region_named i less, hexadecimal_read (code i) bytes) refl

channel_read : (i : ℕ) → i < 8 → read_object table.channel (channel_value i) ≡ Ok (channel i)
unfolding channel_value read_object table.channel read_known description read_required read_optional read_if_present read_number read_mode
channel_read i less = rw (channel_named i less) refl

device_read : read_object table.device device_value ≡ Ok device
unfolding device_value read_object table.device table.ports table.irq read_known description read_required read_optional read_if_present read_list read_number read_name is_name
device_read = refl

whole_device_read : read_object table.device_use whole_device_value ≡ Ok whole_device
unfolding whole_device_value read_object table.device_use table.irq_use read_known description read_required read_optional read_if_present read_list read_number read_name is_name
whole_device_read = refl

devices_read : (i : ℕ) → read_list (read_object table.device_use) (devices_value i) ≡ Ok (devices_of_subject i)
unfolding devices_value read_list
devices_read i =
    elim (i == 0) as (λ b. read_list (read_object table.device_use) (list (if b then whole_device_value ∷ [] else [])) ≡ Ok (if b then whole_device ∷ [] else [])) [
      | true ↦ ap (λ r. and_then (under (decimal 0) r) λ x. Ok (x ∷ [])) whole_device_read
      | false ↦ refl
    ]

writer_read : (i : ℕ) → i < 8 → read_object table.channel_use (writer_value i) ≡ Ok (writes_to i)
unfolding writer_value read_object table.channel_use read_known description read_required read_if_present read_number read_role
writer_read i less = rw (channel_named i less) refl

reader_read : (i : ℕ) → i < 8 → read_object table.channel_use (reader_value i) ≡ Ok (reads_from_channel i)
unfolding reader_value read_object table.channel_use read_known description read_required read_if_present read_number read_role
reader_read i less = rw (channel_named i less) refl

window_read : (i : ℕ) → i < 8 → read_object table.mapping (window_value i) ≡ Ok (record { region = region_name i; virtual_address = 4194304; rights = Rx })
unfolding window_value read_object table.mapping read_known description read_required read_if_present read_number read_rights
window_read i less = rw (region_named i less) refl

-- ---- lists

-- one after another, where each is read
items_read : {X : Type 0} (read : Data → Result X Fault) (value : ℕ → Data) (f : ℕ → X) (is : List ℕ) (k : ℕ) → AllByRecursion (λ i. read (value i) ≡ Ok (f i)) is
    → read_items read k (items_of (map value is)) ≡ Ok (map f is)
items_read read value f [] k h = refl
items_read read value f (i ∷ is) k h =
    ap (λ r. and_then (under (decimal k) r) λ x. and_then (read_items read (k + 1) (items_of (map value is))) λ xs. Ok (x ∷ xs)) h.0
    ∙ ap (λ r. and_then r λ xs. Ok (f i ∷ xs)) (items_read read value f is (k + 1) h.1)

list_read : {X : Type 0} (read : Data → Result X Fault) (value : ℕ → Data) (f : ℕ → X) (is : List ℕ) → AllByRecursion (λ i. read (value i) ≡ Ok (f i)) is
    → read_list read (list (map value is)) ≡ Ok (map f is)
unfolding read_list
list_read read value f is h = items_read read value f is 0 h

one_read : {X : Type 0} (read : Data → Result X Fault) (d : Data) (x : X) → read d ≡ Ok x → read_list read (list (d ∷ [])) ≡ Ok (x ∷ [])
unfolding read_list
one_read read d x h = ap (λ r. and_then (under (decimal 0) r) λ x. Ok (x ∷ [])) h

two_read : {X : Type 0} (read : Data → Result X Fault) (d e : Data) (x y : X) → read d ≡ Ok x → read e ≡ Ok y → read_list read (list (d ∷ e ∷ [])) ≡ Ok (x ∷ y ∷ [])
unfolding read_list
two_read read d e x y h k =
    ap (λ r. and_then (under (decimal 0) r) λ x. and_then (and_then (under (decimal (0 + 1)) (read e)) λ y. Ok (y ∷ [])) λ ys. Ok (x ∷ ys)) h
    ∙ ap (λ r. and_then (and_then (under (decimal (0 + 1)) r) λ y. Ok (y ∷ [])) λ ys. Ok (x ∷ ys)) k

both_parts : (P : ℕ → Type 0) (xs ys : List ℕ) → AllByRecursion P xs → AllByRecursion P ys → AllByRecursion P (xs ++ ys)
both_parts P [] ys h k = k
both_parts P (x ∷ xs) ys h k = (h.0, both_parts P xs ys h.1 k)

each_below : (P : ℕ → Type 0) (n : ℕ) → ((i : ℕ) → i < n → P i) → AllByRecursion P (numbers_below n)
each_below P zero h = tt
each_below P (suc n) h = both_parts P (numbers_below n) (n ∷ []) (each_below P n (λ i less. h i (omega arith))) (h n (omega arith), tt)

-- ---- subjects and groups

subject_read : (cpus i : ℕ) → i < 8 → one_before cpus i < 8 → read_object table.subject (subject_value cpus i) ≡ Ok (subject cpus i)
unfolding subject_value read_object table.subject read_known description read_required read_optional read_if_present read_number
subject_read cpus i less before =
    rw (
      subject_named i less,
      one_read (read_object table.mapping) (window_value i) (record { region = region_name i; virtual_address = 4194304; rights = Rx }) (window_read i less),
      two_read (read_object table.channel_use) (writer_value i) (reader_value (one_before cpus i)) (writes_to i) (reads_from_channel (one_before cpus i)) (writer_read i less) (reader_read (one_before cpus i) before),
      devices_read i,
    ) refl

group_read : (i : ℕ) → i < 8 → read_object table.group (group_value i) ≡ Ok (group i)
unfolding group_value read_object table.group read_known description read_required read_optional read_if_present read_number
group_read i less =
    rw (group_named i less, one_read read_name (string (generated_subject_name i)) (generated_subject_name i) (subject_named i less)) refl

minor_frame_read : (i ticks : ℕ) → i < 8 → read_object table.minor_frame (minor_frame_value i ticks) ≡ Ok (generated_minor_frame i ticks)
unfolding minor_frame_value read_object table.minor_frame read_known description read_required read_if_present read_number
minor_frame_read i ticks less = rw (group_named i less) refl

frames_read : (first j : ℕ) → j < 4 → read_object table.cpu_frames (frames_value first j) ≡ Ok (generated_cpu_frames first j)
unfolding frames_value read_object table.cpu_frames read_known description read_required read_optional read_if_present read_number
frames_read first j less =
    rw (two_read (read_object table.minor_frame) (minor_frame_value (2 * j) first) (minor_frame_value (2 * j + 1) (8 - first)) (generated_minor_frame (2 * j) first) (generated_minor_frame (2 * j + 1) (8 - first)) (minor_frame_read (2 * j) first (omega arith)) (minor_frame_read (2 * j + 1) (8 - first) (omega arith))) refl

-- ---- the document

abbrev major_value : ℕ → ℕ → Data
major_value cpus first = object (member (codes "cpus") (list (map (frames_value first) (numbers_below cpus))) no_members)

major_read : (cpus first : ℕ) → cpus ≤ 4 → read_object table.major_frame (major_value cpus first) ≡ Ok (record { cpus = map (generated_cpu_frames first) (numbers_below cpus) })
unfolding read_object table.major_frame read_known description read_optional read_if_present
major_read cpus first few =
    rw (list_read (read_object table.cpu_frames) (frames_value first) (generated_cpu_frames first) (numbers_below cpus) (each_below (λ j. read_object table.cpu_frames (frames_value first j) ≡ Ok (generated_cpu_frames first j)) cpus (λ j less. frames_read first j (omega arith)))) refl

scheduling_read : (cpus first : ℕ) → cpus ≤ 4 → read_object table.scheduling (scheduling_value cpus first) ≡ Ok (scheduling_with cpus first)
unfolding scheduling_value read_object table.scheduling read_known description read_optional read_if_present
scheduling_read cpus first few =
    rw (
      list_read (read_object table.group) group_value group (numbers_below (subjects_on cpus)) (each_below (λ i. read_object table.group (group_value i) ≡ Ok (group i)) (subjects_on cpus) (λ i less. group_read i (omega arith))),
      one_read (read_object table.major_frame) (major_value cpus first) (record { cpus = map (generated_cpu_frames first) (numbers_below cpus) }) (major_read cpus first few),
    ) refl

block_read : read_object table.block block_value ≡ Ok generated_block
unfolding block_value read_object table.block read_known description read_required read_if_present read_number read_name is_name
block_read = refl

processor_read : (cpus : ℕ) → read_object table.processor (object (member (codes "logicalCpus") (number (unsigned cpus)) no_members)) ≡ Ok (record { logical_cpus = cpus })
unfolding read_object table.processor read_known description read_required read_if_present read_number
processor_read cpus = refl

-- the one before, round the ring, is one of them
before_below : (cpus i : ℕ) → 1 ≤ cpus → cpus ≤ 4 → one_before cpus i < 8
before_below cpus i some few = let less : one_before cpus i < subjects_on cpus = omega arith in omega arith

system_read : (cpus first : ℕ) (code : ℕ → List ℕ) → 1 ≤ cpus → cpus ≤ 4 → ((i : ℕ) → IsBytes (code i)) → read_system (system_value cpus first code) ≡ Ok (system_with cpus first code)
unfolding system_value read_object table.system read_known description read_required read_optional read_if_present
system_read cpus first code some few bytes =
    let is : List ℕ = numbers_below (subjects_on cpus) in
    rw (
      list_read (read_object table.channel) channel_value channel is (each_below (λ i. read_object table.channel (channel_value i) ≡ Ok (channel i)) (subjects_on cpus) (λ i less. channel_read i (omega arith))),
      one_read (read_object table.device) device_value device device_read,
      list_read (read_object table.region) (region_value code) (code_region code) is (each_below (λ i. read_object table.region (region_value code i) ≡ Ok (code_region code i)) (subjects_on cpus) (λ i less. region_read code i (omega arith) (bytes i))),
      one_read (read_object table.block) block_value generated_block block_read,
      processor_read cpus,
      scheduling_read cpus first few,
      list_read (read_object table.subject) (subject_value cpus) (subject cpus) is (each_below (λ i. read_object table.subject (subject_value cpus i) ≡ Ok (subject cpus i)) (subjects_on cpus) (λ i less. subject_read cpus i (omega arith) (before_below cpus i some few))),
    ) refl

policy_read : (n : ℕ) → read_system (generated_value n) ≡ Ok (generated_system n)
unfolding generated_system
policy_read n = system_read (cpus_for n) (first_ticks_for n) (code_of n) (omega arith) (omega arith) (code_bytes n)

-- a text with this value is a policy document
pub document_read : (n : ℕ) (text : List ℕ) → IsUtf8 text → read text ≡ Some (generated_value n) → policy_of text ≡ Ok (generated_system n)
unfolding policy_of json_of
document_read n text utf8 is =
    ap (λ b. policy_from (if b then read text else None)) (is_utf8-from_IsUtf8 text utf8) ∙ ap policy_from is ∙ ap shape_refused (policy_read n)
