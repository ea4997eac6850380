-- The JSON value of the generated policy document. The members of an object stand in the order of their keys.
use Rattle.std.specs.Prelude.{ℕ, ◌+◌, ◌-◌, ◌*◌, ◌/◌, ◌==◌, List, [], ◌∷◌, map, codes, if◌then◌else◌}
use Rattle.hex.specs.Hex.{encode_lower}
use Rattle.muen_num.specs.Range.{numbers_below}
use Rattle.serde_json.specs.Data.{Data, Members, array, member, no_members, number, object, string, unsigned}
use Rattle.serde_json.specs.View.{items_of}
use Rattle.generated_system.specs.System.{channel_name, code_address, code_of, cpus_for, first_ticks_for, group_name, one_before, read_address, region_name, generated_subject_name, subjects_on, written_address}

-- ---- kinds of values

abbrev pub list : List Data → Data
list items = array (items_of items)

abbrev pub with_number : List ℕ → ℕ → Members → Members
with_number key n rest = member key (number (unsigned n)) rest

abbrev pub with_text : List ℕ → List ℕ → Members → Members
with_text key text rest = member key (string text) rest

-- ---- elements

unfoldable pub region_value : (ℕ → List ℕ) → ℕ → Data
region_value code i = object
    (member (codes "content") (object (with_text (codes "hex") (encode_lower (code i)) no_members))
    (with_text (codes "name") (region_name i)
    (with_number (codes "size") 4096 no_members)))

unfoldable pub channel_value : ℕ → Data
channel_value i = object
    (with_text (codes "hasEvent") (codes "asap")
    (with_text (codes "name") (channel_name i)
    (with_number (codes "size") 4096 no_members)))

unfoldable pub device_value : Data
device_value = object
    (member (codes "ioPorts") (list (object
    (with_number (codes "end") 16
    (with_text (codes "name") (codes "p")
    (with_number (codes "start") 16 no_members))) ∷ []))
    (member (codes "irqs") (list (object (with_text (codes "name") (codes "t") no_members) ∷ []))
    (with_text (codes "name") (codes "dev") no_members)))

unfoldable pub whole_device_value : Data
whole_device_value = object
    (with_text (codes "device") (codes "dev")
    (member (codes "ioPorts") (list (string (codes "p") ∷ []))
    (member (codes "irqs") (list (object
    (with_text (codes "irq") (codes "t")
    (with_number (codes "vector") 41 no_members)) ∷ [])) no_members)))

unfoldable pub devices_value : ℕ → Data
devices_value i = list (if i == 0 then whole_device_value ∷ [] else [])

unfoldable pub writer_value : ℕ → Data
writer_value i = object
    (with_number (codes "call") 1
    (with_text (codes "channel") (channel_name i)
    (with_text (codes "role") (codes "writer")
    (with_number (codes "virtualAddress") written_address no_members))))

unfoldable pub reader_value : ℕ → Data
reader_value i = object
    (with_text (codes "channel") (channel_name i)
    (with_text (codes "role") (codes "reader")
    (with_number (codes "vector") 40
    (with_number (codes "virtualAddress") read_address no_members))))

unfoldable pub window_value : ℕ → Data
window_value i = object
    (with_text (codes "region") (region_name i)
    (with_text (codes "rights") (codes "rx")
    (with_number (codes "virtualAddress") code_address no_members)))

unfoldable pub subject_value : ℕ → ℕ → Data
subject_value cpus i = object
    (member (codes "channels") (list (writer_value i ∷ reader_value (one_before cpus i) ∷ []))
    (with_number (codes "cpu") (i / 2)
    (member (codes "devices") (devices_value i)
    (with_number (codes "entry") code_address
    (member (codes "memory") (list (window_value i ∷ []))
    (with_text (codes "name") (generated_subject_name i) no_members))))))

unfoldable pub group_value : ℕ → Data
group_value i = object
    (with_number (codes "cpu") (i / 2)
    (with_text (codes "name") (group_name i)
    (member (codes "subjects") (list (string (generated_subject_name i) ∷ [])) no_members)))

unfoldable pub minor_frame_value : ℕ → ℕ → Data
minor_frame_value i ticks = object (with_text (codes "group") (group_name i) (with_number (codes "ticks") ticks no_members))

unfoldable pub frames_value : ℕ → ℕ → Data
frames_value first j = object
    (with_number (codes "cpu") j
    (member (codes "minorFrames") (list (minor_frame_value (2 * j) first ∷ minor_frame_value (2 * j + 1) (8 - first) ∷ [])) no_members))

-- ---- the document

unfoldable pub block_value : Data
block_value = object
    (with_text (codes "name") (codes "ram")
    (with_number (codes "physicalAddress") 16777216
    (with_number (codes "size") 4194304 no_members)))

unfoldable pub scheduling_value : ℕ → ℕ → Data
scheduling_value cpus first = object
    (member (codes "groups") (list (map group_value (numbers_below (subjects_on cpus))))
    (member (codes "majorFrames") (list (object (member (codes "cpus") (list (map (frames_value first) (numbers_below cpus))) no_members) ∷ [])) no_members))

unfoldable pub system_value : ℕ → ℕ → (ℕ → List ℕ) → Data
system_value cpus first code = object
    (member (codes "channels") (list (map channel_value (numbers_below (subjects_on cpus))))
    (member (codes "devices") (list (device_value ∷ []))
    (member (codes "memory") (list (map (region_value code) (numbers_below (subjects_on cpus))))
    (member (codes "memoryBlocks") (list (block_value ∷ []))
    (member (codes "processor") (object (with_number (codes "logicalCpus") cpus no_members))
    (member (codes "scheduling") (scheduling_value cpus first)
    (member (codes "subjects") (list (map (subject_value cpus) (numbers_below (subjects_on cpus)))) no_members)))))))

abbrev pub generated_value : ℕ → Data
generated_value n = system_value (cpus_for n) (first_ticks_for n) (code_of n)
