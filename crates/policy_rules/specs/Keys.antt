-- The keys and other words that rules name.
use Rattle.std.specs.Prelude.{ℕ, List, codes}
use Rattle.policy_rules.specs.declared.keys.Key.{Key}
use Rattle.policy_rules.specs.declared.keys.Key.TheVariants.{Processor, MemoryBlocks, Devices, Memory, Channels, Components, Events, Subjects, MajorFrames, Tau0}

abbrev pub key_text : Key → List ℕ
key_text Processor = codes "processor"
key_text MemoryBlocks = codes "memoryBlocks"
key_text Devices = codes "devices"
key_text Memory = codes "memory"
key_text Channels = codes "channels"
key_text Components = codes "components"
key_text Events = codes "events"
key_text Subjects = codes "subjects"
key_text MajorFrames = codes "majorFrames"
key_text Tau0 = codes "tau0"
