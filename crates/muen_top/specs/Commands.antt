-- The commands of the program (this project's own).
use Rattle.std.specs.Prelude.{ℕ, ◌^◌, List, [], ◌∷◌, Option, Some, None, option_and_then, option_map, codes, nat_lt, if◌then◌else◌}
use Rattle.std.specs.Str.{bytes_eq}
use Rattle.text_words.specs.Numbers.{number_of}

pub data Command : Type 0 where
  -- a policy, an image, and tables for direct memory access, or none, by the names of their files: the policy's image is
  -- written, and the tables of its domains of devices
  build : List ℕ → List ℕ → Option (List ℕ) → Command
  -- a policy and a device record, by the names of their files: the policy's system runs on the record
  boot : List ℕ → List ℕ → Command
  -- an image, a device record, and tables for direct memory access, or none, by the names of their files: the image runs on
  -- the record, with the tables
  run : List ℕ → List ℕ → Option (List ℕ) → Command
  -- a policy, by the name of its file: its addresses and windows are printed
  map : List ℕ → Command
  -- a policy, by the name of its file: on whom each subject can depend is printed
  flows : List ℕ → Command
  -- an image and a policy, by the names of their files: whether the image is sound for the policy and its files is told
  verify : List ℕ → List ℕ → Command
  -- a number: the system that is generated of it runs, and what its text comes to is printed
  load : ℕ → Command

abbrev pub for_load : ℕ → Option ℕ
for_load n = if nat_lt n (2 ^ 16) then Some n else None

-- the number below 2 ^ 16 that a word spells
abbrev pub load_number : List ℕ → Option ℕ
load_number word = option_and_then for_load (number_of word)

-- the command that the words after the program's name ask for; none where they have no command's form
abbrev pub command_of : List (List ℕ) → Option Command
command_of [] = None
command_of (word ∷ []) = None
command_of (word ∷ a ∷ []) =
    if bytes_eq word (codes "map") then Some (map a)
    else (if bytes_eq word (codes "flows") then Some (flows a)
    else (if bytes_eq word (codes "load") then option_map load (load_number a) else None))
command_of (word ∷ a ∷ b ∷ []) =
    if bytes_eq word (codes "build") then Some (build a b None)
    else (if bytes_eq word (codes "boot") then Some (boot a b)
    else (if bytes_eq word (codes "run") then Some (run a b None)
    else (if bytes_eq word (codes "verify") then Some (verify a b) else None)))
command_of (word ∷ a ∷ b ∷ c ∷ []) =
    if bytes_eq word (codes "build") then (if bytes_eq b c then None else Some (build a b (Some c)))
    else (if bytes_eq word (codes "run") then Some (run a b (Some c)) else None)
command_of (word ∷ a ∷ b ∷ c ∷ d ∷ rest) = None
