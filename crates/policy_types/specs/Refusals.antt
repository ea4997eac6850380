-- The texts of refusals, as they are printed (this project's own).
use Rattle.std.specs.Prelude.{ℕ, Bool, true, false, List, ◌++◌, codes, decimal}
use Rattle.muen_num.specs.Tag.{tag_text}
use Rattle.policy_types.specs.declared.refusal.Want.{Want}
use Rattle.policy_types.specs.declared.refusal.Want.TheVariants.{Number, Byte, Name, Rights, Caching, Mode, Role, Hexadecimal, List as WantList, Object, KnownKeys, Present, OneContent, CallOrTrap}
use Rattle.policy_types.specs.declared.refusal.Refusal.{Refusal}
use Rattle.policy_types.specs.declared.refusal.Refusal.TheVariants.{NotJson, Shape, Rule, Missing, TooLong, FileFit, NoRoom, NoMemory}

abbrev pub want_text : Want → List ℕ
want_text Number = codes "number"
want_text Byte = codes "byte"
want_text Name = codes "name"
want_text Rights = codes "rights"
want_text Caching = codes "caching"
want_text Mode = codes "mode"
want_text Role = codes "role"
want_text Hexadecimal = codes "hexadecimal"
want_text WantList = codes "list"
want_text Object = codes "object"
want_text KnownKeys = codes "known keys"
want_text Present = codes "present"
want_text OneContent = codes "one content"
want_text CallOrTrap = codes "call or trap"

unfoldable pub bytes_in_room_for : List ℕ
bytes_in_room_for = codes " bytes in room for "

abbrev pub refusal_text : Refusal → List ℕ
refusal_text NotJson = codes "not JSON"
refusal_text (Shape place want) = codes "shape at " ++ (place ++ (codes ": want " ++ want_text want))
refusal_text (Rule number first second) =
    codes "rule " ++ (decimal number ++ (codes ": " ++ (first ++ (codes " " ++ second))))
refusal_text (Missing file) = codes "missing file " ++ file
refusal_text (TooLong file length) = codes "file " ++ (file ++ (codes " has " ++ (decimal length ++ codes " bytes")))
refusal_text (FileFit region room length) =
    tag_text region ++ (codes ": " ++ (decimal length ++ (bytes_in_room_for ++ decimal room)))
refusal_text (NoRoom region size) =
    codes "no room for " ++ (tag_text region ++ (codes " of " ++ (decimal size ++ codes " bytes")))
refusal_text NoMemory = codes "out of memory"

-- memory was refused: nothing is said of the policy
abbrev pub is_no_memory : Refusal → Bool
is_no_memory NoMemory = true
is_no_memory _ = false
