-- The texts of faults, as they are printed (this project's own).
use Rattle.std.specs.Prelude.{ℕ, List, ◌++◌, codes}
use Rattle.muen_num.specs.Fixed.{hex16}
use Rattle.image_verify.specs.declared.fault.Condition.{Condition}
use Rattle.image_verify.specs.declared.fault.Condition.TheVariants.{Contents, Tables, Bitmaps, Areas, States, OwnPages, Plan}
use Rattle.image_verify.specs.declared.fault.Fault.{Fault}
use Rattle.image_verify.specs.declared.fault.Fault.TheVariants.{Fails, Lacks, Leak, Twice}
use Rattle.image_verify.specs.declared.fault.Owner.{Owner}
use Rattle.image_verify.specs.declared.fault.Owner.TheVariants.{Named, Plan as WholePlan}

-- the letter of a condition
abbrev pub letter : Condition → List ℕ
letter Contents = codes "a"
letter Tables = codes "c"
letter Bitmaps = codes "d"
letter Areas = codes "e"
letter States = codes "f"
letter OwnPages = codes "g"
letter Plan = codes "h"

abbrev pub owner_text : Owner → List ℕ
owner_text WholePlan = codes "plan"
owner_text (Named name) = name

unfoldable pub not_sound_section : List ℕ
not_sound_section = codes "not sound: section "

abbrev pub fault_text : Fault → List ℕ
fault_text (Fails condition owner) = not_sound_section ++ (letter condition ++ (codes " " ++ owner_text owner))
fault_text (Twice subject addr) = codes "not sound: twice " ++ (subject ++ (codes " " ++ hex16 addr))
fault_text (Leak subject addr) = codes "not sound: leak " ++ (subject ++ (codes " " ++ hex16 addr))
fault_text (Lacks subject addr) = codes "not sound: lacks " ++ (subject ++ (codes " " ++ hex16 addr))
