-- The field of a name.
use Rattle.std.specs.Prelude.{ℕ, ◌==◌, ◌&&◌, nat_le, List, [], ◌∷◌, take, drop, Option, None, if◌then◌else◌}
use Rattle.std.specs.List.{list_all}
use Rattle.muen_num.specs.Naming.{name_of, name_length, name_room}
use Rattle.muen_num.specs.declared.limits.TheConstants.{NAME_MOST}
use Rattle.binary_form.specs.declared.fault.Field.TheVariants as at
use Rattle.binary_form.specs.Form.{Form, coded}

-- the name of 64 bytes: as long as the first says, with zeros behind it
abbrev pub name_in : List ℕ → Option (List ℕ)
name_in [] = None
name_in (n ∷ body) =
    if nat_le n NAME_MOST && list_all (λ b. b == 0) (drop n body) then name_of (take n body) else None

abbrev pub name_bytes : List ℕ → List ℕ
name_bytes text = name_length text ∷ name_room text

-- a name, in 64 bytes
unfoldable pub name : Form (List ℕ)
name = coded 64 name_in name_bytes at.Name
