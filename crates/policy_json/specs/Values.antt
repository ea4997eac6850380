-- What a JSON value of each kind is read as, or its first fault.
-- This project's own spelling of the elements of a Muen system policy.
use Rattle.std.specs.Prelude.{ℕ, ◌+◌, List, [], ◌∷◌, Result, Ok, decimal}
use Rattle.serde_json.specs.Data.{Data, Items, no_items, item}
use Rattle.serde_json.specs.Find.{as_array}
use Rattle.muen_num.specs.declared.mode.EventMode.{EventMode}
use Rattle.policy_types.specs.declared.refusal.Fault.{Fault}
use Rattle.policy_types.specs.declared.refusal.Want.TheVariants.{Number, Byte, Name, Rights as WantRights, Caching as WantCaching, Mode as WantMode, Role as WantRole, Hexadecimal, List as WantList}
use Rattle.policy_types.specs.declared.rights.Rights.{Rights}
use Rattle.policy_types.specs.declared.rights.MsrRights.{MsrRights}
use Rattle.policy_types.specs.declared.rights.Caching.{Caching}
use Rattle.policy_types.specs.declared.rights.Role.{Role}
use Rattle.policy_values.specs.Faults.{and_then, under, or_want}
use Rattle.policy_values.specs.Kinds.{number_of, byte_of, named, rights_of, msr_rights_of, caching_of, mode_of, role_of, hexadecimal_of}

-- ---- the kinds

unfoldable pub read_number : Data → Result ℕ Fault
read_number d = or_want Number (number_of d)

unfoldable pub read_byte : Data → Result ℕ Fault
read_byte d = or_want Byte (byte_of d)

unfoldable pub read_name : Data → Result (List ℕ) Fault
read_name d = or_want Name (named d)

unfoldable pub read_rights : Data → Result Rights Fault
read_rights d = or_want WantRights (rights_of d)

-- what is wanted there are rights too
unfoldable pub read_msr_rights : Data → Result MsrRights Fault
read_msr_rights d = or_want WantRights (msr_rights_of d)

unfoldable pub read_caching : Data → Result Caching Fault
read_caching d = or_want WantCaching (caching_of d)

unfoldable pub read_mode : Data → Result EventMode Fault
read_mode d = or_want WantMode (mode_of d)

unfoldable pub read_role : Data → Result Role Fault
read_role d = or_want WantRole (role_of d)

unfoldable pub read_hexadecimal : Data → Result (List ℕ) Fault
read_hexadecimal d = or_want Hexadecimal (hexadecimal_of d)

-- ---- lists

abbrev pub read_items : {X : Type 0} → (Data → Result X Fault) → ℕ → Items → Result (List X) Fault
read_items read i no_items = Ok []
read_items read i (item d ds) = and_then (under (decimal i) (read d)) λ x. and_then (read_items read (i + 1) ds) λ xs. Ok (x ∷ xs)

-- a list, its items from first to last
unfoldable pub read_list : {X : Type 0} → (Data → Result X Fault) → Data → Result (List X) Fault
read_list read d = and_then (or_want WantList (as_array d)) (read_items read 0)
