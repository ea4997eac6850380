-- What a JSON value of each kind stands for, if it is one of the kind.
-- This project's own spelling of the elements of a Muen system policy.
use Rattle.std.specs.Prelude.{ℕ, List, [], ◌∷◌, Bool, true, false, codes, Option, Some, None, option_and_then, nat_lt, if◌then◌else◌}
use Rattle.std.specs.Str.{bytes_eq}
use Rattle.std.specs.Result.{result_ok}
use Rattle.serde_json.specs.Data.{Data, null, boolean, number, string, array, object}
use Rattle.serde_json.specs.Find.{as_u64, as_str}
use Rattle.hex.specs.Hex.{decode_of}
use Rattle.muen_num.specs.Naming.{name_of}
use Rattle.muen_num.specs.declared.mode.EventMode.{EventMode}
use Rattle.muen_num.specs.declared.mode.EventMode.TheVariants.{Asap, Async, Own, Switch}
use Rattle.policy_types.specs.declared.rights.Rights.{Rights}
use Rattle.policy_types.specs.declared.rights.Rights.TheVariants.{R, Rw, Rx, Rwx}
use Rattle.policy_types.specs.declared.rights.MsrRights.{MsrRights}
use Rattle.policy_types.specs.declared.rights.Caching.{Caching}
use Rattle.policy_types.specs.declared.rights.Caching.TheVariants.{Uc, Wc, Wt, Wp, Wb}
use Rattle.policy_types.specs.declared.rights.Role.{Role}
use Rattle.policy_types.specs.declared.rights.Role.TheVariants.{Writer, Reader}
use Rattle.text_words.specs.Groups.{based}

-- a natural number below 2^64: a JSON number, or a text such as 16#ff_ff#
abbrev pub number_of : Data → Option ℕ
number_of null = None
number_of (boolean b) = None
number_of (number n) = as_u64 n
number_of (string s) = based s
number_of (array ds) = None
number_of (object ms) = None

abbrev pub byte_from : ℕ → Option ℕ
byte_from n = if nat_lt n 256 then Some n else None

-- a number below 256
abbrev pub byte_of : Data → Option ℕ
byte_of d = option_and_then byte_from (number_of d)

-- a text that is a name
abbrev pub named : Data → Option (List ℕ)
named d = option_and_then name_of (as_str d)

-- what the first of these words stands for that is the text
abbrev pub meant : {X : Type 0} → List (List ℕ × X) → List ℕ → Option X
meant [] text = None
meant (w ∷ ws) text = if bytes_eq text w.0 then Some w.1 else meant ws text

abbrev pub rights_from : List ℕ → Option Rights
rights_from = meant ((codes "r", R) ∷ (codes "rw", Rw) ∷ (codes "rx", Rx) ∷ (codes "rwx", Rwx) ∷ [])

-- one of the texts r, rw, rx and rwx
abbrev pub rights_of : Data → Option Rights
rights_of d = option_and_then rights_from (as_str d)

abbrev pub msr_rights : Bool → Bool → MsrRights
msr_rights read write = record { read = read; write = write }

abbrev pub msr_rights_from : List ℕ → Option MsrRights
msr_rights_from = meant ((codes "r", msr_rights true false) ∷ (codes "w", msr_rights false true) ∷ (codes "rw", msr_rights true true) ∷ [])

-- one of the texts r, w and rw
abbrev pub msr_rights_of : Data → Option MsrRights
msr_rights_of d = option_and_then msr_rights_from (as_str d)

abbrev pub caching_from : List ℕ → Option Caching
caching_from = meant ((codes "UC", Uc) ∷ (codes "WC", Wc) ∷ (codes "WT", Wt) ∷ (codes "WP", Wp) ∷ (codes "WB", Wb) ∷ [])

-- one of the texts UC, WC, WT, WP and WB
abbrev pub caching_of : Data → Option Caching
caching_of d = option_and_then caching_from (as_str d)

abbrev pub mode_from : List ℕ → Option EventMode
mode_from = meant ((codes "asap", Asap) ∷ (codes "async", Async) ∷ (codes "self", Own) ∷ (codes "switch", Switch) ∷ [])

-- one of the texts asap, async, self and switch
abbrev pub mode_of : Data → Option EventMode
mode_of d = option_and_then mode_from (as_str d)

abbrev pub role_from : List ℕ → Option Role
role_from = meant ((codes "writer", Writer) ∷ (codes "reader", Reader) ∷ [])

-- one of the texts writer and reader
abbrev pub role_of : Data → Option Role
role_of d = option_and_then role_from (as_str d)

-- a text of an even number of hexadecimal digits, as the bytes that it spells
abbrev pub hexadecimal_of : Data → Option (List ℕ)
hexadecimal_of d = option_and_then (λ s. result_ok (decode_of s)) (as_str d)
