-- What an object is read as: a table of its keys, in their order, each with what the value under it is read as.
use Rattle.std.specs.Prelude.{ℕ, List, [], ◌∷◌, Bool, true, ◌&&◌, ◌||◌, codes, Option, Some, None, unwrap_or, Result, Ok, if◌then◌else◌}
use Rattle.std.specs.Str.{bytes_eq}
use Rattle.std.specs.List.{list_any}
use Rattle.serde_json.specs.Data.{Data, Members, no_members, member}
use Rattle.serde_json.specs.Find.{get, as_object}
use Rattle.policy_json.specs.Values.{read_list}
use Rattle.policy_values.specs.Faults.{and_then, fault, under}
use Rattle.policy_types.specs.declared.refusal.Fault.{Fault}
use Rattle.policy_types.specs.declared.refusal.Want.TheVariants.{Object as WantObject, KnownKeys, Present}

-- ---- the value under a key

abbrev pub if_present_from : {X : Type 0} → List ℕ → (Data → Result X Fault) → Option Data → Result (Option X) Fault
if_present_from key read None = Ok None
if_present_from key read (Some d) = and_then (under key (read d)) λ x. Ok (Some x)

-- the value under a key, if the key is there
unfoldable pub read_if_present : {X : Type 0} → List ℕ → (Data → Result X Fault) → Data → Result (Option X) Fault
read_if_present key read d = if_present_from key read (get key d)

abbrev pub present_of : {X : Type 0} → List ℕ → Option X → Result X Fault
present_of key None = fault (47 ∷ key) Present
present_of key (Some x) = Ok x

-- the value under a key that has to be there
unfoldable pub read_required : {X : Type 0} → List ℕ → (Data → Result X Fault) → Data → Result X Fault
read_required key read d = and_then (read_if_present key read d) (present_of key)

-- the value under a key, or the default
unfoldable pub read_optional : {X : Type 0} → List ℕ → X → (Data → Result X Fault) → Data → Result X Fault
read_optional key default read d = and_then (read_if_present key read d) λ found. Ok (unwrap_or found default)

-- ---- tables

-- what the value under a key is read as
pub record Field (key : List ℕ) (X : Type 0) : Type 0 where
  pub read : Data → Result X Fault

-- what an object with these keys is read as
pub record Fields (keys : List (List ℕ)) (A : Type 0) : Type 0 where
  pub read : Data → Result A Fault

-- a key, and the keys after it
infixl 10 ◌>>=◌
abbrev pub ◌>>=◌ : {key : List ℕ} {keys : List (List ℕ)} {X A : Type 0} → Field key X → (X → Fields keys A) → Fields (key ∷ keys) A
field >>= rest = record { read = λ d. and_then (field.read d) λ x. (rest x).read d }

-- what is made of the values
abbrev pub made : {A : Type 0} → A → Fields [] A
made x = record { read = λ d. Ok x }

-- a test of the whole object comes first
abbrev pub tested : {keys : List (List ℕ)} {A : Type 0} → (Data → Result (Unit {0}) Fault) → Fields keys A → Fields keys A
tested test fields = record { read = λ d. and_then (test d) λ passed. fields.read d }

-- a key that has to be there
abbrev pub required : {X : Type 0} (key : List ℕ) → (Data → Result X Fault) → Field key X
required key read = record { read = read_required key read }

-- a key with a default
abbrev pub optional : {X : Type 0} (key : List ℕ) → X → (Data → Result X Fault) → Field key X
optional key default read = record { read = read_optional key default read }

-- a key that may be absent
abbrev pub if_present : {X : Type 0} (key : List ℕ) → (Data → Result X Fault) → Field key (Option X)
if_present key read = record { read = read_if_present key read }

-- a key of a list, which is empty by default
abbrev pub list : {X : Type 0} (key : List ℕ) → (Data → Result X Fault) → Field key (List X)
list key read = optional key [] (read_list read)

-- ---- objects

-- an object: its keys, and what its fields are read as in the keys' order
pub record Object (A : Type 0) : Type 0 where
  pub keys : List (List ℕ)
  pub read : Data → Result A Fault

-- the object of these fields
abbrev pub object : {keys : List (List ℕ)} {A : Type 0} → Fields keys A → Object A
object {keys} fields = record { keys = keys; read = fields.read }

-- the key that each object may have, and which is passed over
unfoldable pub description : List ℕ
description = codes "description"

abbrev pub is_known : List (List ℕ) → List ℕ → Bool
is_known keys key = bytes_eq key description || list_any (λ known. bytes_eq known key) keys

abbrev pub has_known : List (List ℕ) → Members → Bool
has_known keys no_members = true
has_known keys (member key d ms) = is_known keys key && has_known keys ms

abbrev pub known_from : List (List ℕ) → Option Members → Result (Unit {0}) Fault
known_from keys None = fault [] WantObject
known_from keys (Some ms) = if has_known keys ms then Ok tt else fault [] KnownKeys

-- an object with no key but these and `description`
unfoldable pub read_known : List (List ℕ) → Data → Result (Unit {0}) Fault
read_known keys d = known_from keys (as_object d)

-- an object has no key but its own, and then its fields are read
unfoldable pub read_object : {A : Type 0} → Object A → Data → Result A Fault
read_object object d = and_then (read_known object.keys d) λ known. object.read d
