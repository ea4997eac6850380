-- What a document says of a system: the source policy, or the first place that breaks the schema.
use Rattle.std.specs.Prelude.{ℕ, List, Option, Some, None, Result, Ok, Err, if◌then◌else◌}
use Rattle.std.specs.Str.{is_utf8}
use Rattle.serde_json.specs.Data.{Data}
use Rattle.serde_json.specs.Read.{read}
use Rattle.policy_json.specs.Objects.{read_object}
use Rattle.policy_json.specs.Table.{system}
use Rattle.policy_types.specs.declared.refusal.Fault.{Fault}
use Rattle.policy_types.specs.declared.refusal.Refusal.{Refusal}
use Rattle.policy_types.specs.declared.refusal.Refusal.TheVariants.{NotJson, Shape}
use Rattle.policy_types.specs.declared.source.Source.{Source}

abbrev pub read_system : Data → Result Source Fault
read_system = read_object system

-- the JSON value of the bytes, where they are a JSON text
unfoldable pub json_of : List ℕ → Option Data
json_of bytes = if is_utf8 bytes then read bytes else None

abbrev pub shape_refused : Result Source Fault → Result Source Refusal
shape_refused (Ok p) = Ok p
shape_refused (Err f) = Err (Shape f.place f.want)

abbrev pub policy_from : Option Data → Result Source Refusal
policy_from None = Err NotJson
policy_from (Some d) = shape_refused (read_system d)

-- the source policy of a document, or why it has none: it is no JSON text, or it breaks the schema first at this place
unfoldable pub policy_of : List ℕ → Result Source Refusal
policy_of bytes = policy_from (json_of bytes)
