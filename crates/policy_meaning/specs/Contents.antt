-- What memory holds at the start (Muen system policy: memory regions and their content).
use Rattle.std.specs.Prelude.{ℕ, ◌-◌, List, [], ◌++◌, length, take, drop, replicate, Option, Some, None}
use Rattle.std.specs.Option.{option_map_or}
use Rattle.std.specs.Ordering.{nat_cmp}
use Rattle.std.specs.Cmp.Lexicographic.{slice_cmp}
use Rattle.std.specs.FinMap.{FinMap, from_entries, get}
use Rattle.policy_meaning.specs.Thing.{Thing, item_of}
use Rattle.policy_types.specs.declared.source.Source.{Source}
use Rattle.policy_types.specs.declared.source.Content.{Content}
use Rattle.policy_types.specs.declared.source.Content.TheVariants.{Zero, Fill, Inline, File}

-- what files hold, by name
abbrev pub Held : Type 0
Held = FinMap (slice_cmp nat_cmp) (List ℕ)

-- what they hold where there are none
abbrev pub no_files : Held
no_files = from_entries []

abbrev pub padded : ℕ → List ℕ → List ℕ
padded size bytes = bytes ++ replicate (size - length bytes) 0

abbrev pub at_most : Option ℕ → List ℕ → List ℕ
at_most None bytes = bytes
at_most (Some n) bytes = take n bytes

-- what a content takes of a file: its bytes from an offset on, at most so many of them
abbrev pub file_part : ℕ → Option ℕ → List ℕ → List ℕ
file_part offset most bytes = at_most most (drop offset bytes)

-- a content in a room of this many bytes: zeros, a byte repeated, or bytes with zeros behind them
abbrev pub content_bytes : Held → ℕ → Content → List ℕ
content_bytes files size Zero = replicate size 0
content_bytes files size (Fill b) = replicate size b
content_bytes files size (Inline bytes) = padded size bytes
content_bytes files size (File name offset most) =
    padded size (file_part offset most (option_map_or (λ bytes. bytes) (get files name) []))

-- the bytes of a thing at the start. A state page isn't among the things that a policy gives bytes: what it holds is its
-- subject's state
unfoldable pub initial_bytes : Source → Held → Thing → List ℕ
initial_bytes p files thing = option_map_or (λ i. content_bytes files i.size i.content) (item_of p thing) []
