-- What regions hold of the files that were read (this project's own).
use Rattle.std.specs.Prelude.{ℕ, List, [], map, replicate, take, unwrap_or}
use Rattle.muen_build.specs.Accepting.{Files}
use Rattle.muen_outside.specs.Store.{find_bytes}
use Rattle.policy_lawful.specs.Contents.{file_part, padded}
use Rattle.policy_lawful.specs.Thing.{placed_items}
use Rattle.policy_lawful.specs.source.Content.{Content}
use Rattle.policy_lawful.specs.source.Content.TheVariants.{Zero, Fill, Inline, File}
use Rattle.policy_lawful.specs.source.Source.{Source}

-- the bytes of a file: what is given under its name, else what was read
abbrev pub read_bytes : Files → Files → List ℕ → List ℕ
read_bytes given found file = unwrap_or (find_bytes file given) (unwrap_or (find_bytes file found) [])

-- bytes in a room of this many: zeros behind them, and none of those that have no room
abbrev pub sized : ℕ → List ℕ → List ℕ
sized size bytes = padded size (take size bytes)

-- a content in a room of this many bytes, with the files that were read
abbrev pub content_read : Files → Files → ℕ → Content → List ℕ
content_read given found size Zero = replicate size 0
content_read given found size (Fill b) = replicate size b
content_read given found size (Inline bytes) = sized size bytes
content_read given found size (File file offset most) =
    sized size (file_part offset most (read_bytes given found file))

-- the bytes of the regions that aren't the kernel's, by number, with the files that were read
abbrev pub things_read : Files → Files → Source → List (List ℕ)
things_read given found p = map (λ i. content_read given found i.size i.content) (placed_items p)
