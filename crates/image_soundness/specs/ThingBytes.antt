-- What the regions of a policy hold at the start, by number, but for the kernel's.
use Rattle.std.specs.Prelude.{ℕ, List, map}
use Rattle.policy_lawful.specs.Contents.{Held, content_bytes}
use Rattle.policy_lawful.specs.Resolution.{Resolution}
use Rattle.policy_lawful.specs.Things.{content_found, content_told, placed_things}
use Rattle.policy_lawful.specs.declared.thing.Thing.{Thing}

-- the bytes of a thing, where files hold this
abbrev pub bytes_held : Held → Resolution → Thing → List ℕ
bytes_held files r t = content_bytes files t.size (content_told (content_found r t.content))

-- those of the things that are placed
abbrev pub thing_bytes : Held → Resolution → List (List ℕ)
thing_bytes files r = map (bytes_held files r) (placed_things r)
