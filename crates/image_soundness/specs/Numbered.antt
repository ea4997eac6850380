-- Where what has a number lies in an image.
use Rattle.std.specs.Prelude.{ℕ, map, slice_index}
use Rattle.image_memory.specs.Memory.{address_at}
use Rattle.image_pack.specs.declared.parts.Image.{Image}
use Rattle.image_soundness.specs.Sound.{thing_spans}
use Rattle.policy_lawful.specs.declared.thing.ThingIndex.{ThingIndex}
use Rattle.policy_lawful.specs.declared.thing.ThingIndex.TheVariants.{Declared, State}

-- a thing at the address of the span of its number, a state page where the subject's part of the image says; at 0 what it hasn't
abbrev pub address_at_number : Image → ThingIndex → ℕ
address_at_number i (Declared n) = slice_index (map (λ e. e.0.address) (thing_spans i)) n
address_at_number i (State k) = slice_index (map (λ q. address_at i q.state) i.subjects) k
