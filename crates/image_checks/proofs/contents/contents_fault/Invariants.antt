use Rattle.std.proofs.Common.{◌≡◌, ℕ, ◌<◌}
use Rattle.image_checks.specs.Contents.{HasSpanAt}
use Rattle.image_soundness.specs.ThingBytes.{thing_bytes}
use Rattle.policy_lawful.specs.Contents.{Held}
use Rattle.policy_lawful.specs.Resolution.{source_of}
use Rattle.image_checks.proofs.contents.contents_fault.Given as goal

-- the things so far have their spans
abbrev pub invariant-loop-k : goal.invariant-loop-k
invariant-loop-k l = (files : Held) → l.things ≡ thing_bytes files l.expanded.lawful → (j : ℕ) → j < l.k → HasSpanAt (source_of l.expanded.lawful) files l.image j
