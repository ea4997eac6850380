-- What the law of two systems asks, met at two that differ, with a subject that chooses frames, with direct memory access, and with
-- inputs that reach a member (this project's own).
use Rattle.std.specs.Prelude.{◌≡◌, ℕ, true, false, List, [], ◌∷◌, Option, Some, codes}
use Rattle.std.specs.List.{All}
use Rattle.policy_lawful.specs.Contents.{Held}
use Rattle.policy_lawful.specs.Lawful.{IsLawful}
use Rattle.policy_lawful.specs.Thing.{region}
use Rattle.proof_isolation.specs.Agree.{Agree, input_reaches_member}
use Rattle.proof_isolation.specs.Flows.{IsClosed}
use Rattle.proof_isolation.specs.TwoTexts.{ArePrintedAlike}
use Rattle.proof_reactive.specs.Echo.{members, talker}
use Rattle.proof_witnesses.specs.Steered.{alone, steered, to_talker, with_others}
use Rattle.subject_model.specs.Clock.{ByteWrite, line_writes}
use Rattle.subject_model.specs.DeviceRecord.{irq_input}

-- whatever programs run
abbrev pub SteeredAreLawful : Type 0
SteeredAreLawful = (own code : List ℕ) → IsLawful (steered own code)

abbrev pub TalkerIsClosed : Type 0
TalkerIsClosed = (own code : List ℕ) → IsClosed (steered own code) members

-- each of these inputs reaches `talker`, and that of the other device doesn't
abbrev pub InputsReachTalker : Type 0
InputsReachTalker =
    (own c d : List ℕ) → All (λ e. input_reaches_member (steered own c) (steered own d) members e.1 ≡ true) to_talker
    × (input_reaches_member (steered own c) (steered own d) members (irq_input (codes "net") (codes "rx")) ≡ false)

abbrev pub to_ring : ℕ → ℕ → Option ByteWrite
to_ring offset value = Some (record { thing = region (codes "ring"); offset = offset; value = value })

-- the line of direct memory access writes the first two bytes of the ring
abbrev pub LineWritesRing : Type 0
LineWritesRing = (own code : List ℕ) → line_writes (steered own code) (codes "line") 4096 (1 ∷ 7 ∷ []) ≡ to_ring 0 1 ∷ to_ring 1 7 ∷ []

-- **the two agree** on `talker`, whatever `noise` runs in either, with any files, on records of which one has an input more
abbrev pub SteeredAgree : Type 0
SteeredAgree = (own c d : List ℕ) (f g : Held) → Agree members (steered own c) (steered own d) f g with_others alone 40

-- so the same is printed of it in both
abbrev pub TalkerIsPrintedAlike : Type 0
TalkerIsPrintedAlike = (own c d : List ℕ) (f g : Held) → ArePrintedAlike members (steered own c) (steered own d) f g with_others alone talker talker
