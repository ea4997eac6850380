-- The verdict on an image, for a policy over what a store holds.
use Rattle.std.specs.Prelude.{◌≡◌, ℕ, List, Option}
use Rattle.image_pack.specs.Parts.{IsImage}
use Rattle.image_pack.specs.declared.parts.Image.{Image}
use Rattle.image_soundness.specs.Sound.{AreFilesHeld}
use Rattle.image_verify.specs.Verdict.{IsVerdict}
use Rattle.image_verify.specs.declared.fault.Fault.{Fault}
use Rattle.policy_lawful.specs.Contents.{Held}
use Rattle.policy_lawful.specs.Lawful.{IsLawful}
use Rattle.policy_lawful.specs.source.Source.{Source}
use Rattle.muen_top.specs.Answers.{Answer, judges}

-- these bytes are the image of these parts, and this is its first fault for the policy over these files, among which are those that
-- its contents name; or none
pub record HasVerdict (p : Source) (files : Held) (bytes : List ℕ) (i : Image) (o : Option Fault) : Type 0 where
  pub image : IsImage bytes i
  pub lawful : IsLawful p
  pub held : AreFilesHeld p files
  pub verdict : IsVerdict p files i o

-- a verdict is answered, and it is this
abbrev pub Finds : Answer → Option Fault → Type 0
Finds (judges p files bytes i) o = HasVerdict p files bytes i o
Finds _ o = ⊥
