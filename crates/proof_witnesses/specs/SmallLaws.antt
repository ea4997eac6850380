-- The small image is one, it is sound for its policy, and a verdict finds no fault in it (this project's own).
use Rattle.std.specs.Prelude.{None}
use Rattle.image_pack.specs.Image.{image}
use Rattle.image_pack.specs.Parts.{IsImage}
use Rattle.image_soundness.specs.Paths.{HasOnePathPerTable}
use Rattle.image_soundness.specs.Sound.{IsSound}
use Rattle.image_verify.specs.Verdict.{IsVerdict}
use Rattle.policy_lawful.specs.Contents.{Held}
use Rattle.proof_witnesses.specs.SmallImage.{small_image, small_policy}

-- there are bytes that are this image
abbrev pub SmallIsImage : Type 0
SmallIsImage = IsImage (image.spell small_image) small_image

-- **it is sound** for its policy, which keeps all rules, with any files
abbrev pub SmallIsSound : Type 0
SmallIsSound = (files : Held) → IsSound small_policy files small_image

-- none of its tables is read on two paths
abbrev pub SmallHasOnePath : Type 0
SmallHasOnePath = HasOnePathPerTable small_image

-- **the verdict** on it has no fault
abbrev pub SmallHasNoFault : Type 0
SmallHasNoFault = (files : Held) → IsVerdict small_policy files small_image None
