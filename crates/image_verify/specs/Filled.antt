-- What is known of an image when its tables are looked at.
use Rattle.std.specs.Prelude.{◌≡◌, length}
use Rattle.image_pack.specs.Parts.{IsParts}
use Rattle.image_pack.specs.declared.parts.Image.{Image}
use Rattle.image_soundness.specs.Sound.{AreContents}
use Rattle.policy_lawful.specs.Contents.{Held}
use Rattle.policy_lawful.specs.Lawful.{IsLawful}
use Rattle.policy_lawful.specs.source.Source.{Source}

-- it keeps the conditions of its format, has the contents of a lawful policy over files that hold this, and as many subjects
pub record IsFilled (p : Source) (files : Held) (i : Image) : Type 0 where
  pub lawful : IsLawful p
  pub parts : IsParts i
  pub contents : AreContents p files i
  pub many : length i.subjects ≡ length p.subjects
