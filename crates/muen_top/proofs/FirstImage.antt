-- An image whose file is read first.
use Rattle.std.proofs.Common.{◌≡◌, ℕ, List, Option, Ok}
use Rattle.image_pack.specs.Faults.{unpacked}
use Rattle.image_pack.specs.Image.{image as image_form}
use Rattle.image_pack.specs.declared.parts.Image.{Image}
use Rattle.muen_outside.specs.States.{History}
use Rattle.muen_outside.specs.Store.{Store}
use Rattle.muen_top.specs.FilesSeen.{Saw}
use Rattle.muen_top.specs.Verifying.{image_looks}

-- the bytes of the file were read, and are this image
pub record HasImage (image : List ℕ) (held held' : Option Store) (old mid : History) (bytes : List ℕ) (i : Image) : Type 0 where
  pub saw : Saw held old mid (image_looks image bytes)
  pub same : held' ≡ held
  pub is : unpacked image_form bytes ≡ Ok i
