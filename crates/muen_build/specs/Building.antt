-- What building an image has seen of files, and what it comes to.
use Rattle.std.specs.Prelude.{◌≡◌, ℕ, List, Option, Ok}
use Rattle.muen_build.specs.Accepting.{AreAskedFor, WithDocument}
use Rattle.muen_build.specs.ImageFor.{IsImageFor}
use Rattle.muen_build.specs.Looks.{Looked}
use Rattle.muen_build.specs.Refusals.{accepted_policy_of}
use Rattle.muen_outside.specs.States.{History, Look}
use Rattle.muen_outside.specs.Store.{Store}
use Rattle.policy_lawful.specs.source.Source.{Source}

-- over files that hold this a document is accepted as some policy, and the bytes are an image for it
pub record IsBuilt (document : List ℕ) (files : Store) (bytes : List ℕ) : Type 0 where
  pub policy : Source
  pub accepted : accepted_policy_of files document ≡ Ok policy
  pub is : IsImageFor policy files bytes

-- looks were made, and in files that agree with them, with the document under this name, the bytes are built of it
pub record Builds (name : List ℕ) (held : Option Store) (old new : History) (document bytes : List ℕ) : Type 0 where
  pub looks : List Look
  pub looked : Looked name held old new looks
  pub asked : AreAskedFor name document looks
  pub built : WithDocument name document looks (λ files. IsBuilt document files bytes)
