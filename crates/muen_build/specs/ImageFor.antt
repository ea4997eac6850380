-- When bytes are an image for a policy over files.
use Rattle.std.specs.Prelude.{ℕ, List}
use Rattle.proof_build.specs.Built.{HasGreatestPages, HasKernelSpans, HasMemoryTypes, HasNoSpareTables, HasSpans, IsMadeFor, TablesAscend}
use Rattle.proof_build.specs.Paths.{HasOnePathPerTable}
use Rattle.proof_build.specs.Sound.{ForEachSubject, IsSound}
use Rattle.image_pack.specs.Parts.{IsImage}
use Rattle.image_pack.specs.declared.parts.Image.{Image}
use Rattle.muen_outside.specs.Store.{Store}
use Rattle.policy_lawful.specs.source.Source.{Source}

-- bytes are the image of parts that are made for this policy over these files, so there is one; they are sound for them; its spans are the policy's regions where the
-- policy's placement has them, and the devices' memory; the spans that a subject's part numbers are the kernel's for it, and
-- its walks read its own tables; no page of tables is read at two paths, along a walk tables ascend, and a page of a subject's
-- tables that none of its walks reads is zero; and each window is mapped by the greatest pages that it allows, with the memory
-- type of what it shows
pub record IsImageFor (p : Source) (files : Store) (bytes : List ℕ) : Type 0 where
  pub parts : Image
  pub image : IsImage bytes parts
  pub made : IsMadeFor p files parts
  pub sound : IsSound p files parts
  pub spans : HasSpans p parts
  pub kernel_spans : ForEachSubject p parts (HasKernelSpans parts)
  pub paths : HasOnePathPerTable parts
  pub ascending : ForEachSubject p parts (λ s q. TablesAscend parts q)
  pub spare : ForEachSubject p parts (HasNoSpareTables parts)
  pub leaves : ForEachSubject p parts (HasGreatestPages p parts)
  pub types : ForEachSubject p parts (HasMemoryTypes p parts)
