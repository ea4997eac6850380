use Rattle.binary_form.proofs.Theorem.{back, spelled, apart}
use Rattle.image_pack.specs.Image.{image}
use Rattle.image_pack.proofs.ImageLaws.{image_laws}
use Rattle.image_pack.proofs.image.one_to_one.Goals as goal

pub returns : goal.returns
returns c = record {
  back = back image image_laws;
  spelled = λ bytes i fits e. let h = spelled image image_laws bytes i fits e in record { parts = h.0; bytes_are = h.1 };
  apart = apart image image_laws;
}
