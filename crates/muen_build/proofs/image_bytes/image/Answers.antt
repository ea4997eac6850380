use Rattle.muen_build.proofs.image_bytes.image.Goals as goal

pub returns : goal.returns
returns c = λ files s. record {
  parts = c.in_ok-parts.parts;
  image = c.in_ok-image.ensures;
  made = c.in_ok-parts.ensures.made files s;
  sound = c.in_ok-parts.ensures.sound files s;
  spans = c.in_ok-parts.ensures.spans;
  kernel_spans = c.in_ok-parts.ensures.kernel;
  paths = c.in_ok-parts.ensures.paths;
  ascending = c.in_ok-parts.ensures.ascending;
  spare = c.in_ok-parts.ensures.spare;
  leaves = c.in_ok-parts.ensures.leaves;
  types = c.in_ok-parts.ensures.types;
}
