use Rattle.std.proofs.Common.{◌≡◌, drop}
use Rattle.binary_form.specs.Form.{each_at}
use Rattle.binary_form.proofs.Loops.{with_front}
use Rattle.image_pack.specs.Image.{content}
use Rattle.image_pack.proofs.reading.whole.contents_of.Given as goal

abbrev pub invariant-loop-span : goal.invariant-loop-span
invariant-loop-span l = with_front l.list (each_at (λ r. (content r).read) (drop l.span-index l.spans) l.rest) ≡ each_at (λ r. (content r).read) l.spans l.bytes
