use Rattle.std.proofs.Common.{◌≡◌, ◌++◌, drop}
use Rattle.binary_form.specs.Form.{each_spelled}
use Rattle.image_pack.specs.Image.{content}
use Rattle.image_pack.proofs.writing.put_contents.Given as goal

abbrev pub invariant-loop-content : goal.invariant-loop-content
invariant-loop-content l = l.out.items ++ each_spelled (λ r. (content r).spell) (drop l.content-index l.spans) (drop l.content-index l.list) ≡ l.fn.out.items ++ each_spelled (λ r. (content r).spell) l.spans l.list
