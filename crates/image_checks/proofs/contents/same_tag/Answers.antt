use Rattle.std.proofs.Common.{◌≡◌}
use Rattle.std.proofs.lemmas.Bool.Decides.{Decides-at}
use Rattle.image_checks.proofs.Equal.{decided, tag_tells}
use Rattle.image_checks.proofs.contents.same_tag.Goals as goal

pub returns : goal.returns
returns c = decided c.eq.result (c.args.thing.now ≡ c.args.span.now) (Decides-at c.eq.result _ c.eq.ensures (tag_tells c.args.thing.now c.args.span.now))
