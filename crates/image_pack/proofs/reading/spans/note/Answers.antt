use Rattle.std.proofs.Common.{true, refl, ◌∙◌}
use Rattle.image_pack.specs.Image.{after}
use Rattle.image_pack.proofs.SeenNumbers.{overwritten_is_set}
use Rattle.image_pack.proofs.reading.spans.note.Goals as goal

pub returns : goal.returns
unfolding after
returns c = λ h.
    let seen = c.overwrite.ensures ∙ overwritten_is_set c.args.before.now.seen c.args.span.now.number true c.requires.number in
    rw (c.from.ensures, c.saturating_sub-before.ensures, c.pages_with-before.ensures, c.device_pages_with-before.ensures, seen) refl
