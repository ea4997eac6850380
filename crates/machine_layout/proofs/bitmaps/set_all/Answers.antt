use Rattle.machine_layout.proofs.BitmapLaws.{all_set}
use Rattle.machine_layout.proofs.bitmaps.set_all.Goals as goal

pub returns : goal.returns
returns c = λ n h. rw (c.fill.ensures.after (λ y e. e)) (all_set _ n h)
