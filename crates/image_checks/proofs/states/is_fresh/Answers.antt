use Rattle.std.proofs.Common.{◌∙◌}
use Rattle.image_checks.proofs.Decided.{bytes_decided}
use Rattle.image_soundness.specs.Memory.{page_at}
use Rattle.state_page.specs.StatePage.{page_bytes}
use Rattle.state_page.specs.States.{started}
use Rattle.image_checks.proofs.states.is_fresh.Goals as goal

pub returns : goal.returns
returns c =
    bytes_decided c.as_slice.result.now c.items.result.now (page_at c.args.image.now c.args.part.now.state 0) (page_bytes (started c.args.subject.now.entry)) c.eq.result
    (c.as_slice.ensures.value ∙ c.in_ok-page.ensures) (c.items.ensures ∙ c.in_ok-fresh.ensures) c.eq.ensures
