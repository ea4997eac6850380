use Rattle.std.proofs.Common.{◌≡◌, length, rules, arith}
use Rattle.phys_mem.proofs.FrameLaws.{pages_step}
use Rattle.phys_mem.proofs.frames.add_pages.Goals as goal

pub loop-page-preserved : goal.loop-page-preserved
loop-page-preserved c =
    let same : length c.loop-page.numbers.items ≡ length c.loop-page.frames.items = omega (arith, c.loop-page.numbers.ok.0, c.loop-page.frames.ok.0) in
    let rest = c.loop-page.rest.now in
    record {
      pages = pages_step c.loop-page.numbers.items _ c.loop-page.frames.items _ rest c.in-Some.page.now c.loop-page.number _ c.in_ok-push.ensures.items c.in_ok-push-2.ensures.items same c.in-Some.ensures.cases.same c.in-Some.ensures.cases.enough c.loop-page.invariant.pages;
      paired = search rules;
      small = search rules;
    }
