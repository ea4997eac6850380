use Rattle.std.proofs.Common.{◌≡◌, length, true, false, refl, arith}
use Rattle.std.specs.Prelude.{slice_set}
use Rattle.std.specs.Vec.{with_item}
use Rattle.ept_check.proofs.Marks.{again, is_none, now, value_is}
use Rattle.ept_check.proofs.looked.Looked.enter.Goals as goal

pub returns-in_default-clause-enters : goal.returns-in_default-clause-enters
returns-in_default-clause-enters c = (is_none c.args.pages.now c.args.page c.in_default.ensures, refl)

pub returns-then-index-clause-enters : goal.returns-then-index-clause-enters
returns-then-index-clause-enters c =
    let old = c.args.self.now in
    let long : length old.entered.items ≡ length c.args.pages.now = omega (arith, c.requires.long, old.entered.ok.0) in
    let first = c.in-Some.ensures in
    (again c.args.pages.now c.requires.rising old long c.args.page c.in-Some.i first (value_is old.entered.items c.in-Some.i c.index.result.now true (omega (arith, long, first.within)) c.index.ensures c.if-index.true), refl)

pub returns-clause-enters : goal.returns-clause-enters
returns-clause-enters c =
    let old = c.args.self.now in
    let long : length old.entered.items ≡ length c.args.pages.now = omega (arith, c.requires.long, old.entered.ok.0) in
    let first = c.in-Some.ensures in
    let far : length (slice_set old.entered.items c.in-Some.i true) ≡ length c.args.pages.now = omega (arith, c.requires.long, (with_item old.entered c.in-Some.i true).ok.0) in
    now c.args.pages.now c.requires.rising old long c.args.page c.in-Some.i first _ (value_is old.entered.items c.in-Some.i c.index.result.now false (omega (arith, long, first.within)) c.index.ensures c.if-index.false) refl far
