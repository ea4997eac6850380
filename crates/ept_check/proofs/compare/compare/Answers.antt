use Rattle.std.proofs.Common.{sym, ◌∙◌, arith}
use Rattle.machine_layout.specs.Memory.{is_there}
use Rattle.ept_check.proofs.Steps.{piece_found, piece_here, piece_start, piece_step}
use Rattle.ept_check.proofs.compare.compare.Goals as goal

pub loop-at-init : goal.loop-at-init
loop-at-init t c =
    record {
      from = omega arith;
      to = omega arith;
      none = piece_start (is_there (t.E.Entries.pages c.args.entries.now)) c.args.windows.now c.args.level c.args.entry c.args.rights c.args.first;
    }

pub returns-in-Some : goal.returns-in-Some
returns-in-Some t c =
    let there = is_there (t.E.Entries.pages c.args.entries.now) in
    let here = piece_here there c.args.windows.now c.args.level c.args.entry c.args.rights c.args.first c.loop-at.at c.addr_of-addr.result c.piece_from-piece.result.window c.addr_of-addr.ensures.value c.piece_from-piece.ensures.window in
    piece_found there c.args.windows.now c.args.level c.args.entry c.args.rights c.args.first c.loop-at.at c.in-Some.fault c.loop-at.invariant.from (omega (arith, c.pages.ensures.value, c.loop-at-test.true)) (sym here ∙ sym c.in-Some.ensures) c.loop-at.invariant.none

pub loop-at-preserved : goal.loop-at-preserved
loop-at-preserved t c =
    let there = is_there (t.E.Entries.pages c.args.entries.now) in
    let end = c.pages.ensures.value in
    let piece = c.piece_from-piece in
    let here = piece_here there c.args.windows.now c.args.level c.args.entry c.args.rights c.args.first c.loop-at.at c.addr_of-addr.result piece.result.window c.addr_of-addr.ensures.value piece.ensures.window in
    record {
      from = omega (arith, c.loop-at.invariant.from);
      to = omega (arith, piece.ensures.near, c.loop-at.invariant.to);
      none = piece_step there c.args.windows.now c.args.level c.args.entry c.args.rights c.args.first c.loop-at.at c.addr_of-addr.result piece.result.end c.addr_of-addr.ensures.value (omega (arith, c.requires.level)) c.requires.first c.loop-at.invariant.from (omega (arith, end, c.loop-at-test.true)) c.requires.windows piece.ensures.apart piece.ensures.some (omega (arith, end, piece.ensures.near)) (sym here ∙ sym c.in_default.ensures) c.loop-at.invariant.none;
    }
