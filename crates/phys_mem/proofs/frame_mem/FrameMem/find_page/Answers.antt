use Rattle.std.proofs.Common.{◌≡◌, arith, length, MatchOption, subst, sym}
use Rattle.phys_mem.specs.Frames.{NoneBelow, IsFirst}
use Rattle.phys_mem.proofs.FrameLaws.{kept_at}
use Rattle.phys_mem.proofs.TableLaws.{tells_match}
use Rattle.phys_mem.proofs.frame_mem.FrameMem.find_page.Goals as goal

pub returns : goal.returns
returns c =
    let t = c.args.self.now in
    let same : length t.numbers.items ≡ length t.frames.items = omega (arith, t.numbers.ok.0, t.frames.ok.0, t.paired) in
    kept_at t.numbers.items t.frames.items c.args.number _ same (subst (λ o. MatchOption o (NoneBelow t.numbers.items c.args.number (length t.numbers.items)) (IsFirst t.numbers.items c.args.number)) (sym c.find.ensures) (tells_match t.tables.upper.items t.tables.lower.items t.numbers.items t.tells c.args.number))
