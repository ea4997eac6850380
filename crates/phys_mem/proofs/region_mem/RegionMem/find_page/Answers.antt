use Rattle.std.proofs.Common.{◌≡◌, arith, length, List, ℕ, MatchOption, subst}
use Rattle.phys_mem.specs.Frames.{NoneBelow, IsFirst}
use Rattle.phys_mem.proofs.FrameLaws.{kept_at}
use Rattle.phys_mem.proofs.region_mem.RegionMem.find_page.Goals as goal

pub returns : goal.returns
returns c =
    let t = c.args.self.now in
    let same : length t.numbers.items ≡ length t.frames.items = omega (arith, t.numbers.ok.0, t.frames.ok.0, t.paired) in
    kept_at t.numbers.items t.frames.items c.args.number _ same (subst (λ (ns : List ℕ). MatchOption c.index_of.result (NoneBelow ns c.args.number (length ns)) (IsFirst ns c.args.number)) c.deref.ensures.value c.index_of.ensures)
