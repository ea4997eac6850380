use Rattle.sha2.specs.Hashers.{Holds256}
use Rattle.muen_run.specs.RunText.{bytes_from}
use Rattle.muen_run.proofs.digests.digest_of.Given as goal

-- the pages so far
abbrev pub invariant-loop-page : goal.invariant-loop-page
invariant-loop-page g l = Holds256 l.hasher (bytes_from (g.M.PhysMem.pages l.mem) l.first l.page)
