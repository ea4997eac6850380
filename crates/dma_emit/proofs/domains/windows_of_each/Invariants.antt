use Rattle.std.proofs.Common.{◌≡◌, map, take}
use Rattle.dma_emit.specs.Domains.{windows_of}
use Rattle.dma_emit.proofs.domains.windows_of_each.Given as goal

-- those of the domains so far
abbrev pub invariant-loop-domain : goal.invariant-loop-domain
invariant-loop-domain l = l.windows ≡ map (windows_of l.placed) (take l.domain-index l.domains)
