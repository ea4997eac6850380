use Rattle.std.proofs.Common.{rules}
use Rattle.std.proofs.lemmas.Iterator.{YieldsList-from_slice, YieldsList-from_map_by}
use Rattle.std.proofs.lemmas.Iterator.Consumers.{map_from_collect}
use Rattle.event_router.specs.Vectors.{no_vectors}
use Rattle.event_router.proofs.router.empty_sets.Goals as goal

pub returns : goal.returns
returns c = map_from_collect _ c.collect.ensures.ran (YieldsList-from_map_by _ (λ s. s.marks) (λ s. no_vectors) (YieldsList-from_slice c.args.subjects.now (search rules)) c.map.ensures.closure (λ x r q k. search rules))
