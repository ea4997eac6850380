-- Rule 19 of a policy: fixed regions as ranges, and the blocks that they lie in.
use Rattle.std.specs.Prelude.{List, map}
use Rattle.std.specs.List.{filter_map}
use Rattle.policy_lawful.specs.ByIndex.{block_extent}
use Rattle.policy_lawful.specs.MoreRules.{fixed_extent}
use Rattle.policy_lawful.specs.declared.offence.Extent.{Extent}
use Rattle.policy_lawful.specs.source.Block.{Block}
use Rattle.policy_lawful.specs.source.Region.{Region}

abbrev pub fixed_extents : List Region → List Extent
fixed_extents memory = filter_map fixed_extent memory

abbrev pub block_extents : List Block → List Extent
block_extents blocks = map block_extent blocks
