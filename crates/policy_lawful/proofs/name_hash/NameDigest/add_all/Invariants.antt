-- The names so far were taken.
use Rattle.std.proofs.Common.{List, ℕ, ◌++◌, map, take}
use Rattle.policy_lawful.specs.NameHashes.{AreDigested}
use Rattle.policy_lawful.proofs.name_hash.NameDigest.add_all.Given as goal

abbrev pub invariant-loop-item : goal.invariant-loop-item
invariant-loop-item g l = (names : List (List ℕ)) → AreDigested l.fn.self names → AreDigested l.self (names ++ map g.T.Named.name (take l.item-index l.items))
