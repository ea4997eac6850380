-- Names of files that a digest has taken.
use Rattle.std.proofs.Common.{ℕ, List, [], ◌++◌, sym, subst, append-nil}
use Rattle.policy_lawful.specs.NameHashes.{AreDigested}
use Rattle.policy_lawful.specs.declared.name_hash.NameDigest.{NameDigest}

pub none_more : (digest : NameDigest) (names : List (List ℕ)) → AreDigested digest names → AreDigested digest (names ++ [])
none_more digest names h = subst (AreDigested digest) (sym (append-nil names)) h
