-- What a hash of names starts from.
use Rattle.std.specs.Prelude.{ℕ, List, [], ◌∷◌, ◌++◌}
use Rattle.std.specs.Hash.FoldHasher.{initial, write}
use Rattle.std.specs.List.{flat_map}
use Rattle.std.specs.declared.hash.FoldHasher.{FoldHasher}
use Rattle.sha2.specs.Hashers.{Holds256}
use Rattle.sha2.specs.Sha256.{sha256}
use Rattle.policy_lawful.specs.declared.name_hash.NameDigest.{NameDigest}

-- a name, and a zero, which no name has
abbrev pub ended : List ℕ → List ℕ
ended name = name ++ 0 ∷ []

-- a digest has taken these names
abbrev pub AreDigested : NameDigest → List (List ℕ) → Type 0
AreDigested digest names = Holds256 digest.hasher (flat_map ended names)

-- a hasher that has taken the digest of these names
abbrev pub hasher_behind : List (List ℕ) → FoldHasher
hasher_behind names = write initial (sha256 (flat_map ended names))
