-- Laws of Booleans that std hasn't.
use Rattle.std.proofs.Common.{◌≡◌, Bool, true, false, not, refl, sym, true≢false}
use Rattle.std.specs.Prelude.{◌&&◌, ◌||◌}
use Rattle.std.proofs.lemmas.Bool.{and_parts}

-- of three tests in turn the first
pub first_of_three : (a b c : Bool) → (a && b && c) ≡ true → a ≡ true
first_of_three a b c h = (and_parts a b (and_parts (a && b) c h).0).0

-- the second of two where the first is excluded
pub implied : (a b : Bool) → a ≡ true → (not a || b) ≡ true → b ≡ true
implied true b e h = h
implied false b e h = absurd (true≢false (sym e))

-- not one of two is neither
pub not_or : (a b : Bool) → not (a || b) ≡ (not a && not b)
not_or true b = refl
not_or false b = refl
