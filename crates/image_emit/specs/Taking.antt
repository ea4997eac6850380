-- What spans hold, taken one after another.
use Rattle.std.specs.Prelude.{◌≡◌, ℕ, ◌≤◌, List, [], map, slice_get, slice_index_or, take, Some}
use Rattle.std.specs.List.{All}
use Rattle.image_pack.specs.Form.{IsBytes}
use Rattle.image_pack.specs.declared.parts.SpanPart.{SpanPart}

-- the first so many spans hold what stood at their numbers, which are bytes, and what stands at the others' numbers is as it was
pub record IsTaking (spans : List SpanPart) (i : ℕ) (old now held : List (List ℕ)) : Type 0 where
  pub taken : held ≡ map (λ s. slice_index_or old s.number []) (take i spans)
  pub bytes : All IsBytes held
  pub left : (k : ℕ) (s : SpanPart) → i ≤ k → slice_get spans k ≡ Some s → slice_index_or now s.number [] ≡ slice_index_or old s.number []
