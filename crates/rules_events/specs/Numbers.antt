-- Numbers of calls, traps and interrupts.
use Rattle.std.specs.Prelude.{ℕ, ◌==◌, ◌&&◌, Bool, false, not, List, nat_le, slice_index_or}
use Rattle.std.specs.List.{list_all, list_any}
use Rattle.muen_num.specs.Numbers.{are_distinct}

-- all in the range, no two equal
abbrev pub are_distinct_in : ℕ → ℕ → List ℕ → Bool
are_distinct_in first last ns = list_all (λ n. nat_le first n && nat_le n last) ns && are_distinct ns

-- in the range, and not marked
abbrev pub may_follow : List Bool → ℕ → ℕ → ℕ → Bool
may_follow marks first last n = nat_le first n && nat_le n last && not (slice_index_or marks n false)
