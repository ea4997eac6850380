-- Files in memory as their callers see them.
use Rattle.std.specs.Prelude.{ℕ, ◌+◌, ◌-◌, ◌^◌, ◌==◌, Bool, List, min}
use Rattle.std.specs.List.{list_any}
use Rattle.std.specs.FinMap.{from_entries}
use Rattle.muen_outside.specs.Store.{Store}
use Rattle.muen_outside.specs.States.{History}

pub record Shelf : Type 0 where
  -- names and their bytes; of two with one name the first counts
  pub entries : List (List ℕ × List ℕ)
  -- the numbers of the calls that fail
  pub fails : List ℕ
  -- how many calls there were, up to 2 ^ 64 - 1
  pub calls : ℕ
  pub history : History

-- the next call's number is listed
abbrev pub next_file_call_fails : Shelf → Bool
next_file_call_fails s = list_any (λ n. n == s.calls) s.fails

-- the count after one more call
abbrev pub next_call_count : ℕ → ℕ
next_call_count n = min (n + 1) (2 ^ 64 - 1)

abbrev pub store_of : Shelf → Store
store_of s = from_entries s.entries
