-- How often indexes are met. Counts of 2 and more are alike.
use Rattle.std.specs.Prelude.{◌≡◌, ℕ, ◌+◌, ◌<◌, min, ◌==◌, List, length, slice_index}
use Rattle.std.specs.List.{count_by}

-- how often an index stands among these
abbrev pub times_among : List ℕ → ℕ → ℕ
times_among indexes index = count_by (λ i. i == index) indexes

-- new counts are the old ones and so much more at each index
abbrev pub Adds : List ℕ → List ℕ → (ℕ → ℕ) → Type 0
Adds old new more = (k : ℕ) → k < length old → min 2 (slice_index new k) ≡ min 2 (slice_index old k + more k)
