-- What is given of subjects: the windows and the root of each.
use Rattle.std.proofs.Common.{◌≡◌, ℕ, zero, suc, ◌/◌, ◌<◌, List, [], ◌∷◌, length, map, Bool, refl, sym, ap, subst, arith}
use Rattle.std.specs.Prelude.{slice_index, slice_index_or}
use Rattle.std.specs.List.{All}
use Rattle.std.proofs.lemmas.List.Elements.{All-head, All-tail}
use Rattle.ept_check.specs.Sound.{AreSubjectWindows}
use Rattle.ept_check.specs.declared.types.SubjectTables.{SubjectTables}
use Rattle.machine_layout.specs.Walks.{root_of}

none_fine : (there : ℕ → Bool) → AreSubjectWindows there []
none_fine there =
    record {
      whole = λ k d l. absurd (omega (arith, l));
      pages = λ k d l. absurd (omega (arith, l));
      apart = λ i j d a b. absurd (omega (arith, b));
    }

-- of each, and of none behind them
pub all_fine : (there : ℕ → Bool) (subjects : List SubjectTables) → All (λ s. AreSubjectWindows there s.windows) subjects → (k : ℕ) → AreSubjectWindows there (slice_index_or (map (λ s. s.windows) subjects) k [])
all_fine there [] h k = none_fine there
all_fine there (s ∷ ss) h zero = All-head (λ s. AreSubjectWindows there s.windows) s ss h
all_fine there (s ∷ ss) h (suc k) = all_fine there ss (All-tail (λ s. AreSubjectWindows there s.windows) s ss h) k

pub windows_of : (subjects : List SubjectTables) (k : ℕ) (s : SubjectTables) → k < length subjects → s ≡ slice_index_or subjects k s → slice_index_or (map (λ x. x.windows) subjects) k [] ≡ s.windows
windows_of [] k s l h = absurd (omega (arith, l))
windows_of (x ∷ xs) zero s l h = ap (λ y. y.windows) (sym h)
windows_of (x ∷ xs) (suc k) s l h = windows_of xs k s (omega (arith, l)) h

pub root_at_index : (subjects : List SubjectTables) (k : ℕ) (d : SubjectTables) → k < length subjects → slice_index (map (λ x. root_of x.eptp) subjects) k ≡ (slice_index_or subjects k d).eptp / 4096
root_at_index [] k d l = absurd (omega (arith, l))
root_at_index (x ∷ xs) zero d l = refl
root_at_index (x ∷ xs) (suc k) d l = root_at_index xs k d (omega (arith, l))

pub fine_at : (there : ℕ → Bool) (subjects : List SubjectTables) (k : ℕ) (s : SubjectTables) → All (λ x. AreSubjectWindows there x.windows) subjects → k < length subjects → s ≡ slice_index_or subjects k s → AreSubjectWindows there s.windows
fine_at there subjects k s all l h = subst (λ x. AreSubjectWindows there x.windows) (sym h) (all k s l)
