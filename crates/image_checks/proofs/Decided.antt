-- Answers of tests, and what holds of all elements so far.
use Rattle.std.proofs.Common.{ℕ, ◌+◌, ◌<◌, Bool, true, false, List, length, arith, inl, inr, subst, sym, ◌≡◌, ◌∙◌}
use Rattle.std.specs.Prelude.{slice_index_or}
use Rattle.std.specs.Str.{bytes_eq}
use Rattle.std.proofs.lemmas.Bool.{cases_lt}
use Rattle.std.proofs.lemmas.Slice.Eq.{bytes_eq-Decides}
use Rattle.image_checks.specs.Firsts.{Decides, FailsFirst}

-- the answer is the same for what holds with it
pub decided : (P Q : Type 0) (b : Bool) → (P → Q) → (Q → P) → Decides P b → Decides Q b
decided P Q true to from h = to h
decided P Q false to from h = λ q. h (from q)

-- it holds of one more
so_far : {X : Type 0} (P : X → Type 0) (xs : List X) (k : ℕ) → ((j : ℕ) (d : X) → j < k → P (slice_index_or xs j d)) → ((d : X) → P (slice_index_or xs k d)) → (j : ℕ) (d : X) → j < k + 1 → P (slice_index_or xs j d)
so_far P xs k before here j d h =
    elim (cases_lt j k) [
      | inl l ↦ before j d l
      | inr l ↦ let same : k ≡ j = omega arith in subst (λ n. P (slice_index_or xs n d)) same (here d)
    ]

-- it fails first here
pub fails_first : {X : Type 0} (P : X → Type 0) (xs : List X) (k : ℕ) (b : Bool) → k < length xs → ((j : ℕ) (d : X) → j < k → P (slice_index_or xs j d)) → b ≡ false → ((d : X) → Decides (P (slice_index_or xs k d)) b) → FailsFirst P xs k
fails_first P xs k b l before is_false answer = record {
  within = l;
  before = before;
  here = λ d. subst (Decides (P (slice_index_or xs k d))) is_false (answer d);
}

-- it holds here too
pub holds_here : {X : Type 0} (P : X → Type 0) (xs : List X) (k : ℕ) (b : Bool) → ((j : ℕ) (d : X) → j < k → P (slice_index_or xs j d)) → b ≡ true → ((d : X) → Decides (P (slice_index_or xs k d)) b) → (j : ℕ) (d : X) → j < k + 1 → P (slice_index_or xs j d)
holds_here P xs k b before is_true answer = so_far P xs k before (λ d. subst (Decides (P (slice_index_or xs k d))) is_true (answer d))

-- the answer of a test of bytes
pub bytes_decided : (xs ys x y : List ℕ) (b : Bool) → xs ≡ x → ys ≡ y → b ≡ bytes_eq xs ys → Decides (x ≡ y) b
bytes_decided xs ys x y true p q h = sym p ∙ (bytes_eq-Decides xs ys).0 (sym h) ∙ q
bytes_decided xs ys x y false p q h = λ e. let same : bytes_eq xs ys ≡ true = (bytes_eq-Decides xs ys).1 (p ∙ e ∙ sym q) in absurd (cc)
