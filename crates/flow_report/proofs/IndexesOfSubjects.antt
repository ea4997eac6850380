-- Subjects by their indexes, and what their indexes tell of their names.
use Rattle.std.proofs.Common.{◌≡◌, ℕ, suc, ◌+◌, ◌<◌, Bool, true, false, List, [], ◌∷◌, length, Option, Some, None, refl, sym, ap, ◌∙◌, inl, inr, arith}
use Rattle.std.specs.Prelude.{◌==◌, ◌||◌, slice_get}
use Rattle.std.specs.Option.{option_map_or}
use Rattle.std.specs.List.{cons_option, enumerate_from, filter_map, list_any}
use Rattle.std.specs.Str.{bytes_eq}
use Rattle.std.proofs.lemmas.List.{length-map}
use Rattle.std.proofs.lemmas.Option.{slice_get_within}
use Rattle.muen_num.proofs.Lists.{passes_at}
use Rattle.policy_lawful.specs.Resolution.{IsResolved, Resolution, name_at, subject_in_range}
use Rattle.policy_lawful.specs.declared.resolved.Subject.{Subject}
use Rattle.policy_lawful.proofs.Indexes.{same_name}
use Rattle.policy_lawful.proofs.SourceElements.{parts_in_range}
use Rattle.policy_lawful.proofs.UniqueNames.{subject_names, subjects_unique}
use Rattle.policy_lawful.proofs.WindowsByIndex.{name_there}
use Rattle.muen_num.proofs.Members.{In}

-- ---- lists

pub any_filter_map : {X Y : Type 0} (test : Y → Bool) (f : X → Option Y) (xs : List X) → list_any test (filter_map f xs) ≡ list_any (λ x. option_map_or test (f x) false) xs
any_filter_map test f [] = refl
any_filter_map test f (x ∷ xs) =
    elim (f x) as (λ o. list_any test (cons_option o (filter_map f xs)) ≡ (option_map_or test o false || list_any (λ x. option_map_or test (f x) false) xs)) [
      | None ↦ any_filter_map test f xs
      | Some y ↦ ap (λ b. test y || b) (any_filter_map test f xs)
    ]

-- an element of a list with its numbers
pub numbered_in : {X : Type 0} (n : ℕ) (xs : List X) (x : ℕ × X) → In x (enumerate_from n xs) → (j : ℕ) × (x.0 ≡ n + j) × (slice_get xs j ≡ Some x.1)
numbered_in n [] x i = absurd i
numbered_in n (y ∷ ys) x (inl e) =
    let number : x.0 ≡ n = sym (ap (λ z. z.0) e) in
    (0, omega (arith, number), ap (λ z. Some z.1) e)
numbered_in n (y ∷ ys) x (inr i) =
    let later = numbered_in (n + 1) ys x i in
    let number : x.0 ≡ (n + 1) + later.0 = later.1 in
    (suc later.0, omega (arith, number), later.2)

pub at_number : {X : Type 0} (xs : List X) (x : ℕ × X) → In x (enumerate_from 0 xs) → slice_get xs x.0 ≡ Some x.1
at_number xs x i =
    let found = numbered_in 0 xs x i in
    let number : x.0 ≡ found.0 = let e : x.0 ≡ 0 + found.0 = found.1 in omega (arith, e) in
    ap (slice_get xs) number ∙ found.2

-- ---- a subject at its index

pub record At (r : Resolution) (index : ℕ) (s : Subject) : Type 0 where
  pub at : slice_get r.subjects index ≡ Some s

module _ (r : Resolution) (q : IsResolved r) where
  pub is_in_range : (index : ℕ) (s : Subject) → At r index s → subject_in_range r s ≡ true
  is_in_range index s h = passes_at (subject_in_range r) r.subjects index s (parts_in_range r q.in_range).subjects h.at

  pub own_name : (index : ℕ) (s : Subject) → At r index s → name_at (subject_names r) index ≡ s.name
  own_name index s h = name_there (λ s. s.name) r.subjects index s h.at

  -- the subject at another index has its name just where that is its index
  pub same_subject : (k index : ℕ) (s : Subject) → At r index s → k < length r.subjects → bytes_eq (name_at (subject_names r) k) s.name ≡ (k == index)
  same_subject k index s h l =
      let many : length (subject_names r) ≡ length r.subjects = length-map r.subjects (λ s. s.name) in
      let here : index < length r.subjects = slice_get_within r.subjects index s h.at in
      ap (bytes_eq (name_at (subject_names r) k)) (sym (own_name index s h))
      ∙ same_name (subject_names r) k index (subjects_unique r q.names) (omega (arith, many, l)) (omega (arith, many, here))
