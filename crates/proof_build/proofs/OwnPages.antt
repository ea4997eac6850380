-- No two subjects of the image share a page of their own.
use Rattle.std.proofs.Common.{◌≡◌, ℕ, ◌+◌, ◌*◌, ◌<◌, false, List, [], ◌∷◌, length, map, get_or, refl, sym, ◌∙◌, subst, arith, ne_eqb}
use Rattle.std.specs.Prelude.{◌==◌}
use Rattle.std.specs.List.{enumerate_from, list_any, zip}
use Rattle.std.proofs.lemmas.List.{take_all}
use Rattle.std.proofs.lemmas.Option.{slice_get-get_or}
use Rattle.event_emit.specs.declared.event_tables.EventTables.{EventTables}
use Rattle.expand_kernel.specs.granted.Grants.{Grants}
use Rattle.image_emit.proofs.AtIndexes.{mapped_there}
use Rattle.image_emit.proofs.ConditionsOfPlan.{subjects_many}
use Rattle.image_emit.specs.Made.{IsMade, Made, image_of, policy_of, subject_part}
use Rattle.image_soundness.specs.Sound.{HaveOwnPages, ShareNoSpan, share_a_span}
use Rattle.image_pack.specs.declared.parts.SubjectPart.{SubjectPart}
use Rattle.policy_lawful.proofs.SourceElements.{many_subjects}
use Rattle.policy_lawful.specs.Resolution.{source_of}
use Rattle.policy_lawful.specs.declared.resolved.Subject.{Subject}
use Rattle.region_alloc.specs.Placed.{Placement}
use Rattle.policy_lawful.specs.Things.{placed_things}

-- of five numbers in a row these
own_numbers : ℕ → ℕ → List ℕ
own_numbers c k = (c + 5 * k) ∷ (c + 5 * k + 2) ∷ (c + 5 * k + 3) ∷ (c + 5 * k + 4) ∷ []

other_numbers : (c i j : ℕ) → i < j → list_any (λ n. list_any (λ m. m == n) (own_numbers c j)) (own_numbers c i) ≡ false
unfolding own_numbers
other_numbers c i j l =
    rw (
      ne_eqb (c + 5 * j) (c + 5 * i) (λ e. absurd (omega (arith, e, l))),
      ne_eqb (c + 5 * j + 2) (c + 5 * i) (λ e. absurd (omega (arith, e, l))),
      ne_eqb (c + 5 * j + 3) (c + 5 * i) (λ e. absurd (omega (arith, e, l))),
      ne_eqb (c + 5 * j + 4) (c + 5 * i) (λ e. absurd (omega (arith, e, l))),
      ne_eqb (c + 5 * j) (c + 5 * i + 2) (λ e. absurd (omega (arith, e, l))),
      ne_eqb (c + 5 * j + 2) (c + 5 * i + 2) (λ e. absurd (omega (arith, e, l))),
      ne_eqb (c + 5 * j + 3) (c + 5 * i + 2) (λ e. absurd (omega (arith, e, l))),
      ne_eqb (c + 5 * j + 4) (c + 5 * i + 2) (λ e. absurd (omega (arith, e, l))),
      ne_eqb (c + 5 * j) (c + 5 * i + 3) (λ e. absurd (omega (arith, e, l))),
      ne_eqb (c + 5 * j + 2) (c + 5 * i + 3) (λ e. absurd (omega (arith, e, l))),
      ne_eqb (c + 5 * j + 3) (c + 5 * i + 3) (λ e. absurd (omega (arith, e, l))),
      ne_eqb (c + 5 * j + 4) (c + 5 * i + 3) (λ e. absurd (omega (arith, e, l))),
      ne_eqb (c + 5 * j) (c + 5 * i + 4) (λ e. absurd (omega (arith, e, l))),
      ne_eqb (c + 5 * j + 2) (c + 5 * i + 4) (λ e. absurd (omega (arith, e, l))),
      ne_eqb (c + 5 * j + 3) (c + 5 * i + 4) (λ e. absurd (omega (arith, e, l))),
      ne_eqb (c + 5 * j + 4) (c + 5 * i + 4) (λ e. absurd (omega (arith, e, l))),
    ) refl

-- the part of the subject at index n + k is that of this index
part_at : (x : Placement) (n : ℕ) (es : List (Subject × (Grants × EventTables))) (k : ℕ) (d : SubjectPart) → k < length (map (subject_part x) (enumerate_from n es))
    → (e : Subject × (Grants × EventTables)) × (get_or (map (subject_part x) (enumerate_from n es)) k d ≡ subject_part x (n + k, e))
part_at x n es k d l =
    let parts = map (subject_part x) (enumerate_from n es) in
    let there = mapped_there (subject_part x) n es k (get_or parts k d) (slice_get-get_or parts k d l) in
    (there.0, sym there.2)

-- no two subjects share one of these spans
none_shared : (m : Made) → ShareNoSpan (image_of m).subjects
unfolding image_of own_numbers
none_shared m i j d l within =
    let es = zip (policy_of m).subjects (zip m.placed.expanded.grants m.events) in
    let a = part_at m.placed 0 es i d (omega (arith, l, within)) in
    let b = part_at m.placed 0 es j d within in
    (λ t. share_a_span (a.1 t) (b.1 t))
    ∙ other_numbers (length (placed_things (policy_of m))) (0 + i) (0 + j) (omega (arith, l))

pub own_pages : (m : Made) → IsMade m → HaveOwnPages (source_of (policy_of m)) (image_of m)
own_pages m h =
    let parts = subjects_many m h in
    let named = many_subjects (policy_of m) in
    subst ShareNoSpan (sym (take_all (length (source_of (policy_of m)).subjects) (image_of m).subjects (omega (arith, parts, named)))) (none_shared m)
