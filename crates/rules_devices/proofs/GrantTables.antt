-- Tables of counts, on which more is counted.
use Rattle.std.proofs.Common.{rules, ◌≡◌, ℕ, ◌+◌, ◌<◌, inl, inr, min, true, false, cond, List, [], length, get_or, map, replicate, set, take, refl, sym, ap, ◌∙◌, arith}
use Rattle.std.specs.Prelude.{◌==◌, slice_index}
use Rattle.std.specs.List.{sum_by}
use Rattle.std.proofs.lemmas.Bool.{cases_eq}
use Rattle.std.proofs.lemmas.Bool.Decides.{Decides-eqb}
use Rattle.std.proofs.lemmas.List.{get_or-map, get_or-replicate, get_or-set_other, get_or-set_same, length-replicate, take_more}
use Rattle.std.proofs.lemmas.List.Sums.{sum_by_push}
use Rattle.std.proofs.lemmas.Option.{slice_get_within, get_or_from_slice_get}
use Rattle.policy_lawful.specs.declared.resolved.DeviceUse.{DeviceUse}
use Rattle.policy_lawful.specs.declared.resolved.Subject.{Subject}
use Rattle.policy_lawful.specs.source.Device.{Device}
use Rattle.policy_lawful.specs.Counts.{Adds, times_among}
use Rattle.rules_devices.specs.Grants.{AreGrantCounts, TableAdds, counts_at, indexes_granted, part_names, times_by_index, times_by_subject, times_by_use}
use Rattle.rules_devices.specs.declared.resource.Resource.{Resource}

-- ---- one after another

most_two : (a b c f g : ℕ) → min 2 b ≡ min 2 (a + f) → min 2 c ≡ min 2 (b + g) → min 2 c ≡ min 2 (a + (f + g))
most_two a b c f g h k = omega arith

adds_more : {X : Type 0} (f : ℕ → ℕ → X → ℕ) (a b c : List (List ℕ)) (xs : List X) (i : ℕ) (x : X) → i < length xs → x ≡ get_or xs i x
    → TableAdds a b (λ k j. sum_by (f k j) (take i xs)) → TableAdds b c (λ k j. f k j x) → TableAdds a c (λ k j. sum_by (f k j) (take (i + 1) xs))
adds_more f a b c xs i x within is first then = record {
  rooms = λ k. then.rooms k ∙ first.rooms k;
  at = λ k j l.
      let room : length (counts_at b k) ≡ length (counts_at a k) = first.rooms k in
      let sum : sum_by (f k j) (take (i + 1) xs) ≡ sum_by (f k j) (take i xs) + f k j x =
      ap (sum_by (f k j)) (take_more xs i x within)
      ∙ sum_by_push (f k j) (take i xs) (get_or xs i x)
      ∙ ap (λ y. sum_by (f k j) (take i xs) + f k j y) (sym is) in
      most_two (slice_index (counts_at a k) j) (slice_index (counts_at b k) j) (slice_index (counts_at c k) j) (sum_by (f k j) (take i xs)) (f k j x)
      (first.at k j l) (then.at k j (omega arith))
      ∙ ap (λ n. min 2 (slice_index (counts_at a k) j + n)) (sym sum);
}

pub adds_use : (resource : Resource) (a b c : List (List ℕ)) (us : List DeviceUse) (i : ℕ) (u : DeviceUse) → i < length us → u ≡ get_or us i u
    → TableAdds a b (λ k j. sum_by (times_by_use resource k j) (take i us)) → TableAdds b c (λ k j. times_by_use resource k j u)
    → TableAdds a c (λ k j. sum_by (times_by_use resource k j) (take (i + 1) us))
adds_use resource a b c us i u within is first then = adds_more (times_by_use resource) a b c us i u within is first then

pub adds_subject : (resource : Resource) (a b c : List (List ℕ)) (ss : List Subject) (i : ℕ) (s : Subject) → i < length ss → s ≡ get_or ss i s
    → TableAdds a b (λ k j. sum_by (times_by_subject resource k j) (take i ss)) → TableAdds b c (λ k j. sum_by (times_by_use resource k j) s.devices)
    → TableAdds a c (λ k j. sum_by (times_by_subject resource k j) (take (i + 1) ss))
adds_subject resource a b c ss i s within is first then = adds_more (times_by_subject resource) a b c ss i s within is first then

-- nothing is counted of none
pub uses_none : (resource : Resource) (table : List (List ℕ)) → TableAdds table table (λ k j. sum_by (times_by_use resource k j) [])
uses_none resource table = record { rooms = λ k. refl; at = λ k j l. ap (min 2) (omega arith) }

pub subjects_none : (resource : Resource) (table : List (List ℕ)) → TableAdds table table (λ k j. sum_by (times_by_subject resource k j) [])
subjects_none resource table = record { rooms = λ k. refl; at = λ k j l. ap (min 2) (omega arith) }

-- ---- the counts of one device

changed : (resource : Resource) (old : List (List ℕ)) (y : List ℕ) (u : DeviceUse) → u.device < length old → length y ≡ length (counts_at old u.device)
    → Adds (counts_at old u.device) y (times_among (indexes_granted resource u)) → (k : ℕ)
    → (length (counts_at (set old u.device y) k) ≡ length (counts_at old k)) × Adds (counts_at old k) (counts_at (set old u.device y) k) (λ j. times_by_use resource k j u)
changed resource old y u within room adds k =
    elim (cases_eq k u.device) as (λ _. (length (counts_at (set old u.device y) k) ≡ length (counts_at old k)) × Adds (counts_at old k) (counts_at (set old u.device y) k) (λ j. times_by_use resource k j u)) [
      | inl e ↦
          let at : counts_at (set old u.device y) k ≡ y = ap (counts_at (set old u.device y)) e ∙ get_or-set_same old u.device y [] within in
          let was : counts_at old k ≡ counts_at old u.device = ap (counts_at old) e in
          let same : (u.device == k) ≡ true = (Decides-eqb u.device k).1 (sym e) in (
            ap length at ∙ room ∙ ap length (sym was),
            λ j l.
                let l' : j < length (counts_at old u.device) = rw (was) at l in
                ap (λ c. min 2 (slice_index c j)) at
                ∙ adds j l'
                ∙ ap (λ c. min 2 (slice_index c j + times_among (indexes_granted resource u) j)) (sym was)
                ∙ ap (λ b. min 2 (slice_index (counts_at old k) j + cond b (times_among (indexes_granted resource u) j) 0)) (sym same),
          )
      | inr n ↦
          let at : counts_at (set old u.device y) k ≡ counts_at old k = get_or-set_other old u.device k y [] n in
          let other : (u.device == k) ≡ false = search (rules, n) in (
            ap length at,
            λ j l.
                ap (λ c. min 2 (slice_index c j)) at
                ∙ ap (min 2) (omega arith)
                ∙ ap (λ b. min 2 (slice_index (counts_at old k) j + cond b (times_among (indexes_granted resource u) j) 0)) (sym other),
          )
    ]

pub adds_at : (resource : Resource) (old : List (List ℕ)) (y : List ℕ) (u : DeviceUse) → u.device < length old → length y ≡ length (counts_at old u.device)
    → Adds (counts_at old u.device) y (times_among (indexes_granted resource u)) → TableAdds old (set old u.device y) (λ k j. times_by_use resource k j u)
adds_at resource old y u within room adds = record {
  rooms = λ k. (changed resource old y u within room adds k).0;
  at = λ k. (changed resource old y u within room adds k).1;
}

-- ---- from nothing on

abbrev zeros : Resource → Device → List ℕ
zeros resource d = replicate (length (part_names resource d)) 0

pub are_times : (resource : Resource) (ds : List Device) (ss : List Subject) (old new : List (List ℕ)) → old ≡ map (λ d. replicate (length (part_names resource d)) 0) ds
    → TableAdds old new (λ k j. sum_by (times_by_subject resource k j) ss) → AreGrantCounts resource ds ss new
are_times resource ds ss old new is adds k d there j l =
    let at : counts_at old k ≡ zeros resource d =
    ap (λ t. counts_at t k) is
    ∙ get_or-map (zeros resource) ds k d [] (slice_get_within ds k d there)
    ∙ ap (zeros resource) (get_or_from_slice_get ds k d d there) in
    let room : length (zeros resource d) ≡ length (part_names resource d) = length-replicate (length (part_names resource d)) 0 in
    let zero : slice_index (counts_at old k) j ≡ 0 = ap (λ c. slice_index c j) at ∙ get_or-replicate (length (part_names resource d)) j 0 0 l in
    let many : length (counts_at old k) ≡ length (part_names resource d) = ap length at ∙ room in
    adds.at k j (omega arith) ∙ ap (λ n. min 2 (n + times_by_index resource ss k j)) zero ∙ ap (min 2) (omega arith)
