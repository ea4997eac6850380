-- One step of the search: the frame that has the tick, or the ticks that remain behind it.
use Rattle.std.proofs.Common.{◌≡◌, ℕ, ◌+◌, ◌-◌, ◌<◌, ◌≤◌, List, ◌∷◌, length, map, get_or, drop, Some, sym, ap, ◌∙◌, arith, drop-cons, add-one}
use Rattle.std.specs.Prelude.{slice_get}
use Rattle.std.specs.List.{flat_map}
use Rattle.frame_clock.specs.Plan.{frame_of_minor}
use Rattle.frame_clock.specs.Slot.{Slot, frame_slots}
use Rattle.frame_clock.specs.declared.plan.Minor.{Minor}
use Rattle.frame_clock.proofs.SlotLaws.{frame_slot, first_frame, later_frame}

-- an element, and those behind it
remaining_from : {X : Type 0} (xs : List X) (i : ℕ) (d : X) → i < length xs → drop i xs ≡ get_or xs i d ∷ drop (i + 1) xs
remaining_from xs i d l = drop-cons xs i d l ∙ ap (λ n. get_or xs i d ∷ drop n xs) (sym (add-one i))

abbrev pub minor_slots : ℕ → List Minor → List Slot
minor_slots major fs = flat_map (frame_slots major) (map frame_of_minor fs)

pub frame_here : (major : ℕ) (fs : List Minor) (i tick : ℕ) (d : Minor) → i < length fs → tick < (get_or fs i d).ticks → slice_get (minor_slots major (drop i fs)) tick ≡ Some (frame_slot major (frame_of_minor (get_or fs i d)) tick)
frame_here major fs i tick d l h =
    ap (λ gs. slice_get (minor_slots major gs) tick) (remaining_from fs i d l)
    ∙ first_frame major (frame_of_minor (get_or fs i d)) (map frame_of_minor (drop (i + 1) fs)) tick h

pub frame_past : (major : ℕ) (fs : List Minor) (i tick : ℕ) (d : Minor) → i < length fs → (get_or fs i d).ticks ≤ tick → slice_get (minor_slots major (drop (i + 1) fs)) (tick - (get_or fs i d).ticks) ≡ slice_get (minor_slots major (drop i fs)) tick
frame_past major fs i tick d l h =
    let f : Minor = get_or fs i d in
    let same : f.ticks + (tick - f.ticks) ≡ tick = omega (arith, h) in
    sym (later_frame major (frame_of_minor f) (map frame_of_minor (drop (i + 1) fs)) (tick - f.ticks))
    ∙ ap (slice_get (minor_slots major (f ∷ drop (i + 1) fs))) same
    ∙ ap (λ gs. slice_get (minor_slots major gs) tick) (sym (remaining_from fs i d l))
