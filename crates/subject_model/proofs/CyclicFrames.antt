-- Without a pick the major frames run in their order, again and again.
use Rattle.std.proofs.Common.{◌≡◌, ℕ, zero, suc, ◌+◌, ◌-◌, ◌*◌, ◌%◌, ◌<◌, ◌≤◌, cond, List, [], ◌∷◌, length, map, Option, Some, None, refl, sym, ap, ◌∙◌, subst, inl, inr, arith, add-one}
use Rattle.std.specs.Prelude.{option_map, option_and_then, slice_get}
use Rattle.std.specs.List.{All, flat_map, sum_by}
use Rattle.std.proofs.lemmas.Bool.{cases_eq, cases_lt, eq-eqb, ne_eqb, le-ltb, lt-ltb}
use Rattle.std.proofs.lemmas.List.Elements.{All-head, All-tail}
use Rattle.std.proofs.lemmas.List.Sums.{sum_by-cons}
use Rattle.std.proofs.lemmas.Nat.{mod-mul-add}
use Rattle.std.proofs.lemmas.Option.{slice_get-map}
use Rattle.std.proofs.Math.Nat.{suc-mul}
use Rattle.frame_clock.specs.Frames.{first_frame, next_major, frame_at_tick, frame_by_ticks, slot_in}
use Rattle.frame_clock.specs.declared.frame_at.FrameAt.{FrameAt}
use Rattle.muen_num.proofs.Lists.{there}
use Rattle.frame_clock.proofs.SlotLaws.{first_major, later_major, length_slots, ticks_of}
use Rattle.frame_clock.specs.Slot.{frame_slots, slot_at, slots_from}
use Rattle.muen_num.specs.Frame.{Frame}
use Rattle.subject_model.specs.Laws.{FramesGoCyclically, frame_after}

-- ---- the ticks of major frames

-- those before a major frame
abbrev before : ℕ → List ℕ → ℕ
before zero ts = 0
before (suc m) [] = 0
before (suc m) (t ∷ ts) = t + before m ts

-- those of all
abbrev whole : List ℕ → ℕ
whole [] = 0
whole (t ∷ ts) = t + whole ts

before_next : (ts : List ℕ) (m t : ℕ) → slice_get ts m ≡ Some t → before (suc m) ts ≡ before m ts + t
before_next [] m t e = absurd (cc (e))
before_next (x ∷ ts) zero t e = let same : x ≡ t = cc (e) in omega (arith, same)
before_next (x ∷ ts) (suc m) t e = let ih = before_next ts m t e in omega (arith, ih)

before_within : (ts : List ℕ) (m t : ℕ) → slice_get ts m ≡ Some t → before m ts + t ≤ whole ts
before_within [] m t e = absurd (cc (e))
before_within (x ∷ ts) zero t e = let same : x ≡ t = cc (e) in omega (arith, same)
before_within (x ∷ ts) (suc m) t e = let ih = before_within ts m t e in omega (arith, ih)

before_last : (ts : List ℕ) (m t : ℕ) → slice_get ts m ≡ Some t → length ts ≤ m + 1 → before m ts + t ≡ whole ts
before_last [] m t e l = absurd (cc (e))
before_last (x ∷ []) zero t e l = let same : x ≡ t = cc (e) in omega (arith, same)
before_last (x ∷ y ∷ ts) zero t e l = absurd (omega (arith, l))
before_last (x ∷ ts) (suc m) t e l = let ih = before_last ts m t e (omega (arith, l)) in omega (arith, ih)

some_at : (ts : List ℕ) (m t : ℕ) → All (λ n. 0 < n) ts → slice_get ts m ≡ Some t → 0 < t
some_at [] m t all e = absurd (cc (e))
some_at (x ∷ ts) zero t all e =
    let same : x ≡ t = cc (e) in
    subst (λ n. 0 < n) same (All-head (λ n. 0 < n) x ts all)
some_at (x ∷ ts) (suc m) t all e = some_at ts m t (All-tail (λ n. 0 < n) x ts all) e

whole_sums : (frames : List (List Frame)) → whole (map ticks_of frames) ≡ sum_by ticks_of frames
whole_sums [] = refl
whole_sums (m ∷ ms) = ap (λ n. ticks_of m + n) (whole_sums ms) ∙ sym (sum_by-cons ticks_of m ms)

-- ---- the major frame at a tick

-- the major frame is there and has this tick, and it began after all major frames ran some times and those before it once
record IsFrame (ticks : List ℕ) (tick : ℕ) (at : FrameAt) : Type 0 where
  size : ℕ
  rounds : ℕ
  found : slice_get ticks at.major ≡ Some size
  begun : at.start ≤ tick
  remaining : tick < at.start + size
  since : at.start ≡ rounds * whole ticks + before at.major ticks

frame_begins : (ticks : List ℕ) (tick major rounds : ℕ) → All (λ n. 0 < n) ticks → major < length ticks → tick ≡ rounds * whole ticks + before major ticks → IsFrame ticks tick (record { major = major; start = tick })
frame_begins ticks tick major rounds each l since =
    let size = there ticks major l in
    let some = some_at ticks major size.0 each size.1 in
    record {
      size = size.0;
      rounds = rounds;
      found = size.1;
      begun = omega arith;
      remaining = omega (arith, some);
      since = since;
    }

frame_stays : (ticks : List ℕ) (tick : ℕ) (at : FrameAt) (p : IsFrame ticks tick at) → (suc tick ≡ at.start + p.size → ⊥) → IsFrame ticks (suc tick) at
frame_stays ticks tick at p ne =
    let begun = p.begun in
    let remaining = p.remaining in
    record {
      size = p.size;
      rounds = p.rounds;
      found = p.found;
      begun = omega (arith, begun);
      remaining = omega (arith, remaining, ne);
      since = p.since;
    }

frame_turns : (ticks : List ℕ) (tick : ℕ) (at : FrameAt) (p : IsFrame ticks tick at) → All (λ n. 0 < n) ticks → 0 < length ticks → suc tick ≡ at.start + p.size → IsFrame ticks (suc tick) (record { major = next_major (length ticks) at.major None; start = suc tick })
frame_turns ticks tick at p each some end =
    let since = p.since in
    elim (cases_lt (at.major + 1) (length ticks)) [
      | inl h ↦
          let next = ap (λ n. before n ticks) (add-one at.major) ∙ before_next ticks at.major p.size p.found in
          subst (λ b. IsFrame ticks (suc tick) (record { major = cond b (at.major + 1) 0; start = suc tick })) (sym (lt-ltb (at.major + 1) (length ticks) h))
          (frame_begins ticks (suc tick) (at.major + 1) p.rounds each h (omega (arith, since, end, next)))
      | inr h ↦
          let last = before_last ticks at.major p.size p.found h in
          let more = suc-mul p.rounds (whole ticks) in
          subst (λ b. IsFrame ticks (suc tick) (record { major = cond b (at.major + 1) 0; start = suc tick })) (sym (le-ltb (at.major + 1) (length ticks) h))
          (frame_begins ticks (suc tick) 0 (suc p.rounds) each some (omega (arith, since, end, last, more)))
    ]

frame_goes : (ticks : List ℕ) (tick : ℕ) (at : FrameAt) → All (λ n. 0 < n) ticks → 0 < length ticks → IsFrame ticks tick at → IsFrame ticks (suc tick) (frame_at_tick ticks at None (suc tick))
frame_goes ticks tick at each some p =
    let next : FrameAt = record { major = next_major (length ticks) at.major None; start = suc tick } in
    subst (λ o. IsFrame ticks (suc tick) (frame_by_ticks (length ticks) at None (suc tick) o)) (sym p.found)
    (elim (cases_eq (suc tick) (at.start + p.size)) [
      | inl h ↦ subst (λ b. IsFrame ticks (suc tick) (cond b next at)) (sym (eq-eqb (suc tick) (at.start + p.size) h)) (frame_turns ticks tick at p each some h)
      | inr h ↦ subst (λ b. IsFrame ticks (suc tick) (cond b next at)) (sym (ne_eqb (suc tick) (at.start + p.size) h)) (frame_stays ticks tick at p h)
    ])

first_stays : (ticks : List ℕ) (size : ℕ) → slice_get ticks 0 ≡ Some size → 0 < size → frame_at_tick ticks first_frame None 0 ≡ first_frame
first_stays ticks size e some =
    ap (frame_by_ticks (length ticks) first_frame None 0) e
    ∙ ap (λ b. cond b (record { major = next_major (length ticks) 0 None; start = 0 }) first_frame) (ne_eqb 0 (0 + size) (λ h. absurd (omega (arith, some, h))))

frame_runs : (ticks : List ℕ) (tick : ℕ) → All (λ n. 0 < n) ticks → 0 < length ticks → IsFrame ticks tick (frame_after ticks tick)
frame_runs ticks zero each some =
    let size = there ticks 0 some in
    let none : 0 ≡ 0 * whole ticks + 0 = omega arith in
    subst (IsFrame ticks 0) (sym (first_stays ticks size.0 size.1 (some_at ticks 0 size.0 each size.1))) (frame_begins ticks 0 0 0 each some none)
frame_runs ticks (suc tick) each some = frame_goes ticks tick (frame_after ticks tick) each some (frame_runs ticks tick each some)

-- ---- the slot of a major frame

-- a tick of a major frame stands in the row of all ticks behind those of the major frames before
in_row : (frames : List (List Frame)) (first major k : ℕ) (fs : List Frame) → slice_get frames major ≡ Some fs → k < ticks_of fs → slice_get (slots_from first frames) (before major (map ticks_of frames) + k) ≡ slice_get (flat_map (frame_slots (first + major)) fs) k
in_row [] first major k fs e l = absurd (cc (e))
in_row (m ∷ ms) first zero k fs e l =
    let same : m ≡ fs = cc (e) in
    let none : 0 + k ≡ k = omega arith in
    let here : first ≡ first + 0 = omega arith in
    ap (slice_get (slots_from first (m ∷ ms))) none
    ∙ first_major first m ms k (subst (λ gs. k < ticks_of gs) (sym same) l)
    ∙ (λ i. slice_get (flat_map (frame_slots (here i)) (same i)) k)
in_row (m ∷ ms) first (suc major) k fs e l =
    let row : ticks_of m + before major (map ticks_of ms) + k ≡ ticks_of m + (before major (map ticks_of ms) + k) = omega arith in
    let number : first + 1 + major ≡ first + suc major = omega arith in
    ap (slice_get (slots_from first (m ∷ ms))) row
    ∙ later_major first m ms (before major (map ticks_of ms) + k)
    ∙ in_row ms (first + 1) major k fs e l
    ∙ ap (λ n. slice_get (flat_map (frame_slots n) fs) k) number

-- the minor frames of a major frame, by its ticks
frames_behind : (o : Option (List Frame)) (size : ℕ) → option_map ticks_of o ≡ Some size → (fs : List Frame) × (o ≡ Some fs) × (ticks_of fs ≡ size)
frames_behind None size e = absurd (cc (e))
frames_behind (Some fs) size e = let same : ticks_of fs ≡ size = cc (e) in (fs, refl, same)

slot_by_frame : (frames : List (List Frame)) (tick : ℕ) (at : FrameAt) → IsFrame (map ticks_of frames) tick at → slot_in frames at tick ≡ slot_at frames tick
unfolding slot_at
slot_by_frame frames tick at p =
    let ticks = map ticks_of frames in
    let k = tick - at.start in
    let begun = p.begun in
    let remaining = p.remaining in
    let since = p.since in
    let behind = frames_behind (slice_get frames at.major) p.size (sym (slice_get-map ticks_of frames at.major) ∙ p.found) in
    let fs = behind.0 in
    let size = behind.2 in
    let inside : k < ticks_of fs = omega (arith, begun, remaining, size) in
    let most = before_within ticks at.major p.size p.found in
    let below : before at.major ticks + k < whole ticks = omega (arith, begun, remaining, most) in
    let split : tick ≡ p.rounds * whole ticks + (before at.major ticks + k) = omega (arith, begun, since) in
    let long : length (slots_from 0 frames) ≡ whole ticks = length_slots 0 frames ∙ sym (whole_sums frames) in
    let round : tick % length (slots_from 0 frames) ≡ before at.major ticks + k = ap (λ n. tick % n) long ∙ ap (λ n. n % whole ticks) split ∙ mod-mul-add p.rounds (whole ticks) (before at.major ticks + k) below in
    let number : 0 + at.major ≡ at.major = omega arith in
    ap (option_and_then (λ m. slice_get (flat_map (frame_slots at.major) m) k)) behind.1
    ∙ ap (λ n. slice_get (flat_map (frame_slots n) fs) k) (sym number)
    ∙ sym (in_row frames 0 at.major k fs behind.1 inside)
    ∙ ap (slice_get (slots_from 0 frames)) (sym round)

-- where nothing picks one, the slot of the major frame at a tick is the tick's slot in the row of all
pub slots_cyclic : FramesGoCyclically
slots_cyclic frames ticks tick a =
    slot_by_frame frames tick (frame_after ticks tick) (subst (λ ts. IsFrame ts tick (frame_after ticks tick)) a.sums (frame_runs ticks tick a.each a.some))
