-- A slot that was found tells those of the ticks behind it, as far as its minor frame goes.
use Rattle.std.proofs.Common.{◌≡◌, ◌∙◌, ℕ, zero, suc, ◌+◌, ◌-◌, ◌<◌, ◌≤◌, ◌==◌, Bool, false, not, List, [], ◌∷◌, Option, None, Some, sym, ap, subst, arith, inl, inr}
use Rattle.std.specs.Prelude.{◌&&◌, option_and_then, option_map, replicate, slice_get}
use Rattle.std.specs.List.{flat_map}
use Rattle.std.proofs.lemmas.Bool.{and_parts, cases_eq, cases_lt, eq-eqb, eqb-true, ne_eqb, not-false}
use Rattle.std.proofs.lemmas.Option.{none-some, same_Some}
use Rattle.muen_num.specs.Frame.{Frame}
use Rattle.muen_num.specs.ListChange.{change_at}
use Rattle.muen_num.proofs.ChangeLaws.{element_changes, others_stay}
use Rattle.frame_clock.specs.Frames.{slot_in}
use Rattle.frame_clock.specs.FrameSlot.{slot_of}
use Rattle.frame_clock.specs.Plan.{frames_in}
use Rattle.frame_clock.specs.Slot.{Slot, frame_slots}
use Rattle.frame_clock.specs.declared.frame_at.FrameAt.{FrameAt}
use Rattle.frame_clock.specs.declared.plan.Plan.{Plan}
use Rattle.frame_clock.proofs.SlotLaws.{frame_slot, first_frame, later_frame}
use Rattle.kernel_core.specs.Slots.{AreSlotsKept, IsSlotKept}
use Rattle.kernel_core.specs.declared.slots.KeptSlot.{KeptSlot}

-- ---- ticks of one minor frame

-- what a slot is some ticks later, in its minor frame
abbrev slot_later : Slot → ℕ → Slot
slot_later s passed = record s { first = s.first && (passed == 0); remaining = s.remaining - passed }

-- the slot at a tick, of these minor frames
abbrev slot_within : ℕ → List Frame → ℕ → Option Slot
slot_within major fs k = slice_get (flat_map (frame_slots major) fs) k

both_zero : (k passed : ℕ) → (k + passed == 0) ≡ ((k == 0) && (passed == 0))
both_zero k passed =
    elim (cases_eq k 0) [
      | inl e ↦
          let same : k + passed ≡ passed = omega (arith, e) in
          ap (λ n. n == 0) same ∙ ap (λ b. b && (passed == 0)) (sym (eq-eqb k 0 e))
      | inr ne ↦
          ne_eqb (k + passed) 0 (λ e. let none : k ≡ 0 = omega (arith, e) in ne none)
          ∙ ap (λ b. b && (passed == 0)) (sym (ne_eqb k 0 ne))
    ]

same_frame : (major : ℕ) (f : Frame) (k passed : ℕ) → frame_slot major f (k + passed) ≡ slot_later (frame_slot major f k) passed
same_frame major f k passed =
    let many : f.ticks - (k + passed) ≡ f.ticks - k - passed = omega arith in
    λ i. record { major = major; group = f.group; first = both_zero k passed i; remaining = many i }

-- in the first minor frame
goes_on_here : (major : ℕ) (f : Frame) (fs : List Frame) (k passed : ℕ) (s : Slot) → k < f.ticks → slot_within major (f ∷ fs) k ≡ Some s → passed < s.remaining → slot_within major (f ∷ fs) (k + passed) ≡ Some (slot_later s passed)
goes_on_here major f fs k passed s l is more =
    let e : frame_slot major f k ≡ s = same_Some (frame_slot major f k) s (sym (first_frame major f fs k l) ∙ is) in
    let here : f.ticks - k ≡ s.remaining = ap (λ (t : Slot). t.remaining) e in
    first_frame major f fs (k + passed) (omega (arith, l, here, more))
    ∙ ap Some (same_frame major f k passed ∙ ap (λ t. slot_later t passed) e)

-- **the slots of a minor frame**: fewer ticks later than remain, it is the same minor frame, of which as many fewer remain
slot_goes_on : (major : ℕ) (fs : List Frame) (k passed : ℕ) (s : Slot) → slot_within major fs k ≡ Some s → passed < s.remaining → slot_within major fs (k + passed) ≡ Some (slot_later s passed)
slot_goes_on major [] k passed s is more = absurd (none-some s is)
slot_goes_on major (f ∷ fs) k passed s is more =
    elim (cases_lt k f.ticks) [
      | inl l ↦ goes_on_here major f fs k passed s l is more
      | inr h ↦
          let j : ℕ = k - f.ticks in
          let same : f.ticks + j ≡ k = omega (arith, h) in
          let behind : f.ticks + (j + passed) ≡ k + passed = omega (arith, h) in
          let there : slot_within major fs j ≡ Some s = sym (later_frame major f fs j) ∙ ap (slot_within major (f ∷ fs)) same ∙ is in
          ap (slot_within major (f ∷ fs)) (sym behind)
          ∙ later_frame major f fs (j + passed)
          ∙ slot_goes_on major fs j passed s there more
    ]

-- ---- of a CPU

later_of : (at : FrameAt) (then tick : ℕ) (s : Slot) (o : Option (List Frame)) → at.start ≤ then → then ≤ tick → tick - then < s.remaining → option_and_then (λ m. slot_within at.major m (then - at.start)) o ≡ Some s → option_and_then (λ m. slot_within at.major m (tick - at.start)) o ≡ Some (slot_later s (tick - then))
later_of at then tick s None begun l more is = absurd (none-some s is)
later_of at then tick s (Some m) begun l more is =
    let behind : then - at.start + (tick - then) ≡ tick - at.start = omega (arith, begun, l) in
    ap (slot_within at.major m) (sym behind) ∙ slot_goes_on at.major m (then - at.start) (tick - then) s is more

-- what is kept tells the slots up to the end of the minor frame
kept_tells : (frames : List (List Frame)) (kept : KeptSlot) (tick : ℕ) → IsSlotKept frames kept → kept.tick ≤ tick → tick - kept.tick < kept.slot.remaining → slot_in frames kept.at tick ≡ Some (slot_later (slot_of kept.slot) (tick - kept.tick))
kept_tells frames kept tick is l more =
    later_of kept.at kept.tick tick (slot_of kept.slot) (slice_get frames kept.at.major) is.begun l more is.slot

-- ---- of all CPUs

nothing_there : (n cpu : ℕ) (kept : KeptSlot) → slice_get (replicate n None) cpu ≡ Some (Some kept) → ⊥
nothing_there zero cpu kept is = none-some (Some kept) is
nothing_there (suc n) zero kept is = none-some kept (same_Some None (Some kept) is)
nothing_there (suc n) (suc cpu) kept is = nothing_there n cpu kept is

-- where nothing is kept
pub none_kept : (plan : Plan) (n : ℕ) → AreSlotsKept plan (replicate n None)
none_kept plan n = record { each = (λ cpu kept is. absurd (nothing_there n cpu kept is)) }

kept_is : (kept k : KeptSlot) (o : Option (Option KeptSlot)) → option_map (λ _. Some kept) o ≡ Some (Some k) → kept ≡ k
kept_is kept k None is = absurd (none-some (Some k) is)
kept_is kept k (Some x) is = same_Some kept k (same_Some (Some kept) (Some k) is)

-- where one more slot is kept
pub kept_too : (plan : Plan) (cpu : ℕ) (kept : KeptSlot) (slots : List (Option KeptSlot)) → AreSlotsKept plan slots → IsSlotKept (frames_in plan cpu) kept → AreSlotsKept plan (change_at cpu (λ _. Some kept) slots)
kept_too plan cpu kept slots all is =
    let now : List (Option KeptSlot) = change_at cpu (λ _. Some kept) slots in
    record {
      each = (λ n k there.
          elim (cases_eq n cpu) [
            | inl e ↦
                let same : kept ≡ k = kept_is kept k (slice_get slots cpu) (sym (element_changes cpu (λ _. Some kept) slots) ∙ ap (slice_get now) (sym e) ∙ there) in
                subst (IsSlotKept (frames_in plan n)) same (subst (λ c. IsSlotKept (frames_in plan c) kept) (sym e) is)
            | inr ne ↦ all.each n k (sym (others_stay cpu n (λ _. Some kept) slots ne) ∙ there)
          ]);
    }

-- ---- as the code finds it

same_at : (a b : FrameAt) → not ((a.major == b.major) && (a.start == b.start)) ≡ false → a ≡ b
same_at a b h =
    let both = and_parts (a.major == b.major) (a.start == b.start) (not-false ((a.major == b.major) && (a.start == b.start)) h) in
    λ i. record { major = eqb-true a.major b.major both.0 i; start = eqb-true a.start b.start both.1 i }

-- the slot some ticks later, in the major frame of what is kept
pub told : (frames : List (List Frame)) (kept : KeptSlot) (at : FrameAt) (tick passed : ℕ) (first : Bool) → IsSlotKept frames kept → not ((kept.at.major == at.major) && (kept.at.start == at.start)) ≡ false → kept.tick ≤ tick → passed ≡ tick - kept.tick → passed < kept.slot.remaining → first ≡ (kept.slot.first && (passed == 0)) → slot_in frames at tick ≡ Some (slot_of (record kept.slot { first = first; remaining = kept.slot.remaining - passed }))
told frames kept at tick passed first is same l many more e =
    let now : Slot = slot_later (slot_of kept.slot) passed in
    ap (λ a. slot_in frames a tick) (sym (same_at kept.at at same))
    ∙ kept_tells frames kept tick is l (omega (arith, many, more))
    ∙ ap (λ n. Some (slot_later (slot_of kept.slot) n)) (sym many)
    ∙ ap (λ b. Some (record now { first = b })) (sym e)
