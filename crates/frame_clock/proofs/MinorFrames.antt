-- The minor frames of a CPU in the major frame that runs.
use Rattle.std.proofs.Common.{◌≡◌, ℕ, ◌-◌, ◌∙◌, List, [], Option, Some, None, map, refl, sym, ap}
use Rattle.std.specs.Prelude.{slice_get, option_map, option_and_then, unwrap_or}
use Rattle.std.specs.List.{flat_map}
use Rattle.std.proofs.lemmas.Option.{slice_get-map, unwrap_or-slice_get}
use Rattle.frame_clock.specs.Plan.{frame_of_minor, frames_in}
use Rattle.frame_clock.specs.Slot.{Slot, frame_slots}
use Rattle.frame_clock.specs.declared.plan.Major.{Major}
use Rattle.frame_clock.specs.declared.plan.Minor.{Minor}
use Rattle.frame_clock.specs.declared.plan.Plan.{Plan}
use Rattle.frame_clock.proofs.SlotLaws.{frames_at}
use Rattle.muen_num.specs.Frame.{Frame}
use Rattle.frame_clock.specs.Frames.{slot_in}
use Rattle.frame_clock.specs.declared.frame_at.FrameAt.{FrameAt}

-- the slot at a tick, of these minor frames of the major frame that runs
abbrev slot_of_frames : FrameAt → ℕ → List Frame → Option Slot
slot_of_frames at tick fs = slice_get (flat_map (frame_slots at.major) fs) (tick - at.start)

joined : (at : FrameAt) (tick cpu : ℕ) (o : Option Major) → option_and_then (slot_of_frames at tick) (option_map (frames_at cpu) o) ≡ option_and_then (λ m. slot_of_frames at tick (frames_at cpu m)) o
joined at tick cpu None = refl
joined at tick cpu (Some m) = refl

by_major : (p : Plan) (cpu : ℕ) (at : FrameAt) (tick : ℕ) (o : Option Major) → slice_get p.majors at.major ≡ o → slot_in (frames_in p cpu) at tick ≡ option_and_then (λ m. slot_of_frames at tick (frames_at cpu m)) o
unfolding frames_in
by_major p cpu at tick o is =
    ap (option_and_then (slot_of_frames at tick)) (slice_get-map (frames_at cpu) p.majors at.major ∙ ap (option_map (frames_at cpu)) is)
    ∙ joined at tick cpu o

pub no_major : (p : Plan) (cpu : ℕ) (at : FrameAt) (tick : ℕ) → slice_get p.majors at.major ≡ None → None ≡ slot_in (frames_in p cpu) at tick
no_major p cpu at tick is = sym (by_major p cpu at tick None is)

-- the minor frames of a CPU; none of a CPU that isn't there
frames_are : (m : Major) (cpu : ℕ) (o : Option (List Minor)) → slice_get m.cpus cpu ≡ o → frames_at cpu m ≡ map frame_of_minor (unwrap_or o [])
frames_are m cpu o is = ap (map frame_of_minor) (sym (unwrap_or-slice_get m.cpus cpu []) ∙ ap (λ x. unwrap_or x []) is)

by_cpu : (p : Plan) (cpu : ℕ) (at : FrameAt) (tick : ℕ) (m : Major) (o : Option (List Minor)) → slice_get p.majors at.major ≡ Some m → slice_get m.cpus cpu ≡ o → slot_in (frames_in p cpu) at tick ≡ slot_of_frames at tick (map frame_of_minor (unwrap_or o []))
by_cpu p cpu at tick m o is fs = by_major p cpu at tick (Some m) is ∙ ap (slot_of_frames at tick) (frames_are m cpu o fs)

pub no_cpu : (p : Plan) (cpu : ℕ) (at : FrameAt) (tick : ℕ) (m : Major) → slice_get p.majors at.major ≡ Some m → slice_get m.cpus cpu ≡ None → None ≡ slot_in (frames_in p cpu) at tick
no_cpu p cpu at tick m is none = sym (by_cpu p cpu at tick m None is none)

pub in_frames_there : (p : Plan) (cpu : ℕ) (at : FrameAt) (tick : ℕ) (m : Major) (fs : List Minor) → slice_get p.majors at.major ≡ Some m → slice_get m.cpus cpu ≡ Some fs → slice_get (flat_map (frame_slots at.major) (map frame_of_minor fs)) (tick - at.start) ≡ slot_in (frames_in p cpu) at tick
in_frames_there p cpu at tick m fs is found = sym (by_cpu p cpu at tick m (Some fs) is found)
