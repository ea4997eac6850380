-- A turn of any CPU keeps what the machine stands for, and gives the same line.
use Rattle.std.proofs.Common.{◌≡◌, ℕ, ◌<◌, ◌≤◌, true, false, Option, Some, None, refl, sym, ap, ◌∙◌, inl, inr}
use Rattle.std.specs.Prelude.{nat_lt, option_map, slice_get, is_some}
use Rattle.std.proofs.lemmas.Bool.{cases_lt, false≢true, ltb-true, lt-ltb}
use Rattle.policy_lawful.specs.Frames.{frames_of}
use Rattle.frame_clock.specs.Plan.{frames_in}
use Rattle.frame_clock.specs.Slot.{Slot}
use Rattle.frame_clock.specs.Frames.{slot_in}
use Rattle.frame_clock.specs.Alike.{AreAlikeTurns}
use Rattle.kernel_core.specs.Kernel.{Live, cpu_turn_in_slot as kernel_turn_in_slot, turn_of, cpu_turn_of_member as kernel_turn_of_member, turn_on, switched}
use Rattle.subject_model.specs.System.{System, system_turn, turn_in_slot, turn_of_member}
use Rattle.proof_turns.specs.Ground.{Ground, subject_name_at}
use Rattle.proof_turns.specs.Fixed.{IsFixed}
use Rattle.guest_isa.specs.Words.{IsWord}
use Rattle.proof_turns.specs.Stands.{StandsFor}
use Rattle.proof_turns.proofs.Moves.{switches}
use Rattle.proof_turns.proofs.Residents.{Resident}
use Rattle.proof_turns.proofs.SubjectTurns.{acts_stand}
use Rattle.proof_turns.proofs.Events.{name_is}

-- what is decided to be below is below
is_below : (a b : ℕ) → nat_lt a b ≡ true → a < b
is_below a b h = ltb-true a b h

-- .. and what isn't is not
not_below : (a b : ℕ) → nat_lt a b ≡ false → b ≤ a
not_below a b h = elim (cases_lt a b) [ inl l ↦ absurd (false≢true (sym h ∙ lt-ltb a b l)) | inr g ↦ g ]

module _ (g : Ground) (fixed : IsFixed g) (k : Live) (y : System) (stands : StandsFor g k y) (cpu tick : ℕ) (word : IsWord tick) where
  -- by the active member of the slot's group: it is on the CPU, and acts
  member_alike : (slot : Slot) → slot_in (frames_of g.policy cpu) y.frame tick ≡ Some slot → (who : Option ℕ) → slice_get k.on cpu ≡ Some who
      → (o : Option ℕ) → slice_get k.router.active slot.group ≡ o
      → AreAlikeTurns (StandsFor g) (kernel_turn_of_member g.setup cpu tick slot.first who o k) (turn_of_member g.policy cpu tick slot.first (option_map (subject_name_at g) o) y)
  member_alike slot found who on None at = record { state = stands; line = refl }
  member_alike slot found who on (Some s) at =
      let m = stands.router.members slot.group s at in
      let x = m.is in
      let j = x.joined in
      let its : x.part.cpu ≡ cpu = fixed.planned cpu y.frame tick slot s x.part found j.part m.in_group in
      let here : is_some (slice_get k.machine.cpus cpu) ≡ true = stands.cpus.cpus_there cpu ∙ (sym (stands.cpus.on_there cpu) ∙ ap is_some on) in
      let resident : Resident g cpu = record { number = s; is = x; its = its } in
      rw (name_is g fixed s x.subject x.part x.control j, j.found, j.part, j.control)
      (acts_stand g fixed (switched cpu s x.control who k) y cpu tick slot.first (record {
        who = resident;
        running = switches g fixed k y stands cpu resident who on (slice_get k.machine.cpus cpu) refl here;
        tick_word = word;
      }))

  -- by the slot
  slot_alike : (who : Option ℕ) → slice_get k.on cpu ≡ Some who → (o : Option Slot) → slot_in (frames_of g.policy cpu) y.frame tick ≡ o
      → AreAlikeTurns (StandsFor g) (kernel_turn_in_slot g.setup cpu tick who o k) (turn_in_slot g.policy cpu tick o y)
  slot_alike who on None found = record { state = stands; line = refl }
  slot_alike who on (Some slot) found =
      rw (stands.router.same_active slot.group) (member_alike slot found who on (slice_get k.router.active slot.group) refl)

  -- by who is on the CPU, if it is there
  on_alike : (o : Option (Option ℕ)) → slice_get k.on cpu ≡ o → AreAlikeTurns (StandsFor g) (turn_on g.setup cpu tick o k) (system_turn g.policy cpu tick y)
  on_alike None on =
      let beyond : g.policy.processor.logical_cpus ≤ cpu = not_below cpu g.policy.processor.logical_cpus (sym (stands.cpus.on_there cpu) ∙ ap is_some on) in
      rw (fixed.no_slots cpu y.frame tick beyond) (record { state = stands; line = refl })
  on_alike (Some who) on =
      let below : cpu < g.policy.processor.logical_cpus = is_below cpu g.policy.processor.logical_cpus (sym (stands.cpus.on_there cpu) ∙ ap is_some on) in
      let same : slot_in (frames_in g.setup.plan cpu) k.frame tick ≡ slot_in (frames_of g.policy cpu) y.frame tick =
      ap (λ p. slot_in (frames_in g.setup.plan cpu) p tick) stands.frame ∙ fixed.slots cpu y.frame tick below in
      rw same (slot_alike who on (slot_in (frames_of g.policy cpu) y.frame tick) refl)

-- **the turn** of any CPU
pub turn_stands : (g : Ground) (fixed : IsFixed g) (cpu tick : ℕ) (k : Live) (y : System) → IsWord tick → StandsFor g k y
    → AreAlikeTurns (StandsFor g) (turn_of g.setup cpu tick k) (system_turn g.policy cpu tick y)
turn_stands g fixed cpu tick k y word stands = on_alike g fixed k y stands cpu tick word (slice_get k.on cpu) refl
