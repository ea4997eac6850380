-- What a step may store, and that the numbers that it reads and writes are words.
use Rattle.std.proofs.Common.{◌≡◌, ℕ, ◌+◌, ◌%◌, ◌^◌, ◌<◌, ◌≤◌, Bool, true, false, Option, Some, None, List, length, sym, ap, ◌∙◌, subst, arith}
use Rattle.std.specs.Prelude.{if◌then◌else◌, slice_get, take, drop}
use Rattle.std.specs.List.{All}
use Rattle.std.proofs.lemmas.List.{length-take}
use Rattle.std.proofs.lemmas.List.Elements.{All-drop, All-take}
use Rattle.muen_num.specs.AccessSize.{bytes_of as count}
use Rattle.muen_num.specs.declared.access.AccessKind.TheVariants.{Write}
use Rattle.muen_num.specs.declared.access.AccessSize.{AccessSize}
use Rattle.muen_num.specs.declared.access.AccessSize.TheVariants.{One, Two, Four, Eight}
use Rattle.guest_isa.specs.declared.reach.Reach.TheVariants.{Reached}
use Rattle.machine_layout.specs.Memory.{le_number}
use Rattle.policy_lawful.specs.Thing.{Thing}
use Rattle.policy_lawful.specs.Windows.{Access, access_of, byte, violation, windows_of}
use Rattle.policy_lawful.specs.source.Subject.{Subject}
use Rattle.kernel_core.specs.Devices.{value_of_ports}
use Rattle.guest_isa.specs.Step.{MsrWrite, Stored, World, step}
use Rattle.subject_model.specs.SubjectState.{SubjectState}
use Rattle.subject_model.specs.Alone.{Inbox, MsrValues, alone, own_of, reach_by}
use Rattle.proof_turns.specs.Ground.{Ground}
use Rattle.proof_turns.specs.Fixed.{IsFixed, Sees}
use Rattle.guest_isa.specs.Words.{FitsState, IsByte, IsWord}
use Rattle.machine_layout.proofs.PageFieldLaws.{length-le_bytes}
use Rattle.guest_isa.proofs.StateLaws.{le_bytes_small, le_number_small}
use Rattle.subject_model.proofs.SystemLaws.{same_byte}
use Rattle.guest_isa.proofs.StepLaws.{IsStored, step_msr}
use Rattle.proof_turns.proofs.Changes.{WritesWord}
use Rattle.proof_turns.proofs.Stores.{IsStoreOf}

-- ---- words

-- what is read of ports is a word
pub ports_word : (ports : List ℕ) → All IsByte ports → (size : AccessSize) (port : ℕ) → IsWord (value_of_ports ports port (count size))
ports_word ports small size port =
    below size (le_number_small (take (count size) (drop port ports)) 8 (short size) (All-take IsByte (count size) (drop port ports) (All-drop IsByte port ports small)))
  where
    short : (z : AccessSize) → length (take (count z) (drop port ports)) ≤ 8
    short One = omega (arith, length-take 1 (drop port ports))
    short Two = omega (arith, length-take 2 (drop port ports))
    short Four = omega (arith, length-take 4 (drop port ports))
    short Eight = omega (arith, length-take 8 (drop port ports))

    below : (z : AccessSize) → le_number (take (count z) (drop port ports)) < 256 ^ 8 → IsWord (value_of_ports ports port (count z))
    below z h = h

-- .. also where it may exit instead
pub input_word : (ports : List ℕ) → All IsByte ports → (size : AccessSize) (port v : ℕ) (b : Bool)
    → (if b then None else Some (value_of_ports ports port (count size))) ≡ Some v → IsWord v
input_word ports small size port v true e = absurd (cc (e))
input_word ports small size port v false e =
    let same : value_of_ports ports port (count size) ≡ v = cc (e) in
    subst IsWord same (ports_word ports small size port)

-- a value, if it may be read
abbrev pub if_lets : Bool → Option ℕ → Option ℕ
if_lets lets v = if lets then v else None

-- the value that a step writes into an MSR is a word
pub writes_word : {X : Type 0} (w : World X) (st : SubjectState) → FitsState st → (m : Option MsrWrite) → (step w st).msr ≡ m → WritesWord m
writes_word w st fits None e = tt
writes_word w st fits (Some m) e = (step_msr w st m fits e).word

-- ---- stores

-- an access that reaches a byte is one of that byte
reach_is : (x : Thing) (offset addr : ℕ) (a : Access Thing) → reach_by Write addr a ≡ Reached x offset → a ≡ byte x offset
reach_is x offset addr (byte z o) e = same_byte z x o offset e
reach_is x offset addr (violation found) e = absurd (cc (e))

-- an aligned access stays in its page
in_page : (size : AccessSize) (addr offset : ℕ) → addr % count size ≡ 0 → offset % 4096 ≡ addr % 4096 → offset % 4096 + count size ≤ 4096
in_page One addr offset h e = omega (arith, h, e)
in_page Two addr offset h e = omega (arith, h, e)
in_page Four addr offset h e = omega (arith, h, e)
in_page Eight addr offset h e = omega (arith, h, e)

-- what a subject alone stores can be stored: where it goes is seen, and it stays in its page
pub stored_is : (g : Ground) (fixed : IsFixed g) (s : ℕ) (n : Subject) (values : MsrValues) (inbox : Inbox) (w : Stored Thing) → slice_get g.policy.subjects s ≡ Some n
    → IsStored (alone (own_of g.policy n) values inbox) w → IsStoreOf g fixed s n w
unfolding own_of
stored_is g fixed s n values inbox w at h =
    let found : access_of (windows_of g.policy n) h.addr Write ≡ byte w.target w.offset =
    reach_is w.target w.offset h.addr (access_of (windows_of g.policy n) h.addr Write) h.looked in
    let seen : Sees g s n h.addr w.target w.offset = fixed.sees s n Write h.addr w.target w.offset at found in
    let long : length w.bytes ≡ count h.size = ap length h.bytes ∙ length-le_bytes (count h.size) h.value in
    let fits : w.offset % 4096 + count h.size ≤ 4096 = in_page h.size h.addr w.offset h.aligned seen.aligned in
    record {
      there = seen.there;
      room = omega (arith, long, fits);
      small = subst (All IsByte) (sym h.bytes) (le_bytes_small (count h.size) h.value);
    }
