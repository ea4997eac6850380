-- Worlds in which the same targets have other names.
use Rattle.std.specs.Prelude.{◌≡◌, ℕ, ◌%◌, ◌<◌, option_map}
use Rattle.muen_num.specs.AccessSize.{bytes_of as count}
use Rattle.muen_num.specs.declared.access.AccessKind.{AccessKind}
use Rattle.muen_num.specs.declared.access.AccessSize.{AccessSize}
use Rattle.muen_num.specs.declared.limits.TheConstants.{GUEST_END}
use Rattle.guest_isa.specs.Step.{World, Stored, Answer, word_at}
use Rattle.guest_isa.specs.declared.reach.Reach.{Reach}
use Rattle.guest_isa.specs.declared.reach.Reach.TheVariants.{Reached, Refused}

-- a target and an offset in it have another name and offset

abbrev pub renamed_reach : {X Y : Type 0} → (X → ℕ → Y × ℕ) → Reach X → Reach Y
renamed_reach f (Reached target offset) = Reached (f target offset).0 (f target offset).1
renamed_reach f (Refused reason qualification addr) = Refused reason qualification addr

abbrev pub renamed_store : {X Y : Type 0} → (X → ℕ → Y × ℕ) → Stored X → Stored Y
renamed_store f w = record { target = (f w.target w.offset).0; offset = (f w.target w.offset).1; bytes = w.bytes }

abbrev pub renamed : {X Y : Type 0} → (X → ℕ → Y × ℕ) → Answer X → Answer Y
renamed f a = record { state = a.state; end = a.end; stored = option_map (renamed_store f) a.stored; msr = a.msr }

-- two worlds are the same but for these names
pub record AreAlike {X Y : Type 0} (f : X → ℕ → Y × ℕ) (a : World X) (b : World Y) : Type 0 where
  pub look : (kind : AccessKind) (addr : ℕ) → addr < GUEST_END → b.look kind addr ≡ renamed_reach f (a.look kind addr)
  -- an access reads the same
  pub word : (kind : AccessKind) (addr : ℕ) (size : AccessSize) (target : X) (offset : ℕ) → addr < GUEST_END → addr % count size ≡ 0
      → a.look kind addr ≡ Reached target offset
      → word_at (count size) (b.bytes (f target offset).0) (f target offset).1 ≡ word_at (count size) (a.bytes target) offset
  pub input : (port size : ℕ) → b.input port size ≡ a.input port size
  pub output : (port size : ℕ) → b.output port size ≡ a.output port size
  pub msr : (index : ℕ) → b.msr index ≡ a.msr index
  pub sets_msr : (index : ℕ) → b.sets_msr index ≡ a.sets_msr index
  pub tick : b.tick ≡ a.tick
