-- What a file that is looked at means, and what comes of it.
use Rattle.std.proofs.Common.{◌≡◌, inl, inr, ℕ, List, Option, Result, Ok, Err, refl, sym, subst}
use Rattle.command_shell.specs.Answers.{Plan, takes_memory}
use Rattle.command_shell.specs.Outcomes.{Reaches, StopsAt}
use Rattle.command_shell.specs.Reads.{NotRead, Saw}
use Rattle.command_shell.specs.declared.error.CommandError.{CommandError}
use Rattle.command_shell.specs.declared.error.CommandError.TheVariants.{Usage, Missing, TooLong, FileFault, OutputFault, NoMemory, Own}
use Rattle.command_shell.proofs.Ending.{not_read, reaches_in_memory, reaches_next, refused as refused_at, without_room}
use Rattle.image_pack.specs.Faults.{IsWanted}
use Rattle.image_pack.specs.fault.ImageFault.{ImageFault}
use Rattle.image_pack.specs.fault.ImageFault.TheVariants.{Short, Bad, Trailing, NoMemory as NoMemoryForImage}
use Rattle.muen_num.specs.Answers.{Answers}
use Rattle.muen_outside.specs.States.{History}
use Rattle.muen_outside.specs.Store.{Store, whole}
use Rattle.dma_top.specs.Answers.{file_plan, of_meaning}
use Rattle.dma_top.specs.Reads.{Finds, FindsNone, IsErrorOf}
use Rattle.dma_top.specs.Refusals.{devices, refusal_status, refusal_text}
use Rattle.dma_top.specs.declared.refusal.Refusal.{Refusal}
use Rattle.dma_top.specs.declared.status.DmaStatus.{DmaStatus}

-- the fault of a file with parts is told as other faults are
pub wanted_answers : {A : Type 0} (wanted : Result A ImageFault) (fault : ImageFault) → IsWanted wanted fault → Answers NoMemoryForImage wanted (Err fault)
wanted_answers wanted (Short at) h = inr h
wanted_answers wanted (Bad at field) h = inr h
wanted_answers wanted (Trailing at) h = inr h
wanted_answers wanted NoMemoryForImage h = inl refl

-- ---- a plan that refuses what is at fault

module _ {A F : Type 0} (reason : F → Refusal) (next : A → Plan DmaStatus) (plan : Plan DmaStatus) (held : Option Store) (old new : History) (meaning : Result A F)
    (r : Reaches devices.name plan (takes_memory (of_meaning reason next meaning)) held old new) where
  -- it goes on with what is meant
  pub goes_on_with : (a : A) → meaning ≡ Ok a → Reaches devices.name plan (next a) held old new
  goes_on_with a is =
      subst (λ m. Reaches devices.name plan (of_meaning reason next m) held old new) is (reaches_in_memory devices plan (of_meaning reason next meaning) held old new r)

  -- what is at fault is refused
  pub refused_for : (fault : F) → meaning ≡ Err fault → StopsAt devices plan held old new (Own (reason fault))
  refused_for fault is =
      refused_at devices plan held old new (refusal_status (reason fault)) (refusal_text (reason fault))
      (subst (λ m. Reaches devices.name plan (of_meaning reason next m) held old new) is (reaches_in_memory devices plan (of_meaning reason next meaning) held old new r)) (reason fault) refl refl

  -- or it ends for the error that tells the fault
  pub ends_for : (memory fault : F) → Answers memory meaning (Err fault) → (error : CommandError Refusal) → IsErrorOf memory reason fault error → StopsAt devices plan held old new error
  ends_for memory fault h NoMemory is = without_room devices plan (of_meaning reason next meaning) held old new r
  ends_for memory fault h (Own refusal) is =
      elim h [ inl e ↦ absurd (is.0 e) | inr e ↦ subst (λ x. StopsAt devices plan held old new (Own x)) (sym is.1) (refused_for fault e) ]
  ends_for memory fault h Usage is = absurd is
  ends_for memory fault h (Missing n) is = absurd is
  ends_for memory fault h (TooLong n k) is = absurd is
  ends_for memory fault h FileFault is = absurd is
  ends_for memory fault h OutputFault is = absurd is

-- ---- a file

module _ {A F : Type 0} (name : List ℕ) (most : ℕ) (meaning : List ℕ → Result A F) (reason : F → Refusal) (held : Option Store) (old new : History) where
  abbrev Plans : (A → Plan DmaStatus) → Plan DmaStatus
  Plans next = file_plan name most meaning reason next

  -- it isn't read
  pub file_unread : (error : CommandError Refusal) → NotRead name most held old new error → FindsNone (file_plan name most meaning reason) held old new error
  file_unread error h next = not_read devices name most (λ bytes. takes_memory (of_meaning reason next (meaning bytes))) held old new error h

  module _ (bytes : List ℕ) (saw : Saw name most (Ok (whole bytes)) held old new) where
    reached : (next : A → Plan DmaStatus) → Reaches devices.name (Plans next) (takes_memory (of_meaning reason next (meaning bytes))) held old new
    reached next = reaches_next devices.name held name most (λ bytes. takes_memory (of_meaning reason next (meaning bytes))) old new bytes saw

    -- it means this
    pub file_means : (a : A) → meaning bytes ≡ Ok a → Finds (file_plan name most meaning reason) held old new a
    file_means a is next = goes_on_with reason next (Plans next) held old new (meaning bytes) (reached next) a is

    -- it is refused, or memory is
    pub file_refused : (memory fault : F) → Answers memory (meaning bytes) (Err fault) → (error : CommandError Refusal) → IsErrorOf memory reason fault error
        → FindsNone (file_plan name most meaning reason) held old new error
    file_refused memory fault h error is next = ends_for reason next (Plans next) held old new (meaning bytes) (reached next) memory fault h error is
