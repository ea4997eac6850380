-- What comes of a policy whose regions are placed, or aren't.
use Rattle.std.proofs.Common.{◌≡◌, inl, inr, ℕ, List, Option, Some, None, Result, Ok, Err, refl, sym, ap, subst, ◌∙◌}
use Rattle.command_shell.specs.Answers.{Plan, answers, prints}
use Rattle.command_shell.specs.declared.error.CommandError.{CommandError}
use Rattle.command_shell.specs.declared.error.CommandError.TheVariants.{Usage, Missing, TooLong, FileFault, OutputFault, NoMemory, Own}
use Rattle.command_shell.proofs.Ending.{without_room}
use Rattle.dma_map.specs.DmaMapText.{dma_map_text_of}
use Rattle.expand_kernel.specs.thing.Region.{Region}
use Rattle.muen_num.specs.Answers.{Explains}
use Rattle.muen_outside.specs.States.{History}
use Rattle.muen_outside.specs.Store.{Store}
use Rattle.policy_lawful.specs.refusal.Refusal.{Refusal as PolicyRefusal}
use Rattle.policy_lawful.specs.refusal.Refusal.TheVariants.{NoMemory as NoMemoryFor, NoRoom}
use Rattle.policy_lawful.specs.source.Source.{Source}
use Rattle.region_alloc.specs.Placement.{no_room, no_room_for, placement_of}
use Rattle.dma_top.specs.Answers.{of_meaning, placed_plan, policy_plan, windows_plan}
use Rattle.dma_top.specs.Reads.{EndsFor, Finds, IsErrorOf, IsToMap}
use Rattle.dma_top.specs.Refusals.{devices}
use Rattle.dma_top.specs.declared.refusal.Refusal.{Refusal}
use Rattle.dma_top.specs.declared.refusal.Refusal.TheVariants.{Policy}
use Rattle.dma_top.specs.declared.status.DmaStatus.{DmaStatus}
use Rattle.muen_top.proofs.PolicyCommands.{placement_there}
use Rattle.dma_top.proofs.FilesRead.{goes_on_with, refused_for}

-- where there is no room, one region lacks it
lacks_room : (a : Result (List ℕ) Region) (refusal : PolicyRefusal) → no_room_for a ≡ Some refusal → (r : Region) × (a ≡ Err r) × (NoRoom r.tag r.size ≡ refusal)
lacks_room (Ok addresses) refusal h = absurd (cc)
lacks_room (Err r) refusal h = (r, refl, cc)

abbrev room_for : Region → Refusal
room_for r = Policy (NoRoom r.tag r.size)

module _ (policy : List ℕ) (held : Option Store) (old new : History) (p : Source) (found : Finds (policy_plan policy) held old new p) where
  abbrev prints_at : List ℕ → Plan DmaStatus
  prints_at addresses = answers (prints (dma_map_text_of p addresses))

  -- its regions are placed
  pub placed_so : no_room p ≡ None → IsToMap policy held old new p
  unfolding no_room
  placed_so h =
      let there = placement_there (placement_of p) h in
      record {
        addresses = there.0;
        placement = there.1;
        printed = goes_on_with room_for prints_at (policy_plan policy placed_plan) held old new (placement_of p) (found placed_plan) there.0 there.1;
      }

  -- one isn't, or memory was refused
  pub not_placed : (refusal : PolicyRefusal) → Explains NoMemoryFor (no_room p) refusal → (error : CommandError Refusal) → IsErrorOf NoMemoryFor Policy refusal error
      → EndsFor (windows_plan policy) held old new error
  unfolding no_room
  not_placed refusal h NoMemory is = without_room devices (policy_plan policy placed_plan) (of_meaning room_for prints_at (placement_of p)) held old new (found placed_plan)
  not_placed refusal h (Own reason) is =
      elim h [
        | inl e ↦ absurd (is.0 e)
        | inr e ↦
            let l = lacks_room (placement_of p) refusal e in
            subst (λ x. EndsFor (windows_plan policy) held old new (Own x)) (ap Policy l.2 ∙ sym is.1)
            (refused_for room_for prints_at (policy_plan policy placed_plan) held old new (placement_of p) (found placed_plan) l.0 l.1)
      ]
  not_placed refusal h Usage is = absurd is
  not_placed refusal h (Missing n) is = absurd is
  not_placed refusal h (TooLong n k) is = absurd is
  not_placed refusal h FileFault is = absurd is
  not_placed refusal h OutputFault is = absurd is
