-- How `verify` ends, by what it finds.
use Rattle.std.proofs.Common.{◌≡◌, inl, ℕ, List, [], Option, Some, None, refl, sym, subst}
use Rattle.image_pack.specs.declared.parts.Image.{Image}
use Rattle.image_verify.specs.Verdict.{AreOfFiles}
use Rattle.muen_outside.proofs.Explained.{explained}
use Rattle.muen_outside.specs.States.{History, SinkState}
use Rattle.muen_outside.specs.Store.{Store}
use Rattle.policy_lawful.specs.Resolution.{Resolution, source_of}
use Rattle.muen_top.specs.Answers.{Answer, judges, verify_answer}
use Rattle.image_verify.specs.declared.fault.Fault.{Fault}
use Rattle.muen_outside.specs.Puts.{Failed}
use Rattle.muen_top.specs.Calls.{ComesOfCommand, IsDone, OutcomeSays, Prints}
use Rattle.muen_top.specs.Verdicts.{Finds, HasVerdict}
use Rattle.muen_top.specs.Commands.{verify}
use Rattle.muen_top.specs.FilesSeen.{OverLooks}
use Rattle.muen_top.specs.Verifying.{EndsFound, HasAllRead, IsFound}
use Rattle.muen_top.specs.declared.outcome.CommandError.TheVariants.{Usage, Missing, TooLong, Refused, ImageRefused, DmaRefused, RecordRefused, NotSound, FileFault, NoMemory}
use Rattle.muen_top.specs.declared.outcome.Outcome.{Outcome}
use Rattle.muen_top.specs.declared.outcome.Outcome.TheVariants.{Done, Stopped, OutputFault}
use Rattle.muen_outside.proofs.Histories.{looked_alone}

module _ (image policy : List ℕ) (held : Option Store) (old new : History) (i : Image) (r : Resolution) (things : List (List ℕ))
    (read : HasAllRead image policy held old new i r things) where
  -- the policy's regions hold this over some files
  pub are_of_files : AreOfFiles r things
  are_of_files = let there = explained read.looks read.saw.single in record { files = there.0; are = (read.says.over there.0 there.1).things_are }

  module _ (held' : Option Store) (same : held' ≡ held) (out out' : SinkState) where
    abbrev reply : Store → Answer
    reply m = verify_answer m image policy

    abbrev Says : Outcome → Type 0
    Says outcome = OutcomeSays reply read.looks [] out out' outcome

    -- what is found is found over every store that agrees with the looks
    over : (o : Option Fault) → IsFound i r things o → (Such : Answer → Type 0)
        → ((m : Store) → HasVerdict (source_of r) m read.says.bytes i o → Such (judges (source_of r) m read.says.bytes i)) → OverLooks read.looks (λ m. Such (reply m))
    over o found Such so m shows =
        let a = read.says.over m shows in
        subst Such (sym a.answer) (so m (found m read.says.bytes a.held a.things_are read.says.image_is))

    -- how the command ends is as it is answered
    ends_so : (outcome : Outcome) → EndsFound (IsFound i r things) out out' outcome → Says outcome
    ends_so Done h = over None h.0 (λ a. IsDone a [] out out') (λ m v. (refl, v, h.1))
    ends_so OutputFault h = (over None h.0 (λ a. Prints a (λ t. Failed t out out')) (λ m v. (v, h.1)), refl)
    ends_so (Stopped (NotSound fault)) h = ((over (Some fault) h.0 (λ a. Finds a (Some fault)) (λ m v. v), refl), h.1)
    ends_so (Stopped NoMemory) h = (inl refl, h.1)
    ends_so (Stopped Usage) h = absurd h.0
    ends_so (Stopped (Missing n)) h = absurd h.0
    ends_so (Stopped (TooLong n k)) h = absurd h.0
    ends_so (Stopped (Refused x)) h = absurd h.0
    ends_so (Stopped (ImageRefused f)) h = absurd h.0
    ends_so (Stopped (DmaRefused f)) h = absurd h.0
    ends_so (Stopped (RecordRefused f)) h = absurd h.0
    ends_so (Stopped FileFault) h = absurd h.0

    -- so it comes of the command
    pub comes_of : (outcome : Outcome) → EndsFound (IsFound i r things) out out' outcome → ComesOfCommand (Some (verify image policy)) held held' old new out out' outcome
    comes_of outcome h = record {
      looks = read.looks;
      ws = [];
      history = looked_alone old new read.looks read.saw.history;
      single = read.saw.single;
      told = read.saw.told;
      asked = read.asked;
      left = same;
      says = ends_so outcome h;
    }
