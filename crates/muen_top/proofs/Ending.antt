-- What comes of a command whose files were read.
use Rattle.std.proofs.Common.{◌≡◌, inl, ℕ, List, [], Option, Some, None, refl, sym, ap, subst, ◌∙◌}
use Rattle.muen_outside.proofs.Histories.{looked_alone, no_look}
use Rattle.muen_outside.specs.Puts.{Failed}
use Rattle.muen_outside.specs.States.{History, Look, SinkState, Write, looked, went, written}
use Rattle.muen_outside.specs.Store.{Store}
use Rattle.muen_outside.proofs.Explained.{told_none}
use Rattle.muen_top.specs.Answers.{Answer, prints, answer_of}
use Rattle.muen_top.specs.Calls.{ComesOfCommand, IsDone, OutcomeSays, Prints}
use Rattle.muen_top.specs.Commands.{Command, load}
use Rattle.muen_top.specs.LoadText.{load_text}
use Rattle.muen_top.specs.FilesSeen.{OverLooks}
use Rattle.muen_top.specs.PolicyCommands.{IsAnswered, StopsCommand}
use Rattle.muen_top.specs.Runs.{RunsTo}
use Rattle.muen_top.specs.declared.outcome.Outcome.{Outcome}
use Rattle.muen_top.specs.declared.outcome.Outcome.TheVariants.{Done, Stopped, OutputFault}
use Rattle.muen_top.specs.declared.outcome.CommandError.{CommandError}
use Rattle.muen_top.specs.declared.outcome.CommandError.TheVariants.{Usage, Missing, TooLong, Refused, ImageRefused, DmaRefused, RecordRefused, NotSound, FileFault, NoMemory}

-- ---- what was done with files

pub looked_written : (old mid new : History) (looks : List Look) (ws : List Write) → mid ≡ looked old looks → new ≡ written mid ws → new ≡ went old looks ws
looked_written old mid new looks ws is wrote = wrote ∙ ap (λ h. written h ws) is

-- ---- a text

of_text : (answer : Store → Answer) (looks : List Look) (out out' : SinkState) (text : List ℕ) → OverLooks looks (λ m. answer m ≡ prints text) → (outcome : Outcome) → RunsTo text out out' outcome → OutcomeSays answer looks [] out out' outcome
of_text answer looks out out' text is Done put = λ m s. subst (λ a. IsDone a [] out out') (sym (is m s)) (refl, put)
of_text answer looks out out' text is OutputFault put = (λ m s. subst (λ a. Prints a (λ t. Failed t out out')) (sym (is m s)) put, refl)
of_text answer looks out out' text is (Stopped NoMemory) put = (inl refl, put.1)
of_text answer looks out out' text is (Stopped Usage) put = absurd put.0
of_text answer looks out out' text is (Stopped (Missing n)) put = absurd put.0
of_text answer looks out out' text is (Stopped (TooLong n k)) put = absurd put.0
of_text answer looks out out' text is (Stopped (Refused r)) put = absurd put.0
of_text answer looks out out' text is (Stopped (ImageRefused f)) put = absurd put.0
of_text answer looks out out' text is (Stopped (DmaRefused f)) put = absurd put.0
of_text answer looks out out' text is (Stopped (RecordRefused f)) put = absurd put.0
of_text answer looks out out' text is (Stopped (NotSound f)) put = absurd put.0
of_text answer looks out out' text is (Stopped FileFault) put = absurd put.0

module _ (command : Command) (held held' : Option Store) (old new : History) (same : held' ≡ held) (out out' : SinkState) where
  pub printed : (text : List ℕ) (outcome : Outcome) → IsAnswered command held old new (prints text) → RunsTo text out out' outcome → ComesOfCommand (Some command) held held' old new out out' outcome
  printed text outcome g put = record {
    looks = g.looks;
    ws = [];
    history = looked_alone old new g.looks g.saw.history;
    single = g.saw.single;
    told = g.saw.told;
    asked = g.asked;
    left = same;
    says = of_text (λ m. answer_of m (Some command)) g.looks out out' text g.says outcome put;
  }

  -- ---- nothing

  pub ended : (error : CommandError) → StopsCommand command held old new error → out' ≡ out → ComesOfCommand (Some command) held held' old new out out' (Stopped error)
  ended error s quiet = record {
    looks = s.looks;
    ws = [];
    history = looked_alone old new s.looks s.saw.history;
    single = s.saw.single;
    told = s.saw.told;
    asked = s.asked;
    left = same;
    says = (s.says, quiet);
  }

-- ---- words

-- with no command's form
pub unasked : (command : Option Command) (held : Option Store) (h : History) (out : SinkState) → None ≡ command → ComesOfCommand command held held h h out out (Stopped Usage)
unasked command held h out is =
    subst (λ c. ComesOfCommand c held held h h out out (Stopped Usage)) is
    (record {
      looks = [];
      ws = [];
      history = looked_alone h h [] (no_look h);
      single = tt;
      told = told_none held;
      asked = refl;
      left = refl;
      says = ((λ m s. refl, refl), refl);
    })

-- of this command
pub command_as : (command command' : Option Command) (held held' : Option Store) (old new : History) (out out' : SinkState) (outcome : Outcome) → command ≡ command' → ComesOfCommand command held held' old new out out' outcome → ComesOfCommand command' held held' old new out out' outcome
command_as command command' held held' old new out out' outcome is came = subst (λ c. ComesOfCommand c held held' old new out out' outcome) is came

-- ---- a number

pub loaded : (number : ℕ) (held : Option Store) (h : History) (out out' : SinkState) (outcome : Outcome) → RunsTo (load_text number) out out' outcome → ComesOfCommand (Some (load number)) held held h h out out' outcome
loaded number held h out out' outcome put =
    printed (load number) held held h h refl out out' (load_text number) outcome
    (record {
      looks = [];
      saw = record { history = no_look h; single = tt; told = told_none held };
      asked = refl;
      says = λ m s. refl;
    }) put
