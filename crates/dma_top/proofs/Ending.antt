-- What a call does whose command has come to this.
use Rattle.std.proofs.Common.{◌≡◌, inl, inr, ℕ, List, [], ◌++◌, Option, Some, None, IfSome, Err, refl, sym, subst, ◌∙◌}
use Rattle.command_shell.specs.Errors.{Reported}
use Rattle.command_shell.specs.Outcomes.{StopsAt, Reaches, PutsTo, ends_with}
use Rattle.command_shell.specs.Answers.{Plan, answers, prints}
use Rattle.command_shell.specs.declared.error.CommandError.{CommandError}
use Rattle.command_shell.specs.declared.error.CommandError.TheVariants.{Usage, Missing, TooLong, FileFault, OutputFault, NoMemory, Own}
use Rattle.command_shell.proofs.Ending.{agrees as shell_agrees, called as shell_called, looked_more, looks_are, put_so, told_more}
use Rattle.image_pack.specs.declared.parts.Image.{Image}
use Rattle.muen_outside.specs.Looks.{ShowAll, looks_since}
use Rattle.muen_outside.specs.States.{History, SinkState}
use Rattle.muen_outside.specs.Store.{Store}
use Rattle.muen_outside.proofs.Histories.{looked_alone}
use Rattle.muen_top.specs.Commands.{verify as muen_verify}
use Rattle.muen_top.specs.PolicyCommands.{StopsCommand}
use Rattle.muen_top.specs.Reports.{sound_text}
use Rattle.muen_top.specs.Verifying.{HasAllRead}
use Rattle.muen_top.specs.declared.outcome.CommandError.{CommandError as MuenError}
use Rattle.policy_lawful.specs.Resolution.{Resolution, source_of}
use Rattle.dma_top.specs.Answers.{flows_plan, lines_plan, verdict_plan, windows_plan}
use Rattle.dma_top.specs.Calls.{IsAsked}
use Rattle.dma_top.specs.Commands.{Command, flows, lines, verify, windows}
use Rattle.dma_top.specs.Outcomes.{ComesOf, ComesSo, Outcome}
use Rattle.dma_top.specs.Refusals.{devices}
use Rattle.dma_top.specs.Verdicts.{AreFit, AreUnfit, IsAccepted, IsJudgedSo, IsUnsound, IsVerify, judged, told_as, unread}
use Rattle.dma_top.specs.declared.refusal.Refusal.{Refusal}
use Rattle.dma_top.specs.declared.refusal.Refusal.TheVariants.{Policy, Image as ImageOf, Record as RecordOf, Tables as TablesOf, Unsound, Unfit}
use Rattle.dma_top.specs.declared.status.DmaStatus.{DmaStatus}
use Rattle.dma_top.specs.declared.verify.Accepted.{Accepted}

-- ---- of words

-- of this command
pub command_as : (command command' : Option Command) (held held' : Option Store) (old new : History) (out out' : SinkState) (outcome : Outcome) → command ≡ command'
    → ComesOf command held held' old new out out' outcome → ComesOf command' held held' old new out out' outcome
command_as command command' held held' old new out out' outcome is came = subst (λ c. ComesOf c held held' old new out out' outcome) is came

module _ (held held' : Option Store) (old new : History) (out out' : SinkState) (outcome : Outcome) where
  pub called : (command : Option Command) → ComesOf command held held' old new out out' outcome → (err err' : SinkState) → Reported devices err err' outcome
      → IsAsked command held (ends_with devices old new out out' outcome err err')
  called None c err err' told = shell_called devices held held' old new out out' outcome None c err err' told
  called (Some (verify image policy tables)) c err err' told = c.comes err err' told
  called (Some (lines image inputs tables)) c err err' told = shell_called devices held held' old new out out' outcome (Some (lines_plan image inputs tables)) c err err' told
  called (Some (windows policy)) c err err' told = shell_called devices held held' old new out out' outcome (Some (windows_plan policy)) c err err' told
  called (Some (flows policy)) c err err' told = shell_called devices held held' old new out out' outcome (Some (flows_plan policy)) c err err' told

  pub agrees : (command : Option Command) → ComesOf command held held' old new out out' outcome → IfSome held (λ m. ShowAll m (looks_since old new))
  agrees None c = shell_agrees devices held held' old new out out' outcome None c
  agrees (Some (verify image policy tables)) c =
      subst (λ looks. IfSome held (λ m. ShowAll m looks)) (sym (looks_are devices held held' old new out out' outcome c.looks [] (looked_alone old new c.looks c.history))) c.told
  agrees (Some (lines image inputs tables)) c = shell_agrees devices held held' old new out out' outcome (Some (lines_plan image inputs tables)) c
  agrees (Some (windows policy)) c = shell_agrees devices held held' old new out out' outcome (Some (windows_plan policy)) c
  agrees (Some (flows policy)) c = shell_agrees devices held held' old new out out' outcome (Some (flows_plan policy)) c

-- ---- of `verify`

module _ (image policy tables : List ℕ) (held : Option Store) (old : History) (out : SinkState) where
  abbrev Comes : Option Store → History → SinkState → Outcome → Type 0
  Comes held' new out' outcome = ComesSo (IsVerify image policy tables held) held held' old new out out' outcome

  -- nothing is judged
  pub not_read : (held' : Option Store) (new : History) → held' ≡ held → (error : MuenError) → StopsCommand (muen_verify image policy) held old new error → Comes held' new out (Err (told_as error))
  not_read held' new same error s = record {
    looks = s.looks;
    history = s.saw.history;
    told = s.saw.told;
    left = same;
    comes = λ err err' told. unread error s (record { ended = refl; quiet = refl; told = told });
  }

  module _ (mid : History) (i : Image) (r : Resolution) (things : List (List ℕ)) (read : HasAllRead image policy held old mid i r things) where
    -- the image isn't sound, or memory is refused
    pub not_sound : (held' : Option Store) → held' ≡ held → (error : CommandError Refusal) → IsUnsound i r things error → Comes held' mid out (Err error)
    not_sound held' same error is = record {
      looks = read.looks;
      history = read.saw.history;
      told = read.saw.told;
      left = same;
      comes = λ err err' told. judged mid i r things read (so error is err err' told);
    }
      where
        so : (error : CommandError Refusal) → IsUnsound i r things error → (err err' : SinkState) → Reported devices err err' (Err error)
            → IsJudgedSo tables i r things (ends_with devices old mid out out (Err error) err err') mid
        so (Own (Unsound fault)) is err err' told = inl (fault, is, refl, record { ended = refl; quiet = refl; told = told })
        so NoMemory is err err' told = inr (inl (refl, record { ended = refl; quiet = refl; told = told }))
        so (Own (Policy refusal)) is err err' told = absurd is
        so (Own (ImageOf fault)) is err err' told = absurd is
        so (Own (RecordOf fault)) is err err' told = absurd is
        so (Own (TablesOf fault)) is err err' told = absurd is
        so (Own (Unfit fault)) is err err' told = absurd is
        so Usage is err err' told = absurd is
        so (Missing n) is err err' told = absurd is
        so (TooLong n k) is err err' told = absurd is
        so FileFault is err err' told = absurd is
        so OutputFault is err err' told = absurd is

    module _ (x : Accepted) (accepted : IsAccepted i r things x) (held' held'' : Option Store) (same : held' ≡ held) (still : held'' ≡ held') (new : History) where
      abbrev plan : Plan DmaStatus
      plan = verdict_plan (source_of r) i tables

      -- the tables aren't read, or don't fit
      pub not_fit : (error : CommandError Refusal) → AreUnfit x tables held' mid new error → Comes held'' new out (Err error)
      not_fit error unfit =
          let s : StopsAt devices plan held mid new error =
          subst (λ h. StopsAt devices plan h mid new error) same
          (subst (λ r. StopsAt devices (verdict_plan (source_of r) i tables) held' mid new error) accepted.policy (unfit i read.says.image_is.parts accepted.spans)) in
          record {
            looks = read.looks ++ s.looks;
            history = looked_more old mid new read.looks s.looks read.saw.history s.history;
            told = told_more held read.looks s.looks read.saw.told s.told;
            left = still ∙ same;
            comes = λ err err' told.
                judged mid i r things read
                (inr (inr (accepted.found, s.comes (ends_with devices old new out out (Err error) err err') refl (record { ended = refl; quiet = refl; told = told }))));
          }

      -- they do
      pub fit : AreFit x tables held' mid new → (out' : SinkState) (outcome : Outcome) → PutsTo sound_text out out' outcome → Comes held'' new out' outcome
      fit are out' outcome put =
          let s : Reaches devices.name plan (answers (prints sound_text)) held mid new =
          subst (λ h. Reaches devices.name plan (answers (prints sound_text)) h mid new) same
          (subst (λ r. Reaches devices.name (verdict_plan (source_of r) i tables) (answers (prints sound_text)) held' mid new) accepted.policy (are i read.says.image_is.parts accepted.spans)) in
          record {
            looks = read.looks ++ s.looks;
            history = looked_more old mid new read.looks s.looks read.saw.history s.history;
            told = told_more held read.looks s.looks read.saw.told s.told;
            left = still ∙ same;
            comes = λ err err' told.
                judged mid i r things read
                (inr (inr (accepted.found, s.goes (ends_with devices old new out out' outcome err err') (put_so devices plan held old new held refl out out' sound_text outcome put err err' told))));
          }
