-- A call in which nothing fails does the whole of what its command is answered.
use Rattle.std.proofs.Common.{◌≡◌, ◌≢◌, ◌⊎◌, inl, inr, ℕ, List, [], ◌∷◌, ◌++◌, Option, Some, None, Err, refl, sym, ap, subst, ◌∙◌, append_assoc}
use Rattle.std.specs.List.{All, AllByRecursion}
use Rattle.std.proofs.lemmas.List.Elements.{recursion_from_All}
use Rattle.command_shell.specs.Calls.{Ends}
use Rattle.command_shell.specs.Complete.{IsRefused, NothingFails}
use Rattle.command_shell.specs.Errors.{error_status, error_text}
use Rattle.command_shell.specs.declared.error.CommandError.{CommandError}
use Rattle.command_shell.specs.declared.error.CommandError.TheVariants.{Usage, Missing, TooLong, Own}
use Rattle.command_shell.specs.declared.status.Status.TheVariants as statuses
use Rattle.image_pack.specs.declared.parts.Image.{Image}
use Rattle.image_verify.specs.declared.fault.Fault.{Fault}
use Rattle.command_shell.proofs.Completing.{behind, complete as shell_complete, ran, unread as stopped_unread}
use Rattle.muen_outside.specs.Looks.{EndsInFault, ShowAll, looks_since}
use Rattle.muen_outside.specs.States.{History, Look, looked}
use Rattle.muen_outside.specs.Store.{Store}
use Rattle.muen_outside.specs.declared.files.FileError.TheVariants.{Failed as FilesFailed}
use Rattle.muen_top.specs.Answers.{Answer, Reason, usage, missing, too_long, refused, image_refused, dma_refused, record_refused, judges, prints, stops, verify_answer, writes}
use Rattle.muen_top.specs.Calls.{FaultOfFiles, StopsFor, Unwritten}
use Rattle.muen_top.specs.FilesSeen.{OverLooks}
use Rattle.muen_top.specs.Verdicts.{Finds, HasVerdict}
use Rattle.muen_top.specs.Verifying.{HasAllRead, IsFound}
use Rattle.muen_top.specs.declared.outcome.CommandError.{CommandError as MuenError}
use Rattle.muen_top.specs.declared.outcome.CommandError.TheVariants as muen
use Rattle.muen_top.proofs.Verified.{is_judged}
use Rattle.policy_lawful.specs.Resolution.{Resolution, source_of}
use Rattle.dma_top.specs.Answers.{flows_plan, lines_plan, verdict_plan, windows_plan}
use Rattle.dma_top.specs.Calls.{IsAsked}
use Rattle.dma_top.specs.Commands.{Command, flows, lines, verify, windows}
use Rattle.dma_top.specs.Complete.{IsRefusedFor, IsStopped, IsVerdictTold, IsWhole}
use Rattle.dma_top.specs.Refusals.{devices}
use Rattle.dma_top.specs.Verdicts.{IsJudgedSo, IsVerify, StopsWith, judged, told_as, unread}
use Rattle.dma_top.specs.declared.refusal.Refusal.TheVariants.{Policy, Image as ImageOf, Record as RecordOf, Tables as TablesOf, Unsound}
use Rattle.dma_top.specs.declared.refusal.Refusal.{Refusal}
use Rattle.dma_top.specs.declared.status.DmaStatus.{DmaStatus}

-- ---- looks in two parts

pub show_both : (m : Store) (ls more : List Look) → ShowAll m (ls ++ more) → ShowAll m ls × ShowAll m more
show_both m [] more s = (tt, s)
show_both m (l ∷ ls) more s = let b = show_both m ls more s.1 in ((s.0, b.0), b.1)

abbrev Well : List Look → Type 0
Well ls = AllByRecursion (λ l. l.got ≢ Err FilesFailed) ls

well_behind : (ls more : List Look) → Well (ls ++ more) → Well more
well_behind [] more w = w
well_behind (l ∷ ls) more w = well_behind ls more w.1

-- the last didn't fail
no_fault : (ls : List Look) → Well ls → EndsInFault ls → ⊥
no_fault ls w e = (well_behind e.front (_ ∷ []) (subst Well e.is w)).0 refl

-- ---- `verify`

module _ (image policy tables : List ℕ) (held : Option Store) (e : Ends DmaStatus) (well : NothingFails e) where
  abbrev Told : Type 0
  Told = (e.status ≡ statuses.NoMemory) ⊎ ((m : Store) → ShowAll m (looks_since e.before e.after) → IsVerdictTold m tables e (verify_answer m image policy))

  since : (ls : List Look) → e.after ≡ looked e.before ls → looks_since e.before e.after ≡ ls
  since ls is = behind e.before.looks ls e.after.looks (ap (λ h. h.looks) is)

  wells : (ls : List Look) → e.after ≡ looked e.before ls → Well ls
  wells ls is = recursion_from_All (λ (l : Look). l.got ≢ Err FilesFailed) ls (subst (All (λ l. l.got ≢ Err FilesFailed)) (since ls is) well.looks)

  -- the line is put as a whole
  whole_line : (ls : List Look) → e.after ≡ looked e.before ls → (error : CommandError Refusal) → StopsWith e error → IsRefused devices.name e (error_status devices.status error) (error_text devices error)
  whole_line ls is error s = stopped_unread devices.name e well.puts well.lines well.writes (looked e.before ls) refl (error_status devices.status error) (error_text devices error) (is, s)

  -- a fault is told of no other answer
  found_told : (m : Store) (a : Answer) (fault : Fault) → Finds a (Some fault) → IsRefusedFor e (Unsound fault) → IsVerdictTold m tables e a
  found_told m (judges p files bytes i) fault h told = inl (fault, h, told)
  found_told m (prints text) fault h told = absurd h
  found_told m (writes name dma p files) fault h told = absurd h
  found_told m (stops reason) fault h told = absurd h

  module _ (s : List Look) (is : e.after ≡ looked e.before s) where
    -- the looks were these
    shown : (m : Store) → ShowAll m (looks_since e.before e.after) → ShowAll m s
    shown m all = subst (ShowAll m) (since s is) all

    -- nothing was judged, for this reason
    stopped : (reason : Reason) (answers : OverLooks s (λ m. verify_answer m image policy ≡ stops reason)) → IsStopped e reason → Told
    stopped reason answers told = inr (λ m all. subst (IsVerdictTold m tables e) (sym (answers m (shown m all))) told)

    -- a failed look is none that doesn't fail, and `verify` writes nothing
    never_fails : FaultOfFiles (λ m. verify_answer m image policy) s [] → (m : Store) → ShowAll m (looks_since e.before e.after) → ⊥
    never_fails (inl h) m all = no_fault s (wells s is) h.0
    never_fails (inr h) m all = (is_judged m image policy (Unwritten FilesFailed []) (λ reason x. x) (h m (shown m all))).such

    told_why : (error : MuenError) → StopsFor (λ m. verify_answer m image policy) s [] error → StopsWith e (told_as error) → Told
    told_why muen.Usage h told = stopped usage h.0 (whole_line s is Usage told)
    told_why (muen.Missing name) h told = stopped (missing name.now) h.0 (whole_line s is (Missing name) told)
    told_why (muen.TooLong name n) h told = stopped (too_long name.now n) h.0 (whole_line s is (TooLong name n) told)
    told_why (muen.Refused refusal) h told = stopped (refused refusal) h.0 (whole_line s is (Own (Policy refusal)) told)
    told_why (muen.ImageRefused fault) h told = stopped (image_refused fault) h.0 (whole_line s is (Own (ImageOf fault)) told)
    told_why (muen.DmaRefused fault) h told = stopped (dma_refused fault) h.0 (whole_line s is (Own (TablesOf fault)) told)
    told_why (muen.RecordRefused fault) h told = stopped (record_refused fault) h.0 (whole_line s is (Own (RecordOf fault)) told)
    told_why (muen.NotSound fault) h told =
        let whole = whole_line s is (Own (Unsound fault)) told in
        inr (λ m all. found_told m (verify_answer m image policy) fault (h.0 m (shown m all)) whole)
    told_why muen.FileFault h told = inr (λ m all. absurd (never_fails h m all))
    told_why muen.NoMemory h told = inl told.ended

  -- behind what was read
  module _ (seen : History) (i : Image) (r : Resolution) (things : List (List ℕ)) (read : HasAllRead image policy held e.before seen i r things) where
    -- over a store that agrees with the looks so far, `muen verify` is answered by this verdict
    judges_so : (m : Store) (o : Option Fault) → ShowAll m read.looks → IsFound i r things o
        → (HasVerdict (source_of r) m read.says.bytes i o → IsVerdictTold m tables e (judges (source_of r) m read.says.bytes i)) → IsVerdictTold m tables e (verify_answer m image policy)
    judges_so m o shows found so =
        let a = read.says.over m shows in
        subst (IsVerdictTold m tables e) (sym a.answer) (so (found m read.says.bytes a.held a.things_are read.says.image_is))

    told_so : IsJudgedSo tables i r things e seen → Told
    told_so (inl h) =
        let is : e.after ≡ looked e.before read.looks = h.2 ∙ read.saw.history in
        let whole = whole_line read.looks is (Own (Unsound h.0)) h.3 in
        inr (λ m all. judges_so m (Some h.0) (subst (ShowAll m) (since read.looks is) all) h.1 (λ v. inl (h.0, v, whole)))
    told_so (inr (inl h)) = inl h.1.ended
    told_so (inr (inr h)) =
        let unwritten : seen.writes ≡ e.before.writes = ap (λ x. x.writes) read.saw.history in
        let rest = ran devices.name e well.puts well.lines well.writes (verdict_plan (source_of r) i tables) seen unwritten h.1 in
        let made : e.after.looks ≡ e.before.looks ++ (read.looks ++ rest.more) =
        rest.looks ∙ ap (λ ls. ls ++ rest.more) (ap (λ x. x.looks) read.saw.history) ∙ append_assoc e.before.looks read.looks rest.more in
        let all_are : looks_since e.before e.after ≡ read.looks ++ rest.more = behind e.before.looks (read.looks ++ rest.more) e.after.looks made in
        let wells_all : Well (read.looks ++ rest.more) =
        recursion_from_All (λ (l : Look). l.got ≢ Err FilesFailed) (read.looks ++ rest.more) (subst (All (λ l. l.got ≢ Err FilesFailed)) all_are well.looks) in
        elim (rest.whole (well_behind read.looks rest.more wells_all)) [
          | inl short ↦ inl short
          | inr goes ↦
              inr (λ m all.
              let both = show_both m read.looks rest.more (subst (ShowAll m) all_are all) in
              judges_so m None both.0 h.0 (λ v. inr (v, goes m both.1)))
        ]

  of_verify : IsVerify image policy tables held e → Told
  of_verify (unread error s told) = told_why s.looks s.saw.history error s.says told
  of_verify (judged seen i r things read so) = told_so seen i r things read so

-- ---- a call

pub complete : (command : Option Command) (held : Option Store) (e : Ends DmaStatus) → IsAsked command held e
    → NothingFails e → (e.status ≡ statuses.NoMemory) ⊎ ((m : Store) → ShowAll m (looks_since e.before e.after) → IsWhole m command e)
complete None held e c well = shell_complete devices.name devices.usage None e c well
complete (Some (verify image policy tables)) held e c well = of_verify image policy tables held e well c
complete (Some (lines image inputs tables)) held e c well = shell_complete devices.name devices.usage (Some (lines_plan image inputs tables)) e c well
complete (Some (windows policy)) held e c well = shell_complete devices.name devices.usage (Some (windows_plan policy)) e c well
complete (Some (flows policy)) held e c well = shell_complete devices.name devices.usage (Some (flows_plan policy)) e c well
