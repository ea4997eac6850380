-- What a call of `verify` with status 0 has found.
use Rattle.std.proofs.Common.{◌≡◌, ◌⊎◌, inl, inr, ℕ, List, [], ◌∷◌, ◌++◌, Option, Some, None, Result, Ok, Err, refl, sym, ap, subst, ◌∙◌, append_assoc}
use Rattle.std.specs.FinMap.{get}
use Rattle.command_shell.specs.Answers.{Plan, answers}
use Rattle.command_shell.specs.Calls.{Comes, DoesOrNot, Ends, LacksMemory, Runs}
use Rattle.command_shell.specs.Errors.{error_status}
use Rattle.command_shell.specs.declared.error.CommandError.{CommandError}
use Rattle.command_shell.specs.declared.error.CommandError.TheVariants.{Usage, Missing, TooLong, FileFault, OutputFault, NoMemory, Own}
use Rattle.command_shell.specs.declared.status.Status.TheVariants as statuses
use Rattle.command_shell.proofs.Completing.{behind}
use Rattle.dma_check.specs.Verdict.{verdict}
use Rattle.dma_check.specs.declared.fault.DmaFault.{DmaFault}
use Rattle.dma_tables.specs.DmaFile.{dma_file}
use Rattle.dma_tables.specs.declared.file.DmaFile.{DmaFile}
use Rattle.image_pack.specs.Faults.{unpacked}
use Rattle.image_pack.specs.fault.ImageFault.{ImageFault}
use Rattle.image_pack.specs.declared.parts.Image.{Image}
use Rattle.image_verify.proofs.VerdictLaws.{no_fault_is_sound}
use Rattle.muen_build.specs.Refusals.{fitting_policy_of}
use Rattle.muen_num.specs.declared.limits.TheConstants.{IMAGE_MOST}
use Rattle.muen_outside.specs.Looks.{ShowAll, looks_since}
use Rattle.muen_outside.specs.States.{History, look, looked}
use Rattle.muen_outside.specs.Store.{Reading, Store, absent, long, reading_of, whole}
use Rattle.muen_outside.specs.declared.files.FileError.{FileError}
use Rattle.muen_outside.specs.declared.files.FileError.TheVariants.{Failed as FilesFailed, NoMemory as FilesMemory}
use Rattle.muen_top.specs.Answers.{judges}
use Rattle.muen_top.specs.Verdicts.{HasVerdict}
use Rattle.muen_top.specs.Verifying.{HasAllRead, IsFound}
use Rattle.muen_top.specs.declared.limits.TheConstants.{DMA_MOST}
use Rattle.muen_top.proofs.Verified.{is_judged}
use Rattle.policy_lawful.specs.Resolution.{Resolution, source_of}
use Rattle.policy_lawful.specs.refusal.Refusal.{Refusal as PolicyRefusal}
use Rattle.policy_lawful.specs.refusal.Refusal.TheVariants.{NotJson, Shape, Rule, Missing as MissingFile, TooLong as TooLongFile, FileFit, NoRoom, NoMemory as NoMemoryFor}
use Rattle.policy_lawful.specs.source.Source.{Source}
use Rattle.dma_top.specs.Accepting.{HoldsFit}
use Rattle.dma_top.specs.Answers.{of_meaning, verdict_answer, verdict_plan}
use Rattle.dma_top.specs.Calls.{IsAsked}
use Rattle.dma_top.specs.Commands.{Command, verify}
use Rattle.dma_top.specs.Refusals.{devices, policy_status}
use Rattle.dma_top.specs.Verdicts.{IsJudgedSo, IsVerify, judged, told_as, unread}
use Rattle.dma_top.specs.declared.refusal.Refusal.{Refusal}
use Rattle.dma_top.specs.declared.refusal.Refusal.TheVariants.{Policy, Image as ImageOf, Record as RecordOf, Tables as TablesOf, Unsound, Unfit}
use Rattle.dma_top.specs.declared.status.DmaStatus.{DmaStatus}
use Rattle.dma_top.proofs.Completing.{show_both}

-- ---- no error has the status 0

no_refusal_is_done : (refusal : PolicyRefusal) → statuses.Done ≡ policy_status refusal → ⊥
no_refusal_is_done NotJson h = cc (h)
no_refusal_is_done (Shape place want) h = cc (h)
no_refusal_is_done (Rule number first second) h = cc (h)
no_refusal_is_done (MissingFile file) h = cc (h)
no_refusal_is_done (TooLongFile file length) h = cc (h)
no_refusal_is_done (FileFit region room length) h = cc (h)
no_refusal_is_done (NoRoom region size) h = cc (h)
no_refusal_is_done NoMemoryFor h = cc (h)

no_error_is_done : (error : CommandError Refusal) → statuses.Done ≡ error_status devices.status error → ⊥
no_error_is_done Usage h = cc (h)
no_error_is_done (Missing name) h = cc (h)
no_error_is_done (TooLong name n) h = cc (h)
no_error_is_done FileFault h = cc (h)
no_error_is_done OutputFault h = cc (h)
no_error_is_done NoMemory h = cc (h)
no_error_is_done (Own (Policy refusal)) h = no_refusal_is_done refusal h
no_error_is_done (Own (ImageOf fault)) h = cc (h)
no_error_is_done (Own (RecordOf fault)) h = cc (h)
no_error_is_done (Own (TablesOf fault)) h = cc (h)
no_error_is_done (Own (Unsound fault)) h = cc (h)
no_error_is_done (Own (Unfit fault)) h = cc (h)

module _ (e : Ends DmaStatus) (done : e.status ≡ statuses.Done) where
  -- ---- the tables

  module _ (p : Source) (i : Image) (tables : List ℕ) (seen : History) where
    abbrev next : DmaFile → Plan DmaStatus
    next t = answers (verdict_answer (verdict p i t))

    -- the file was looked at, and has tables without a fault
    record Found : Type 0 where
      bytes : List ℕ
      after : e.after ≡ looked seen (look tables DMA_MOST (Ok (whole bytes)) ∷ [])
      t : DmaFile
      are : unpacked dma_file bytes ≡ Ok t
      fit : verdict p i t ≡ None

    module _ (bytes : List ℕ) where
      abbrev now : History
      now = looked seen (look tables DMA_MOST (Ok (whole bytes)) ∷ [])

      had_memory : LacksMemory devices.name e now → ⊥
      had_memory n = no_error_is_done NoMemory (sym done ∙ n.1.ended)

      by_verdict : (t : DmaFile) → unpacked dma_file bytes ≡ Ok t → (o : Option DmaFault) → verdict p i t ≡ o → DoesOrNot devices.name e now (verdict_answer o) → Found
      by_verdict t are None is (inl d) = record { bytes = bytes; after = d.0; t = t; are = are; fit = is }
      by_verdict t are (Some fault) is (inl d) = absurd (no_error_is_done (Own (Unfit fault)) (sym done ∙ d.1.ended))
      by_verdict t are o is (inr n) = absurd (had_memory n)

      by_meaning : (r : Result DmaFile ImageFault) → unpacked dma_file bytes ≡ r → Runs devices.name e (of_meaning TablesOf next r) now → Found
      by_meaning (Ok t) is runs = by_verdict t is (verdict p i t) refl runs
      by_meaning (Err fault) is (inl d) = absurd (no_error_is_done (Own (TablesOf fault)) (sym done ∙ d.1.ended))
      by_meaning (Err fault) is (inr n) = absurd (had_memory n)

      by_bytes : Runs devices.name e (of_meaning TablesOf next (unpacked dma_file bytes)) now ⊎ LacksMemory devices.name e now → Found
      by_bytes (inl runs) = by_meaning (unpacked dma_file bytes) refl runs
      by_bytes (inr n) = absurd (had_memory n)

    abbrev Follows : List ℕ → History → Type 0
    Follows bytes h = Runs devices.name e (of_meaning TablesOf next (unpacked dma_file bytes)) h ⊎ LacksMemory devices.name e h

    by_look : (got : Result Reading FileError) → Comes devices.name e tables (λ bytes. Follows bytes (looked seen (look tables DMA_MOST got ∷ []))) (looked seen (look tables DMA_MOST got ∷ [])) got → Found
    by_look (Ok (whole bytes)) comes = by_bytes bytes comes
    by_look (Ok absent) comes = absurd (cc (sym done ∙ comes.1.ended))
    by_look (Ok (long n)) comes = absurd (cc (sym done ∙ comes.1.ended))
    by_look (Err FilesFailed) comes = absurd (cc (sym done ∙ comes.1.ended))
    by_look (Err FilesMemory) comes = absurd (cc (sym done ∙ comes.1.ended))

    found_tables : Runs devices.name e (verdict_plan p i tables) seen → Found
    found_tables runs = by_look runs.0 runs.2

  -- ---- the image and the policy

  module _ (image policy tables : List ℕ) (held : Option Store) (m : Store) (shown : ShowAll m (looks_since e.before e.after)) where
    module _ (seen : History) (i : Image) (r : Resolution) (things : List (List ℕ)) (read : HasAllRead image policy held e.before seen i r things) where
      holds : IsFound i r things None → Found (source_of r) i tables seen → HoldsFit m image policy tables
      holds none there =
          let last = look tables DMA_MOST (Ok (whole there.bytes)) in
          let made : e.after.looks ≡ e.before.looks ++ (read.looks ++ last ∷ []) =
          ap (λ h. h.looks) there.after ∙ ap (λ ls. ls ++ last ∷ []) (ap (λ h. h.looks) read.saw.history) ∙ append_assoc e.before.looks read.looks (last ∷ []) in
          let both = show_both m read.looks (last ∷ []) (subst (ShowAll m) (behind e.before.looks (read.looks ++ last ∷ []) e.after.looks made) shown) in
          let a = read.says.over m both.0 in
          let v : HasVerdict (source_of r) m read.says.bytes i None = none m read.says.bytes a.held a.things_are read.says.image_is in
          let j = is_judged m image policy (λ x. x ≡ judges (source_of r) m read.says.bytes i) (λ reason h. cc (h)) a.answer in
          let same : j.p ≡ source_of r = cc (j.such) in
          let bytes : j.bytes ≡ read.says.bytes = cc (j.such) in
          record {
            p = source_of r;
            lawful = v.lawful;
            fits = record { document = j.document; read = j.document_read; fits = subst (λ p. fitting_policy_of m j.document ≡ Ok p) same j.fits };
            sound = record {
              bytes = read.says.bytes;
              parts = i;
              read = subst (λ b. reading_of (get m image) IMAGE_MOST ≡ whole b) bytes j.image_read;
              image = v.image;
              sound = no_fault_is_sound (source_of r) m i v.lawful v.image.parts v.held v.verdict;
            };
            bytes = there.bytes;
            read = both.1.0;
            t = there.t;
            are = there.are;
            fit = there.fit;
          }

      holds_so : IsJudgedSo tables i r things e seen → HoldsFit m image policy tables
      holds_so (inl h) = absurd (no_error_is_done (Own (Unsound h.0)) (sym done ∙ h.3.ended))
      holds_so (inr (inl h)) = absurd (no_error_is_done NoMemory (sym done ∙ h.1.ended))
      holds_so (inr (inr h)) = holds h.0 (found_tables (source_of r) i tables seen h.1)

    of_verify : IsVerify image policy tables held e → HoldsFit m image policy tables
    of_verify (unread error s told) = absurd (no_error_is_done (told_as error) (sym done ∙ told.ended))
    of_verify (judged seen i r things read so) = holds_so seen i r things read so

pub accepts : (command : Option Command) (held : Option Store) (e : Ends DmaStatus) → IsAsked command held e
    → (m : Store) (image policy tables : List ℕ) → ShowAll m (looks_since e.before e.after) → command ≡ Some (verify image policy tables) → e.status ≡ statuses.Done → HoldsFit m image policy tables
accepts command held e c m image policy tables shown is done = of_verify e done image policy tables held m shown (subst (λ x. IsAsked x held e) is c)
