-- What a command answers that has read all its files but the record.
use Rattle.std.proofs.Common.{◌≡◌, inl, inr, ℕ, List, [], ◌++◌, Option, Some, Result, Ok, Err, ap, ◌∙◌}
use Rattle.std.specs.FinMap.{get}
use Rattle.dma_tables.specs.declared.file.DmaFile.{DmaFile}
use Rattle.image_load.specs.Resolving.{image_bench, image_record}
use Rattle.image_pack.specs.declared.parts.Image.{Image}
use Rattle.muen_build.specs.Accepting.{Files}
use Rattle.muen_num.specs.Answers.{Answers}
use Rattle.muen_num.specs.declared.limits.TheConstants.{RECORD_MOST}
use Rattle.muen_outside.specs.declared.files.FileError.{FileError}
use Rattle.muen_outside.specs.Looks.{ShowAll}
use Rattle.muen_outside.specs.States.{History, Look}
use Rattle.muen_outside.specs.Store.{Store, Reading, whole, reading_of}
use Rattle.muen_run.specs.RunText.{run_text}
use Rattle.record_text.specs.Reading.{record_of}
use Rattle.record_text.specs.Steps.{mapped}
use Rattle.record_text.specs.declared.fault.RecordFault.{RecordFault}
use Rattle.record_text.specs.declared.fault.RecordFault.TheVariants.{NoMemory as NoMemoryForRecord}
use Rattle.record_text.specs.declared.record.Input.{Input}
use Rattle.record_text.specs.declared.record.Record.{Record}
use Rattle.record_text.proofs.Mapped.{mapped_err, mapped_ok}
use Rattle.muen_top.specs.Answers.{Answer, prints, of_file, named_answer, answer_of}
use Rattle.muen_top.specs.Calls.{StopsFor}
use Rattle.muen_top.specs.Commands.{Command}
use Rattle.muen_top.specs.FilesSeen.{OverLooks, SawAfter}
use Rattle.muen_top.specs.Loads.{IsReady, NotReadAfter}
use Rattle.muen_top.specs.PolicyCommands.{HasRead, IsAnswered, StopsCommand}
use Rattle.muen_top.specs.CommandErrors.{error_of_record_fault}
use Rattle.muen_top.specs.declared.outcome.CommandError.{CommandError}
use Rattle.muen_top.proofs.FilesSeen.{SeenAfter, gives_none, seen_after}
use Rattle.muen_top.proofs.FirstFile.{SaysOf, says_of, stopped_by, stops_record}

module _ (command : List ℕ → Command) (name : List ℕ) (held held' : Option Store) (old mid new : History) (same : held' ≡ held) (found : Files) (i : Image) (tables : Option DmaFile) (ready : IsReady command held old mid found i tables) where
  abbrev answer : Store → Answer
  answer m = answer_of m (Some (command name))

  next : Store → List ℕ → Answer
  next m text = named_answer tables i (record_of text (image_bench i))

  abbrev After : Result Reading FileError → Type 0
  After got = SawAfter ready.looks name RECORD_MOST got held' mid new

  seen : (got : Result Reading FileError) → After got → SeenAfter ready.looks name RECORD_MOST got held old new
  seen got after = seen_after ready.looks name RECORD_MOST got held held' old mid new same ready.saw after

  -- the answer goes on with what is read of the record's file
  by_reading : (m : Store) (reading : Reading) → ShowAll m ready.looks → reading_of (get m name) RECORD_MOST ≡ reading → answer m ≡ of_file name (next m) reading
  unfolding next
  by_reading m reading s shows = ready.answers name m s ∙ ap (of_file name (λ text. named_answer tables i (record_of text (image_bench i)))) shows

  read_so : (got : Result Reading FileError) → After got → HasRead (command name) held old new (SaysOf answer name got)
  read_so got after =
      let s = seen got after in
      record {
        looks = ready.looks ++ s.more;
        saw = s.saw;
        asked = ready.asked name s.more s.one;
        says = says_of answer name RECORD_MOST next (ready.looks ++ s.more) (λ m reading shows is. by_reading m reading (s.shows m shows).0 is) got (λ m shows. (s.shows m shows).1) s.fault;
      }

  -- the record's file isn't read
  pub record_not_read : (error : CommandError) → NotReadAfter ready.looks name RECORD_MOST held' mid new error → StopsCommand (command name) held old new error
  record_not_read error h =
      stopped_by (command name) held old new name error
      (gives_none name After (λ got. HasRead (command name) held old new (SaysOf answer name got)) read_so error h)

  -- ---- the record

  module _ (text : List ℕ) (after : After (Ok (whole text))) where
    abbrev reads : Result (Record Input) RecordFault
    reads = mapped (image_record i) (record_of text (image_bench i))

    -- what comes of it
    by_record : (Says : List Look → Type 0) → ((looks : List Look) → OverLooks looks (λ m. answer m ≡ named_answer tables i (record_of text (image_bench i))) → Says looks) → HasRead (command name) held old new Says
    unfolding next
    by_record Says makes =
        let s = seen (Ok (whole text)) after in
        record {
          looks = ready.looks ++ s.more;
          saw = s.saw;
          asked = ready.asked name s.more s.one;
          says = makes (ready.looks ++ s.more) (λ m shows. by_reading m (whole text) (s.shows m shows).0 (s.shows m shows).1);
        }

    refused_says : (fault : RecordFault) → Answers NoMemoryForRecord reads (Err fault) → (error : CommandError) → error ≡ error_of_record_fault fault → (looks : List Look)
        → OverLooks looks (λ m. answer m ≡ named_answer tables i (record_of text (image_bench i))) → StopsFor answer looks [] error
    refused_says fault (inl is) error made looks goes = stops_record answer looks fault error (inl is) made
    refused_says fault (inr read) error made looks goes =
        stops_record answer looks fault error
        (inr (λ m shows. goes m shows ∙ ap (named_answer tables i) (mapped_err (image_record i) (record_of text (image_bench i)) fault read))) made

    -- it is refused
    pub record_refused_so : (fault : RecordFault) (error : CommandError) → Answers NoMemoryForRecord reads (Err fault) → error ≡ error_of_record_fault fault → StopsCommand (command name) held old new error
    record_refused_so fault error h made = by_record (λ looks. StopsFor answer looks [] error) (refused_says fault h error made)

    -- it is read
    pub record_read : (input : Record Input) → reads ≡ Ok input → IsAnswered (command name) held old new (prints (run_text tables i input))
    record_read input read =
        let named = mapped_ok (image_record i) (record_of text (image_bench i)) input read in
        by_record (λ looks. OverLooks looks (λ m. answer m ≡ prints (run_text tables i input)))
        (λ looks goes m shows. goes m shows ∙ ap (named_answer tables i) named.1 ∙ ap (λ r. prints (run_text tables i r)) named.2)
