-- What `run` answers, as its files are read before the record.
use Rattle.std.proofs.Common.{◌≡◌, inl, inr, ℕ, List, [], ◌∷◌, ◌++◌, Option, Some, None, Result, Ok, Err, refl, sym, ap, subst, ◌∙◌, append-nil, option_map}
use Rattle.std.specs.FinMap.{get}
use Rattle.image_pack.proofs.Theorem.{back}
use Rattle.image_pack.specs.Faults.{Tells, unpacked}
use Rattle.image_pack.specs.fault.ImageFault.{ImageFault}
use Rattle.image_pack.specs.fault.ImageFault.TheVariants.{Short, Bad, Trailing, NoMemory as NoMemoryForImage}
use Rattle.dma_tables.proofs.FileLaws.{file_laws}
use Rattle.dma_tables.specs.DmaFile.{dma_file}
use Rattle.dma_tables.specs.Tables.{IsDmaFile}
use Rattle.dma_tables.specs.declared.file.DmaFile.{DmaFile}
use Rattle.image_pack.specs.Image.{image as image_form}
use Rattle.image_pack.specs.declared.parts.Image.{Image}
use Rattle.muen_num.specs.declared.limits.TheConstants.{IMAGE_MOST}
use Rattle.muen_outside.specs.declared.files.FileError.{FileError}
use Rattle.muen_outside.specs.Looks.{ShowAll}
use Rattle.muen_outside.specs.States.{History, Look}
use Rattle.muen_outside.specs.Store.{Store, Reading, whole, reading_of}
use Rattle.muen_top.specs.Answers.{Answer, stops, dma_refused, of_file, dma_answer, unpacked_answer, run_answer}
use Rattle.muen_top.specs.Asked.{Asks, AsksRecord, IsAtMost}
use Rattle.muen_top.specs.Calls.{StopsFor}
use Rattle.muen_top.specs.Commands.{run}
use Rattle.muen_top.specs.FilesSeen.{OverLooks, Saw, SawAfter}
use Rattle.muen_top.specs.Loads.{HasOptionalDmaTables, IsReady, LacksTables, NotTables, unread, faulty, NotRead, NotReadAfter, read_before}
use Rattle.muen_top.specs.PolicyCommands.{HasRead, StopsCommand}
use Rattle.muen_top.specs.CommandErrors.{error_of_dma_fault, error_of_image_fault}
use Rattle.muen_top.specs.declared.limits.TheConstants.{DMA_MOST}
use Rattle.muen_top.specs.declared.outcome.CommandError.{CommandError}
use Rattle.muen_top.specs.declared.run.TablesRead.{TablesRead}
use Rattle.muen_top.proofs.FilesSeen.{SeenAfter, first_known, gives_none, known_too, seen_after}
use Rattle.muen_top.proofs.FirstFile.{AsksOn, RestsOn, SaysOf, image_refused_by, not_read, says_of, stopped_by}
use Rattle.muen_top.specs.Verifying.{image_looks}
use Rattle.muen_top.proofs.FirstImage.{HasImage}

-- ---- the answer

-- what follows the image's file
run_next : List ℕ → Option (List ℕ) → Store → List ℕ → Answer
run_next name dma m bytes = unpacked_answer m name dma (unpacked image_form bytes)

-- the answer is what follows it
rests : (image name : List ℕ) (dma : Option (List ℕ)) → RestsOn IMAGE_MOST image (run_next name dma) (run image name dma)
unfolding run_answer run_next
rests image name dma m = refl

-- no other file is looked at first
asks : (image name : List ℕ) (dma : Option (List ℕ)) → AsksOn IMAGE_MOST image (AsksRecord image name dma) (run image name dma)
asks image name dma = record { asks = λ looks a. a; none = λ bytes. inl refl }

-- .. and of the image that its bytes are
by_image : (m : Store) (image name : List ℕ) (dma : Option (List ℕ)) (bytes : List ℕ) (answer : Result Image ImageFault)
    → reading_of (get m image) IMAGE_MOST ≡ whole bytes → unpacked image_form bytes ≡ answer → run_answer m image name dma ≡ unpacked_answer m name dma answer
unfolding run_answer
by_image m image name dma bytes answer is eq =
    ap (λ reading. of_file image (λ bytes. unpacked_answer m name dma (unpacked image_form bytes)) reading) is ∙ ap (unpacked_answer m name dma) eq

-- the bytes of a file of tables are read as them
pub tables_read : (bytes : List ℕ) (t : DmaFile) → IsDmaFile bytes t → unpacked dma_file bytes ≡ Ok t
tables_read bytes t file = ap (unpacked dma_file) file.bytes_are ∙ back dma_file file_laws t file.tables

-- ---- the image's file

-- it isn't read
pub image_not_read : (image name : List ℕ) (dma : Option (List ℕ)) (held : Option Store) (old new : History) (error : CommandError)
    → NotRead image IMAGE_MOST held old new error → StopsCommand (run image name dma) held old new error
image_not_read image name dma held old new error h =
    not_read IMAGE_MOST image (run_next name dma) (AsksRecord image name dma) (run image name dma) (rests image name dma) (asks image name dma) held old new error h

-- its bytes are no image
pub image_refused_so : (image name : List ℕ) (dma : Option (List ℕ)) (held : Option Store) (old mid : History) (bytes : List ℕ) → Saw held old mid (image_looks image bytes)
    → (fault : ImageFault) (error : CommandError) → Tells (unpacked image_form bytes) (Err fault) → error ≡ error_of_image_fault fault
    → StopsCommand (run image name dma) held old mid error
unfolding run_next
image_refused_so image name dma held old mid bytes saw fault error h made =
    image_refused_by IMAGE_MOST image (run_next name dma) (AsksRecord image name dma) (run image name dma) (rests image name dma) (asks image name dma) held old mid bytes saw
    (λ fault e m. ap (unpacked_answer m name dma) e) fault error h made

-- ---- the tables' file, where the image is one

module _ {image : List ℕ} {held held' : Option Store} {old mid : History} {bytes : List ℕ} {i : Image}
    (read : HasImage image held held' old mid bytes i) (dma : List ℕ) (new : History) where
  -- the looks at it behind that at the image's
  seen : (got : Result Reading FileError) → SawAfter (image_looks image bytes) dma DMA_MOST got held' mid new → SeenAfter (image_looks image bytes) dma DMA_MOST got held old new
  seen got after = seen_after (image_looks image bytes) dma DMA_MOST got held held' old mid new read.same read.saw after

  module _ (name : List ℕ) where
    abbrev answer : Store → Answer
    answer m = run_answer m image name (Some dma)

    -- what follows it
    next : Store → List ℕ → Answer
    next m file = dma_answer m name i (unpacked dma_file file)

    -- the answer goes on with what is read of it
    by_reading : (m : Store) (reading : Reading) → ShowAll m (image_looks image bytes) → reading_of (get m dma) DMA_MOST ≡ reading → answer m ≡ of_file dma (next m) reading
    unfolding next
    by_reading m reading s shows = by_image m image name (Some dma) bytes (Ok i) s.0 read.is ∙ ap (of_file dma (λ file. dma_answer m name i (unpacked dma_file file))) shows

    -- the looks so far are those that the command asks for
    asks_tables : (more : List Look) → IsAtMost dma DMA_MOST more → Asks (Some (run image name (Some dma))) (image_looks image bytes ++ more)
    asks_tables more one = record {
      got = Ok (whole bytes);
      more = more;
      is = refl;
      goes_on = inr (i, read.is, record { middle = more; last = []; is = sym (append-nil more); tables = one; inputs_last = inl refl });
    }

    -- what the answer is where the file gives no bytes
    read_so : (got : Result Reading FileError) → SawAfter (image_looks image bytes) dma DMA_MOST got held' mid new → HasRead (run image name (Some dma)) held old new (SaysOf answer dma got)
    read_so got after =
        let s = seen got after in
        let both = image_looks image bytes ++ s.more in
        record {
          looks = both;
          saw = s.saw;
          asked = asks_tables s.more s.one;
          says = says_of answer dma DMA_MOST next both (λ m reading shows is. by_reading m reading (s.shows m shows).0 is) got (λ m shows. (s.shows m shows).1) s.fault;
        }

    -- the file isn't read
    not_tables_read : (error : CommandError) → NotReadAfter (image_looks image bytes) dma DMA_MOST held' mid new error → StopsCommand (run image name (Some dma)) held old new error
    not_tables_read error h =
        stopped_by (run image name (Some dma)) held old new dma error
        (gives_none dma (λ got. SawAfter (image_looks image bytes) dma DMA_MOST got held' mid new)
        (λ got. HasRead (run image name (Some dma)) held old new (SaysOf answer dma got)) read_so error h)

    -- its bytes are of no tables
    fault_of : (file : List ℕ) (s : SeenAfter (image_looks image bytes) dma DMA_MOST (Ok (whole file)) held old new) (fault : ImageFault) → unpacked dma_file file ≡ Err fault
        → OverLooks (image_looks image bytes ++ s.more) (λ m. answer m ≡ stops (dma_refused fault))
    unfolding next
    fault_of file s fault e m shows = by_reading m (whole file) (s.shows m shows).0 (s.shows m shows).1 ∙ ap (dma_answer m name i) e

    -- .. so the command stops for this fault
    of_dma_fault : (file : List ℕ) (s : SeenAfter (image_looks image bytes) dma DMA_MOST (Ok (whole file)) held old new) (fault : ImageFault) → Tells (unpacked dma_file file) (Err fault)
        → StopsFor answer (image_looks image bytes ++ s.more) [] (error_of_dma_fault fault)
    of_dma_fault file s NoMemoryForImage h = inl refl
    of_dma_fault file s (Short at) h = (fault_of file s (Short at) h, refl)
    of_dma_fault file s (Bad at field) h = (fault_of file s (Bad at field) h, refl)
    of_dma_fault file s (Trailing at) h = (fault_of file s (Trailing at) h, refl)

    -- there are no tables
    not_tables : (error : CommandError) → NotTables (image_looks image bytes) dma held' mid new error → StopsCommand (run image name (Some dma)) held old new error
    not_tables error (unread h) = not_tables_read error h
    not_tables error (faulty file fault after h made) =
        let s = seen (Ok (whole file)) after in
        let both = image_looks image bytes ++ s.more in
        record { looks = both; saw = s.saw; asked = asks_tables s.more s.one; says = subst (StopsFor answer both []) (sym made) (of_dma_fault file s fault h) }

  -- the bytes of the file are tables
  tables_ready : (t : TablesRead) → SawAfter (image_looks image bytes) dma DMA_MOST (Ok (whole t.bytes)) held' mid new → IsDmaFile t.bytes t.tables
      → IsReady (λ name. run image name (Some dma)) held old new ((dma, t.bytes) ∷ (image, bytes) ∷ []) i (Some t.tables)
  tables_ready t after file =
      let s = seen (Ok (whole t.bytes)) after in
      record {
        looks = image_looks image bytes ++ s.more;
        saw = s.saw;
        known = known_too (image_looks image bytes) ((image, bytes) ∷ []) dma DMA_MOST t.bytes held old new s (first_known image IMAGE_MOST bytes);
        asked = λ name more one. record {
          got = Ok (whole bytes);
          more = s.more ++ more;
          is = refl;
          goes_on = inr (
            i,
            read.is,
            record {
              middle = s.more;
              last = more;
              is = refl;
              tables = s.one;
              inputs_last = inr ((t.tables, λ m shows. record { bytes = t.bytes; read = (s.shows m shows).1; file = file }), one);
            },
          );
        };
        answers = λ name m shows.
            by_image m image name (Some dma) bytes (Ok i) (s.shows m shows).0.0 read.is
            ∙ ap (of_file dma (λ read. dma_answer m name i (unpacked dma_file read))) (s.shows m shows).1
            ∙ ap (dma_answer m name i) (tables_read t.bytes t.tables file);
      }

-- ---- with tables and without

module _ {image : List ℕ} {held held' : Option Store} {old mid : History} {bytes : List ℕ} {i : Image} (read : HasImage image held held' old mid bytes i) (new : History) where
  -- the words name none
  none_ready : new ≡ mid → IsReady (λ name. run image name None) held old new ((image, bytes) ∷ []) i None
  none_ready still = record {
    looks = image_looks image bytes;
    saw = subst (λ h. Saw held old h (image_looks image bytes)) (sym still) read.saw;
    known = first_known image IMAGE_MOST bytes;
    asked = λ name more one. record {
      got = Ok (whole bytes);
      more = more;
      is = refl;
      goes_on = inr (i, read.is, record { middle = []; last = more; is = refl; tables = refl; inputs_last = inr (tt, one) });
    };
    answers = λ name m s. by_image m image name None bytes (Ok i) s.0 read.is;
  }

  -- the words name some, and there are none
  pub lacks_tables : (dma : Option (List ℕ)) (error : CommandError) → LacksTables (image_looks image bytes) dma held' mid new error
      → (name : List ℕ) → StopsCommand (run image name dma) held old new error
  lacks_tables None error h name = absurd h
  lacks_tables (Some dma) error h name = not_tables read dma new name error h

  -- all is read but the record
  pub run_ready : (dma : Option (List ℕ)) (tables : Option TablesRead) → HasOptionalDmaTables (image_looks image bytes) dma held' mid new tables
      → IsReady (λ name. run image name dma) held old new (read_before image bytes dma tables) i (option_map (λ t. t.tables) tables)
  run_ready None None still = none_ready still
  run_ready (Some dma) (Some t) h = tables_ready read dma new t h.0 h.1
  run_ready None (Some t) h = absurd h
  run_ready (Some dma) None h = absurd h
