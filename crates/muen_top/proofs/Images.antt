-- What `build` answers, as its files are read, and what comes of its writes.
use Rattle.std.proofs.Common.{◌≡◌, inl, inr, ℕ, List, [], ◌∷◌, Option, Some, None, IfSome, is_some, option_map, Result, Ok, Err, refl, sym, ap, subst, ◌∙◌, append_assoc}
use Rattle.std.specs.FinMap.{get, insert}
use Rattle.muen_num.specs.declared.limits.TheConstants.{POLICY_MOST}
use Rattle.muen_build.specs.Accepting.{Accepts, AreAskedFor, ErrorSays, FailsWith, Files, RefusesDocument, WithDocument, looks_of}
use Rattle.muen_build.specs.ImageFor.{IsImageFor}
use Rattle.muen_build.specs.Looks.{Looked, document_look}
use Rattle.muen_build.specs.Refusals.{accepted_policy_of}
use Rattle.muen_build.specs.declared.accepted.BuildError.{BuildError}
use Rattle.muen_build.specs.declared.accepted.BuildError.TheVariants.{Refused as RefusedPolicy, FileFault as FaultOfFiles}
use Rattle.muen_build.proofs.Documents.{with_document}
use Rattle.muen_outside.specs.declared.files.FileError.{FileError}
use Rattle.muen_outside.specs.declared.files.FileError.TheVariants.{Failed as FileFailed, NoMemory as FileMemory}
use Rattle.muen_outside.specs.Looks.{HeldAfter, ShowAll, WriteLeaves}
use Rattle.muen_outside.specs.States.{History, Look, SinkState, Write, write, written}
use Rattle.muen_outside.specs.Store.{Store, whole, reading_of}
use Rattle.policy_lawful.specs.refusal.Refusal.{Refusal}
use Rattle.policy_lawful.specs.source.Source.{Source}
use Rattle.muen_top.specs.Answers.{Answer, stops, refused, of_file, image_answer, build_answer}
use Rattle.muen_top.specs.Asked.{Asks, AsksContents}
use Rattle.muen_top.specs.Calls.{ComesOfCommand, IsDone, OutcomeSays, StopsFor, Unwritten}
use Rattle.muen_top.specs.Commands.{build}
use Rattle.muen_top.specs.FilesSeen.{OverLooks, Saw}
use Rattle.muen_top.specs.Images.{IsBuilt, IsLast, Wrote, image_last, tables_last}
use Rattle.muen_top.specs.Kept.{EndsTables, EndsWrite, EndsWrites, image_well, image_not_well, IsFailed, IsWriteOf}
use Rattle.muen_top.specs.Loads.{NotRead}
use Rattle.muen_top.specs.PolicyCommands.{StopsCommand}
use Rattle.muen_top.specs.CommandErrors.{error_of_build}
use Rattle.muen_top.specs.Tables.{IsTablesFor}
use Rattle.muen_top.specs.declared.outcome.Outcome.{Outcome}
use Rattle.muen_top.specs.declared.outcome.Outcome.TheVariants.{Done, Stopped, OutputFault}
use Rattle.muen_top.specs.declared.outcome.CommandError.{CommandError}
use Rattle.muen_top.specs.declared.outcome.CommandError.TheVariants.{Usage, Missing, TooLong, Refused, ImageRefused, DmaRefused, RecordRefused, NotSound, FileFault, NoMemory}
use Rattle.muen_top.proofs.Ending.{looked_written}
use Rattle.muen_top.proofs.FilesSeen.{saw_contents}
use Rattle.muen_top.proofs.FirstFile.{AsksOn, RestsOn, fault_after, not_read, stops_refused}

-- ---- the answer

image_next : List ℕ → Option (List ℕ) → Store → List ℕ → Answer
image_next image dma m bytes = image_answer m image dma (accepted_policy_of m bytes)

rests : (policy image : List ℕ) (dma : Option (List ℕ)) → RestsOn POLICY_MOST policy (image_next image dma) (build policy image dma)
unfolding build_answer image_next
rests policy image dma m = refl

asks : (policy image : List ℕ) (dma : Option (List ℕ)) → AsksOn POLICY_MOST policy (AsksContents policy) (build policy image dma)
asks policy image dma = record { asks = λ looks a. a; none = λ document. tt }

by_document : (m : Store) (policy image : List ℕ) (dma : Option (List ℕ)) (bytes : List ℕ) (answer : Result Source Refusal) → reading_of (get m policy) POLICY_MOST ≡ whole bytes → accepted_policy_of m bytes ≡ answer
    → build_answer m policy image dma ≡ image_answer m image dma answer
unfolding build_answer
by_document m policy image dma bytes answer is eq =
    ap (λ reading. of_file policy (λ bytes. image_answer m image dma (accepted_policy_of m bytes)) reading) is ∙ ap (image_answer m image dma) eq

-- ---- the policy's file

pub policy_not_read : (policy image : List ℕ) (dma : Option (List ℕ)) (held : Option Store) (old new : History) (error : CommandError) → NotRead policy POLICY_MOST held old new error → StopsCommand (build policy image dma) held old new error
policy_not_read policy image dma held old new error h =
    not_read POLICY_MOST policy (image_next image dma) (AsksContents policy) (build policy image dma) (rests policy image dma) (asks policy image dma) held old new error h

-- ---- the policy

module _ (policy : List ℕ) (held held' : Option Store) (old between new : History) (same : held' ≡ held) (document : List ℕ) (saw : Saw held old between (document_look policy document ∷ [])) where
  module _ (image : List ℕ) (dma : Option (List ℕ)) where
    -- the looks at the document and at component files
    asks_all : (looks : List Look) → AreAskedFor policy document looks → Asks (Some (build policy image dma)) (document_look policy document ∷ looks)
    asks_all looks asked = record { got = Ok (whole document); more = looks; is = refl; goes_on = asked }

    abbrev Stops : List Look → CommandError → Type 0
    Stops looks error = StopsFor (λ m. build_answer m policy image dma) (document_look policy document ∷ looks) [] error

    refused_so : (looks : List Look) (r : Refusal) → WithDocument policy document looks (λ m. RefusesDocument document m r) → OverLooks (document_look policy document ∷ looks) (λ m. build_answer m policy image dma ≡ stops (refused r))
    refused_so looks r refuses m s =
        by_document m policy image dma document (Err r) s.0 (subst (λ k. accepted_policy_of k document ≡ Err r) (with_document m policy document s.0) (refuses m s.1))

    fails_so : (looks : List Look) (build_error : BuildError) (error : CommandError) → ErrorSays ((policy, document) ∷ []) (RefusesDocument document) looks build_error → error ≡ error_of_build build_error → Stops looks error
    fails_so looks (RefusedPolicy r) error (inl is) made = stops_refused (λ m. build_answer m policy image dma) (document_look policy document ∷ looks) r error (inl is) made
    fails_so looks (RefusedPolicy r) error (inr h) made = stops_refused (λ m. build_answer m policy image dma) (document_look policy document ∷ looks) r error (inr (refused_so looks r h)) made
    fails_so looks FaultOfFiles error h made = subst (Stops looks) (sym made) (inl (fault_after (document_look policy document) looks h, refl))

  pub policy_refused : (build_error : BuildError) (error : CommandError) → FailsWith policy document held' between new build_error → error ≡ error_of_build build_error → (image : List ℕ) (dma : Option (List ℕ)) → StopsCommand (build policy image dma) held old new error
  policy_refused build_error error h made image dma = record {
    looks = document_look policy document ∷ h.looks;
    saw = saw_contents policy document held held' old between new h.looks same saw h.looked;
    asked = asks_all image dma h.looks h.asked;
    says = fails_so image dma h.looks build_error error h.says made;
  }

  -- ---- an accepted policy

  module _ (found : Files) (looked : Looked policy held' between new (looks_of found)) (asked : AreAskedFor policy document (looks_of found)) where
    saw_both : Saw held old new (document_look policy document ∷ looks_of found)
    saw_both = saw_contents policy document held held' old between new (looks_of found) same saw looked

    -- memory was refused for what is to be written
    pub not_made : (error : CommandError) → error ≡ NoMemory → (image : List ℕ) (dma : Option (List ℕ)) → StopsCommand (build policy image dma) held old new error
    not_made error is image dma = record {
      looks = document_look policy document ∷ looks_of found;
      saw = saw_both;
      asked = asks_all image dma (looks_of found) asked;
      says = subst (Stops image dma (looks_of found)) (sym is) (inl refl);
    }

    -- it is made
    pub all_made : (p : Source) (bytes : List ℕ) (tables : Option (List ℕ)) → Accepts policy (looks_of found) document p → ((files : Store) → ShowAll files (looks_of found) → IsImageFor p (insert files policy document) bytes) → IfSome tables (IsTablesFor p)
        → IsBuilt policy held old new bytes tables
    all_made p bytes tables accepts is tables_are = record {
      looks = document_look policy document ∷ looks_of found;
      saw = saw_both;
      asked = λ image dma. asks_all image dma (looks_of found) asked;
      says = λ m s.
          let there = with_document m policy document s.0 in
          record {
            p = p;
            answer = λ image dma. by_document m policy image dma document (Ok p) s.0 (subst (λ k. accepted_policy_of k document ≡ Ok p) there (accepts m s.1));
            is = subst (λ k. IsImageFor p k bytes) there (is m s.1);
            tables_are = tables_are;
          };
    }

-- ---- what is wanted and made

pub some_mapped : {X Y : Type 0} (f : X → Y) (P : Y → Type 0) (o : Option X) → IfSome o (λ x. P (f x)) → IfSome (option_map f o) P
some_mapped f P None h = h
some_mapped f P (Some x) h = h

-- ---- the writes

module _ (policy image bytes : List ℕ) (dma tables : Option (List ℕ)) (held held' held'' : Option Store) (old mid new : History) (same : held' ≡ held) (made : IsBuilt policy held old mid bytes tables) (out : SinkState) where
  abbrev Comes : Outcome → Type 0
  Comes outcome = ComesOfCommand (Some (build policy image dma)) held held'' old new out out outcome

  abbrev answer : Store → Answer
  answer m = build_answer m policy image dma

  -- the looks and the writes
  wrote_so : (outcome : Outcome) (ws : List Write) → new ≡ written mid ws → HeldAfter ws held' held'' → OutcomeSays answer made.looks ws out out outcome → Comes outcome
  wrote_so outcome ws history left says = record {
    looks = made.looks;
    ws = ws;
    history = looked_written old mid new made.looks ws made.saw.history history;
    single = made.saw.single;
    told = made.saw.told;
    asked = made.asked image dma;
    left = subst (λ h. HeldAfter ws h held'') same left;
    says = says;
  }

  -- so the writes are such as the answer names
  abbrev Wrotes : Result (Unit {0}) FileError → List Write → Type 0
  Wrotes end ws = (p : Source) (m : Store) → IsImageFor p m bytes → IfSome tables (IsTablesFor p) → Wrote image dma p m end ws

  wrote_by : (end : Result (Unit {0}) FileError) (ws : List Write) → Wrotes end ws → (m : Store) (s : ShowAll m made.looks) → Wrote image dma (made.says m s).p m end ws
  wrote_by end ws wrote m s = wrote (made.says m s).p m (made.says m s).is (made.says m s).tables_are

  ended_well : (ws : List Write) → new ≡ written mid ws → HeldAfter ws held' held'' → Wrotes (Ok tt) ws → Comes Done
  ended_well ws history left wrote =
      wrote_so Done ws history left (λ m s. subst (λ a. IsDone a ws out out) (sym ((made.says m s).answer image dma)) (wrote_by (Ok tt) ws wrote m s, refl))

  ended_failed : (ws : List Write) → new ≡ written mid ws → HeldAfter ws held' held'' → Wrotes (Err FileFailed) ws → Comes (Stopped FileFault)
  ended_failed ws history left wrote =
      wrote_so (Stopped FileFault) ws history left
      (inr (λ m s. subst (Unwritten FileFailed ws) (sym ((made.says m s).answer image dma)) (wrote_by (Err FileFailed) ws wrote m s)), refl)

  ended_without_memory : (ws : List Write) → new ≡ written mid ws → HeldAfter ws held' held'' → Wrotes (Err FileMemory) ws → Comes (Stopped NoMemory)
  ended_without_memory ws history left wrote =
      wrote_so (Stopped NoMemory) ws history left
      (inr (λ m s. subst (Unwritten FileMemory ws) (sym ((made.says m s).answer image dma)) (wrote_by (Err FileMemory) ws wrote m s)), refl)

  -- the image alone
  image_alone_so : (end : Result (Unit {0}) FileError) → IsLast dma end → Wrotes end (write image bytes end ∷ [])
  image_alone_so end last p m is tables_are = image_last bytes is last refl

  one_left : (end : Result (Unit {0}) FileError) → WriteLeaves image bytes end held' held'' → HeldAfter (write image bytes end ∷ []) held' held''
  one_left end left = (held'', left, refl)

  failed_last : (dma : Option (List ℕ)) (e : FileError) → IsLast dma (Err e)
  failed_last None e = tt
  failed_last (Some name) e = tt

  image_failed : (outcome : Outcome) → IsFailed outcome → EndsWrite image bytes held' held'' mid new outcome → Comes outcome
  image_failed Done failed w = absurd failed
  image_failed (Stopped FileFault) failed w =
      ended_failed (write image bytes (Err FileFailed) ∷ []) w.history (one_left (Err FileFailed) w.left) (image_alone_so (Err FileFailed) (failed_last dma FileFailed))
  image_failed (Stopped NoMemory) failed w =
      ended_without_memory (write image bytes (Err FileMemory) ∷ []) w.history (one_left (Err FileMemory) w.left) (image_alone_so (Err FileMemory) (failed_last dma FileMemory))
  image_failed (Stopped Usage) failed w = absurd w
  image_failed (Stopped (Missing n)) failed w = absurd w
  image_failed (Stopped (TooLong n k)) failed w = absurd w
  image_failed (Stopped (Refused r)) failed w = absurd w
  image_failed (Stopped (ImageRefused f)) failed w = absurd w
  image_failed (Stopped (DmaRefused f)) failed w = absurd w
  image_failed (Stopped (RecordRefused f)) failed w = absurd w
  image_failed (Stopped (NotSound f)) failed w = absurd w
  image_failed OutputFault failed w = absurd w

  -- the tables after it
  module _ (held_between : Option Store) (after : History) (first : IsWriteOf image bytes (Ok tt) held' held_between mid after) where
    no_tables : (outcome : Outcome) → IsLast dma (Ok tt) → (outcome ≡ Done) × (new ≡ after) × (held'' ≡ held_between) → Comes outcome
    no_tables outcome last h =
        subst Comes (sym h.0)
        (ended_well (write image bytes (Ok tt) ∷ []) (h.1 ∙ first.history) (held_between, first.left, h.2) (image_alone_so (Ok tt) last))

    module _ (name file : List ℕ) (named : dma ≡ Some name) (there : tables ≡ Some file) where
      abbrev two : Result (Unit {0}) FileError → List Write
      two end = write image bytes (Ok tt) ∷ write name file end ∷ []

      two_history : (end : Result (Unit {0}) FileError) → new ≡ written after (write name file end ∷ []) → new ≡ written mid (two end)
      two_history end is =
          is ∙ ap (λ h. written h (write name file end ∷ [])) first.history
          ∙ ap (λ ws. record { looks = mid.looks; writes = ws }) (append_assoc mid.writes (write image bytes (Ok tt) ∷ []) (write name file end ∷ []))

      two_left : (end : Result (Unit {0}) FileError) → WriteLeaves name file end held_between held'' → HeldAfter (two end) held' held''
      two_left end left = (held_between, first.left, (held'', left, refl))

      two_so : (end : Result (Unit {0}) FileError) → Wrotes end (two end)
      two_so end p m is tables_are = tables_last bytes is name file named (subst (λ o. IfSome o (IsTablesFor p)) there tables_are) refl

      tables_written : (outcome : Outcome) → EndsWrite name file held_between held'' after new outcome → Comes outcome
      tables_written Done w = ended_well (two (Ok tt)) (two_history (Ok tt) w.history) (two_left (Ok tt) w.left) (two_so (Ok tt))
      tables_written (Stopped FileFault) w = ended_failed (two (Err FileFailed)) (two_history (Err FileFailed) w.history) (two_left (Err FileFailed) w.left) (two_so (Err FileFailed))
      tables_written (Stopped NoMemory) w = ended_without_memory (two (Err FileMemory)) (two_history (Err FileMemory) w.history) (two_left (Err FileMemory) w.left) (two_so (Err FileMemory))
      tables_written (Stopped Usage) w = absurd w
      tables_written (Stopped (Missing n)) w = absurd w
      tables_written (Stopped (TooLong n k)) w = absurd w
      tables_written (Stopped (Refused r)) w = absurd w
      tables_written (Stopped (ImageRefused f)) w = absurd w
      tables_written (Stopped (DmaRefused f)) w = absurd w
      tables_written (Stopped (RecordRefused f)) w = absurd w
      tables_written (Stopped (NotSound f)) w = absurd w
      tables_written OutputFault w = absurd w

    tables_so : (outcome : Outcome) (d t : Option (List ℕ)) → dma ≡ d → tables ≡ t → is_some t ≡ is_some d → EndsTables d t held_between held'' after new outcome → Comes outcome
    tables_so outcome None None named there wanted h = no_tables outcome (subst (λ d. IsLast d (Ok tt)) (sym named) tt) h
    tables_so outcome (Some name) (Some file) named there wanted h = tables_written name file named there outcome h
    tables_so outcome None (Some file) named there wanted h = absurd (cc)
    tables_so outcome (Some name) None named there wanted h = absurd (cc)

  pub all_written : is_some tables ≡ is_some dma → (outcome : Outcome) → EndsWrites image bytes dma tables held' held'' mid new outcome → Comes outcome
  all_written there outcome (image_well held_between after first h) = tables_so held_between after first outcome dma tables refl refl there h
  all_written there outcome (image_not_well failed w) = image_failed outcome failed w
