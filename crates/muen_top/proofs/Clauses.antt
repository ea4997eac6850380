-- The clauses of a whole call, from what came of its command.
use Rattle.std.proofs.Common.{◌≡◌, inl, inr, ◌⊎◌, ◌≢◌, ℕ, ◌+◌, List, [], ◌∷◌, ◌++◌, length, drop, Option, Some, None, IfSome, Ok, Err, refl, sym, ap, subst, ◌∙◌, arith}
use Rattle.std.specs.List.{All}
use Rattle.std.proofs.Math.Seq.{drop-append_seam}
use Rattle.std.proofs.lemmas.List.Elements.{All-head, All-pop}
use Rattle.image_pack.specs.declared.parts.Image.{Image}
use Rattle.image_verify.specs.FaultText.{fault_text}
use Rattle.image_verify.specs.declared.fault.Fault.{Fault}
use Rattle.muen_outside.proofs.Explained.{explained}
use Rattle.muen_outside.specs.Looks.{AreSingle, EndsInFault, HeldAfter, ShowAll, looks_since, writes_since}
use Rattle.muen_outside.specs.Puts.{Appended, Failed}
use Rattle.muen_outside.specs.States.{History, Look, SinkState, Write, look, went, write}
use Rattle.muen_outside.specs.Store.{Store}
use Rattle.muen_outside.specs.declared.files.FileError.TheVariants.{Failed as FileFailed}
use Rattle.policy_lawful.specs.source.Source.{Source}
use Rattle.muen_top.specs.Answers.{Reason, Answer, prints, writes, judges, stops, answer_of}
use Rattle.muen_top.specs.Asked.{Asks}
use Rattle.muen_top.specs.Calls.{IsDone, Prints, Unwritten, OutcomeSays, FaultOfFiles, IsCallOf, IsFault, Answered, answer_to, DoesAnswer, PrintsFront, EndsAnswered, FilesFailed, MemoryRefused}
use Rattle.muen_top.specs.Commands.{build, load, command_of}
use Rattle.muen_top.specs.Complete.{IsComplete, IsWhole, NothingFails}
use Rattle.muen_top.specs.Headline.{BuildWritesImage, PrintsText, VerifyAcceptsBuilt, VerifyTellsFault, VerifyTellsSound}
use Rattle.muen_top.specs.Images.{Wrote, image_last, tables_last}
use Rattle.muen_top.specs.LoadLaws.{IsLoadStatus, LoadEnds}
use Rattle.muen_top.specs.LoadText.{load_text}
use Rattle.muen_top.specs.Reports.{error_line, reason_text, sound_text, Told, Ends}
use Rattle.muen_top.specs.Verdicts.{Finds}
use Rattle.muen_top.specs.declared.status.Status.{Status}
use Rattle.muen_top.specs.declared.status.Status.TheVariants as statuses
use Rattle.muen_top.proofs.Came.{Comes, HasStopped, Refuses, Tells, done, cut_off, stopped, condemned, failed, no_memory, of_outcome, tells, refuses, unless_fault}
use Rattle.muen_top.proofs.NoUsage.{no_usage}
use Rattle.muen_top.proofs.Verified.{built_judged, no_fault, tells_fault, tells_sound}
use Rattle.muen_top.proofs.Written.{build_writes, differ}

-- ---- of answers

-- a text is no reason
prints_not_stops : (text : List ℕ) (reason : Reason) → prints text ≡ stops reason → ⊥
prints_not_stops text reason e = cc

-- a verdict is none
judges_not_stops : (p : Source) (files : Store) (bytes : List ℕ) (i : Image) (reason : Reason) → judges p files bytes i ≡ stops reason → ⊥
judges_not_stops p files bytes i reason e = cc

-- ---- the looks and the writes of a call

-- the looks behind those that were before
looks_are : (old new : History) (looks : List Look) (ws : List Write) → new ≡ went old looks ws → looks ≡ looks_since old new
looks_are old new looks ws is = sym (ap (λ h. drop (length old.looks) h.looks) is ∙ drop-append_seam old.looks looks)

-- .. and the writes
writes_are : (old new : History) (looks : List Look) (ws : List Write) → new ≡ went old looks ws → ws ≡ writes_since old new
writes_are old new looks ws is = sym (ap (λ h. drop (length old.writes) h.writes) is ∙ drop-append_seam old.writes ws)

-- ---- none has failed

-- no fault more is one more
one_more : (n : ℕ) → n + 1 ≡ n → ⊥
one_more n h = omega (arith, h)

-- no look is the last, which fails
looks_well : (ls : List Look) → All (λ l. l.got ≢ Err FileFailed) ls → EndsInFault ls → ⊥
looks_well ls well ends = (All-pop (λ l. l.got ≢ Err FileFailed) ls ends.front (Some (look ends.name ends.most (Err FileFailed))) ends.is well).1 refl

-- .. and no write
last_well : (ws : List Write) (image : List ℕ) (tables : Option (List ℕ)) (p : Source) (files : Store) → All (λ w. w.end ≢ Err FileFailed) ws
    → Wrote image tables p files (Err FileFailed) ws → ⊥
last_well ws image tables p files well (image_last bytes of last is) =
    All-head (λ w. w.end ≢ Err FileFailed) (write image bytes (Err FileFailed)) [] (subst (All (λ w. w.end ≢ Err FileFailed)) is well) refl
last_well ws image tables p files well (tables_last bytes of name file named tables_of is) =
    (All-pop (λ w. w.end ≢ Err FileFailed) ws (write image bytes (Ok tt) ∷ []) (Some (write name file (Err FileFailed))) is well).1 refl

-- no look is the last of none
pub none_ends : (front : List Look) (l : Look) → [] ≡ front ++ l ∷ [] → ⊥
none_ends [] l e = cc (e)
none_ends (x ∷ xs) l e = cc (e)

-- ---- a whole call

module _ {words : List (List ℕ)} {held held' : Option Store} {old new : History} {out out' err err' : SinkState} {status : Status}
    (ran : IsCallOf words held held' old new out out' err err' status) where
  abbrev looks : List Look
  looks = looks_since old new

  abbrev ws : List Write
  ws = writes_since old new

  -- the looks that its command made are those of the call
  looks_is : ran.came.looks ≡ looks
  looks_is = looks_are old new ran.came.looks ran.came.ws ran.came.history

  -- .. and the writes
  writes_is : ran.came.ws ≡ ws
  writes_is = writes_are old new ran.came.looks ran.came.ws ran.came.history

  -- the call made its looks and then its writes
  pub history_clause : new ≡ went old looks ws
  history_clause = ran.came.history ∙ ap (λ ls. went old ls ran.came.ws) looks_is ∙ ap (went old looks) writes_is

  -- each at a name of its own
  pub once_clause : AreSingle looks
  once_clause = subst AreSingle looks_is ran.came.single

  -- files that tell show the looks
  pub agrees_clause : IfSome held (λ m. ShowAll m looks)
  agrees_clause = subst (λ ls. IfSome held (λ m. ShowAll m ls)) looks_is ran.came.told

  -- the looks are those that the command asks for
  pub asked_clause : Asks (command_of words) looks
  asked_clause = subst (Asks (command_of words)) looks_is ran.came.asked

  -- files that tell hold what was written
  pub held_clause : HeldAfter ws held held'
  held_clause = subst (λ w. HeldAfter w held held') writes_is ran.came.left

  -- what the outcome says of the call's looks and writes
  says : OutcomeSays (answer_to words) looks ws out out' ran.outcome
  says =
      subst (λ w. OutcomeSays (answer_to words) looks w out out' ran.outcome) writes_is
      (subst (λ ls. OutcomeSays (answer_to words) ls ran.came.ws out out' ran.outcome) looks_is ran.came.says)

  -- what came of the call's command
  came : Comes (answer_to words) looks ws out out' err err' status
  came = of_outcome (answer_to words) looks ws out out' err err' status ran.outcome ran.status_is says ran.report

  -- .. as its status tells
  came_by : (s : Status) → status ≡ s → Tells (answer_to words) looks ws out out' err err' s
  came_by s is = subst (Tells (answer_to words) looks ws out out' err err') is (tells (answer_to words) looks ws out out' err err' status came)

  -- what the status of a refusal tells
  refused_by : (s : Status) → HasStopped (answer_to words) looks ws out out' err err' s → Answered words looks (Refuses err err' s)
  refused_by = refuses (answer_to words) looks ws out out' err err'

  -- a store that agrees with the looks
  there : (m : Store) × ShowAll m looks
  there = explained looks once_clause

  -- ---- by the status

  -- 0: what the words are answered is done
  pub done_clause : status ≡ statuses.Done → DoesAnswer words old new out out'
  done_clause zero = (came_by statuses.Done zero).0

  -- .. and no line is told
  pub quiet_err_clause : status ≡ statuses.Done → err' ≡ err
  quiet_err_clause zero = (came_by statuses.Done zero).1

  -- 1: the words have no command's form
  pub usage_clause : status ≡ statuses.Usage → command_of words ≡ None
  usage_clause one =
      no_usage there.0 (command_of words) (refused_by statuses.Usage (came_by statuses.Usage one) there.0 there.1)

  -- 4: a look or a write has failed
  pub fault_clause : status ≡ statuses.FileFault → FilesFailed words old new
  fault_clause four = came_by statuses.FileFault four

  -- 7: a front of the text is put
  pub prefix_clause : status ≡ statuses.OutputFault → PrintsFront words looks out out'
  prefix_clause seven = came_by statuses.OutputFault seven

  -- 8: memory was refused
  pub memory_clause : status ≡ statuses.NoMemory → MemoryRefused words old new
  memory_clause eight = came_by statuses.NoMemory eight

  -- ---- by what came

  -- nothing is written but where the answer is given, or a write fails
  pub unwritten_clause : status ≢ statuses.Done → status ≢ statuses.FileFault → status ≢ statuses.NoMemory → ws ≡ []
  unwritten_clause zero four eight =
      elim came [
        | done is did quiet ↦ absurd (zero is)
        | cut_off is put none ↦ none
        | stopped stop ↦ stop.unwritten
        | condemned is found ↦ found.unwritten
        | failed is fault quiet ↦ absurd (four is)
        | no_memory is want quiet ↦ absurd (eight is)
      ]

  -- nothing is put but where the answer is given, or the output fails
  pub quiet_out_clause : status ≢ statuses.Done → status ≢ statuses.OutputFault → out' ≡ out
  quiet_out_clause zero seven =
      elim came [
        | done is did quiet ↦ absurd (zero is)
        | cut_off is put none ↦ absurd (seven is)
        | stopped stop ↦ stop.quiet
        | condemned is found ↦ found.quiet
        | failed is fault quiet ↦ quiet
        | no_memory is want quiet ↦ quiet
      ]

  -- an answer that is given has its status, and tells nothing
  ends_done : (answer : Answer) → IsDone answer ws out out' → status ≡ statuses.Done → err' ≡ err → Ends answer err err' status
  ends_done (prints text) did is quiet = (is, quiet)
  ends_done (writes image tables p files) did is quiet = (is, quiet)
  ends_done (judges p files bytes i) did is quiet = inl (did.1, is, quiet)
  ends_done (stops reason) did is quiet = absurd did

  -- a fault that is found has its status, and is told
  ends_found : (answer : Answer) (fault : Fault) → Finds answer (Some fault) → status ≡ statuses.NotSound → Told (fault_text fault) err err' → Ends answer err err' status
  ends_found (judges p files bytes i) fault finds is told = inr (fault, finds, is, told)
  ends_found (prints text) fault finds is told = absurd finds
  ends_found (writes image tables p files) fault finds is told = absurd finds
  ends_found (stops reason) fault finds is told = absurd finds

  -- the call ends as its words are answered
  pub ends_clause : IsFault status ⊎ EndsAnswered words looks err err' status
  ends_clause =
      unless_fault (answer_to words) looks ws out out' err err' (EndsAnswered words looks err err' status) status came
      (λ is did quiet m s. ends_done (answer_to words m) (did m s) is quiet)
      (λ stop m s. subst (λ a. Ends a err err' status) (sym (stop.answers m s)) (stop.status_is, stop.told))
      (λ is found m s. ends_found (answer_to words m) found.fault (found.finds m s) is found.told)

  -- ---- where nothing fails

  -- an answer that is given is given whole
  whole_done : (answer : Answer) → IsDone answer ws out out' → status ≡ statuses.Done → err' ≡ err → IsWhole answer ws out out' err err' status
  whole_done (prints text) did is quiet = (is, did.0, did.1, quiet)
  whole_done (writes image tables p files) did is quiet = (is, did.0, did.1, quiet)
  whole_done (judges p files bytes i) did is quiet = inl (did.1, is, did.0, did.2, quiet)
  whole_done (stops reason) did is quiet = absurd did

  -- a fault that is found is told whole
  whole_found : (answer : Answer) (fault : Fault) → Finds answer (Some fault) → status ≡ statuses.NotSound → ws ≡ [] → out' ≡ out
      → Appended (error_line (fault_text fault)) err err' → IsWhole answer ws out out' err err' status
  whole_found (judges p files bytes i) fault finds is none quiet told = inr (fault, finds, is, none, quiet, told)
  whole_found (prints text) fault finds is none quiet told = absurd finds
  whole_found (writes image tables p files) fault finds is none quiet told = absurd finds
  whole_found (stops reason) fault finds is none quiet told = absurd finds

  module _ (well : NothingFails old new out out' err err') where
    -- a line is told whole
    told_whole : (text : List ℕ) → Told text err err' → Appended (error_line text) err err'
    told_whole text (inl told) = told
    told_whole text (inr cut) = absurd (one_more err.faults (sym (ap (λ s. s.faults) cut.state) ∙ well.lines))

    -- no text is cut off
    no_cut : (answer : Answer) → Prints answer (λ text. Failed text out out') → ⊥
    no_cut (prints text) cut = one_more out.faults (sym (ap (λ s. s.faults) cut.state) ∙ well.puts)
    no_cut (judges p files bytes i) cut = one_more out.faults (sym (ap (λ s. s.faults) cut.1.state) ∙ well.puts)
    no_cut (writes image tables p files) cut = cut
    no_cut (stops reason) cut = cut

    -- no write fails
    no_failed_write : (answer : Answer) → Unwritten FileFailed ws answer → ⊥
    no_failed_write (writes image tables p files) wrote = last_well ws image tables p files well.writes wrote
    no_failed_write (prints text) wrote = wrote
    no_failed_write (judges p files bytes i) wrote = wrote
    no_failed_write (stops reason) wrote = wrote

    -- no call on files does
    no_fault_of_files : FaultOfFiles (answer_to words) looks ws → ⊥
    no_fault_of_files (inl ends) = looks_well looks well.looks ends.0
    no_fault_of_files (inr unwritten) = no_failed_write (answer_to words there.0) (unwritten there.0 there.1)

  -- where nothing fails and memory suffices, the whole of the answer is given
  pub complete_clause : IsComplete words old new out out' err err' status
  complete_clause well =
      elim came [
        | done is did quiet ↦ inr (λ m s. whole_done (answer_to words m) (did m s) is quiet)
        | cut_off is put none ↦ absurd (no_cut well (answer_to words there.0) (put there.0 there.1))
        | stopped stop ↦ inr (λ m s.
            subst (λ a. IsWhole a ws out out' err err' status) (sym (stop.answers m s))
            (stop.status_is, stop.unwritten, stop.quiet, told_whole well (reason_text stop.reason) stop.told))
        | condemned is found ↦ inr (λ m s.
            whole_found (answer_to words m) found.fault (found.finds m s) is found.unwritten found.quiet (told_whole well (fault_text found.fault) found.told))
        | failed is fault quiet ↦ absurd (no_fault_of_files well fault)
        | no_memory is want quiet ↦ inl is
      ]

  -- ---- where an image is written

  -- `build` writes what it is to
  pub built_clause : BuildWritesImage words looks ws status
  built_clause m policy image dma s asked zero =
      build_writes policy image dma m ws out out' (λ name is. differ words policy image name (asked ∙ ap (λ d. Some (build policy image d)) is))
      (subst (λ command. IsDone (answer_of m command) ws out out') asked (done_clause zero m s))

  -- ---- where the answer is a text

  -- a text that is answered is put
  pub prints_clause : (m : Store) (text : List ℕ) → ShowAll m looks → answer_to words m ≡ prints text → PrintsText text out out' status
  prints_clause m text s eq =
      unless_fault (answer_to words) looks ws out out' err err' ((status ≡ statuses.Done) × Appended text out out') status came
      (λ is did quiet. (is, (subst (λ a. IsDone a ws out out') eq (did m s)).1))
      (λ stop. absurd (prints_not_stops text stop.reason (sym eq ∙ stop.answers m s)))
      (λ is found. absurd (subst (λ a. Finds a (Some found.fault)) eq (found.finds m s)))

  -- `load` looks at no file
  no_fault_of_load : (number : ℕ) → command_of words ≡ Some (load number) → FaultOfFiles (answer_to words) looks ws → ⊥
  no_fault_of_load number asked (inl ends) =
      let none : looks ≡ [] = subst (λ c. Asks c looks) asked asked_clause in
      none_ends ends.0.front (look ends.0.name ends.0.most (Err FileFailed)) (sym none ∙ ends.0.is)
  no_fault_of_load number asked (inr unwritten) = subst (Unwritten FileFailed ws) (ap (answer_of there.0) asked) (unwritten there.0 there.1)

  -- and puts a text
  pub loads_clause : LoadEnds words status
  loads_clause number asked =
      let answers : answer_to words there.0 ≡ prints (load_text number) = ap (answer_of there.0) asked in
      elim came [
        | done is did quiet ↦ subst IsLoadStatus (sym is) tt
        | cut_off is put none ↦ subst IsLoadStatus (sym is) tt
        | stopped stop ↦ absurd (prints_not_stops (load_text number) stop.reason (sym answers ∙ stop.answers there.0 there.1))
        | condemned is found ↦ absurd (subst (λ a. Finds a (Some found.fault)) answers (found.finds there.0 there.1))
        | failed is fault quiet ↦ absurd (no_fault_of_load number asked fault)
        | no_memory is want quiet ↦ subst IsLoadStatus (sym is) tt
      ]

  -- ---- where a verdict is asked for

  -- `verify` tells that an image is sound
  pub sound_clause : VerifyTellsSound words looks status
  sound_clause m image policy s asked zero = tells_sound m image policy ws out out' (subst (λ command. IsDone (answer_of m command) ws out out') asked (done_clause zero m s))

  -- .. or its fault
  pub unsound_clause : VerifyTellsFault words looks err err' status
  unsound_clause m image policy s asked nine =
      let found = came_by statuses.NotSound nine in
      let finds = subst (λ command. Finds (answer_of m command) (Some found.fault)) asked (found.finds m s) in
      (found.fault, tells_fault m image policy found.fault finds, found.told)

  -- an image that `build` has written is told to be sound
  pub accepts_clause : VerifyAcceptsBuilt words looks out out' status
  accepts_clause m image policy p s asked accepted built =
      let judged = ap (answer_of m) asked ∙ built_judged m image policy p accepted built in
      unless_fault (answer_to words) looks ws out out' err err' ((status ≡ statuses.Done) × Appended sound_text out out') status came
      (λ is did quiet. (is, (subst (λ a. IsDone a ws out out') judged (did m s)).2))
      (λ stop. absurd (judges_not_stops p m built.bytes built.built.parts stop.reason (sym judged ∙ stop.answers m s)))
      (λ is found. absurd (no_fault m image policy p accepted built found.fault (subst (λ command. Finds (answer_of m command) (Some found.fault)) asked (found.finds m s))))
