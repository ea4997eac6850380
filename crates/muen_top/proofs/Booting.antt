-- What `boot` answers, as its files are read.
use Rattle.std.proofs.Common.{◌≡◌, inl, inr, ℕ, List, [], ◌∷◌, ◌++◌, Option, Some, Result, Ok, Err, IfErr, IfOk, refl, sym, ap, subst, ◌∙◌, append-nil}
use Rattle.std.specs.FinMap.{get, insert}
use Rattle.image_pack.specs.Faults.{Tells}
use Rattle.image_pack.specs.fault.ImageFault.{ImageFault}
use Rattle.image_pack.specs.fault.ImageFault.TheVariants.{Short, Bad, Trailing, NoMemory as NoMemoryForImage}
use Rattle.dma_tables.specs.declared.file.DmaFile.{DmaFile}
use Rattle.image_load.specs.Resolving.{image_bench}
use Rattle.image_soundness.specs.Bench.{devices_of}
use Rattle.image_soundness.specs.Sound.{IsSound}
use Rattle.image_pack.specs.Parts.{IsImage}
use Rattle.image_pack.specs.declared.parts.Image.{Image}
use Rattle.muen_build.specs.Accepting.{Accepts, AreAskedFor, ErrorSays, FailsWith, Files, RefusesDocument, WithDocument, looks_of}
use Rattle.muen_build.specs.ImageFor.{IsImageFor}
use Rattle.muen_build.specs.Looks.{Looked, document_look}
use Rattle.muen_build.specs.Refusals.{accepted_policy_of}
use Rattle.muen_build.specs.declared.accepted.BuildError.{BuildError}
use Rattle.muen_build.specs.declared.accepted.BuildError.TheVariants.{Refused as RefusedPolicy, FileFault as FaultOfFiles}
use Rattle.muen_build.proofs.Documents.{with_document}
use Rattle.muen_num.specs.declared.limits.TheConstants.{POLICY_MOST, RECORD_MOST}
use Rattle.muen_outside.proofs.Explained.{explained}
use Rattle.muen_outside.specs.States.{History, Look}
use Rattle.muen_outside.specs.Store.{Store, Reading, whole, absent, long, reading_of}
use Rattle.policy_lawful.specs.refusal.Refusal.{Refusal}
use Rattle.policy_lawful.specs.source.Source.{Source}
use Rattle.record_text.specs.DeviceRecord.{DeviceRecord}
use Rattle.record_text.specs.Reading.{record_of}
use Rattle.record_text.specs.declared.fault.RecordFault.{RecordFault}
use Rattle.proof_domains.specs.Built.{HasSpans}
use Rattle.proof_runs.proofs.ImageRuns.{image_bench_is, image_runs}
use Rattle.proof_runs.specs.Fit.{Fit}
use Rattle.muen_top.specs.Answers.{Answer, prints, stops, refused as refused_for, of_file, input_answer, named_answer, policy_answer, trace_answer, boot_answer}
use Rattle.muen_top.specs.Asked.{Asks, AsksBoth}
use Rattle.muen_top.specs.Calls.{StopsFor}
use Rattle.muen_top.specs.Commands.{boot}
use Rattle.muen_top.specs.FilesSeen.{OverLooks, Saw}
use Rattle.muen_top.specs.Loads.{IsImageReadBack, IsReady, NotMade, refused, unmade, NotRead, policy_looks}
use Rattle.muen_top.specs.PolicyCommands.{StopsCommand}
use Rattle.muen_top.specs.Runs.{OnlyMemory}
use Rattle.muen_top.specs.CommandErrors.{error_of_build, error_of_image_fault}
use Rattle.muen_top.specs.declared.outcome.CommandError.{CommandError}
use Rattle.muen_top.specs.declared.outcome.CommandError.TheVariants.{Usage, Missing, TooLong, Refused, ImageRefused, DmaRefused, RecordRefused, NotSound, FileFault, NoMemory}
use Rattle.muen_top.proofs.FilesSeen.{policy_known, saw_contents}
use Rattle.muen_top.proofs.FirstFile.{AsksOn, RestsOn, fault_after, not_read, stops_refused}

-- ---- an image that is read again

pub read_so : (i j : Image) → Tells (Ok i) (Ok j) → i ≡ j
read_so i j h = cc (h)

pub unread_so : (i : Image) (fault : ImageFault) (error : CommandError) → Tells (Ok i) (Err fault) → error ≡ error_of_image_fault fault → OnlyMemory error
unread_so i NoMemoryForImage error h made = subst OnlyMemory (sym made) tt
unread_so i (Short at) error h made = absurd (cc (h))
unread_so i (Bad at field) error h made = absurd (cc (h))
unread_so i (Trailing at) error h made = absurd (cc (h))

module _ (policy document : List ℕ) (p : Source) (looks : List Look) (bytes : List ℕ) (built : WithDocument policy document looks (λ files. IsImageFor p files bytes)) where
  -- where it can't be read again, memory was refused
  pub not_back : (result : Result Image CommandError) → ((i : Image) → IsImage bytes i → IsImageReadBack i result) → IfErr result (λ error. WithDocument policy document looks (λ files. OnlyMemory error))
  not_back (Ok j) only = tt
  not_back (Err error) only = λ files s. let b = built files s in only b.parts b.image

  -- .. else its parts are such
  pub is_back : (result : Result Image CommandError) → ((i : Image) → IsImage bytes i → IsImageReadBack i result) → IfOk result (λ i. WithDocument policy document looks (λ files. IsSound p files i × HasSpans p i))
  is_back (Ok j) only = λ files s. let b = built files s in subst (λ i. IsSound p (insert files policy document) i × HasSpans p i) (only b.parts b.image) (b.sound, b.spans)
  is_back (Err error) only = tt

-- ---- the answer

boot_next : List ℕ → Store → List ℕ → Answer
boot_next name m bytes = policy_answer m name (accepted_policy_of m bytes)

rests : (policy name : List ℕ) → RestsOn POLICY_MOST policy (boot_next name) (boot policy name)
unfolding boot_answer boot_next
rests policy name m = refl

asks : (policy name : List ℕ) → AsksOn POLICY_MOST policy (AsksBoth policy name) (boot policy name)
asks policy name = record {
  asks = λ looks a. a;
  none = λ document. record { components = []; last = []; is = refl; contents = tt; inputs_last = inl refl };
}

by_document : (m : Store) (policy name bytes : List ℕ) (answer : Result Source Refusal) → reading_of (get m policy) POLICY_MOST ≡ whole bytes → accepted_policy_of m bytes ≡ answer → boot_answer m policy name ≡ policy_answer m name answer
unfolding boot_answer
by_document m policy name bytes answer is eq =
    ap (λ reading. of_file policy (λ bytes. policy_answer m name (accepted_policy_of m bytes)) reading) is ∙ ap (policy_answer m name) eq

-- ---- the policy's file

pub policy_not_read : (policy name : List ℕ) (held : Option Store) (old new : History) (error : CommandError) → NotRead policy POLICY_MOST held old new error → StopsCommand (boot policy name) held old new error
policy_not_read policy name held old new error h = not_read POLICY_MOST policy (boot_next name) (AsksBoth policy name) (boot policy name) (rests policy name) (asks policy name) held old new error h

-- ---- the policy

module _ (policy : List ℕ) (held held' : Option Store) (old between : History) (same : held' ≡ held) (document : List ℕ) (saw : Saw held old between (document_look policy document ∷ [])) where
  -- the looks at the document and at component files
  asks_all : (name : List ℕ) (looks : List Look) → AreAskedFor policy document looks → Asks (Some (boot policy name)) (document_look policy document ∷ looks)
  asks_all name looks asked = record {
    got = Ok (whole document);
    more = looks;
    is = refl;
    goes_on = record { components = looks; last = []; is = sym (append-nil looks); contents = asked; inputs_last = inl refl };
  }

  -- as this policy it is accepted, or refused
  shown_so : (looks : List Look) (answer : Result Source Refusal) → WithDocument policy document looks (λ m. accepted_policy_of m document ≡ answer) → OverLooks (document_look policy document ∷ looks) (λ m. accepted_policy_of m document ≡ answer)
  shown_so looks answer is m s = subst (λ k. accepted_policy_of k document ≡ answer) (with_document m policy document s.0) (is m s.1)

  module _ (name : List ℕ) where
    abbrev Stops : List Look → CommandError → Type 0
    Stops looks error = StopsFor (λ m. boot_answer m policy name) (document_look policy document ∷ looks) [] error

    refused_so : (looks : List Look) (r : Refusal) → WithDocument policy document looks (λ m. RefusesDocument document m r) → OverLooks (document_look policy document ∷ looks) (λ m. boot_answer m policy name ≡ stops (refused_for r))
    refused_so looks r refuses m s = by_document m policy name document (Err r) s.0 (shown_so looks (Err r) refuses m s)

    fails_so : (looks : List Look) (build_error : BuildError) (error : CommandError) → ErrorSays ((policy, document) ∷ []) (RefusesDocument document) looks build_error → error ≡ error_of_build build_error → Stops looks error
    fails_so looks (RefusedPolicy r) error (inl is) made = stops_refused (λ m. boot_answer m policy name) (document_look policy document ∷ looks) r error (inl is) made
    fails_so looks (RefusedPolicy r) error (inr h) made = stops_refused (λ m. boot_answer m policy name) (document_look policy document ∷ looks) r error (inr (refused_so looks r h)) made
    fails_so looks FaultOfFiles error h made = subst (Stops looks) (sym made) (inl (fault_after (document_look policy document) looks h, refl))

  policy_refused : (name : List ℕ) (new : History) (build_error : BuildError) (error : CommandError) → FailsWith policy document held' between new build_error → error ≡ error_of_build build_error → StopsCommand (boot policy name) held old new error
  policy_refused name new build_error error h made = record {
    looks = document_look policy document ∷ h.looks;
    saw = saw_contents policy document held held' old between new h.looks same saw h.looked;
    asked = asks_all name h.looks h.asked;
    says = fails_so name h.looks build_error error h.says made;
  }

  -- ---- an accepted policy

  module _ (mid : History) (found : Files) (looked : Looked policy held' between mid (looks_of found)) (asked : AreAskedFor policy document (looks_of found)) where
    abbrev both : List Look
    both = policy_looks policy document found

    saw_both : Saw held old mid both
    saw_both = saw_contents policy document held held' old between mid (looks_of found) same saw looked

    -- its image is written and read again, unless memory was refused
    only_memory : (name : List ℕ) (error : CommandError) → OnlyMemory error → Stops name (looks_of found) error
    only_memory name NoMemory h = inl refl
    only_memory name Usage h = absurd h
    only_memory name (Missing n) h = absurd h
    only_memory name (TooLong n k) h = absurd h
    only_memory name (Refused r) h = absurd h
    only_memory name (ImageRefused f) h = absurd h
    only_memory name (DmaRefused f) h = absurd h
    only_memory name (RecordRefused r) h = absurd h
    only_memory name (NotSound f) h = absurd h
    only_memory name FileFault h = absurd h

    parts_refused : (name : List ℕ) (error : CommandError) → WithDocument policy document (looks_of found) (λ files. OnlyMemory error) → StopsCommand (boot policy name) held old mid error
    parts_refused name error h =
        let there = explained (looks_of found) looked.single in
        record { looks = both; saw = saw_both; asked = asks_all name (looks_of found) asked; says = only_memory name error (h there.0 there.1) }

    module _ (p : Source) (accepts : Accepts policy (looks_of found) document p) (i : Image) (tables : DmaFile) (back : WithDocument policy document (looks_of found) (λ files. IsSound p files i × Fit p i (Some tables))) where
      accepted : OverLooks both (λ m. accepted_policy_of m document ≡ Ok p)
      accepted = shown_so (looks_of found) (Ok p) accepts

      back_so_far : OverLooks both (λ m. IsSound p m i × Fit p i (Some tables))
      back_so_far m s = let b = back m s.1 in (subst (λ k. IsSound p k i) (with_document m policy document s.0) b.0, b.1)

      -- the policy's system and its image, with these tables, answer the same of a record
      module _ (m : Store) (sound : IsSound p m i) (fit : Fit p i (Some tables)) where
        same_record : (text : List ℕ) (r : Result DeviceRecord RecordFault) → record_of text (devices_of p) ≡ r → trace_answer m p (record_of text (devices_of p)) ≡ named_answer (Some tables) i (record_of text (devices_of p))
        same_record text (Ok r) e =
            ap (trace_answer m p) e
            ∙ (ap prints (sym (image_runs p m i (Some tables) text r sound fit e))
            ∙ ap (named_answer (Some tables) i) (sym e))
        same_record text (Err fault) e = ap (trace_answer m p) e ∙ ap (named_answer (Some tables) i) (sym e)

        same_reading : (name : List ℕ) (reading : Reading) → of_file name (λ text. trace_answer m p (record_of text (devices_of p))) reading ≡ of_file name (λ text. named_answer (Some tables) i (record_of text (image_bench i))) reading
        same_reading name (whole text) =
            same_record text (record_of text (devices_of p)) refl
            ∙ ap (λ b. named_answer (Some tables) i (record_of text b)) (sym (image_bench_is p m i sound))
        same_reading name absent = refl
        same_reading name (long n) = refl

      answers_so : (name : List ℕ) → OverLooks both (λ m. boot_answer m policy name ≡ input_answer m name i (Some tables))
      answers_so name m s =
          let b = back_so_far m s in
          by_document m policy name document (Ok p) s.0 (accepted m s) ∙ same_reading m b.0 b.1 name (reading_of (get m name) RECORD_MOST)

      -- all but the record is read
      pub boot_ready : IsReady (boot policy) held old mid ((policy, document) ∷ found) i (Some tables)
      boot_ready = record {
        looks = both;
        saw = saw_both;
        known = policy_known policy document found;
        asked = λ name more one. record {
          got = Ok (whole document);
          more = looks_of found ++ more;
          is = refl;
          goes_on = record { components = looks_of found; last = more; is = refl; contents = asked; inputs_last = inr (p, accepted, one) };
        };
        answers = answers_so;
      }

  -- ---- the document gives no image

  pub not_made : (mid : History) (error : CommandError) → NotMade policy document held' between mid error → (name : List ℕ) → StopsCommand (boot policy name) held old mid error
  not_made mid error (refused build_error ends made) name = policy_refused name mid build_error error ends made
  not_made mid error (unmade found looked asked only) name = parts_refused mid found looked asked name error only
