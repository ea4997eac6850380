-- The image of the system that is generated of a number, and what its run prints.
use Rattle.std.proofs.Common.{◌≡◌, ℕ, ◌+◌, ◌*◌, ◌<◌, ◌%◌, Bool, true, false, List, [], ◌∷◌, ◌++◌, map, length, Option, Some, Result, Ok, Err, refl, sym, ap, subst, ◌∙◌, inl, inr, zero, suc, true≢false, arith}
use Rattle.std.specs.Prelude.{◌&&◌, codes, decimal}
use Rattle.std.specs.List.{find, list_all}
use Rattle.std.specs.Option.{option_map_or}
use Rattle.std.proofs.lemmas.Bool.{cases_Bool}
use Rattle.std.proofs.lemmas.List.{length-map}
use Rattle.hex.specs.Hex.{encode_lower}
use Rattle.sha2.specs.Sha256.{sha256}
use Rattle.generated_system.specs.Record.{generated_record}
use Rattle.generated_system.specs.System.{generated_system, subject, system_with}
use Rattle.image_load.specs.Resolving.{image_bench, image_record}
use Rattle.image_soundness.specs.Bench.{devices_of}
use Rattle.muen_build.specs.Accepting.{AreAskedFor, FailsWith, Files, IsAsked, IsNext, insert_all, looks_of}
use Rattle.muen_build.specs.Document.{policy_of}
use Rattle.muen_build.specs.Looks.{is_of_file}
use Rattle.muen_build.specs.Refusals.{accepted_policy_of, lawful_policy_of}
use Rattle.muen_build.specs.declared.accepted.BuildError.{BuildError}
use Rattle.muen_build.specs.declared.accepted.BuildError.TheVariants.{Refused, FileFault as FaultOfFiles}
use Rattle.muen_build.proofs.Refusing.{accepted_so}
use Rattle.muen_num.specs.Answers.{Answers}
use Rattle.muen_num.proofs.NumbersBelow.{length_numbers}
use Rattle.muen_num.proofs.Lists.{map_same, passes_at}
use Rattle.muen_num.specs.Range.{numbers_below}
use Rattle.muen_outside.proofs.Explained.{explained}
use Rattle.muen_outside.specs.States.{History, Look, look}
use Rattle.muen_outside.specs.Store.{Store}
use Rattle.muen_outside.specs.declared.files.FileError.TheVariants.{Failed}
use Rattle.muen_run.specs.RunText.{run_text}
use Rattle.policy_lawful.specs.Contents.{Held, content_bytes, initial_bytes, no_files}
use Rattle.policy_lawful.specs.Thing.{Item, Thing, device_items, item_of, items_of, placed_items, same_thing, state, things_of}
use Rattle.policy_lawful.specs.source.Content.{Content}
use Rattle.policy_lawful.specs.source.Content.TheVariants.{Zero, Fill, Inline, File}
use Rattle.policy_lawful.specs.source.Source.{Source}
use Rattle.policy_lawful.proofs.NoFiles.{in_no_file, same_content}
use Rattle.proof_runs.proofs.ImageRuns.{image_bench_is, image_runs}
use Rattle.record_text.specs.DeviceRecord.{DeviceRecord}
use Rattle.record_text.specs.Reading.{record_of}
use Rattle.record_text.specs.Steps.{mapped}
use Rattle.record_text.specs.declared.fault.RecordFault.{RecordFault}
use Rattle.record_text.specs.declared.fault.RecordFault.TheVariants.{NoMemory as NoMemoryForRecord}
use Rattle.record_text.specs.declared.record.Input.{Input}
use Rattle.record_text.specs.declared.record.Record.{Record}
use Rattle.subject_model.specs.Clock.{run_of}
use Rattle.subject_model.specs.System.{first_page, start_of}
use Rattle.subject_model.specs.Trace.{trace_of}
use Rattle.muen_top.specs.CommandErrors.{error_of_build, error_of_record_fault}
use Rattle.muen_top.specs.LoadText.{summary}
use Rattle.muen_top.specs.Loads.{HasMade, IsMadeOf, NotMade, refused, unmade}
use Rattle.muen_top.specs.Runs.{OnlyMemory}
use Rattle.muen_top.specs.declared.boot.Made.{Made}
use Rattle.muen_top.specs.declared.outcome.CommandError.{CommandError}
use Rattle.muen_top.proofs.Clauses.{none_ends}
use Rattle.muen_top.proofs.GeneratedAccepted.{document_accepted}

-- ---- a policy whose contents name no file

not_of_file : (name : List ℕ) (c : Content) → in_no_file c ≡ true → is_of_file name c ≡ true → ⊥
not_of_file name Zero none h = true≢false (sym h)
not_of_file name (Fill b) none h = true≢false (sym h)
not_of_file name (Inline bytes) none h = true≢false (sym h)
not_of_file name (File file offset most) none h = true≢false (sym none)

abbrev names_no_file : List Item → Bool
names_no_file items = list_all (λ i. in_no_file i.content) items

both_left : (a b : Bool) → (a && b) ≡ true → a ≡ true
both_left true b h = refl
both_left false b h = absurd (true≢false (sym h))

both_right : (a b : Bool) → (a && b) ≡ true → b ≡ true
both_right true b h = h
both_right false b h = absurd (true≢false (sym h))

abbrev bytes_among : Held → List Item → Thing → List ℕ
bytes_among f items x = option_map_or (λ i. content_bytes f i.size i.content) (find (λ i. same_thing i.thing x) items) []

same_among : (f g : Held) (x : Thing) (items : List Item) → names_no_file items ≡ true → bytes_among f items x ≡ bytes_among g items x
same_among f g x [] h = refl
same_among f g x (i ∷ items) h =
    elim (cases_Bool (same_thing i.thing x)) [
      | inl t ↦ rw t (same_content f g i.size i.content (both_left (in_no_file i.content) (names_no_file items) h))
      | inr n ↦ rw n (same_among f g x items (both_right (in_no_file i.content) (names_no_file items) h))
    ]

module _ (p : Source) (f g : Held) (none : names_no_file (items_of p) ≡ true) where
  same_bytes : (x : Thing) → initial_bytes p f x ≡ initial_bytes p g x
  unfolding initial_bytes item_of
  same_bytes x = same_among f g x (items_of p) none

  same_start : start_of p f ≡ start_of p g
  unfolding start_of
  same_start =
      ap (λ things. record (start_of p f) { things = things ++ map (λ s. (state s.name, first_page s)) p.subjects })
      (map_same (λ x. (x, initial_bytes p f x)) (λ x. (x, initial_bytes p g x)) (λ x. ap (λ b. (x, b)) (same_bytes x)) (things_of p))

  same_text : (r : DeviceRecord) → trace_of p f r ≡ trace_of p g r
  unfolding trace_of run_of
  same_text r = rw same_start refl

-- ---- the generated system is such

none_with : (m first : ℕ) (code : ℕ → List ℕ) → m < 4 → names_no_file (items_of (system_with (1 + m) first code)) ≡ true
unfolding items_of placed_items device_items
none_with zero first code h = refl
none_with (suc zero) first code h = refl
none_with (suc (suc zero)) first code h = refl
none_with (suc (suc (suc zero))) first code h = refl
none_with (suc (suc (suc (suc m)))) first code h = absurd (omega arith)

none_named : (n : ℕ) → names_no_file (items_of (generated_system n)) ≡ true
unfolding generated_system
none_named n = none_with (n % 4) _ _ (omega arith)

-- ---- its subjects

pub many_subjects : (n : ℕ) → 2 * (1 + n % 4) ≡ length (generated_system n).subjects
unfolding generated_system
many_subjects n = sym (length-map (numbers_below (2 * (1 + n % 4))) (subject (1 + n % 4)) ∙ length_numbers (2 * (1 + n % 4)))

-- ---- what is printed of it

pub ticks_are : (n : ℕ) → 20000 ≡ (generated_record n).end
unfolding generated_record
ticks_are n = refl

pub summary_is : (n : ℕ) (text subjects ticks size digest : List ℕ) → subjects ≡ decimal (length (generated_system n).subjects) → ticks ≡ decimal (generated_record n).end → size ≡ decimal (length text) → digest ≡ encode_lower (sha256 text)
    → codes "subjects " ++ (subjects ++ (codes "\nticks " ++ (ticks ++ (codes "\ntrace " ++ (size ++ (codes "\nsha256 " ++ (digest ++ codes "\n"))))))) ≡ summary (length (generated_system n).subjects) (generated_record n).end text
summary_is n text subjects ticks size digest many end sized sum = rw (many, end, sized, sum) refl

-- ---- the image

module _ (n : ℕ) (document : List ℕ) (is : policy_of document ≡ Ok (generated_system n)) where
  abbrev p : Source
  p = generated_system n

  accepted : (files : Held) → accepted_policy_of files document ≡ Ok p
  accepted files = document_accepted files n document is

  -- no content names a file, so no look at one is asked for
  not_next : (given : Files) (before : List Look) (l : Look) → IsNext given p before l → ⊥
  not_next given before l next = not_of_file l.name next.item.content (passes_at (λ i. in_no_file i.content) (items_of p) next.number next.item (none_named n) next.there) next.file

  not_asked : (given : Files) (before : List Look) (l : Look) → IsAsked given document before l → ⊥
  not_asked given before l asked = not_next given before l (subst (λ q. IsNext given q before l) (same_policy asked.policy asked.lawful) asked.next)
    where
      same_policy : (q : Source) → lawful_policy_of document ≡ Ok q → q ≡ p
      same_policy q lawful = cc (sym lawful ∙ (accepted_so no_files document p (accepted no_files)).lawful)

  no_looks : (name : List ℕ) (looks : List Look) → AreAskedFor name document looks → looks ≡ []
  no_looks name [] asked = refl
  no_looks name (l ∷ ls) asked = absurd (not_asked ((name, document) ∷ []) [] l asked.0)

  -- so memory alone can be wanting
  fails_so : (name : List ℕ) (held : Option Store) (old new : History) (build_error : BuildError) → FailsWith name document held old new build_error → OnlyMemory (error_of_build build_error)
  fails_so name held old new (Refused r) fails =
      elim fails.says [
        | inl memory ↦ subst (λ r. OnlyMemory (error_of_build (Refused r))) (sym memory) tt
        | inr refuses ↦ let m = explained fails.looks fails.looked.single in absurd (cc (sym (accepted (insert_all m.0 ((name, document) ∷ []))) ∙ refuses m.0 m.1))
      ]
  fails_so name held old new FaultOfFiles fails = absurd (none_ends fails.says.front (look fails.says.name fails.says.most (Err Failed)) (sym (no_looks name fails.looks fails.asked) ∙ fails.says.is))

  pub unmade_so : (name : List ℕ) (held : Option Store) (old new : History) (error : CommandError) → NotMade name document held old new error → OnlyMemory error
  unmade_so name held old new error (refused build_error fails made) = subst OnlyMemory (sym made) (fails_so name held old new build_error fails)
  unmade_so name held old new error (unmade found looked asked only) = let m = explained (looks_of found) looked.single in only m.0 m.1

  -- .. and else its image is made, and its tables
  pub made_so : (name : List ℕ) (held : Option Store) (old new : History) (m : Made) → HasMade name document held old new m → IsMadeOf p m
  made_so name held old new m made =
      let files = explained (looks_of m.files) made.looked.single in
      let store = insert_all files.0 ((name, document) ∷ []) in
      let same : made.source ≡ p = cc (sym (made.accepts files.0 files.1) ∙ accepted store) in
      let back = made.back files.0 files.1 in
      subst (λ q. IsMadeOf q m) same (record { files = store; sound = back.0; fit = back.1 })

-- ---- its record

module _ (n : ℕ) (m : Made) (made : IsMadeOf (generated_system n) m) (text : List ℕ) (is : record_of text (devices_of (generated_system n)) ≡ Ok (generated_record n)) where
  abbrev reads : Result (Record Input) RecordFault
  reads = mapped (image_record m.parts) (record_of text (image_bench m.parts))

  named : record_of text (image_bench m.parts) ≡ Ok (generated_record n)
  named = ap (record_of text) (image_bench_is (generated_system n) made.files m.parts made.sound) ∙ is

  reads_so : reads ≡ Ok (image_record m.parts (generated_record n))
  reads_so = ap (mapped (image_record m.parts)) named

  -- it is read, unless memory was refused
  pub record_only_memory : (fault : RecordFault) → Answers NoMemoryForRecord reads (Err fault) → OnlyMemory (error_of_record_fault fault)
  record_only_memory fault (inl memory) = subst (λ f. OnlyMemory (error_of_record_fault f)) (sym memory) tt
  record_only_memory fault (inr h) = absurd (cc (sym reads_so ∙ h))

  -- .. and its run prints the text of that system's
  pub runs_so : (input : Record Input) → reads ≡ Ok input → run_text (Some m.tables) m.parts input ≡ trace_of (generated_system n) no_files (generated_record n)
  runs_so input read =
      ap (run_text (Some m.tables) m.parts) (cc (sym read ∙ reads_so))
      ∙ (image_runs (generated_system n) made.files m.parts (Some m.tables) text (generated_record n) made.sound made.fit is
      ∙ same_text (generated_system n) made.files no_files (none_named n) (generated_record n))
