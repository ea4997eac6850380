-- What `verify` answers, as its files are read.
use Rattle.std.proofs.Common.{◌≡◌, ◌⊎◌, inl, inr, ℕ, true, false, List, [], ◌∷◌, ◌++◌, Option, Some, None, IfSome, Result, Ok, Err, refl, sym, ap, subst, ◌∙◌, append-nil, append_assoc}
use Rattle.std.specs.FinMap.{get, insert}
use Rattle.std.specs.Str.{bytes_eq}
use Rattle.std.specs.Prelude.{if◌then◌else◌}
use Rattle.image_pack.specs.Faults.{Tells, unpacked}
use Rattle.image_pack.specs.fault.ImageFault.{ImageFault}
use Rattle.image_soundness.specs.ThingBytes.{thing_bytes}
use Rattle.image_pack.specs.Image.{image as image_form}
use Rattle.image_pack.specs.Parts.{IsImage}
use Rattle.image_pack.specs.declared.parts.Image.{Image}
use Rattle.muen_build.specs.Accepting.{AreAskedInTurn, ErrorSays, HasContents, IsNext, LacksContents, LookedBeside, RefusesContents, insert_all}
use Rattle.muen_build.proofs.Accepting.{asked_of}
use Rattle.muen_build.specs.Refusals.{contents_refused, fitting_policy_of, lawful_policy_of}
use Rattle.muen_build.specs.declared.accepted.BuildError.{BuildError}
use Rattle.muen_build.specs.declared.accepted.BuildError.TheVariants.{Refused as RefusedPolicy, FileFault as FaultOfFiles}
use Rattle.muen_build.proofs.Documents.{shown_document, whole_found}
use Rattle.muen_build.proofs.FilesHeld.{files_held}
use Rattle.muen_build.proofs.Looks.{looked_both, show_front, told_both}
use Rattle.muen_build.proofs.Refusing.{fits_not, fits_so}
use Rattle.muen_num.specs.Answers.{Answers}
use Rattle.muen_num.specs.declared.limits.TheConstants.{IMAGE_MOST, POLICY_MOST}
use Rattle.muen_num.proofs.Lookups.{same_self}
use Rattle.muen_outside.specs.declared.files.FileError.{FileError}
use Rattle.muen_outside.specs.Looks.{HaveNoLookAt, AreSingle, EndsInFault, ShowAll}
use Rattle.muen_outside.specs.States.{History, Look, looked}
use Rattle.muen_outside.specs.Store.{Store, Reading, whole, find_bytes, reading_of}
use Rattle.policy_lawful.specs.Lawful.{kept_or}
use Rattle.policy_lawful.specs.Resolution.{Resolution, source_of}
use Rattle.policy_lawful.specs.refusal.Refusal.{Refusal}
use Rattle.policy_lawful.specs.refusal.Refusal.TheVariants.{NoMemory as NoMemoryFor}
use Rattle.policy_lawful.specs.source.Source.{Source}
use Rattle.muen_top.specs.Answers.{Answer, stops, refused, of_file, judged_answer, verified_answer, verify_answer}
use Rattle.muen_top.specs.Asked.{Asks, AsksPolicy, IsAtMost}
use Rattle.muen_top.specs.Calls.{StopsFor}
use Rattle.muen_top.specs.CommandErrors.{error_of_build, error_of_image_fault, error_of_refusal}
use Rattle.muen_top.specs.Commands.{verify}
use Rattle.muen_top.specs.FilesSeen.{OverLooks, Saw, SawAfter}
use Rattle.muen_top.specs.Loads.{NotRead, NotReadAfter}
use Rattle.muen_top.specs.PolicyCommands.{HasRead, StopsCommand}
use Rattle.muen_top.specs.Verifying.{HasAllRead, HasLawful, NotLawful, unread, unlawful, image_looks}
use Rattle.muen_top.specs.declared.outcome.CommandError.{CommandError}
use Rattle.muen_top.proofs.FilesSeen.{SeenAfter, gives_none, others_both, seen_after}
use Rattle.muen_top.proofs.FirstImage.{HasImage}
use Rattle.muen_top.proofs.FirstFile.{AsksOn, RestsOn, SaysOf, image_refused_by, not_read, says_of, stopped_by, stops_refused}

-- ---- the answer

-- what follows the image's file
verify_next : List ℕ → Store → List ℕ → Answer
verify_next policy m bytes = verified_answer m policy bytes (unpacked image_form bytes)

-- the answer is what follows it
rests : (image policy : List ℕ) → RestsOn IMAGE_MOST image (verify_next policy) (verify image policy)
unfolding verify_answer verify_next
rests image policy m = refl

-- no other file is looked at first
asks : (image policy : List ℕ) → AsksOn IMAGE_MOST image (AsksPolicy image policy) (verify image policy)
asks image policy = record { asks = λ looks a. a; none = λ bytes. inl refl }

-- .. and of the image that its bytes are
by_image : (m : Store) (image policy bytes : List ℕ) (answer : Result Image ImageFault) → reading_of (get m image) IMAGE_MOST ≡ whole bytes
    → unpacked image_form bytes ≡ answer → verify_answer m image policy ≡ verified_answer m policy bytes answer
unfolding verify_answer
by_image m image policy bytes answer is eq =
    ap (λ reading. of_file image (λ bytes. verified_answer m policy bytes (unpacked image_form bytes)) reading) is ∙ ap (verified_answer m policy bytes) eq

-- ---- the image's file, and the image

-- the image's file isn't read
pub image_not_read : (image policy : List ℕ) (held : Option Store) (old new : History) (error : CommandError) → NotRead image IMAGE_MOST held old new error
    → StopsCommand (verify image policy) held old new error
image_not_read image policy held old new error h =
    not_read IMAGE_MOST image (verify_next policy) (AsksPolicy image policy) (verify image policy) (rests image policy) (asks image policy) held old new error h

-- its bytes are no image
pub image_refused_so : (image policy : List ℕ) (held : Option Store) (old new : History) (bytes : List ℕ) → Saw held old new (image_looks image bytes)
    → (fault : ImageFault) (error : CommandError) → Tells (unpacked image_form bytes) (Err fault) → error ≡ error_of_image_fault fault → StopsCommand (verify image policy) held old new error
unfolding verify_next
image_refused_so image policy held old new bytes saw fault error h made =
    image_refused_by IMAGE_MOST image (verify_next policy) (AsksPolicy image policy) (verify image policy) (rests image policy) (asks image policy) held old new bytes saw
    (λ fault e m. ap (verified_answer m policy bytes) e) fault error h made

-- ---- looks one after another

-- none of these is at a name of one of those
EachOthers : List Look → List Look → Type 0
EachOthers [] more = Unit {0}
EachOthers (l ∷ ls) more = HaveNoLookAt more l.name × EachOthers ls more

-- looks after looks at other names are each at a name of its own
single_both : (ls more : List Look) → AreSingle ls → AreSingle more → EachOthers ls more → AreSingle (ls ++ more)
unfolding EachOthers
single_both [] more a b e = b
single_both (l ∷ ls) more a b e = (a.0, others_both ls more l.name a.1 e.0, single_both ls more a.2 b e.1)

-- a look at a name after looks at others
others_at_most : (name : List ℕ) (most : ℕ) (ls more : List Look) → IsAtMost name most ls → HaveNoLookAt more name → EachOthers ls more
unfolding EachOthers
others_at_most name most ls more (inl is) o = subst (λ xs. EachOthers xs more) (sym is) tt
others_at_most name most ls more (inr one) o = subst (λ xs. EachOthers xs more) (sym one.1) (o, tt)

-- what agrees with looks agrees with the last of them
show_back : (m : Store) (ls more : List Look) → ShowAll m (ls ++ more) → ShowAll m more
show_back m [] more s = s
show_back m (l ∷ ls) more s = show_back m ls more s.1

-- looks whose last fails end in it
fault_behind : (ls more : List Look) → EndsInFault more → EndsInFault (ls ++ more)
fault_behind ls more e = record {
  front = ls ++ e.front;
  name = e.name;
  most = e.most;
  is = ap (λ xs. ls ++ xs) e.is ∙ sym (append_assoc ls e.front _);
}

-- ---- the policy's file, where the image is one

-- the image was read, and then a document
record HasDocument (image policy : List ℕ) (held held' : Option Store) (old mid new : History) (bytes document : List ℕ) (i : Image) : Type 0 where
  first : HasImage image held held' old mid bytes i
  read : SawAfter (image_looks image bytes) policy POLICY_MOST (Ok (whole document)) held' mid new

module _ {image : List ℕ} {held held' : Option Store} {old mid : History} {bytes : List ℕ} {i : Image}
    (read : HasImage image held held' old mid bytes i) (policy : List ℕ) (new : History) where
  -- the looks at the policy's file behind that at the image's
  seen : (got : Result Reading FileError) → SawAfter (image_looks image bytes) policy POLICY_MOST got held' mid new → SeenAfter (image_looks image bytes) policy POLICY_MOST got held old new
  seen got after = seen_after (image_looks image bytes) policy POLICY_MOST got held held' old mid new read.same read.saw after

  -- what follows the policy's file
  next : Store → List ℕ → Answer
  next m document = judged_answer m bytes i (fitting_policy_of m document)

  -- the answer goes on with what is read of it
  by_reading : (m : Store) (reading : Reading) → ShowAll m (image_looks image bytes) → reading_of (get m policy) POLICY_MOST ≡ reading
      → verify_answer m image policy ≡ of_file policy (next m) reading
  unfolding next
  by_reading m reading s shows =
      by_image m image policy bytes (Ok i) s.0 read.is ∙ ap (of_file policy (λ document. judged_answer m bytes i (fitting_policy_of m document))) shows

  -- the looks so far are those that the command asks for
  asks_document : (more : List Look) → IsAtMost policy POLICY_MOST more → Asks (Some (verify image policy)) (image_looks image bytes ++ more)
  asks_document more one = record {
    got = Ok (whole bytes);
    more = more;
    is = refl;
    goes_on = inr (i, read.is, record { middle = more; last = []; is = sym (append-nil more); document_first = one; contents_last = inl refl });
  }

  -- what the answer is where the file gives no bytes
  read_so : (got : Result Reading FileError) → SawAfter (image_looks image bytes) policy POLICY_MOST got held' mid new
      → HasRead (verify image policy) held old new (SaysOf (λ m. verify_answer m image policy) policy got)
  read_so got after =
      let s = seen got after in
      let both = image_looks image bytes ++ s.more in
      record {
        looks = both;
        saw = s.saw;
        asked = asks_document s.more s.one;
        says =
            says_of (λ m. verify_answer m image policy) policy POLICY_MOST next both (λ m reading shows there. by_reading m reading (s.shows m shows).0 there)
            got (λ m shows. (s.shows m shows).1) s.fault;
      }

  -- the policy's file isn't read
  document_not_read : (error : CommandError) → NotReadAfter (image_looks image bytes) policy POLICY_MOST held' mid new error → StopsCommand (verify image policy) held old new error
  document_not_read error h =
      stopped_by (verify image policy) held old new policy error
      (gives_none policy (λ got. SawAfter (image_looks image bytes) policy POLICY_MOST got held' mid new)
      (λ got. HasRead (verify image policy) held old new (SaysOf (λ m. verify_answer m image policy) policy got)) read_so error h)

-- ---- the policy

module _ {image policy : List ℕ} {held held' : Option Store} {old mid new : History} {bytes document : List ℕ} {i : Image}
    (two : HasDocument image policy held held' old mid new bytes document i) where
  -- the looks at the two files
  so_far : SeenAfter (image_looks image bytes) policy POLICY_MOST (Ok (whole document)) held old new
  so_far = seen two.first policy new (Ok (whole document)) two.read

  abbrev both : List Look
  both = image_looks image bytes ++ so_far.more

  -- the answer is that for the document's policy
  goes_on_so : OverLooks both (λ m. verify_answer m image policy ≡ judged_answer m bytes i (fitting_policy_of m document))
  unfolding next
  goes_on_so m shows = by_reading two.first policy new m (whole document) (so_far.shows m shows).0 (so_far.shows m shows).1

  -- a policy that is refused
  refused_so : (r : Refusal) → Answers NoMemoryFor (lawful_policy_of document) (Err r) → (r ≡ NoMemoryFor) ⊎ OverLooks both (λ m. verify_answer m image policy ≡ stops (refused r))
  refused_so r (inl e) = inl e
  refused_so r (inr e) = inr (λ m shows. goes_on_so m shows ∙ ap (judged_answer m bytes i) (fits_not m document r e))

  -- .. stops the command
  policy_refused : (r : Refusal) (error : CommandError) → Answers NoMemoryFor (lawful_policy_of document) (Err r) → error ≡ error_of_refusal r
      → StopsCommand (verify image policy) held old new error
  policy_refused r error h made = record {
    looks = both;
    saw = so_far.saw;
    asked = asks_document two.first policy new so_far.more so_far.one;
    says = stops_refused (λ m. verify_answer m image policy) both r error (refused_so r h) made;
  }

  -- the store holds the image's bytes
  image_there : OverLooks both (λ m. get m image ≡ Some bytes)
  image_there m shows = whole_found IMAGE_MOST bytes (get m image) (so_far.shows m shows).0.0

  -- .. and the document
  document_there : OverLooks both (λ m. get m policy ≡ Some document)
  document_there m shows = whole_found POLICY_MOST document (get m policy) (so_far.shows m shows).1

  -- what is given stands there
  given_stands : OverLooks both (λ m. insert_all m ((policy, document) ∷ (image, bytes) ∷ []) ≡ m)
  given_stands m shows =
      ap (λ k. insert k policy document) (shown_document m image bytes (image_there m shows)) ∙ shown_document m policy document (document_there m shows)

-- ---- the contents

-- the document is that of a lawful policy, and the files that its contents name were looked at, none of the two again
record HasLooked (policy image : List ℕ) (document bytes : List ℕ) (p : Source) (held held'' : Option Store) (new last : History) (looks : List Look) : Type 0 where
  lawful : lawful_policy_of document ≡ Ok p
  still : held'' ≡ held
  beside : LookedBeside ((policy, document) ∷ (image, bytes) ∷ []) held'' new last looks
  named : AreAskedInTurn (IsNext ((policy, document) ∷ (image, bytes) ∷ []) p) [] looks

module _ {image policy : List ℕ} {held held' held'' : Option Store} {old mid new last : History} {bytes document : List ℕ} {i : Image} {p : Source} {looks : List Look}
    (two : HasDocument image policy held held' old mid new bytes document i) (others : HasLooked policy image document bytes p held held'' new last looks) where
  abbrev all : List Look
  all = both two ++ looks

  -- none of these looks is at the document
  not_document : HaveNoLookAt looks policy
  not_document = others.beside.others policy document (ap (λ b. if b then Some document else find_bytes policy ((image, bytes) ∷ [])) (same_self policy))

  -- nor at the image
  not_image : HaveNoLookAt looks image
  not_image =
      elim (bytes_eq image policy) as (λ b. bytes_eq image policy ≡ b → HaveNoLookAt looks image) [
        | true ↦ λ e. others.beside.others image document (ap (λ b. if b then Some document else find_bytes image ((image, bytes) ∷ [])) e)
        | false ↦ λ e.
            others.beside.others image bytes
            (ap (λ b. if b then Some document else find_bytes image ((image, bytes) ∷ [])) e ∙ ap (λ b. if b then Some bytes else None) (same_self image))
      ] refl

  -- all the looks, each at a name of its own
  saw_all : Saw held old last all
  unfolding EachOthers
  saw_all =
      let two_looks = so_far two in
      record {
        history = others.beside.history ∙ ap (λ h. looked h looks) two_looks.saw.history ∙ looked_both old (both two) looks;
        single = single_both (both two) looks two_looks.saw.single others.beside.single (not_image, others_at_most policy POLICY_MOST two_looks.more looks two_looks.one not_document);
        told = told_both held (both two) looks two_looks.saw.told (subst (λ h. IfSome h (λ m. ShowAll m looks)) others.still others.beside.told);
      }

  -- they are those that the command asks for
  asks_all : Asks (Some (verify image policy)) all
  asks_all =
      let two_looks = so_far two in
      let asked = asked_of ((policy, document) ∷ (image, bytes) ∷ []) document p looks others.lawful others.named in
      record {
        got = Ok (whole bytes);
        more = two_looks.more ++ looks;
        is = refl;
        goes_on = inr (
          i,
          two.first.is,
          record { middle = two_looks.more; last = looks; is = refl; document_first = two_looks.one; contents_last = inr (document, document_there two, asked) },
        );
      }

  -- what is so with what is given is so
  stands : (Such : Store → Type 0) → ((m : Store) → ShowAll m looks → Such (insert_all m ((policy, document) ∷ (image, bytes) ∷ []))) → OverLooks all Such
  stands Such h m shows = subst Such (given_stands two m (show_front m (both two) looks shows)) (h m (show_back m (both two) looks shows))

  -- the answer, by what is found of the contents
  answers_so : (o : Option Refusal) → ((m : Store) → ShowAll m looks → contents_refused (insert_all m ((policy, document) ∷ (image, bytes) ∷ [])) p ≡ o)
      → OverLooks all (λ m. verify_answer m image policy ≡ judged_answer m bytes i (kept_or p o))
  answers_so o h m shows =
      goes_on_so two m (show_front m (both two) looks shows)
      ∙ ap (judged_answer m bytes i) (fits_so m document p others.lawful ∙ ap (kept_or p) (stands (λ k. contents_refused k p ≡ o) h m shows))

  -- why there are none is why the command stops
  contents_say : (build_error : BuildError) (error : CommandError) → ErrorSays ((policy, document) ∷ (image, bytes) ∷ []) (RefusesContents p) looks build_error
      → error ≡ error_of_build build_error → StopsFor (λ m. verify_answer m image policy) all [] error
  contents_say (RefusedPolicy r) error (inl e) made = stops_refused (λ m. verify_answer m image policy) all r error (inl e) made
  contents_say (RefusedPolicy r) error (inr h) made = stops_refused (λ m. verify_answer m image policy) all r error (inr (answers_so (Some r) h)) made
  contents_say FaultOfFiles error h made = subst (StopsFor (λ m. verify_answer m image policy) all []) (sym made) (inl (fault_behind (both two) looks h, refl))

-- ---- both

-- the policy isn't read, or is refused
pub not_lawful : {image policy : List ℕ} {held held' : Option Store} {old mid new : History} {bytes : List ℕ} {i : Image} → HasImage image held held' old mid bytes i
    → (error : CommandError) → NotLawful (image_looks image bytes) policy held' mid new error → StopsCommand (verify image policy) held old new error
not_lawful {policy = policy} {new = new} read error (unread h) = document_not_read read policy new error h
not_lawful read error (unlawful document r after h made) = policy_refused (record { first = read; read = after }) r error h made

module _ (last : History) {image policy : List ℕ} {held held' held'' : Option Store} {old mid new : History} {bytes document : List ℕ} {i : Image} {r : Resolution}
    (read : HasImage image held held' old mid bytes i) (has : HasLawful (image_looks image bytes) policy held' mid new document r) (still : held'' ≡ held) where
  -- the two files
  two_files : HasDocument image policy held held' old mid new bytes document i
  two_files = record { first = read; read = has.read }

  -- .. and those that the contents name
  all_files : (looks : List Look) → LookedBeside ((policy, document) ∷ (image, bytes) ∷ []) held'' new last looks → AreAskedInTurn (IsNext ((policy, document) ∷ (image, bytes) ∷ []) (source_of r)) [] looks
      → HasLooked policy image document bytes (source_of r) held held'' new last looks
  all_files looks beside named = record { lawful = has.lawful; still = still; beside = beside; named = named }

  -- the contents aren't there
  pub contents_lack : (build_error : BuildError) (error : CommandError) → LacksContents ((policy, document) ∷ (image, bytes) ∷ []) (source_of r) held'' new last build_error
      → error ≡ error_of_build build_error → StopsCommand (verify image policy) held old last error
  contents_lack build_error error h made =
      let others = all_files h.looks h.looked h.asked in
      record { looks = all two_files others; saw = saw_all two_files others; asked = asks_all two_files others; says = contents_say two_files others build_error error h.says made }

  -- they are
  pub contents_have : (things : List (List ℕ)) → HasContents ((policy, document) ∷ (image, bytes) ∷ []) r held'' new last things → IsImage bytes i
      → HasAllRead image policy held old last i r things
  contents_have things h image_is =
      let others = all_files h.looks h.looked h.asked in
      record {
        looks = all two_files others;
        saw = saw_all two_files others;
        asked = asks_all two_files others;
        says = record {
          bytes = bytes;
          image_is = image_is;
          over = λ m shows. record {
            answer = answers_so two_files others None h.fit m shows;
            held = files_held m (source_of r) (stands two_files others (λ k. contents_refused k (source_of r) ≡ None) h.fit m shows);
            things_are = stands two_files others (λ k. things ≡ thing_bytes k r) h.are m shows;
          };
        };
      }
